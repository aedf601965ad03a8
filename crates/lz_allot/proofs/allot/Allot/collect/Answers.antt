use Rattle.lz_allot.specs.declared.kind.Kind.TheVariants as kind
use Rattle.lz_allot.proofs.allot.Allot.collect.Goals as goal
use Rattle.std.proofs.{Common.{◌≡◌, ◌∙◌, sym, ap, length, take, drop, ◌++◌, arith, deque_len}, lemmas.{List.{get_or_default, length-map}, Bool.{eqb-true}}}
use Rattle.lz_allot.{specs.{Rows.{least_left, rows_freed, first_row}, Allots.{set_each}}, proofs.FilledPlaces.{length-set_each, written_whole}}
use Rattle.lz_allot.proofs.CallEffects.{least, least_few, total, in_limbo, told_freed, limbo_freed, allot_freed, none_left, rows_stay, uses_stay}

pub returns-then-is_empty : goal.returns-then-is_empty
returns-then-is_empty c =
    let empty = eqb-true (deque_len c.self.inside.limbo) 0 (sym c.is_empty.ensures ∙ c.if-is_empty.true) in
    let none = none_left _ _ _ _ _ _ c.self.invariant (omega (arith, empty)) in
    rw (← c.self.view_is) (record {
      uses = uses_stay _ _ _ _ _ _ c.self.invariant none;
      count = omega arith;
      least = none;
      rows = rows_stay _ _ _ _ _ _ c.self.invariant none;
    })

pub returns-then-freed-eq0 : goal.returns-then-freed-eq0
returns-then-freed-eq0 c =
    let none = sym c.if-freed-eq0.true ∙ c.least_left-freed.ensures ∙ ap least_left c.deref.ensures.value in
    rw (← c.self.view_is) (record {
      uses = uses_stay _ _ _ _ _ _ c.self.invariant none;
      count = omega arith;
      least = none;
      rows = rows_stay _ _ _ _ _ _ c.self.invariant none;
    })

pub free_first-requires-clause-count : goal.free_first-requires-clause-count
free_first-requires-clause-count c =
    least_few _ _ _ _ _ _ c.self.invariant c.least_left-freed.result (c.least_left-freed.ensures ∙ ap least_left c.deref.ensures.value)

pub free_first-requires-clause-inside : goal.free_first-requires-clause-inside
free_first-requires-clause-inside c = λ k d low.
    rw (c.deref_mut.ensures.value, get_or_default c.self.inside.limbo.items k d 0 low) (c.self.invariant.is_queue.inside k low)

pub drop_first-requires : goal.drop_first-requires
drop_first-requires c = λ k d low.
    let has = rw c.deref_mut-2.ensures.value at low in
    let row = c.self.invariant.each k has in
    let most = least _ _ _ _ _ _ c.self.invariant c.least_left-freed.result (c.least_left-freed.ensures ∙ ap least_left c.deref.ensures.value) in
    rw (c.deref_mut-2.ensures.value, get_or_default c.self.inside.rows.items k d first_row has) (most.each k has, row.left)

pub overflow_add-self : goal.overflow_add-self
overflow_add-self c =
    let few = least_few _ _ _ _ _ _ c.self.invariant c.least_left-freed.result (c.least_left-freed.ensures ∙ ap least_left c.deref.ensures.value) in
    omega (arith, total _ _ _ _ _ _ c.self.invariant, in_limbo _ _ _ _ _ _ c.self.invariant, few, c.self.invariant.size)

pub overflow_sub-self : goal.overflow_sub-self
overflow_sub-self c =
    let few = least_few _ _ _ _ _ _ c.self.invariant c.least_left-freed.result (c.least_left-freed.ensures ∙ ap least_left c.deref.ensures.value) in
    omega (arith, in_limbo _ _ _ _ _ _ c.self.invariant, few)

-- what the slices hold that were handed out
kinds_are : (c : goal.After-self-4-1) → take c.self.inside.kinds.len (c.free_first.new.kinds ++ drop (length c.free_first.new.kinds) c.self.inside.kinds.items)
    ≡ set_each c.self.inside.kinds.items (take c.least_left-freed.result c.self.inside.limbo.items) kind.Free
kinds_are c = grind (arith, written_whole, length-set_each)

rows_are : (c : goal.After-self-4-1) → take c.self.inside.rows.len (c.drop_first.new.rows ++ drop (length c.drop_first.new.rows) c.self.inside.rows.items)
    ≡ rows_freed c.least_left-freed.result c.self.inside.rows.items
rows_are c = grind (arith, written_whole, length-map)

pub invariant_of-self : goal.invariant_of-self
invariant_of-self c =
    let is = c.least_left-freed.ensures ∙ ap least_left c.deref.ensures.value in
    rw (kinds_are c, rows_are c, c.free_first.ensures.limbo, c.free_first.ensures.room)
    (allot_freed _ _ _ _ _ _ c.self.invariant c.least_left-freed.result is c.free_first.new.free c.free_first.ensures.free)

pub returns-clause-uses : goal.returns-clause-uses
returns-clause-uses c =
    let is = c.least_left-freed.ensures ∙ ap least_left c.deref.ensures.value in
    rw (kinds_are c, rows_are c, c.free_first.ensures.limbo, ← c.self.view_is) (told_freed _ _ _ _ _ _ c.self.invariant c.least_left-freed.result is)

pub returns-clause-count : goal.returns-clause-count
returns-clause-count c =
    let is = c.least_left-freed.ensures ∙ ap least_left c.deref.ensures.value in
    rw (kinds_are c, rows_are c, c.free_first.ensures.limbo, ← c.self.view_is, told_freed _ _ _ _ _ _ c.self.invariant c.least_left-freed.result is)
    (limbo_freed _ _ _ _ _ _ c.self.invariant c.least_left-freed.result is)
