use Rattle.lz_allot.proofs.allot.Allot.new.Goals as goal
use Rattle.std.{proofs.{Common.{◌≡◌, ap, map, replicate, ◌∙◌, arith, rules}, lemmas.List.Sums.{count_by-le-length}}, specs.List.{count_by}}
use Rattle.std.specs.VecDeque.{deque_capacity}
use Rattle.lz_allot.{specs.{Rows.{first_row}, Allots.{is_free_kind}}, proofs.CallEffects.{first_length, told_first, allot_first}}

pub free_of-requires : goal.free_of-requires
free_of-requires c = grind (arith, first_length)

pub overflow_sub-counts : goal.overflow_sub-counts
overflow_sub-counts c = grind (arith, first_length, count_by-le-length)

pub invariant_of-result : goal.invariant_of-result
invariant_of-result c =
    let taken = c.args.taken.now in
    let free = c.in_ok-free.ensures ∙ ap (map is_free_kind) c.deref.ensures.value in
    let free_count = c.count_free-free_count.ensures ∙ ap (count_by is_free_kind) c.deref-2.ensures.value in
    let rows : c.in_ok-rows.rows.items ≡ replicate c.args.passes first_row = search rules in
    rw (c.in_ok-limbo.ensures.items, rows, free, free_count, c.in_ok-kinds.ensures)
    (allot_first c.args.slots c.args.passes taken (λ i low. c.requires.taken i 0 low) c.requires.slots.0 c.requires.slots.1 c.requires.passes.0 c.requires.passes.1 (deque_capacity c.in_ok-limbo.limbo) c.in_ok-limbo.ensures.capacity)

pub returns-clause-uses : goal.returns-clause-uses
returns-clause-uses c = grind (arith, told_first)
