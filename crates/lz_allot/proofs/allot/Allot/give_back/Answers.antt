use Rattle.lz_allot.proofs.allot.Allot.give_back.Goals as goal
use Rattle.std.proofs.{Common.{ap, length, arith}, lemmas.List.{length-map}}
use Rattle.lz_allot.{specs.Allots.{is_free_kind}, proofs.CallEffects.{taken_low, total, told_given_back, allot_given_back}}

pub set-requires : goal.set-requires
set-requires c =
    let taken = rw (← c.self.view_is) at c.requires in
    omega (arith, taken_low _ _ _ _ _ _ c.self.invariant c.args.slot taken, ap length c.self.invariant.shows, length-map c.self.inside.kinds.items is_free_kind)

pub index_mut-requires : goal.index_mut-requires
index_mut-requires c =
    let taken = rw (← c.self.view_is) at c.requires in
    let low = taken_low _ _ _ _ _ _ c.self.invariant c.args.slot taken in
    omega (arith, low, c.index.ensures, c.self.inside.kinds.ok)

pub overflow_add-self : goal.overflow_add-self
overflow_add-self c = omega (arith, total _ _ _ _ _ _ c.self.invariant, c.self.invariant.size)

pub invariant_of-self : goal.invariant_of-self
invariant_of-self c =
    let taken = rw (← c.self.view_is) at c.requires in
    rw (c.index.ensures, c.set.ensures) (allot_given_back _ _ _ _ _ _ c.self.invariant c.args.slot taken)

pub returns-clause-uses : goal.returns-clause-uses
returns-clause-uses c =
    let taken = rw (← c.self.view_is) at c.requires in
    rw (c.index.ensures, ← c.self.view_is) (told_given_back _ _ _ _ _ _ c.self.invariant c.args.slot taken)
