use Rattle.lz_allot.proofs.allot.Allot.retire.Goals as goal
use Rattle.std.proofs.Common.{arith}
use Rattle.lz_allot.proofs.CallEffects.{taken_low, has_room, total, told_retired, allot_retired}

pub push_back_reserved-requires : goal.push_back_reserved-requires
push_back_reserved-requires c =
    let taken = rw (← c.self.view_is) at c.requires in
    let room = has_room _ _ _ _ _ _ c.self.invariant c.args.slot taken in
    omega (arith, room, c.self.inside.limbo.ok)

pub index_mut-requires : goal.index_mut-requires
index_mut-requires c =
    let taken = rw (← c.self.view_is) at c.requires in
    let low = taken_low _ _ _ _ _ _ c.self.invariant c.args.slot taken in
    omega (arith, low, c.index.ensures, c.self.inside.kinds.ok)

pub overflow_add-self : goal.overflow_add-self
overflow_add-self c = omega (arith, total _ _ _ _ _ _ c.self.invariant, c.self.invariant.size)

pub invariant_of-self : goal.invariant_of-self
invariant_of-self c =
    let taken = rw (← c.self.view_is) at c.requires in
    rw (c.index.ensures, c.push_back_reserved.ensures.items, c.push_back_reserved.ensures.capacity) (allot_retired _ _ _ _ _ _ c.self.invariant c.args.slot taken)

pub returns-clause-uses : goal.returns-clause-uses
returns-clause-uses c =
    let taken = rw (← c.self.view_is) at c.requires in
    rw (c.index.ensures, c.push_back_reserved.ensures.items, ← c.self.view_is) (told_retired _ _ _ _ _ _ c.self.invariant c.args.slot taken)
