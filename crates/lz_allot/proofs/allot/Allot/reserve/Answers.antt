use Rattle.lz_allot.proofs.allot.Allot.reserve.Goals as goal
use Rattle.std.proofs.Common.{◌∙◌, sym, arith}
use Rattle.lz_allot.proofs.CallEffects.{lowest_is, some_free, total, told_reserved, allot_reserved}

pub returns-in_default-clause-slot : goal.returns-in_default-clause-slot
returns-in_default-clause-slot c = rw (← c.self.view_is) (sym c.in_default.is ∙ c.lowest.ensures ∙ lowest_is _ _ _ _ _ _ c.self.invariant)

pub overflow_sub-self : goal.overflow_sub-self
overflow_sub-self c = some_free _ _ _ _ _ _ c.self.invariant c.in-Some.slot (sym c.lowest.ensures ∙ c.in-Some.is)

pub overflow_add-self : goal.overflow_add-self
overflow_add-self c = omega (arith, total _ _ _ _ _ _ c.self.invariant, c.self.invariant.size)

pub invariant_of-self : goal.invariant_of-self
invariant_of-self c = rw (c.index.ensures, c.set.ensures) (allot_reserved _ _ _ _ _ _ c.self.invariant c.in-Some.slot (sym c.lowest.ensures ∙ c.in-Some.is))

pub returns-clause-slot : goal.returns-clause-slot
returns-clause-slot c = rw (← c.self.view_is) (sym c.in-Some.is ∙ c.lowest.ensures ∙ lowest_is _ _ _ _ _ _ c.self.invariant)

pub returns-clause-uses : goal.returns-clause-uses
returns-clause-uses c = rw (c.index.ensures, ← c.self.view_is) (told_reserved _ _ _ _ _ _ c.self.invariant c.in-Some.slot (sym c.lowest.ensures ∙ c.in-Some.is))
