use Rattle.lz_allot.proofs.allot.Allot.counts.Goals as goal
use Rattle.std.proofs.Common.{◌∙◌, sym}
use Rattle.lz_allot.proofs.{ToldUses.{length_told}, CallEffects.{total}}

pub returns-clause-sum : goal.returns-clause-sum
returns-clause-sum c = rw (← c.self.view_is) (total _ _ _ _ _ _ c.self.invariant ∙ sym (length_told c.self.inside.kinds.items c.self.inside.limbo.items c.self.inside.rows.items))
