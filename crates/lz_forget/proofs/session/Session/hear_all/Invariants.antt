use Rattle.std.proofs.Common.{length}
use Rattle.lz_forget.specs.Sessions.{Dialogue, HearsAll}
use Rattle.lz_forget.proofs.session.Session.hear_all.Given as goal

abbrev pub invariant-replies : goal.invariant-replies
invariant-replies l = (new : Dialogue) → HearsAll l.self new → HearsAll l.initial.self new

abbrev pub decreases-replies : goal.decreases-replies
decreases-replies l = length l.self.heard
