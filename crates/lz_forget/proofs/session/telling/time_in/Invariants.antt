use Rattle.std.proofs.Common.{length, ◌≡◌}
use Rattle.lz_forget.specs.Sessions.{time_in}
use Rattle.lz_forget.proofs.session.telling.time_in.Given as goal

abbrev pub invariant-answers : goal.invariant-answers
invariant-answers l = time_in l.times l.rest ≡ time_in l.left l.answers

abbrev pub decreases-answers : goal.decreases-answers
decreases-answers l = length l.times
