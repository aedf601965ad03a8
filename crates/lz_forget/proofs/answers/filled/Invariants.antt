use Rattle.std.proofs.Common.{length, ◌≡◌, ◌++◌}
use Rattle.lz_forget.specs.Answers.{filled}
use Rattle.lz_forget.proofs.answers.filled.Given as goal

abbrev pub invariant-found : goal.invariant-found
invariant-found l = l.all.items ++ filled l.left l.rest ≡ filled l.found l.answers

abbrev pub decreases-found : goal.decreases-found
decreases-found l = length l.left
