use Rattle.std.proofs.Common.{length, ◌≡◌, ◌++◌}
use Rattle.lz_forget.specs.Answers.{joined}
use Rattle.lz_forget.proofs.answers.joined.Given as goal

abbrev pub invariant-found : goal.invariant-found
invariant-found l = l.all.items ++ joined l.left l.rest ≡ joined l.found l.answers

abbrev pub decreases-found : goal.decreases-found
decreases-found l = length l.left
