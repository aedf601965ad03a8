use Rattle.std.proofs.Common.{length, ◌≡◌}
use Rattle.lz_forget.specs.Answers.{found_in}
use Rattle.lz_forget.proofs.answers.found_in.Given as goal

abbrev pub invariant-answers : goal.invariant-answers
invariant-answers l = found_in l.rest ≡ found_in l.answers

abbrev pub decreases-answers : goal.decreases-answers
decreases-answers l = length l.rest
