use Rattle.std.proofs.Common.{◌≡◌, ◌++◌}
use Rattle.lz_forget.specs.Answers.{groups}
use Rattle.lz_forget.proofs.answers.groups.Given as goal

abbrev pub invariant-keys : goal.invariant-keys
invariant-keys l = l.found.items ++ groups l.left l.each l.rest ≡ groups l.keys l.each l.answers

abbrev pub decreases-keys : goal.decreases-keys
decreases-keys l = l.left
