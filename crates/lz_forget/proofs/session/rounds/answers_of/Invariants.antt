use Rattle.std.proofs.Common.{◌≡◌, ◌++◌}
use Rattle.lz_forget.specs.Sessions.{answers_of}
use Rattle.lz_forget.proofs.session.rounds.answers_of.Given as goal

abbrev pub invariant-keys : goal.invariant-keys
invariant-keys l = l.answers.items ++ answers_of l.answer l.left ≡ answers_of l.answer l.count

abbrev pub decreases-keys : goal.decreases-keys
decreases-keys l = l.left
