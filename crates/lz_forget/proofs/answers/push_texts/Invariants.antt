use Rattle.std.proofs.Common.{length, ◌≡◌, ◌++◌}
use Rattle.lz_forget.specs.Answers.{texts_for}
use Rattle.lz_forget.proofs.answers.push_texts.Given as goal

abbrev pub invariant-commands : goal.invariant-commands
invariant-commands l = l.text.items ++ texts_for l.left l.rest ≡ l.initial.text.items ++ texts_for l.told l.answers

abbrev pub decreases-commands : goal.decreases-commands
decreases-commands l = length l.left
