use Rattle.std.{proofs.Common.{◌≡◌, ◌++◌, length}, specs.List.{list_any}}
use Rattle.lz_forget.specs.Answers.{is_none, replies_in}
use Rattle.lz_forget.proofs.answers.replies_in.Given as goal

abbrev pub invariant-answers : goal.invariant-answers
invariant-answers l =
    record {
      replies : l.replies.items ++ replies_in l.rest ≡ replies_in l.answers;
      none : list_any is_none l.rest ≡ list_any is_none l.answers;
    }

abbrev pub decreases-answers : goal.decreases-answers
decreases-answers l = length l.rest
