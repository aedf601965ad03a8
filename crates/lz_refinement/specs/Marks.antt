-- The marks that notes show: what can be seen of the calls from outside. Notes and marks stand newest first.
use Rattle.std.specs.Prelude.{◌≡◌, ℕ, suc, ◌≤◌, ◌==◌, if◌then◌else◌, List, [], ◌∷◌, ◌++◌, Option, Some, None}
use Rattle.lz_slot.specs.{declared.{command.Command.{Command}, history.HistoryEvent.TheVariants.{Call, Cut}}, Histories.{History}}
use Rattle.lz_machine.specs.{declared.{caller.Progress.{Progress}, event.Reply.{Reply}}, Runs.{mark_of_turn, reply_at}, Yards.{Shape}}
use Rattle.lz_board.specs.{declared.view.{What.{What, TheVariants.{Called, Played, Found}}, Note.{Note}}, Notes.{place, steps_of}}

-- how many calls were made, after one more step
abbrev pub calls_with : What → ℕ → ℕ
calls_with (Called c format) calls = suc calls
calls_with _ calls = calls

-- how many calls were made
abbrev pub calls_in : List Note → ℕ
calls_in [] = 0
calls_in (n ∷ ns) = calls_with n.what (calls_in ns)

-- the number of pass p's last call after a step of pass `by`: calls are numbered from 1, in the order in which they were made
abbrev pub number_with : ℕ → ℕ → What → ℕ → ℕ → ℕ
number_with p by (Called c format) calls number = if by == p then suc calls else number
number_with p by _ calls number = number

-- the number of pass p's last call, 0 where it made none
abbrev pub last_call_number : ℕ → List Note → ℕ
last_call_number p [] = 0
last_call_number p (n ∷ ns) = number_with p n.by n.what (calls_in ns) (last_call_number p ns)

-- the reply that a call at this place is about to give
abbrev pub reply_in : Option (Command × Progress) → Option Reply
reply_in None = None
reply_in (Some call) = reply_at call.1

-- what a step of pass p shows, after these notes: a call that is made, or the reply with which its last one ends
abbrev pub marks_with : Shape → ℕ → What → List Note → History
marks_with shape p (Called c format) ns = Call (suc (calls_in ns)) p c ∷ []
marks_with shape p (Played e o) ns = mark_of_turn (last_call_number p ns) (reply_in (place shape (steps_of p ns)))
marks_with shape p (Found q v) ns = []

-- what the notes show
abbrev pub marks_in : Shape → List Note → History
marks_in shape [] = []
marks_in shape (n ∷ ns) = marks_with shape n.by n.what ns ++ marks_in shape ns

-- the later notes show these marks, and before them all that the earlier ones did
abbrev pub Shows : Shape → List Note → List Note → History → Type 0
Shows shape was is new = marks_in shape is ≡ new ++ marks_in shape was

-- each call of the history was made by one of so many passes
abbrev pub AreOfPasses : ℕ → History → Type 0
AreOfPasses passes [] = Unit {0}
AreOfPasses passes (Call i q c ∷ M) = (1 ≤ q) × (q ≤ passes) × AreOfPasses passes M
AreOfPasses passes (m ∷ M) = AreOfPasses passes M

-- no call of the history was cut off
abbrev pub NoneIsCut : History → Type 0
NoneIsCut [] = Unit {0}
NoneIsCut (Cut i why ∷ M) = ⊥
NoneIsCut (m ∷ M) = NoneIsCut M
