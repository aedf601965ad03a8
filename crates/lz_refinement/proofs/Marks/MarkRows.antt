-- Worked rows: what notes show, and a pass's own calls, computed.
use Rattle.std.proofs.Common.{◌≡◌, Bool, true, false, List, [], ◌∷◌, Some, None, is_some, refl, ap, arith}
use mathlib.Core.Bool.{false≢true}
use Rattle.lz_slot.specs.declared.{command.Command.TheVariants.{Add, Has}, format.Format.TheVariants.{Two}}
use Rattle.lz_slot.specs.declared.history.{HistoryEvent.TheVariants.{Call, Answer as answer, Refused}, Refusal.TheVariants.{Full}}
use Rattle.lz_list.specs.declared.word.Word.TheVariants.{Head, Link, Key, Halt as HaltWord}
use Rattle.lz_machine.specs.declared.event.{Event.TheVariants.{Pin, WriteOpen, Answer, Halt}, Outcome.TheVariants.{Done, Fault, Dead}, Reply.TheVariants.{Yes}}
use Rattle.lz_refinement.{proofs.Vocabulary.{Shape, Note, note_by, load_note, steps_of}, specs.Lives.{faults_in}}
use Rattle.lz_refinement.specs.{Marks.{calls_in, last_call_number, marks_in, Shows, AreOfPasses}, OwnCalls.{AsAnswered, AsRefused, SeenCall, calls_of, told}}
use Rattle.lz_board.specs.declared.view.What.TheVariants.{Called, Played, Found}

abbrev shape : Shape
shape = record { slots = 2; buckets = 1; passes = 2 }

-- pass 2 makes a `has`, and then pass 1 an `add`
abbrev both : List Note
both =
    note_by 1 (Called (Add 12) Two) None ∷ note_by 0 (Found 1 0) None
    ∷ note_by 2 (Played Pin Done) None ∷ note_by 2 (Called (Has 9) Two) None ∷ note_by 0 (Found 2 0) None ∷ []

-- the `has` walks over the one member, and answers
abbrev answered : List Note
answered =
    note_by 2 (Played Answer Done) None
    ∷ load_note 2 (record { word = Link 0; value = 8589934592; at = 4 }) ∷ load_note 2 (record { word = Key 0; value = 9; at = 4 })
    ∷ load_note 2 (record { word = Head 0; value = 1; at = 4 }) ∷ load_note 2 (record { word = HaltWord; value = 0; at = 4 }) ∷ both

calls_are : marks_in shape both ≡ Call 2 1 (Add 12) ∷ Call 1 2 (Has 9) ∷ []
calls_are = refl

answer_is : marks_in shape answered ≡ answer 1 true ∷ Call 2 1 (Add 12) ∷ Call 1 2 (Has 9) ∷ []
answer_is = refl

-- the answer is that of its own pass's call, and not of the newest one
of_no_other : marks_in shape answered ≡ answer 2 true ∷ Call 2 1 (Add 12) ∷ Call 1 2 (Has 9) ∷ [] → ⊥
of_no_other same = absurd cc

-- what came since
answer_since : Shows shape both answered (answer 1 true ∷ [])
answer_since = refl

-- the second of two passes isn't the only one
of_two_passes : AreOfPasses 2 (marks_in shape both)
of_two_passes = (omega arith, omega arith, (omega arith, omega arith, tt))

not_of_one : AreOfPasses 1 (marks_in shape both) → ⊥
not_of_one are = let high = are.2.1 in absurd (omega (arith, high))

calls_count : calls_in answered ≡ 2
calls_count = refl

number_is : last_call_number 2 answered ≡ 1
number_is = refl

-- a step whose device call failed counts, and no other
fails_once : faults_in (note_by 2 (Played WriteOpen Fault) None ∷ answered) ≡ 1
fails_once = refl

fails_never : faults_in (note_by 2 (Played Halt Dead) None ∷ answered) ≡ 0
fails_never = refl

-- an Answer without a call shows nothing
nothing_shown : marks_in shape (note_by 1 (Played Answer Done) None ∷ []) ≡ []
nothing_shown = refl

-- what each pass has made by its own steps
told_has : told shape (steps_of 2 answered) ≡ (Has 9, Some Yes) ∷ []
told_has = refl

told_add : told shape (steps_of 1 answered) ≡ (Add 12, None) ∷ []
told_add = refl

-- and its calls in that history
seen_has : calls_of 2 (marks_in shape answered) ≡ record { number = 1; command = Has 9; ending = Some (AsAnswered true) } ∷ []
seen_has = refl

seen_add : calls_of 1 (marks_in shape answered) ≡ record { number = 2; command = Add 12; ending = None } ∷ []
seen_add = refl

-- a pass gets no answer of another pass's call
no_answer_of_others : calls_of 1 (marks_in shape answered) ≡ record { number = 2; command = Add 12; ending = Some (AsAnswered true) } ∷ [] → ⊥
no_answer_of_others same = absurd (false≢true (ap first_ended same))
  where
    first_ended : List SeenCall → Bool
    first_ended [] = false
    first_ended (call ∷ calls) = is_some call.ending

-- of two calls each has its own ending
two_calls : calls_of 1 (Refused 3 Full ∷ Call 3 1 (Add 9) ∷ answer 2 false ∷ answer 1 true ∷ Call 2 2 (Has 8) ∷ Call 1 1 (Add 12) ∷ [])
    ≡ record { number = 3; command = Add 9; ending = Some (AsRefused Full) } ∷ record { number = 1; command = Add 12; ending = Some (AsAnswered true) } ∷ []
two_calls = refl
