-- Worked rows of histories that must not be: one forgets no call of a pass, nor a reply that it got, and changes neither.
use Rattle.std.proofs.Common.{◌≡◌, true, false, List, [], ◌∷◌, drop, Option, Some, None, refl, ap}
use Rattle.lz_slot.specs.declared.{command.Command.TheVariants.{Add, Has}, format.Format.TheVariants.{Two}, history.HistoryEvent.TheVariants.{Call, Answer as answer}}
use Rattle.lz_slot.specs.declared.history.{Refusal.TheVariants.{Worn as refused_worn}, Cut.TheVariants.{Halted as cut_halted}}
use Rattle.lz_list.specs.declared.word.Word.TheVariants.{Head, Halt}
use Rattle.lz_refinement.{proofs.{Vocabulary.{Command, Note, note_by, load_note, shape_of_sizes}, SessionRows.{board, after}}, specs.Marks.{marks_in}}
use Rattle.lz_refinement.specs.OwnCalls.{Ending, AsAnswered, AsRefused, AsCut, told, shown, TellsOwn}
use Rattle.lz_machine.specs.declared.event.{Event.TheVariants.{Pin, Answer}, Outcome.TheVariants.{Done}, Reply.TheVariants.{Yes, No, Worn, Halted}}
use Rattle.lz_board.specs.declared.view.{What.TheVariants.{Called, Played}, Part.{Part}}

-- pass 1 was told yes
its_own : told (shape_of_sizes board.sizes) after.steps ≡ (Has 9, Some Yes) ∷ []
its_own = refl

-- the same call, with the loads of an empty list: these notes show No
abbrev answered_no : List Note
answered_no =
    note_by 1 (Played Answer Done) None
    ∷ load_note 1 (record { word = Head 0; value = 0; at = 4 }) ∷ load_note 1 (record { word = Halt; value = 0; at = 4 })
    ∷ note_by 1 (Played Pin Done) None ∷ note_by 1 (Called (Has 9) Two) None ∷ []

shows_no : marks_in (shape_of_sizes board.sizes) answered_no ≡ answer 1 false ∷ Call 1 1 (Has 9) ∷ []
shows_no = refl

-- and these show no answer yet
abbrev unanswered : List Note
unanswered = drop 1 after.steps

shows_none : marks_in (shape_of_sizes board.sizes) unanswered ≡ Call 1 1 (Has 9) ∷ []
shows_none = refl

-- the ending of the newest call that is shown, and its command
abbrev pub last_ending : List (Command × Option Ending) → Option Ending
last_ending [] = None
last_ending (call ∷ calls) = call.1

abbrev last_command : List (Command × Option Ending) → Option Command
last_command [] = None
last_command (call ∷ calls) = Some call.0

-- a history gives a call no other reply than the one that its pass got, and forgets none
not_no : TellsOwn board answered_no after → ⊥
not_no tells = let is : Some (AsAnswered false) ≡ Some (AsAnswered true) = ap last_ending tells in absurd cc

not_open : TellsOwn board unanswered after → ⊥
not_open tells = let is : None ≡ Some (AsAnswered true) = ap last_ending tells in absurd cc

-- it forgets no call, and shows none that the pass didn't make
not_forgotten : TellsOwn board [] after → ⊥
not_forgotten tells = absurd cc

not_one_more : TellsOwn board (note_by 1 (Called (Add 12) Two) None ∷ after.steps) after → ⊥
not_one_more tells = absurd cc

-- nor another command, nor the call of another pass
abbrev calling : Part
calling = record after { steps = note_by 1 (Called (Has 9) Two) None ∷ [] }

not_another_command : TellsOwn board (note_by 1 (Called (Add 9) Two) None ∷ []) calling → ⊥
not_another_command tells = let is : Some (Add 9) ≡ Some (Has 9) = ap last_command tells in absurd cc

not_of_another_pass : TellsOwn board (note_by 2 (Called (Has 9) Two) None ∷ []) calling → ⊥
not_of_another_pass tells = absurd cc

-- what is shown of a reply tells it from no reply, a yes from a No, and what wasn't done from both
yes_is_shown : (c : Command) → shown (c, Some Yes) ≡ shown (c, None) → ⊥
yes_is_shown c same = let is : Some (AsAnswered true) ≡ None = ap (λ (x : Command × Option Ending). x.1) same in absurd cc

yes_is_no_no : (c : Command) → shown (c, Some Yes) ≡ shown (c, Some No) → ⊥
yes_is_no_no c same = let is : Some (AsAnswered true) ≡ Some (AsAnswered false) = ap (λ (x : Command × Option Ending). x.1) same in absurd cc

worn_is_no_no : (c : Command) → shown (c, Some Worn) ≡ shown (c, Some No) → ⊥
worn_is_no_no c same = let is : Some (AsRefused refused_worn) ≡ Some (AsAnswered false) = ap (λ (x : Command × Option Ending). x.1) same in absurd cc

cut_is_shown : (c : Command) → shown (c, Some Halted) ≡ shown (c, None) → ⊥
cut_is_shown c same = let is : Some (AsCut cut_halted) ≡ None = ap (λ (x : Command × Option Ending). x.1) same in absurd cc
