-- A pass's own calls: as it made them and was answered, and as a history shows them. The newest stands first.
use Rattle.std.specs.Prelude.{◌≡◌, ℕ, Bool, true, false, ◌==◌, if◌then◌else◌, List, [], ◌∷◌, map, Option, Some, None}
use Rattle.lz_slot.specs.declared.{command.Command.{Command}, history.Cut.{Cut as WhyCut, TheVariants.{Halted as cut_halted, Device as cut_device}}}
use Rattle.lz_slot.specs.declared.history.{HistoryEvent.TheVariants.{Call, Answer, Refused, Cut}, Refusal.{Refusal}}
use Rattle.lz_slot.specs.{declared.history.Refusal.TheVariants.{Full as refused_full, Worn as refused_worn, OldFile as refused_old_file}, Histories.{History}}
use Rattle.lz_machine.specs.{declared.event.Reply.{Reply, TheVariants.{Yes, No, Full, Worn, OldFile, Halted, Device}}, Yards.{Shape}}
use Rattle.lz_board.specs.{declared.view.{What.{What, TheVariants.{Called, Played}}, Note.{Note}, Part.{Part}}, Notes.{place, shape_of_sizes}, Seats.{BoardId}}
use Rattle.lz_refinement.specs.Marks.{marks_in, reply_in}

-- how a call ended, as a history shows it
pub data Ending : Type 0 where
  AsAnswered : Bool → Ending
  AsRefused : Refusal → Ending
  AsCut : WhyCut → Ending

-- a call in a history: its number, its command, and how it ended, if it has
pub record SeenCall : Type 0 where
  pub number : ℕ
  pub command : Command
  pub ending : Option Ending

-- the calls once the one of this number has ended
abbrev pub ended : ℕ → Ending → List SeenCall → List SeenCall
ended i e [] = []
ended i e (call ∷ calls) =
    if call.number == i then record { number = call.number; command = call.command; ending = Some e } ∷ calls else call ∷ ended i e calls

-- the calls of pass p in a history
abbrev pub calls_of : ℕ → History → List SeenCall
calls_of p [] = []
calls_of p (Call i q c ∷ M) = if q == p then record { number = i; command = c; ending = None } ∷ calls_of p M else calls_of p M
calls_of p (Answer i answer ∷ M) = ended i (AsAnswered answer) (calls_of p M)
calls_of p (Refused i why ∷ M) = ended i (AsRefused why) (calls_of p M)
calls_of p (Cut i why ∷ M) = ended i (AsCut why) (calls_of p M)
calls_of p (m ∷ M) = calls_of p M

-- the calls once the newest has its reply
abbrev pub replied : Reply → List (Command × Option Reply) → List (Command × Option Reply)
replied reply [] = []
replied reply (call ∷ calls) = (call.0, Some reply) ∷ calls

-- a pass's own calls after one more of its steps; `next` is the reply that it was about to get
abbrev pub told_with : What → Option Reply → List (Command × Option Reply) → List (Command × Option Reply)
told_with (Called c format) next calls = (c, None) ∷ calls
told_with (Played e o) (Some reply) calls = replied reply calls
told_with w next calls = calls

-- the calls that a pass has made by its own steps, each with the reply that it got, if it has one
abbrev pub told : Shape → List Note → List (Command × Option Reply)
told shape [] = []
told shape (n ∷ ns) = told_with n.what (reply_in (place shape ns)) (told shape ns)

-- what a history shows of a reply
abbrev pub ending_of : Reply → Ending
ending_of Yes = AsAnswered true
ending_of No = AsAnswered false
ending_of (Full counts) = AsRefused refused_full
ending_of Worn = AsRefused refused_worn
ending_of OldFile = AsRefused refused_old_file
ending_of Halted = AsCut cut_halted
ending_of Device = AsCut cut_device

-- and of a call that may have none yet
abbrev pub ending_in : Option Reply → Option Ending
ending_in None = None
ending_in (Some reply) = Some (ending_of reply)

-- a call of a history without its number
abbrev pub unnumbered : SeenCall → Command × Option Ending
unnumbered call = (call.command, call.ending)

-- a pass's own call as a history shows it
abbrev pub shown : Command × Option Reply → Command × Option Ending
shown call = (call.0, ending_in call.1)

-- The pass's calls in the history of the notes are those that it has made itself, with the replies that it got.
abbrev pub TellsOwn : BoardId → List Note → Part → Type 0
TellsOwn b ns h = map unnumbered (calls_of h.number (marks_in (shape_of_sizes b.sizes) ns)) ≡ map shown (told (shape_of_sizes b.sizes) h.steps)
