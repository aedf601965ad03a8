-- What a crash might have left at any moment of a life, by the notes of its calls. Notes and steps stand newest first.
use Rattle.std.specs.Prelude.{◌≡◌, ◌⊎◌, ℕ, ◌≤◌, false, IsTrue, List, [], ◌∷◌, ◌++◌, map}
use Rattle.lz_slot.specs.Histories.{History}
use Rattle.lz_disk.specs.{Images.{Medium, IsImage, at_rest}, Devices.{Device, LeavesOnly}}
use Rattle.lz_vault.specs.Vaults.{LeavesEither}
use Rattle.lz_list.specs.{Traces.{Trace}, declared.layout.Sizes.{Sizes}}
use Rattle.lz_machine.specs.{declared.event.Event.TheVariants.{Answer}, Runs.{Start, IsStart, Up, Service, Transition, run, IsRun, first_point}}
use Rattle.lz_board.specs.{declared.view.{What.{What, TheVariants.{Played}}, Note.{Note}}, Notes.{Extends, shape_of_sizes, steps_of, trace_of}, Seats.{BoardId}}
use Rattle.lz_refinement.specs.{NotedRuns.{ReadsAs}, Holds.{sizes_of}, Marks.{Shows, marks_in}, OwnCalls.{calls_of, shown, told, unnumbered}, RunningSets.{Explains}}

-- Some beginning of the notes is read as a run of the machine, on a board of these sizes whose life began with this trace.
pub record Begun (z : Sizes) (opened : Trace) (ns : List Note) : Type 0 where
  pub later : List Note
  pub before : List Note
  pub splits : ns ≡ later ++ before
  pub start : Start
  pub steps : List Transition
  pub sizes : z ≡ sizes_of start.shape
  pub starts : IsStart start
  pub runs : IsRun (first_point start) steps
  pub reads : ReadsAs (first_point start) before steps
  pub begins : opened ≡ (first_point start).trace

-- A crash may leave the text in the last state of the run that some beginning of the notes is read as.
pub record IsLeftBy (z : Sizes) (opened : Trace) (ns : List Note) (t : List ℕ) : Type 0 where
  pub begun : Begun z opened ns
  pub service : Service
  pub medium : Medium
  pub state : (run (first_point begun.start) begun.steps).state ≡ Up service medium
  pub leaves : IsImage medium t

-- a device that says nothing
abbrev pub no_device : Device
no_device = record { honest = false; medium = at_rest false []; moment = 0; left_since = λ t c. ⊥; calls = 0; faults = 0; must_fail = ⊥ }

-- Each text that a crash might have left since the disk was like this is one that might have been left then, or one that some
-- beginning of the notes leaves. That is so of an honest device.
abbrev pub LeftSince : BoardId → Device → List Note → Device → Type 0
LeftSince b first ns disk = IsTrue disk.honest → LeavesOnly first disk (λ t. IsImage first.medium t ⊎ IsLeftBy b.sizes b.opened ns t)

-- These notes show all that the earlier ones did, and their trace goes on from theirs. That is all of notes that explaining reads; they
-- needn't begin with the earlier ones, since a load is put where its word was seen.
pub record GrowsTo (b : BoardId) (was is : List Note) : Type 0 where
  pub new : History
  pub shows : Shows (shape_of_sizes b.sizes) was is new
  pub trace : Extends (trace_of b.opened is) (trace_of b.opened was)

-- The text explains all that was seen by a moment between these two: it is no earlier than what the first notes show.
pub record ExplainsFrom (b : BoardId) (was is : List Note) (t : List ℕ) : Type 0 where
  pub then : List Note
  pub from : GrowsTo b was then
  pub upto : GrowsTo b then is
  pub explains : Explains b then t

-- the note of an Answer
abbrev pub IsReply : What → Type 0
IsReply (Played Answer o) = Unit {0}
IsReply w = ⊥

-- The moment of this note has come, and each text that a crash might have left since explains all that was seen by then, with what
-- was seen later or some of it. That is so of an honest device.
abbrev pub Stays : BoardId → Device → List Note → Note → List Note → Type 0
Stays b disk all n before = IsTrue disk.honest → (n.moment.at ≤ disk.moment) × ((t : List ℕ) → disk.left_since n.moment.at t → ExplainsFrom b (n ∷ before) all t)

-- So it is of each reply among these notes, which end all of them.
abbrev pub RepliesStay : BoardId → Device → List Note → List Note → Type 0
RepliesStay b disk all [] = Unit {0}
RepliesStay b disk all (n ∷ before) = (IsReply n.what → Stays b disk all n before) × RepliesStay b disk all before

-- One hold, of the notes and of the disk: the notes grow, at each moment each image is one of before it or of after it, and what a
-- beginning of the notes left is left by one of those after it too. Replies that stay over the hold are joined by one that is noted.
pub record MomentsGoOn (b : BoardId) (was is : List Note) (old new : Device) : Type 0 where
  pub grows : GrowsTo b was is
  pub honest : new.honest ≡ old.honest
  pub time : IsTrue old.honest → LeavesEither old new
  pub kept : (t : List ℕ) → IsLeftBy b.sizes b.opened was t → IsLeftBy b.sizes b.opened is t
  pub stays : RepliesStay b new is was → RepliesStay b new is is

-- One hold: the notes grow, and each text that a crash in it might have left explains all that was seen before it, or all that was
-- seen after it. That is so of an honest device, which stays honest.
pub record HoldExplains (b : BoardId) (was is : List Note) (old new : Device) : Type 0 where
  pub grows : GrowsTo b was is
  pub honest : new.honest ≡ old.honest
  pub leaves : IsTrue old.honest → LeavesOnly old new (λ t. Explains b was t ⊎ Explains b is t)

-- A reply that a pass has among its own steps stays, once a set says so of the replies in its notes (`RepliesStay`): from the reply's
-- moment on each text that a crash might have left explains notes in which the pass's calls are those that it had made by then, with
-- the replies that it had got.
pub record OwnStays (b : BoardId) (disk : Device) (ns : List Note) (p : ℕ) (reply : Note) (older : List Note) : Type 0 where
  pub before : List Note
  pub steps : steps_of p (reply ∷ before) ≡ reply ∷ older
  pub calls : map unnumbered (calls_of p (marks_in (shape_of_sizes b.sizes) (reply ∷ before))) ≡ map shown (told (shape_of_sizes b.sizes) (reply ∷ older))
  pub stays : Stays b disk ns reply before

abbrev pub OwnRepliesStay : (D : Type 0) → (D → Device) → Type 0
OwnRepliesStay D device =
    (b : BoardId) (disk : D) (ns : List Note) (p : ℕ) (newer : List Note) (reply : Note) (older : List Note)
    → RepliesStay b (device disk) ns ns → steps_of p ns ≡ newer ++ reply ∷ older → IsReply reply.what
    → OwnStays b (device disk) ns p reply older

-- The text explains the calls and answers of some beginning of the notes.
pub record ExplainsBegun (b : BoardId) (ns : List Note) (t : List ℕ) : Type 0 where
  pub later : List Note
  pub before : List Note
  pub splits : ns ≡ later ++ before
  pub explains : Explains b before t

-- So each text that a crash might have left since the disk was like this is one that might have been left then, or explains
-- what was seen of the calls by some moment since.
abbrev pub ExplainedSince : BoardId → Device → List Note → Device → Type 0
ExplainedSince b first ns disk = IsTrue disk.honest → LeavesOnly first disk (λ t. IsImage first.medium t ⊎ ExplainsBegun b ns t)
