-- A session of the one caller: calls that a pass made one after the other, in a set of one pass. Lists of calls and replies
-- stand oldest first; notes, steps and marks stand newest first.
use Rattle.std.specs.Prelude.{◌≡◌, ◌⊎◌, ℕ, suc, Bool, true, false, List, [], ◌∷◌, ◌++◌, length, Option}
use Rattle.lz_slot.specs.{declared.{command.Command.{Command}, format.Format.{Format}, history.HistoryEvent.TheVariants.{Call}}, Bytes.{Holds}, Histories.{History}}
use Rattle.lz_slot.specs.Sets.{Keys, Same, after}
use Rattle.lz_machine.specs.{declared.event.Reply.{Reply, TheVariants.{Halted, Device}}, Runs.{mark_of_turn}}
use Rattle.lz_list.specs.declared.layout.Sizes.{Sizes}
use Rattle.lz_board.specs.{declared.view.{Note.{Note}, Part.{Part}}, Notes.{shape_of_sizes}, Seats.{BoardId}}
use Rattle.lz_refinement.specs.{Answers.{Answers}, Marks.{marks_in}, Moments.{ExplainsBegun}, OneCaller.{IsPlainAnswer}, OwnCalls.{told}}
use Rattle.lz_refinement.specs.RunningSets.{members_of, Explains}

-- calls that were answered, each with its reply
abbrev pub AnsweredCalls : Type 0
AnsweredCalls = List (Command × Reply)

-- A pass of a set of this size, on a file of format F, made the calls one after the other, and was answered so; its part was `old`,
-- and is `new`.
abbrev pub Served : Sizes → Format → AnsweredCalls → Part → Part → Type 0
Served z F [] old new = new ≡ old
Served z F (call ∷ calls) old new = (old.sizes ≡ z) × ((mid : Part) × Answers F call.0 call.1 old mid × Served z F calls mid new)

-- the plain set S of a file of format F with N slots, asked these calls, may reply so and be T then
abbrev pub PlainRun : Format → ℕ → AnsweredCalls → Keys → Keys → Type 0
PlainRun F N [] S T = Same T S
PlainRun F N (call ∷ calls) S T = (U : Keys) × IsPlainAnswer F N call.0 call.1 S U × PlainRun F N calls U T

-- the reply ends a session: it leaves open whether the command was done
abbrev pub cuts_off : Reply → Bool
cuts_off Halted = true
cuts_off Device = true
cuts_off _ = false

-- no call was cut off
abbrev pub NoneCut : AnsweredCalls → Type 0
NoneCut [] = Unit {0}
NoneCut (call ∷ calls) = (cuts_off call.1 ≡ false) × NoneCut calls

-- no call but the last was
abbrev pub CutLast : AnsweredCalls → Type 0
CutLast [] = Unit {0}
CutLast (call ∷ []) = Unit {0}
CutLast (call ∷ next ∷ calls) = (cuts_off call.1 ≡ false) × CutLast (next ∷ calls)

-- what a history shows of the calls of one pass, where no other makes one; the newest call stands first
abbrev pub marks_alone : ℕ → List (Command × Option Reply) → History
marks_alone p [] = []
marks_alone p (call ∷ calls) =
    mark_of_turn (suc (length calls)) call.1 ++ Call (suc (length calls)) p call.0 ∷ marks_alone p calls

-- The history of the notes is that of the pass's own calls.
abbrev pub TellsAlone : BoardId → List Note → Part → Type 0
TellsAlone b ns h = marks_in (shape_of_sizes b.sizes) ns ≡ marks_alone h.number (told (shape_of_sizes b.sizes) h.steps)

-- A set of one pass, on a file of format F: since its life began the pass has made these calls and no other, and only the last
-- may have been cut off.
pub record IsSession (b : BoardId) (F : Format) (ns : List Note) (calls : AnsweredCalls) (before after : Part) : Type 0 where
  pub alone : b.sizes.passes ≡ 1
  pub known : before.known ≡ b.opened
  pub no_steps : before.steps ≡ []
  pub served : Served b.sizes F calls before after
  pub cut : CutLast calls
  pub tells : TellsAlone b ns after

-- the set T is S; or the next of the calls, if there is one, was under way and is done
abbrev pub MayHaveNext : AnsweredCalls → Keys → Keys → Type 0
MayHaveNext [] S T = Same T S
MayHaveNext (call ∷ calls) S T = Same T S ⊎ Same T (after call.0 S)

-- The text holds the plain set after some first ones of the calls; the next one may be under way, done or not.
pub record HoldsAfterSome (F : Format) (N : ℕ) (calls : AnsweredCalls) (S : Keys) (t : List ℕ) : Type 0 where
  pub done : AnsweredCalls
  pub rest : AnsweredCalls
  pub splits : calls ≡ done ++ rest
  pub ends : Keys
  pub run : PlainRun F N done S ends
  pub found : Keys
  pub next : MayHaveNext rest ends found
  pub holds : Holds t N found

-- The replies to a session are the plain set's, of the set with which the life began.
abbrev pub SessionIsPlain : Type 0
SessionIsPlain =
    (b : BoardId) (F : Format) (ns : List Note) (calls : AnsweredCalls) (before after : Part)
    → IsSession b F ns calls before after → PlainRun F b.sizes.slots calls (members_of b.opened) (members_of after.known)

-- A text that a crash may leave after it holds the plain set that is left; where none was cut off, it holds the members that
-- the pass has seen.
abbrev pub SessionIsHeld : Type 0
SessionIsHeld =
    (b : BoardId) (F : Format) (ns : List Note) (calls : AnsweredCalls) (before after : Part)
    → IsSession b F ns calls before after
    → (t : List ℕ) (explains : Explains b ns t)
    → PlainRun F b.sizes.slots calls (members_of b.opened) explains.found × (NoneCut calls → Same explains.found (members_of after.known))

-- A text that a crash might have left at any moment of it holds the plain set after some first ones of the calls.
abbrev pub MomentsArePlain : Type 0
MomentsArePlain =
    (b : BoardId) (F : Format) (ns : List Note) (calls : AnsweredCalls) (before after : Part)
    → IsSession b F ns calls before after
    → (t : List ℕ) → ExplainsBegun b ns t → HoldsAfterSome F b.sizes.slots calls (members_of b.opened) t
