-- How a call under way is played on.
use Rattle.std.specs.Prelude.{◌≡◌, ◌≢◌, ℕ, false, true, List, [], ◌∷◌, ◌++◌, map, Option, Some, None}
use Rattle.lz_list.specs.declared.{place.Place.{Place}, publishing.Publishing.{Publishing}}
use Rattle.lz_machine.specs.declared.{event.{Event.{Event, TheVariants.{Claim, Sync}}, Outcome.{Outcome, TheVariants.{Fault}}, Reply.{Reply}}, kind.Kind.{Kind}}
use Rattle.lz_machine.specs.{declared.kind.Kind.TheVariants.{Invoke}, Calls.{event_at}, Kinds.{kind_of}, Orders.{Calling, shape_with}, Runs.{reply_at}}
use Rattle.lz_machine.specs.{Table.{is_sure, is_taken}, Yards.{Yard}}
use Rattle.lz_board.specs.{declared.view.{Note.{Note}, Part.{Part}, What.{What, TheVariants.{Called, Played, Found}}}, Notes.{load_note, note_by, stamped}}
use Rattle.lz_set.specs.declared.underway.Blocked.{Blocked, TheVariants.{Syncs, Busy, Answers}}

-- where a call stands that stopped at this stage: before a Sync, before a Claim, or with its reply
abbrev pub StandsAt : Blocked → Calling → Type 0
StandsAt Syncs k = (slot : ℕ) × (event_at (shape_with k) k.command k.progress ≡ Sync slot)
StandsAt Busy k = (pred : Place) × (curr : Option ℕ) × (event_at (shape_with k) k.command k.progress ≡ Claim pred curr)
StandsAt Answers k = (reply : Reply) × (reply_at k.progress ≡ Some reply)

-- its newest step since is an event of this kind
abbrev pub HasPlayed : Kind → Part → Part → Type 0
HasPlayed kind h h' = (e : Event) × (o : Outcome) × (x : Option Publishing) × (m : ℕ) × (more : List Note) × (h'.steps ≡ stamped m (note_by h'.number (Played e o) x) ∷ (more ++ h.steps)) × (kind_of e ≡ kind)

-- its newest step since is an event of this kind, and the others are the loads that it had made
abbrev pub PlaysOne : Kind → Part → Part → Type 0
PlaysOne kind h h' =
    (e : Event) × (o : Outcome) × (x : Option Publishing) × (m : ℕ) × (h'.steps ≡ stamped m (note_by h'.number (Played e o) x) ∷ (map (load_note h.number) h.loads ++ h.steps)) × (kind_of e ≡ kind)

-- the kind of a step; a pin word that was found is no event
abbrev pub kind_of_step : What → Option Kind
kind_of_step (Called c format) = Some Invoke
kind_of_step (Played e o) = Some (kind_of e)
kind_of_step (Found q v) = None

-- the kind of a step whose device call failed
abbrev pub kind_of_failed : What → Option Kind
kind_of_failed (Played e Fault) = Some (kind_of e)
kind_of_failed _ = None

-- of no step of these is that the kind
abbrev pub NoneOf : (What → Option Kind) → Kind → List Note → Type 0
NoneOf kind_in kind [] = Unit {0}
NoneOf kind_in kind (n ∷ ns) = (kind_in n.what ≢ Some kind) × NoneOf kind_in kind ns

abbrev pub StepsBut : (What → Option Kind) → Kind → Part → Part → Type 0
StepsBut kind_in kind h h' = (more : List Note) × (h'.steps ≡ more ++ h.steps) × NoneOf kind_in kind more

-- the pass has made no steps since, or some, of which none is an event of this kind
abbrev pub StepsWithout : Kind → Part → Part → Type 0
StepsWithout kind h h' = StepsBut kind_of_step kind h h'

-- or none is one whose device call failed: since a device may fail each call, what is so over any device calls it for none of this kind
abbrev pub StepsUnfailed : Kind → Part → Part → Type 0
StepsUnfailed kind h h' = StepsBut kind_of_failed kind h h'

-- why a call stops before an event, over this yard: it is the Sync of a slot whose last write isn't durable, so that it calls the device; or
-- the Claim of a pair of which another call has a lock
abbrev pub StopsBefore : Yard → Blocked → Event → Type 0
StopsBefore y Syncs e = (slot : ℕ) × (e ≡ Sync slot) × (is_sure y slot ≡ false)
StopsBefore y Busy e = (pred : Place) × (curr : Option ℕ) × (e ≡ Claim pred curr) × (is_taken y pred curr ≡ true)
StopsBefore y Answers e = ⊥

-- the call stands before such an event
abbrev pub StandsBefore : Yard → Blocked → Calling → Type 0
StandsBefore y stage k = StopsBefore y stage (event_at (shape_with k) k.command k.progress)
