-- What a hold has played.
use Rattle.std.proofs.Common.{◌≡◌, ◌≢◌, ℕ, IsSomeAnd, List, [], ◌∷◌, ◌++◌, map, Option, Some, refl, sym, ap, ◌∙◌, subst, append_assoc}
use Rattle.std.proofs.lemmas.Option.{none-some, same_Some}
use Rattle.lz_slot.specs.declared.{command.Command.{Command}, format.Format.{Format}}
use Rattle.lz_list.specs.{declared.publishing.Publishing.{Publishing}, Words.{Words}}
use Rattle.lz_machine.specs.declared.caller.Progress.{Progress, TheVariants.{Playing, LoadsHalt, Walking, Reserving, SeeingPins, Claiming, Checking, Answering}}
use Rattle.lz_machine.specs.declared.event.{Event.{Event, TheVariants.{SeePin, Sync as SyncOf}}, Outcome.{Outcome, TheVariants.{OldFile, Fault}}, Reply.{Reply}}
use Rattle.lz_machine.specs.{declared.kind.Kind.{Kind, TheVariants.{Hop, Invoke, Sync}}, Calls.{event_at, loaded}, Kinds.{kind_of}}
use Rattle.lz_machine.specs.{Orders.{Calling, shape_with}, Runs.{reply_at}, Yards.{Shape, Yard}}
use Rattle.lz_yard.specs.Begun.{begun_after}
use Rattle.lz_board.specs.declared.view.{Note.{Note}, Part.{Part}, Load.{Load}, What.{What, TheVariants.{Called, Played, Found}}}
use Rattle.lz_board.specs.{Notes.{load_note, note_by, stamped}, Seats.{BoardId}}
use Rattle.lz_refinement.specs.{declared.playing.Turn.{Turn}, Held.{Advanced}, Counting.{Counts, CountsOn}, Holds.{LockedOver}}
use Rattle.lz_set.specs.declared.underway.Blocked.{Blocked, TheVariants.{Syncs, Busy, Answers}}
use Rattle.lz_set.specs.Stages.{NoneOf, PlaysOne, StandsAt, StandsBefore, StepsBut, StepsUnfailed, StepsWithout, StopsBefore, kind_of_failed, kind_of_step}

-- neither a loaded pin word nor the yard's shape makes it another kind of event
kind_loaded : (words : Words) (e : Event) → kind_of (loaded words e) ≡ kind_of e
kind_loaded words (SeePin p value) = refl
kind_loaded words _ = refl

kind_at : (one other : Shape) (c : Command) (at : Progress) → kind_of (event_at one c at) ≡ kind_of (event_at other c at)
kind_at one other c (Playing sequence i) = refl
kind_at one other c LoadsHalt = refl
kind_at one other c (Walking aim look) = refl
kind_at one other c (Reserving again) = refl
kind_at one other c (SeeingPins p) = refl
kind_at one other c (Claiming aim pred curr) = refl
kind_at one other c (Checking aim curr) = refl
kind_at one other c (Answering reply) = refl

pub plays_one : (b : BoardId) (was is : List Note) (k : Calling) (t : Turn) (before after : Part) → Advanced b was is k t before after
    → PlaysOne (kind_of (event_at (shape_with k) k.command k.progress)) before after
plays_one b was is k t before after a =
    let yard = a.turned.service.yard in
    let caller = a.turned.caller in
    let loads = map (load_note before.number) before.loads in (
      a.event,
      t.outcome,
      t.published.value,
      a.holds.moment,
      a.holds.steps ∙ ap (λ (p : ℕ). stamped a.holds.moment (note_by p (Played a.event t.outcome) t.published.value) ∷ (loads ++ before.steps)) (sym a.holds.number),
      sym (ap kind_of a.turned.next) ∙ kind_loaded yard.words (event_at yard.shape caller.command caller.progress)
          ∙ ap (λ (c : Command). kind_of (event_at yard.shape c caller.progress)) a.turned.command
          ∙ ap (λ (at : Progress). kind_of (event_at yard.shape k.command at)) a.turned.progress
          ∙ kind_at yard.shape (shape_with k) k.command k.progress,
    )

-- and of this event, which is the next one
pub turned_one : (b : BoardId) (was is : List Note) (k : Calling) (t : Turn) (before after : Part) (e : Event) → e ≡ event_at (shape_with k) k.command k.progress → Advanced b was is k t before after
    → PlaysOne (kind_of e) before after
turned_one b was is k t before after e next a = subst (λ (f : Event). PlaysOne (kind_of f) before after) (sym next) (plays_one b was is k t before after a)

-- loads are no syncs
loads_without : (p : ℕ) (loads : List Load) → NoneOf kind_of_step Sync (map (load_note p) loads)
loads_without p [] = tt
loads_without p (h ∷ hs) = ((λ is. let same : Hop ≡ Sync = same_Some Hop Sync is in cc), loads_without p hs)

none_both : (kind_in : What → Option Kind) (kind : Kind) (new old : List Note) → NoneOf kind_in kind new → NoneOf kind_in kind old → NoneOf kind_in kind (new ++ old)
none_both kind_in kind [] old one two = two
none_both kind_in kind (n ∷ ns) old one two = (one.0, none_both kind_in kind ns old one.1 two)

-- nor is an event of another kind
pub one_without : (kind : Kind) (h h' : Part) → kind ≢ Sync → PlaysOne kind h h' → StepsWithout Sync h h'
one_without kind h h' other p = (
  stamped p.3 (note_by h'.number (Played p.0 p.1) p.2) ∷ map (load_note h.number) h.loads,
  p.4,
  ((λ is. other (sym p.5 ∙ same_Some _ _ is)), loads_without h.number h.loads),
)

pub without_then : (kind_in : What → Option Kind) (kind : Kind) (h mid h' : Part) → StepsBut kind_in kind h mid → StepsBut kind_in kind mid h' → StepsBut kind_in kind h h'
without_then kind_in kind h mid h' one two =
    (two.0 ++ one.0, two.1 ∙ ap (λ (l : List Note). two.0 ++ l) one.1 ∙ sym (append_assoc two.0 one.0 h.steps), none_both kind_in kind two.0 one.0 two.2 one.2)

-- where no event of a kind was played, none failed
pub so_unfailed : (kind : Kind) (h h' : Part) → StepsWithout kind h h' → StepsUnfailed kind h h'
so_unfailed kind h h' one = (one.0, one.1, go one.0 one.2)
  where
    what : (w : What) → kind_of_step w ≢ Some kind → kind_of_failed w ≢ Some kind
    what (Played e Fault) other = other
    what (Played e o) other = none-some kind
    what (Called c F) other = none-some kind
    what (Found q v) other = none-some kind

    go : (ns : List Note) → NoneOf kind_of_step kind ns → NoneOf kind_of_failed kind ns
    go [] none = tt
    go (n ∷ ns) none = (what n.what none.0, go ns none.1)

-- a hold whose event didn't fail
pub turned_unfailed : (b : BoardId) (was is : List Note) (k : Calling) (t : Turn) (before after : Part) → Advanced b was is k t before after → t.outcome ≢ Fault → StepsUnfailed Sync before after
turned_unfailed b was is k t before after a done = (
  stamped a.holds.moment (note_by before.number (Played a.event t.outcome) t.published.value) ∷ map (load_note before.number) before.loads,
  a.holds.steps,
  (what t.outcome done, loads before.loads),
)
  where
    what : (o : Outcome) → o ≢ Fault → kind_of_failed (Played a.event o) ≢ Some Sync
    what Fault done = absurd (done refl)
    what o done = none-some Sync

    loads : (hs : List Load) → NoneOf kind_of_failed Sync (map (load_note before.number) hs)
    loads [] = tt
    loads (h ∷ hs) = (none-some Sync, loads hs)

-- a call that was just made: its pass has the loads that it had made, and the step that made it
pub call_without : (F : Format) (c : Command) (x : Option Publishing) (h h' : Part) → h'.steps ≡ note_by h.number (Called c F) x ∷ (map (load_note h.number) h.loads ++ h.steps) → StepsWithout Sync h h'
call_without F c x h h' steps = (
  note_by h.number (Called c F) x ∷ map (load_note h.number) h.loads,
  steps,
  ((λ is. let same : Invoke ≡ Sync = same_Some Invoke Sync is in cc), loads_without h.number h.loads),
)

-- events that are no syncs: the first of a call, and its last
pub begins_otherwise : (k : Calling) (o : Outcome) → k.progress ≡ begun_after o → kind_of (event_at (shape_with k) k.command k.progress) ≢ Sync
begins_otherwise k o at = subst (λ (p : Progress). kind_of (event_at (shape_with k) k.command p) ≢ Sync) (sym at) (go o)
  where
    go : (o : Outcome) → kind_of (event_at (shape_with k) k.command (begun_after o)) ≢ Sync
    go OldFile = λ is. cc
    go o = λ is. cc

pub answers_otherwise : (k : Calling) (reply : Reply) → reply_at k.progress ≡ Some reply → kind_of (event_at (shape_with k) k.command k.progress) ≢ Sync
answers_otherwise k reply = go k.progress
  where
    go : (at : Progress) → reply_at at ≡ Some reply → kind_of (event_at (shape_with k) k.command at) ≢ Sync
    go (Answering other) is = λ is. cc
    go at is = absurd (none-some reply is)

-- loads of a walk make no step
pub walked_unfailed : (h mid h' : Part) → StepsUnfailed Sync h mid → h'.steps ≡ mid.steps → StepsUnfailed Sync h h'
walked_unfailed h mid h' one same = (one.0, same ∙ one.1, one.2)

-- and the hold after them is of an event that is no sync, or of one that didn't fail
pub held_unfailed : (e : Event) (h mid h' : Part) → StepsUnfailed Sync h mid → PlaysOne (kind_of e) mid h' → ((s : ℕ) → e ≡ SyncOf s → StepsUnfailed Sync mid h') → StepsUnfailed Sync h h'
held_unfailed e h mid h' one p covered = without_then kind_of_failed Sync h mid h' one (go e p covered)
  where
    go : (e : Event) → PlaysOne (kind_of e) mid h' → ((s : ℕ) → e ≡ SyncOf s → StepsUnfailed Sync mid h') → StepsUnfailed Sync mid h'
    go (SyncOf s) p covered = covered s refl
    go e p covered = so_unfailed Sync mid h' (one_without (kind_of e) mid h' (λ is. cc) p)

-- a call stands before the event at which it stops, as was seen under the lock that is kept
pub stands_before : {D : Type 0} (kept : Option (LockedOver D)) (seen held : LockedOver D) (stage : Blocked) (k : Calling) (e : Event) → kept ≡ Some held → seen ≡ held → e ≡ event_at (shape_with k) k.command k.progress
    → StopsBefore seen.yard stage e → IsSomeAnd kept (λ l. StandsBefore l.yard stage k)
stands_before {D} kept seen held stage k e keeps same next stops =
    subst (λ (o : Option (LockedOver D)). IsSomeAnd o (λ l. StandsBefore l.yard stage k)) (sym keeps)
    (subst (λ (l : LockedOver D). StopsBefore l.yard stage (event_at (shape_with k) k.command k.progress)) same (subst (λ (f : Event). StopsBefore seen.yard stage f) next stops))

pub stands_at : (y : Yard) (stage : Blocked) (k : Calling) (e : Event) → e ≡ event_at (shape_with k) k.command k.progress → StopsBefore y stage e → StandsAt stage k
stands_at y Syncs k e next stops = (stops.0, sym next ∙ stops.1)
stands_at y Busy k e next stops = (stops.0, stops.1, sym next ∙ stops.2)
stands_at y Answers k e next stops = absurd stops

pub same_counts : (b : BoardId) (k : Calling) (h : Part) (is k' : Calling) (h' : Part) → is ≡ k' → CountsOn b k h k' h' → CountsOn b k h is h'
same_counts b k h is k' h' same on = λ c format before counts. subst (λ (q : Calling). Counts b c format before q h') (sym same) (on c format before counts)
