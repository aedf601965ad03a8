-- What a crash may leave at any time, also inside a call of the device, has a list; so a crash inside a call keeps the invariant.
use Rattle.std.proofs.lemmas.Bool.Decides.{nat_tests}
use Rattle.std.proofs.Common.{◌≡◌, ◌≢◌, inl, inr, ℕ, Bool, true, false, List, [], ◌∷◌, ◌++◌, Option, Some, None, refl, sym, ap, ◌∙◌, subst, arith}
use mathlib.Core.Bool.{false≢true}
use Rattle.lz_slot.specs.{Sets.{Keys}, Bytes.{Holds, format_of}, declared.{format.Format.{Format, TheVariants.{Four}}, command.Command.{Command}}}
use Rattle.lz_slot.specs.Histories.{History, Life, ChainTo, lives, last_history}
use Rattle.lz_disk.specs.Images.{Medium, AreBytes, IsImage}
use Rattle.lz_vault.specs.{Stages.{Suits}, Vaults.{DeviceCall, medium_after}}
use Rattle.lz_list.specs.{declared.publishing.Publishing.TheVariants.{KeyPrepared as key_prepared, LinkPrepared as link_prepared}, Traces.{Trace}}
use Rattle.lz_machine.specs.declared.event.{Event.{Event, TheVariants.{WriteKey, WriteOpen, WriteClose, Sync, Answer}}, Outcome.TheVariants.{Done, NotNow}}
use Rattle.lz_machine.specs.declared.{event.Reply.{Reply}, course.Course.{Course, TheVariants.{Plays}}, actor.Actor.{Actor}, caller.Progress.{Progress}}
use Rattle.lz_machine.specs.Yards.{Shape, Yard, actor_at}
use Rattle.lz_machine.specs.Table.{course, line, line_on, call_on, call_of, published_on, publishes, vault_after, yard_done, outcome_of}
use Rattle.lz_machine.specs.{Calls.{event_at, loaded}, Runs.{Start, Service, Caller, State, Up, Down, CrashesIn, Point, Reached, IsStart, IsRun, Transition}}
use Rattle.lz_machine.specs.Runs.{MayStep, MayLeave, LeftInside, HasTurn, point_after, run, first_point, disk_of, shape_of, start_keys, caller_at, next_event}
use Rattle.lz_machine.specs.{Runs.{reply_at, played, after_turn, marks_of_turn, mark_of_turn, turn_publishes}, Formats.{HasFormat}, Lasts.{Lasts}}
use Rattle.lz_machine.{specs.{Laws.{EveryHistory, WhatLasts}, Sound.{HasList, PointSound, IsSound}}, proofs.Runs.PointParts.{point}}
use Rattle.lz_machine.proofs.{Crash.{Image.{image_names, image_suits, images_fit}, Down.{at_rest_sound, rest_format}}, Steps.Point.{turn_keeps}}

-- the text holds a set to which the lives lead, the newest by a list of its own, and its format suits the disk, and is the state's
abbrev pub IsLeft : Point → List ℕ → List Life → Type 0
IsLeft p t [] = ⊥
IsLeft p t (life ∷ earlier) =
    ChainTo earlier life.start × HasList (shape_of p.state).slots life p.trace t × Suits (format_of t) (disk_of p.state) × ((F : Format) → HasFormat F p.state → format_of t ≡ F)

-- of an image of the disk
image_of_up : (start : Start) (service : Service) (M : History) (P : Trace) (calls : ℕ) (disk : Medium) (t : List ℕ) (L : List Life) → IsImage disk t → PointSound start (point (Up service disk) M P calls) L → IsLeft (point (Up service disk) M P calls) t L
image_of_up start service M P calls disk t [] image h = absurd h
image_of_up start service M P calls disk t (life ∷ earlier) image h =
    let images = h.2.2.sound.images in
    (h.1, images_fit h.2.0 calls service disk life P h.2.1 h.2.2 t image, image_suits service.yard.shape service.yard.vault disk images t image, λ F is. image_names service.yard.shape service.yard.vault disk images t image ∙ is)

image_of_down : (start : Start) (shape : Shape) (M : History) (P : Trace) (calls : ℕ) (disk : Medium) (t : List ℕ) (L : List Life) → IsImage disk t → PointSound start (point (Down shape disk) M P calls) L → IsLeft (point (Down shape disk) M P calls) t L
image_of_down start shape M P calls disk t [] image h = absurd h
image_of_down start shape M P calls disk t (life ∷ earlier) image h = (h.1, h.2.each t image, h.2.suits t image, λ F is. is t image)

-- A preparing settles nothing.
lasts_before_key : (s v : ℕ) (P : Trace) (M : History) (S : Keys) → Lasts (key_prepared s v ∷ P) M S → Lasts P M S
lasts_before_key s v P M S h = grind arith

lasts_before_link : (s v : ℕ) (P : Trace) (M : History) (S : Keys) → Lasts (link_prepared s v ∷ P) M S → Lasts P M S
lasts_before_link s v P M S h = grind arith

has_list_before : (slots : ℕ) (life : Life) (P Q : Trace) (t : List ℕ) → ((S : Keys) → Lasts Q life.history S → Lasts P life.history S) → HasList slots life Q t → HasList slots life P t
has_list_before slots life P Q t before h = record { found = h.found; calls = h.calls; holds = h.holds; fits = h.fits; lasts = before h.found h.lasts }

-- no call makes a medium bytewise, or takes that from it
same_kind : (call : DeviceCall) (disk : Medium) → (medium_after call disk).bytewise ≡ disk.bytewise
same_kind call disk = grind (arith, nat_tests)

-- an event other than Answer, and how far its call has come
abbrev is_answer : Event → Bool
is_answer Answer = true
is_answer _ = false

no_reply : (y : Yard) (c : Command) (at : Progress) (e : Event) → loaded y.words (event_at y.shape c at) ≡ e → is_answer e ≡ false → reply_at at ≡ None
no_reply y c at e is other = grind (arith, nat_tests, false≢true)

done_is_now : Done ≡ NotNow → ⊥
done_is_now is = absurd cc

-- what a crash inside a call leaves are bytes
pub inside_bytes : (a : ℕ) (service : Service) (disk : Medium) (who : Option Caller) (t : List ℕ) → LeftInside service disk a who t → AreBytes t
inside_bytes a service disk who t h = grind (arith, nat_tests)

module _ (start : Start) (a : ℕ) (service : Service) (disk : Medium) (M : History) (P : Trace) (calls : ℕ) (sound : IsSound start (point (Up service disk) M P calls)) (caller : Caller) (is : caller_at service.callers a ≡ Some caller) where
  abbrev y : Yard
  y = service.yard

  abbrev actor : Actor
  actor = actor_at service.yard a

  -- the point after the turn, where the caller is this one, its event this one, its course this one, and its reply this one
  abbrev of_caller : Option Caller → Point
  of_caller who = record { state = after_turn service disk a who; marks = marks_of_turn who ++ M; trace = turn_publishes service a who ++ P; calls = calls }

  abbrev of_event : Course → Event → Option Reply → Point
  of_event c e reply =
      record {
        state = Up (played service a caller (line_on c y actor a e)) (medium_after (call_on c y actor e) disk);
        marks = mark_of_turn caller.number reply ++ M;
        trace = published_on c y actor a e ++ P;
        calls = calls;
      }

  abbrev IsSoundPoint : Point → Type 0
  IsSoundPoint p = IsSound start p

  -- after an event that was played and is no Answer
  turned : (e : Event) → next_event y caller ≡ e → course y a e ≡ Plays → (outcome_of y actor e ≢ NotNow) → is_answer e ≡ false → IsSoundPoint (of_event Plays e None)
  turned e next plays outcome other =
      let told : (line y a (next_event y caller)).1 ≡ outcome_of y actor e = ap (λ (x : Event). (line y a x).1) next ∙ ap (λ (c : Course). (line_on c y actor a e).1) plays in
      let may : HasTurn service a (caller_at service.callers a) = subst (HasTurn service a) (sym is) (λ bad. outcome (sym told ∙ bad)) in
      let after : IsSoundPoint (of_caller (caller_at service.callers a)) = turn_keeps start service disk M P calls sound a may in
      let of_this : IsSoundPoint (of_caller (Some caller)) = subst (λ (who : Option Caller). IsSoundPoint (of_caller who)) is after in
      let of_next : IsSoundPoint (of_event (course y a e) e (reply_at caller.progress)) = subst (λ (x : Event). IsSoundPoint (of_event (course y a x) x (reply_at caller.progress))) next of_this in
      let of_course : IsSoundPoint (of_event Plays e (reply_at caller.progress)) = subst (λ (c : Course). IsSoundPoint (of_event c e (reply_at caller.progress))) plays of_next in
      subst (λ (reply : Option Reply). IsSoundPoint (of_event Plays e reply)) (no_reply y caller.command caller.progress e next other) of_course

  -- an image after such an event is left by a crash inside it, where its publishing changes nothing that is settled
  left_after : (e : Event) (t : List ℕ) → next_event y caller ≡ e → course y a e ≡ Plays → (outcome_of y actor e ≢ NotNow) → is_answer e ≡ false
      → ((history : History) (S : Keys) → Lasts (publishes y actor a e ++ P) history S → Lasts P history S)
      → IsImage (medium_after (call_of y actor e) disk) t → IsLeft (point (Up service disk) M P calls) t (lives (start_keys start) M)
  left_after e t next plays outcome other before image = go (lives (start_keys start) M) (turned e next plays outcome other)
    where
      go : (L : List Life) → PointSound start (of_event Plays e None) L → IsLeft (point (Up service disk) M P calls) t L
      go [] h = absurd h
      go (life ∷ earlier) h = (
        h.1,
        has_list_before service.yard.shape.slots life P (publishes y actor a e ++ P) t (before life.history)
            (images_fit h.2.0 calls (played service a caller (yard_done y actor a e, outcome_of y actor e)) (medium_after (call_of y actor e) disk) life (publishes y actor a e ++ P) h.2.1 h.2.2 t image),
        subst (λ (b : Bool). format_of t ≡ Four → b ≡ true) (same_kind (call_of y actor e) disk) (image_suits service.yard.shape (vault_after y actor e) (medium_after (call_of y actor e) disk) h.2.2.sound.images t image),
        λ F is. image_names service.yard.shape (vault_after y actor e) (medium_after (call_of y actor e) disk) h.2.2.sound.images t image ∙ is,
      )

  itself : (t : List ℕ) → IsImage disk t → IsLeft (point (Up service disk) M P calls) t (lives (start_keys start) M)
  itself t image = image_of_up start service M P calls disk t (lives (start_keys start) M) image sound

  -- of an event that is played
  left_playing : (e : Event) (t : List ℕ) → next_event y caller ≡ e → course y a e ≡ Plays → IsImage (medium_after (call_of y actor e) disk) t → IsLeft (point (Up service disk) M P calls) t (lives (start_keys start) M)
  left_playing (WriteKey k) t next plays image = left_after (WriteKey k) t next plays done_is_now refl (lasts_before_key _ k P) image
  left_playing WriteOpen t next plays image = left_after WriteOpen t next plays done_is_now refl (lasts_before_link _ _ P) image
  left_playing WriteClose t next plays image = left_after WriteClose t next plays done_is_now refl (λ history S h. h) image
  left_playing (Sync s) t next plays image = left_after (Sync s) t next plays done_is_now refl (λ history S h. h) image
  left_playing _ t next plays image = itself t image

  left_on : (c : Course) (e : Event) (t : List ℕ) → next_event y caller ≡ e → course y a e ≡ c → IsImage (medium_after (call_on c y actor e) disk) t → IsLeft (point (Up service disk) M P calls) t (lives (start_keys start) M)
  left_on Plays e t next plays image = left_playing e t next plays image
  left_on _ e t next _ image = itself t image

  left_of_caller : (t : List ℕ) → LeftInside service disk a (Some caller) t → IsLeft (point (Up service disk) M P calls) t (lives (start_keys start) M)
  left_of_caller t (inl image) = itself t image
  left_of_caller t (inr image) = left_on (course y a (next_event y caller)) (next_event y caller) t refl refl image

-- a text that a crash inside a call of the device may leave
pub left_inside : (start : Start) (a : ℕ) (service : Service) (disk : Medium) (M : History) (P : Trace) (calls : ℕ) (t : List ℕ) → IsSound start
    (point (Up service disk) M P calls) → LeftInside service disk a (caller_at service.callers a) t → IsLeft (point (Up service disk) M P calls) t
    (lives (start_keys start) M)
left_inside start a service disk M P calls t sound left = go (caller_at service.callers a) refl left
  where
    go : (who : Option Caller) → caller_at service.callers a ≡ who → LeftInside service disk a who t → IsLeft (point (Up service disk) M P calls) t (lives (start_keys start) M)
    go None is h = absurd h
    go (Some caller) is h = left_of_caller start a service disk M P calls sound caller is t h

-- at a point: a crash inside a call keeps the invariant
pub crash_in_keeps : (start : Start) (w : State) (M : History) (P : Trace) (calls a : ℕ) (t : List ℕ) → IsSound start (point w M P calls) → MayStep w (CrashesIn a t) → IsSound start (point_after (point w M P calls) (CrashesIn a t))
crash_in_keeps start (Down shape disk) M P calls a t sound may = absurd may
crash_in_keeps start (Up service disk) M P calls a t sound may = go (lives (start_keys start) M) sound (left_inside start a service disk M P calls t sound may)
  where
    go : (L : List Life) → PointSound start (point (Up service disk) M P calls) L → IsLeft (point (Up service disk) M P calls) t L → PointSound start (point_after (point (Up service disk) M P calls) (CrashesIn a t)) L
    go [] h left = absurd h
    go (life ∷ earlier) h left = (
      h.0,
      h.1,
      at_rest_sound disk.bytewise service.yard.shape life P t (inside_bytes a service disk (caller_at service.callers a) t may) left.2 left.1,
      rest_format (format_of start.text) disk.bytewise service.yard.shape t (left.3 (format_of start.text) h.3),
    )

-- a text that a crash may leave has a list
pub may_leave_has : (start : Start) (w : State) (M : History) (P : Trace) (calls : ℕ) (t : List ℕ) → IsSound start (point w M P calls) → MayLeave w t → IsLeft (point w M P calls) t (lives (start_keys start) M)
may_leave_has start (Up service disk) M P calls t sound (inl image) = image_of_up start service M P calls disk t (lives (start_keys start) M) image sound
may_leave_has start (Up service disk) M P calls t sound (inr (a, left)) = left_inside start a service disk M P calls t sound left
may_leave_has start (Down shape disk) M P calls t sound image = image_of_down start shape M P calls disk t (lives (start_keys start) M) image sound

-- Where each point that is reached is sound, the two laws of what a crash may leave.
module _ (reached_sound : (start : Start) (steps : List Transition) → IsStart start → IsRun (first_point start) steps → IsSound start (run (first_point start) steps)) where
  left_at : (start : Start) (w : State) (M : History) (P : Trace) (t : List ℕ) (reached : Reached start w M P) → MayLeave w t → IsLeft (run (first_point start) reached.steps) t (lives (start_keys start) (run (first_point start) reached.steps).marks)
  left_at start w M P t reached leaves =
      let p = run (first_point start) reached.steps in
      may_leave_has start p.state p.marks p.trace p.calls t (reached_sound start reached.steps reached.starts reached.runs) (subst (λ (v : State). MayLeave v t) (sym reached.state) leaves)

  abbrev HasChain : Start → List ℕ → History → Type 0
  HasChain start t M = (S : Keys) × Holds t start.shape.slots S × ChainTo (lives (start_keys start) M) S

  pub every_history : EveryHistory
  every_history start w M P t reached leaves =
      let p = run (first_point start) reached.steps in
      subst (HasChain start t) reached.marks (go (lives (start_keys start) p.marks) (reached_sound start reached.steps reached.starts reached.runs) (left_at start w M P t reached leaves))
    where
      go : (L : List Life) → PointSound start (run (first_point start) reached.steps) L → IsLeft (run (first_point start) reached.steps) t L → (S : Keys) × Holds t start.shape.slots S × ChainTo L S
      go [] h left = absurd h
      go (life ∷ earlier) h left = grind (arith, nat_tests)

  abbrev HasSettled : Start → List ℕ → History → Trace → Type 0
  HasSettled start t M P = (S : Keys) × Holds t start.shape.slots S × Lasts P (last_history (lives (start_keys start) M)) S

  pub what_lasts : WhatLasts
  what_lasts start w M P t reached leaves =
      let p = run (first_point start) reached.steps in
      subst (HasSettled start t M) reached.trace (subst (λ (N : History). HasSettled start t N p.trace) reached.marks (go (lives (start_keys start) p.marks) (reached_sound start reached.steps reached.starts reached.runs) (left_at start w M P t reached leaves)))
    where
      go : (L : List Life) → PointSound start (run (first_point start) reached.steps) L → IsLeft (run (first_point start) reached.steps) t L → (S : Keys) × Holds t start.shape.slots S × Lasts (run (first_point start) reached.steps).trace (last_history L) S
      go [] h left = absurd h
      go (life ∷ earlier) h left = grind (arith, nat_tests)
