-- Where one actor is alone, full comes exactly where there is no room.
use Rattle.std.proofs.{lemmas.{Bool.Decides.{nat_tests}, Option.{same_Some}}, Common.{◌≡◌, inl, ℕ, suc, ◌≤◌, ◌<◌, if◌then◌else◌, Bool, true, false, List, []}}
use Rattle.std.proofs.Common.{◌∷◌, ◌++◌, length, Option, Some, None, refl, sym, ap, ◌∙◌, subst, arith}
use Rattle.lz_slot.specs.{declared.{command.Command.{Command, TheVariants.{Add}}, history.HistoryEvent.TheVariants.{Call}, format.Format.{Format}}, Sets.{Keys}}
use Rattle.lz_slot.specs.{Bytes.{Holds, format_of, slot_at}, Counted.{set_of_pass}, Histories.{History, Life, lives, with_mark}}
use Rattle.lz_slot.proofs.Counted.{of_pass_same, of_pass_other}
use Rattle.lz_disk.specs.Images.{Medium, IsImage, at_rest}
use Rattle.lz_vault.specs.{declared.vault.Stage.{Stage}, Stages.{MayRead}, Vaults.{DeviceCall, medium_after}}
use Rattle.lz_allot.specs.declared.counts.Counts.{Counts}
use Rattle.lz_list.specs.Traces.{Trace}
use Rattle.lz_machine.specs.declared.event.{Reply.{Reply, TheVariants.{Yes, No, Full, OldFile, Device}}, Event.TheVariants.{Invoke}}
use Rattle.lz_machine.specs.declared.{caller.Progress.{Progress, TheVariants.{Answering}}, course.Course.TheVariants.{Plays}}
use Rattle.lz_machine.specs.{Yards.{Shape, Yard, first_trace, cell_in, pin_in}, Table.{line, line_failed, is_old}, Calls.{first_progress, halts, begun}}
use Rattle.lz_machine.specs.Runs.{Start, IsStart, Caller, Service, State, Up, Down, Transition, Calls, Turn, Fails, Looks, Stops, Crashes, CrashesIn, Opens}
use Rattle.lz_machine.specs.Runs.{OpenFails, Point, MayStep, HasTurn, HasFault, IsRun, run, first_point, point_after, state_after, trace_after, caller_at}
use Rattle.lz_machine.specs.Runs.{next_event, reply_at, moved_on, after_turn, after_fault, opened_service, marks_of_turn, mark_of, turn_publishes, start_keys}
use Rattle.lz_machine.specs.{Runs.{looked, invoked}, Notes.{Notes}, CallersSound.{view_of, CallerSound}, Sound.{Sound, PointSound, IsSound}}
use Rattle.lz_machine.specs.{Alone.{IsOwn, IsAlone, IsPlain, IsFull, HasRoomFor, IsSized, AreSized, FullIsRight}, Formats.{HasFormat}}
use Rattle.lz_machine.proofs.{Runs.{PointParts.{point}, CallerTable.{none_of, fault_no_reply}}, Open.FoundSlots.{no_limbo_read, no_opening_read, pass_of}}
use Rattle.lz_machine.proofs.{Frames.OneActor.{caller_range}, Steps.{Hop.{call_at, own}, Point.{reply_lives}}, Theorem.Formats.{run_format}}
use Rattle.lz_machine.proofs.{Theorem.Reached.{reached_sound}, Alone.{Halt.{old_command, told_old}, Service.{Ended}, Run.{IsTold, answer_is_quiet}}}
use Rattle.lz_machine.proofs.Alone.{Answered.{AloneAt, AloneLives, HasSet}, Crash.{reached_alone}, Size.{HoldsOther, has_room, is_full}}
use Rattle.lz_machine.proofs.{Alone.{Full.{AreOther, WalkStands, AloneFull}, Turn.{turned, faulted}, Frame.{idle_on}}, Crash.ImageSlots.{reads}}

-- of a state
abbrev pub FullAt : ℕ → State → Trace → Type 0
FullAt a (Up service disk) P = AloneFull a service.yard (caller_at service.callers a) P
FullAt a (Down shape disk) P = Unit {0}

-- a service that is opened
opened_full : (a : ℕ) (shape : Shape) (t : List ℕ) (P : Trace) (disk : Medium) → FullAt a (Up (opened_service shape t) disk) P
opened_full a shape t P disk = grind (arith, pass_of, no_limbo_read, no_opening_read)

module _ (n calls : ℕ) (y : Yard) (callers : List (Option Caller)) (disk : Medium) (M : History) (P : Trace) (notes : Notes) (sound : Sound n calls y callers disk M P notes) (a : ℕ) (h : AloneFull a y (caller_at callers a) P) where
  abbrev serving : Service
  serving = record { yard = y; callers = callers }

  begun_stands : (z : Yard) (c : Command) (b : Bool) → WalkStands z P (if b then Answering OldFile else first_progress) c
  begun_stands z c true = tt
  begun_stands z c false = tt

  full_call : (i : ℕ) (c : Command) → 1 ≤ a → a ≤ length callers → caller_at callers a ≡ None → AloneFull a (invoked y a c) (caller_at (set_of_pass callers a (Some (call_at i c (begun y.vault.format c)))) a) P
  full_call i c low high none = subst (λ (who : Option Caller). AloneFull a (invoked y a c) who P) (sym (of_pass_same callers a (Some (call_at i c (begun y.vault.format c))) None low high)) (go (subst (λ (who : Option Caller). AloneFull a y who P) none h))
    where
      go : AloneFull a y None P → AloneFull a (invoked y a c) (Some (call_at i c (begun y.vault.format c))) P
      go h = record { others = λ b other. idle_on Plays y a b (Invoke c) other (h.others b other); left = λ _. h.left refl; opening = λ lives s opens. absurd (h.opening lives s opens); stands = begun_stands (invoked y a c) c (is_old y.vault.format c) }

  full_turn : (who : Option Caller) → caller_at callers a ≡ who → HasTurn serving a who → FullAt a (after_turn serving disk a who) (turn_publishes serving a who ++ P)
  full_turn None is may = absurd may
  full_turn (Some caller) is may =
      let range = caller_range callers a caller is in
      subst (λ (who : Option Caller). AloneFull a (line y a (next_event y caller)).0 who (turn_publishes serving a (Some caller) ++ P)) (sym (of_pass_same callers a _ None range.0 range.1))
      (turned n calls y callers disk M P notes sound a caller.number caller.command caller.progress is (subst (λ (who : Option Caller). AloneFull a y who P) is h) may)

  full_fault : (new : Medium) (who : Option Caller) → caller_at callers a ≡ who → HasFault serving disk a who new → FullAt a (after_fault serving new a who) P
  full_fault new None is may = absurd may
  full_fault new (Some caller) is may =
      let range = caller_range callers a caller is in
      let goes = fault_no_reply y a caller.command caller.progress disk new may in
      subst (λ (who : Option Caller). AloneFull a (line_failed y a (next_event y caller)).0 who P)
      (sym (of_pass_same callers a (moved_on (reply_at caller.progress) caller (halts Device)) None range.0 range.1 ∙ ap (λ (r : Option Reply). moved_on r caller (halts Device)) goes))
      (faulted n calls y callers disk M P notes sound a caller.number caller.command caller.progress (next_event y caller) goes (subst (λ (who : Option Caller). AloneFull a y who P) is h))

  full_look : caller_at callers a ≡ None → AloneFull a (looked y a) (caller_at callers a) P
  full_look none = grind (arith, nat_tests, of_pass_other)

-- each step keeps it
full_step : (start : Start) (a : ℕ) (w : State) (M : History) (P : Trace) (calls : ℕ) (step : Transition) → IsOwn a step → MayStep w step → (L : List Life) → PointSound start (point w M P calls) L → FullAt a w P
    → FullAt a (state_after (suc calls) w step) (trace_after w P step)
full_step start a w M P calls step own may [] sound h = absurd sound
full_step start a (Up service disk) M P calls (Calls b c) own may (life ∷ earlier) sound h =
    subst (λ (q : ℕ). MayStep (Up service disk) (Calls q c) → FullAt a (state_after (suc calls) (Up service disk) (Calls q c)) P) (sym own)
    (λ may. full_call sound.2.0 calls service.yard service.callers disk life.history P sound.2.1 sound.2.2.sound a h (suc calls) c may.0.0 (omega (arith, may.0.1, sound.2.2.sound.callers.count)) (none_of (caller_at service.callers a) may.1)) may
full_step start a (Up service disk) M P calls (Turn b) own may (life ∷ earlier) sound h =
    subst (λ (q : ℕ). MayStep (Up service disk) (Turn q) → FullAt a (state_after (suc calls) (Up service disk) (Turn q)) (trace_after (Up service disk) P (Turn q))) (sym own)
    (λ may. full_turn sound.2.0 calls service.yard service.callers disk life.history P sound.2.1 sound.2.2.sound a h (caller_at service.callers a) refl may) may
full_step start a (Up service disk) M P calls (Fails b new) own may (life ∷ earlier) sound h =
    subst (λ (q : ℕ). MayStep (Up service disk) (Fails q new) → FullAt a (state_after (suc calls) (Up service disk) (Fails q new)) P) (sym own)
    (λ may. full_fault sound.2.0 calls service.yard service.callers disk life.history P sound.2.1 sound.2.2.sound a h new (caller_at service.callers a) refl may) may
full_step start a (Up service disk) M P calls (Looks b) own may (life ∷ earlier) sound h =
    subst (λ (q : ℕ). MayStep (Up service disk) (Looks q) → FullAt a (state_after (suc calls) (Up service disk) (Looks q)) P) (sym own)
    (λ may. full_look sound.2.0 calls service.yard service.callers disk life.history P sound.2.1 sound.2.2.sound a h (none_of (caller_at service.callers a) may.1)) may
full_step start a (Up service disk) M P calls Stops own may (life ∷ earlier) sound h = tt
full_step start a (Up service disk) M P calls (Crashes t) own may (life ∷ earlier) sound h = tt
full_step start a (Up service disk) M P calls (CrashesIn b t) own may (life ∷ earlier) sound h = tt
full_step start a (Up service disk) M P calls _ own may (life ∷ earlier) sound h = h
full_step start a (Down shape disk) M P calls Opens own may (life ∷ earlier) sound h = opened_full a shape disk.seen (first_trace shape disk.seen) disk
full_step start a (Down shape disk) M P calls (OpenFails why true) own may (life ∷ earlier) sound h = tt
full_step start a (Down shape disk) M P calls _ own may (life ∷ earlier) sound h = tt

-- at each point that is reached
pub reached_full : (start : Start) (steps : List Transition) (a : ℕ) → IsStart start → IsRun (first_point start) steps → IsAlone a steps → FullAt a (run (first_point start) steps).state (run (first_point start) steps).trace
reached_full start [] a is runs alone = opened_full a start.shape start.text (first_trace start.shape start.text) (at_rest start.bytewise start.text)
reached_full start (step ∷ steps) a is runs alone =
    let p = run (first_point start) steps in
    full_step start a p.state p.marks p.trace p.calls step alone.0 runs.0 (lives (start_keys start) p.marks) (reached_sound start steps is runs.1) (reached_full start steps a is runs.1 alone.1)

-- a mark that says nothing of room
room_no : (N : ℕ) (c : Command) (T : Keys) → HasRoomFor N c false T
room_no N c T = grind (arith, nat_tests)

sized_mark : (F : Format) (N i a : ℕ) (c : Command) (L : List Life) → AreSized F N L → AreSized F N (with_mark (Call i a c) L)
sized_mark F N i a c L h = grind (arith, nat_tests)

-- a call that isn't told of an old file adds no key of another format
not_old : (F : Format) (c : Command) (reply : Reply) → (is_old F c ≡ true → reply ≡ OldFile) → (reply ≡ OldFile → ⊥) → is_old F c ≡ false
not_old F c reply tells other = grind arith

-- what a reply says of room
module _ (F : Format) (N i a n : ℕ) (c : Command) (M : History) (S : Keys) (ended : Ended i M) (sized : IsSized F N S M) (t : List ℕ) (new : Keys) (holds : Holds t N new) where
  sized_reply : (reply : Reply) → IsPlain S (mark_of i reply ∷ Call i a c ∷ M) new → ((k : ℕ) → c ≡ Add k → (counts : Counts) → reply ≡ Full counts → (s : ℕ) → s < N → HoldsOther t k s)
      → ((counts : Counts) → reply ≡ Full counts → (k : ℕ) × (c ≡ Add k)) → (is_old F c ≡ true → reply ≡ OldFile) → (reply ≡ OldFile → is_old F c ≡ true) → IsSized F N S (mark_of i reply ∷ Call i a c ∷ M)
  sized_reply Yes plain each adds tells told = (not_old F c Yes tells (λ same. cc), (λ T was. has_room N i i i a c M S T t new ended holds plain was), sized)
  sized_reply No plain each adds tells told = (not_old F c No tells (λ same. cc), (λ T was. room_no N c T), sized)
  sized_reply (Full counts) plain each adds tells told =
      let add = adds counts refl in (
        not_old F c (Full counts) tells (λ same. cc),
        (λ T was. subst (λ (d : Command). IsFull N d T) (sym add.1)
            (is_full N i i i a add.0 M S T t new ended holds (subst (λ (d : Command). IsPlain S (mark_of i (Full counts) ∷ Call i a d ∷ M) new) add.1 plain)
            (each add.0 add.1 counts refl) was)),
        sized,
      )
  sized_reply OldFile plain each adds tells told = (told refl, sized)
  sized_reply _ plain each adds tells told = sized

module _ (start : Start) (a : ℕ) (service : Service) (disk : Medium) (M : History) (P : Trace) (calls : ℕ) (named : service.yard.vault.format ≡ format_of start.text) where
  abbrev y : Yard
  y = service.yard

  abbrev before : Point
  before = point (Up service disk) M P calls

  abbrev N : ℕ
  N = start.shape.slots

  abbrev F : Format
  F = format_of start.text

  abbrev of_turn : Option Caller → Point
  of_turn who = point (after_turn service disk a who) (marks_of_turn who ++ M) (turn_publishes service a who ++ P) calls

  -- an answer
  sized_answer : (i : ℕ) (c : Command) (reply : Reply) → caller_at service.callers a ≡ Some (call_at i c (Answering reply)) → (L : List Life) → PointSound start before L → FullAt a (Up service disk) P → AloneLives a N before L
      → AloneLives a N (of_turn (Some (call_at i c (Answering reply)))) (with_mark (mark_of i reply) L) → AreSized F N L → AreSized F N (with_mark (mark_of i reply) L)
  sized_answer i c reply is [] sound full alone after sized = absurd sound
  sized_answer i c reply is (life ∷ earlier) sound full alone after sized = (
    subst (λ (H : History). IsSized F N life.start (mark_of i reply ∷ H)) (sym told.1)
        (sized_reply F N i a (suc calls) c told.0 life.start told.3 (subst (IsSized F N life.start) told.1 sized.0) disk.seen set.0 set.1 reply
        (subst (λ (H : History). IsPlain life.start (mark_of i reply ∷ H) set.0) told.1 set.2) each adds tells is_old_so),
    sized.1,
  )
    where
      told : IsTold a (suc calls) (Some (call_at i c (Answering reply))) life.history
      told = subst (λ (who : Option Caller). IsTold a (suc calls) who life.history) is alone.0.told

      image : IsImage disk disk.seen
      image = sound.2.2.sound.images.keeps.sound.seen

      set : HasSet N (record { start = life.start; history = mark_of i reply ∷ life.history }) disk.seen
      set = after.1 disk.seen (inl (subst (λ (call : DeviceCall). IsImage (medium_after call disk) disk.seen) (sym (answer_is_quiet y a)) image))

      here : AloneFull a y (Some (call_at i c (Answering reply))) P
      here = subst (λ (who : Option Caller). AloneFull a y who P) is full

      known : CallerSound (view_of y.shape y.vault y.actors a) (pin_in y.words.pins a) (Some (call_at i c (Answering reply))) (sound.2.1.begun a) P (sound.2.1.changed a)
      known = own sound.2.0 calls y service.callers disk life.history P sound.2.1 a i c (Answering reply) is sound.2.2.sound

      tells : is_old F c ≡ true → reply ≡ OldFile
      tells old = same_Some _ _ (told_old (view_of y.shape y.vault y.actors a) (pin_in y.words.pins a) (call_at i c (Answering reply)) (sound.2.1.begun a) P (sound.2.1.changed a) known.stands (ap (λ (f : Format). is_old f c) named ∙ old))

      is_old_so : reply ≡ OldFile → is_old F c ≡ true
      is_old_so same = sym (ap (λ (f : Format). is_old f c) named) ∙ old_command (view_of y.shape y.vault y.actors a) c (sound.2.1.begun a) P (sound.2.1.changed a) (Answering reply) (ap Answering same) known.stands.2

      stands : (r : Reply) → reply ≡ r → WalkStands y P (Answering r) c
      stands r same = subst (λ (q : Reply). WalkStands y P (Answering q) c) same here.stands

      adds : (counts : Counts) → reply ≡ Full counts → (k : ℕ) × (c ≡ Add k)
      adds counts same = go c (stands (Full counts) same)
        where
          go : (d : Command) → WalkStands y P (Answering (Full counts)) d → (k : ℕ) × (d ≡ Add k)
          go d h = grind (arith, nat_tests)

      each : (k : ℕ) → c ≡ Add k → (counts : Counts) → reply ≡ Full counts → (s : ℕ) → s < N → HoldsOther disk.seen k s
      each k add counts same s lt =
          let others : AreOther y k = subst (λ (d : Command). WalkStands y P (Answering (Full counts)) d) add (stands (Full counts) same) in
          let within : s < y.shape.slots = subst (λ (shape : Shape). s < shape.slots) (sym sound.0) lt in
          let own = others s within in
          let read = reads sound.2.0 calls y service.callers disk life.history P sound.2.1 sound.2.2.sound disk.seen image s within in
          ((cell_in y.vault.cells s).key, subst (λ (g : Stage). MayRead y.vault.format g (cell_in y.vault.cells s).key (slot_at disk.seen s)) own.0 read, own.1)

  sized_point : (i : ℕ) (c : Command) (at : Progress) → caller_at service.callers a ≡ Some (call_at i c at) → IsSound start before → FullAt a (Up service disk) P → AloneAt start a before
      → AloneAt start a (of_turn (Some (call_at i c at))) → AreSized F N (lives (start_keys start) M) → AreSized F N (lives (start_keys start) (marks_of_turn (Some (call_at i c at)) ++ M))
  sized_point i c (Answering reply) is sound full alone after sized =
      subst (AreSized F N) (sym (reply_lives (start_keys start) i reply M))
      (sized_answer i c reply is (lives (start_keys start) M) sound full alone (subst (AloneLives a N (of_turn (Some (call_at i c (Answering reply))))) (reply_lives (start_keys start) i reply M) after) sized)
  sized_point i c _ is sound full alone after sized = sized

  sized_turn : (who : Option Caller) → caller_at service.callers a ≡ who → HasTurn service a who → IsSound start before → FullAt a (Up service disk) P → AloneAt start a before → AloneAt start a (of_turn who)
      → AreSized F N (lives (start_keys start) M) → AreSized F N (lives (start_keys start) (marks_of_turn who ++ M))
  sized_turn None is may sound full alone after sized = absurd may
  sized_turn (Some caller) is may sound full alone after sized = sized_point caller.number caller.command caller.progress is sound full alone after sized

sized_step : (start : Start) (a : ℕ) (w : State) (M : History) (P : Trace) (calls : ℕ) (step : Transition) → HasFormat (format_of start.text) w → IsOwn a step
    → MayStep w step → IsSound start (point w M P calls) → FullAt a w P → AloneAt start a (point w M P calls) → AloneAt start a (point_after (point w M P calls) step)
    → AreSized (format_of start.text) start.shape.slots (lives (start_keys start) M) → AreSized (format_of start.text) start.shape.slots (lives (start_keys start) (point_after (point w M P calls) step).marks)
sized_step start a (Up service disk) M P calls (Calls b c) named is_own may sound full alone after sized = sized_mark (format_of start.text) start.shape.slots (suc calls) b c (lives (start_keys start) M) sized
sized_step start a (Up service disk) M P calls (Turn b) named is_own may sound full alone after sized =
    subst (λ (q : ℕ). MayStep (Up service disk) (Turn q) → AloneAt start a (point_after (point (Up service disk) M P calls) (Turn q)) → AreSized (format_of start.text) start.shape.slots (lives (start_keys start) (point_after (point (Up service disk) M P calls) (Turn q)).marks)) (sym is_own)
    (λ may after. sized_turn start a service disk M P calls named (caller_at service.callers a) refl may sound full alone after sized) may after
sized_step start a (Down shape disk) M P calls Opens named is_own may sound full alone after sized = (tt, sized)
sized_step start a _ M P calls _ named is_own may sound full alone after sized = sized

-- full comes exactly where there is no room
pub full_is_right : FullIsRight
full_is_right start [] a is runs alone = (tt, tt)
full_is_right start (step ∷ steps) a is runs alone =
    let p = run (first_point start) steps in
    sized_step start a p.state p.marks p.trace p.calls step (run_format start steps is runs.1) alone.0 runs.0 (reached_sound start steps is runs.1) (reached_full start steps a is runs.1 alone.1) (reached_alone start steps a is runs.1 alone.1) (reached_alone start (step ∷ steps) a is runs alone)
    (full_is_right start steps a is runs.1 alone.1)
