-- One hold: what it plays may be played, and its notes are read as a run whose last state is the yard's again.
use Rattle.std.proofs.Common.{◌≡◌, ◌≢◌, inl, ⊎_elim, ℕ, suc, ◌≤◌, ◌%◌, Bool, true, false, List, [], ◌∷◌, ◌++◌, map, length, refl, sym, ap, ◌∙◌, subst, arith}
use Rattle.std.proofs.Common.{Option, Some, None, IsTrue, is_some}
use mathlib.Core.Bool.{false≢true}
use Rattle.lz_refinement.proofs.Vocabulary.{Command, of_pass, Medium, Device, DeviceCall, NoCall, WriteAt, SyncAll, MayFail, medium_after, Words, Trace, Event}
use Rattle.lz_refinement.proofs.Vocabulary.{Outcome, Progress, Yard, IsInside, line, line_failed, line_call, line_publishes, pin_of, event_at, loaded, HasPass, State}
use Rattle.lz_refinement.proofs.Vocabulary.{Up, Caller, Turn, Point, run, MayStep, HasTurn, HasFault, Reached, first_point, caller_at, next_event, state_after}
use Rattle.lz_refinement.proofs.Vocabulary.{after_turn, after_fault, SameButPins, MayPlay, SameBut, hop_of, CallerSound, view_of, own_change, Told, Note, Load, Part}
use Rattle.lz_refinement.proofs.Vocabulary.{as_list, trace_of, steps_of, load_note, splice, Quiet, InOrder, AllShown, place, pin_after, shape_of_sizes, turned_at}
use Rattle.lz_refinement.proofs.Reading.{TraceNotes.{trace_reads}, CallPlaces.{Placed, place_reads}, PinWords.{pin_in_state, pin_reads}, StandingCall.{call_relies}}
use Rattle.lz_refinement.proofs.Hold.{OtherPins.{with_pins, SameLine, line_same}, Alike.{alike_is, alike_then, with_own_pin}}
use Rattle.lz_refinement.proofs.Splicing.LoadSplice.{Spliced, splice_reads}
use Rattle.lz_refinement.specs.{NotedRuns.{TellsTurn, TellsFault, TellsStep, TellsOf, ReadsAs, viewed, AreNext, SameButAllPins, IsTied, seen_event}, Holds.{Turned}}
use Rattle.lz_machine.specs.{declared.event.{Event.TheVariants.{SeePin}, Outcome.TheVariants.{Fault}}, Runs.{Fails as FailsStep, shape_of as shape_in}}
use Rattle.lz_machine.proofs.{Runs.{Shape.{run_keeps_shape}, CallerEvent.{is_next}}, Frames.OneActor.{caller_range}, Theorem.Timeliness.{never_late}}
use Rattle.lz_yard.{specs.Steps.{Played as PlayedOver}, proofs.Events.KeptFit.{fault_or_not}}
use Rattle.lz_board.{specs.declared.view.What.TheVariants.{Played}, proofs.Upkeep.Splice.{steps_splice, pin_splice, trace_splice, turned_splice}}

-- a caller's next event, by what its pass has seen of pin words
seen_is : (words : Words) (pins : ℕ → ℕ) (passes : ℕ) (e : Event) → HasPass passes e → ((q : ℕ) → 1 ≤ q → q ≤ passes → of_pass words.pins q 0 ≡ pins q) → loaded words e ≡ seen_event pins e
seen_is words pins passes (SeePin q v) has same = ap (SeePin q) (same q has.0 has.1)
seen_is words pins passes _ has same = refl

record IsViewed (q : Option Caller) (c : Command) (at : Progress) : Type 0 where
  caller : Caller
  is : q ≡ Some caller
  command : caller.command ≡ c
  progress : caller.progress ≡ at

abbrev first_or : Command → Option (Command × Progress) → Command
first_or d None = d
first_or d (Some x) = x.0

abbrev second_or : Progress → Option (Command × Progress) → Progress
second_or d None = d
second_or d (Some x) = x.1

unview : (q : Option Caller) (c : Command) (at : Progress) → viewed q ≡ Some (c, at) → IsViewed q c at
unview None c at is = absurd (false≢true (ap is_some is))
unview (Some caller) c at is = record { caller = caller; is = refl; command = ap (first_or c) is; progress = ap (second_or at) is }

-- two yards that are the same but for other actors' pin words play an event alike
record PlaysAlike (z s : Yard) (a : ℕ) (e : Event) : Type 0 where
  yard : SameButAllPins (line z a e).0 (line s a e).0
  outcome : (line z a e).1 ≡ (line s a e).1
  call : line_call z a e ≡ line_call s a e
  published : line_publishes z a e ≡ line_publishes s a e
  failed : SameButAllPins (line_failed z a e).0 (line_failed s a e).0

plays_alike : (z s : Yard) (a : ℕ) (e : Event) → SameButPins a z s → hop_of e ≡ None → PlaysAlike z s a e
plays_alike z s a e same none = subst (λ (z : Yard). PlaysAlike z s a e) (sym is) record { yard = r.yard; outcome = r.outcome; call = r.call; published = r.published; failed = r.failed }
  where
    r : SameLine s z.words.pins a same.pin e
    r = line_same s z.words.pins a same.pin e none

    is : z ≡ with_pins s z.words.pins
    is = grind (arith, same)

-- a device that may do anything has some disk after a call that failed
some_fail : (call : DeviceCall) (disk : Medium) → call ≢ NoCall → MayFail call disk disk
some_fail NoCall disk asked = absurd (asked refl)
some_fail (WriteAt at bytes) disk asked = inl refl
some_fail SyncAll disk asked = refl

-- what a failed call may have left, of an honest device and of another
failed_medium : (honest : Bool) (call : DeviceCall) (old new disk : Medium) → call ≢ NoCall → (IsTrue honest → MayFail call old new) → (IsTrue honest → old ≡ disk) → (left : Medium) × MayFail call disk left × (IsTrue honest → new ≡ left)
failed_medium true call old new disk asked fails same = (new, subst (λ (d : Medium). MayFail call d new) (same refl) (fails refl), λ h. refl)
failed_medium false call old new disk asked fails same = (disk, some_fail call disk asked, λ h. absurd (false≢true h))

module _ (opened : Trace) (ns : List Note) (y : Yard) (dev : Device) (t : IsTied opened ns y dev.honest dev.medium) (h : Part) (low : 1 ≤ h.number)
    (quiet : Quiet opened h.number h.base ns) (least : length opened ≤ h.base) (order : InOrder h.base h.loads (length h.known))
    (shown : AllShown (record { slots = y.shape.slots; buckets = y.shape.buckets; passes = y.shape.passes }) (trace_of opened ns) h.loads)
    (next : AreNext y.shape h.number h.loads (steps_of h.number ns)) where
  abbrev a : ℕ
  a = h.number

  abbrev base : ℕ
  base = h.base

  abbrev top : ℕ
  top = length h.known

  abbrev hs : List Load
  hs = h.loads

  abbrev p : Point
  p = first_point t.start

  -- all parts speak of one shape
  shape_is : y.shape ≡ t.start.shape
  shape_is = t.yard.shape ∙ subst (λ (w : State). shape_in w ≡ t.start.shape) t.state (run_keeps_shape p t.steps)

  spl : Spliced t.start t.starts a low t.steps (splice p.trace a hs ns)
  spl = grind (arith, splice_reads, shape_is)

  abbrev notes : List Note
  notes = splice p.trace a hs ns

  pl : Placed t.start (run p spl.all) notes
  pl = place_reads t.start notes spl.all spl.runs spl.reads

  abbrev s : Yard
  s = pl.service.yard

  both : SameBut a (Up t.service t.medium) (Up pl.service pl.disk)
  both = subst (λ (x : State × State). SameBut a x.0 x.1) (λ i. (t.state i, pl.state i)) spl.state

  steps_are : steps_of a notes ≡ map (load_note a) hs ++ steps_of a ns
  steps_are = steps_splice p.trace a base top hs ns (subst (λ P. Quiet P a base ns) t.begins quiet) (subst (λ P. length P ≤ base) t.begins least) order

  pins_are : (q : ℕ) → 1 ≤ q → q ≤ t.start.shape.passes → pin_of s q ≡ pin_after q ns
  pins_are q one most = ap (λ w. pin_in_state t.start t.starts w q) (sym pl.state) ∙ pin_reads t.start t.starts notes spl.all spl.runs spl.reads q one most ∙ pin_splice p.trace q a hs ns

  reached : Reached t.start (Up pl.service pl.disk) (run p spl.all).marks (run p spl.all).trace
  reached = record { steps = spl.all; starts = t.starts; runs = spl.runs; state = pl.state; marks = refl; trace = refl }

  -- The event that the call of the pass plays next, on a yard that has the pass's pin word.
  module _ (command : Command) (at : Progress) (place_is : place y.shape (map (load_note a) hs ++ steps_of a ns) ≡ Some (command, at)) (z : Yard) (alike : SameButAllPins z y) (pin : pin_of z a ≡ pin_after a ns)
      (e : Event) (is : e ≡ seen_event (λ q. pin_after q ns) (event_at y.shape command at)) (pass : HasPass y.shape.passes (event_at y.shape command at)) where
    call : IsViewed (caller_at pl.service.callers a) command at
    call = unview (caller_at pl.service.callers a) command at (pl.places a low ∙ ap (place t.start.shape) steps_are ∙ ap (λ k. place k (map (load_note a) hs ++ steps_of a ns)) (sym shape_is) ∙ place_is)

    in_range : a ≤ t.start.shape.passes
    in_range = let r = caller_range pl.service.callers a call.caller call.is in omega (arith, r.1, pl.count)

    event_is : next_event s call.caller ≡ e
    event_is = grind (arith, loaded, event_at, pl, shape_is, call, seen_is, pin_after, command, pins_are, is)

    same : SameButPins a z s
    same = with_own_pin a (alike_then alike (alike_then t.yard (alike_is both.0))) (pin ∙ sym (pins_are a low in_range))

    device_is : IsTrue dev.honest → dev.medium ≡ pl.disk
    device_is h = t.device h ∙ both.1

    -- so the yard plays it
    pub may_play : MayPlay z dev.honest dev.medium a e
    may_play = record {
      start = t.start;
      service = pl.service;
      medium = pl.disk;
      history = (run p spl.all).marks;
      trace = (run p spl.all).trace;
      reached = reached;
      next = is_next pl.service a e (record { caller = call.caller; at = call.is; event = event_is });
      yard = same;
      device = device_is;
    }

    trace_all : (run p spl.all).trace ≡ trace_of opened ns
    trace_all = trace_reads p notes spl.all spl.reads ∙ trace_splice p.trace a hs ns ∙ ap (λ P. trace_of P ns) (sym t.begins)

    turned_all : turned_at a p.trace notes ≡ turned_at a opened ns
    turned_all = turned_splice p.trace a a hs ns ∙ ap (λ P. turned_at a P ns) (sym t.begins)

    -- what the call may rely on there, where the pass is inside
    stands : (pin : ℕ) (begun : Trace) → pin_after a ns ≡ pin → begun ≡ turned_at a opened ns → IsInside pin
        → CallerSound (view_of s.shape s.vault s.actors a) pin (Some call.caller) begun (trace_of opened ns) (own_change a (length begun) (trace_of opened ns))
    stands pin begun pinned began inside =
        subst (λ (x : ℕ × Option Caller × Trace × Trace). CallerSound (view_of s.shape s.vault s.actors a) x.0 x.1 x.2 x.3 (own_change a (length x.2) x.3))
        (λ i. ((pins_are a low in_range ∙ pinned) i, call.is i, (turned_all ∙ sym began) i, (trace_splice p.trace a hs ns ∙ ap (λ P. trace_of P ns) (sym t.begins)) i))
        (call_relies t.start t.starts notes spl.all pl.service pl.disk spl.runs spl.reads pl.state a low in_range (ap (λ v. v % 2) (pin_splice p.trace a a hs ns ∙ pinned) ∙ inside))

    -- and what it plays is a step of the run
    module _ (none : hop_of e ≡ None) (o : Outcome) (z' : Yard) (told : Told) (dev' : Device) (played : PlayedOver z a e o z' told dev dev')
        (n : Note) (by : n.by ≡ a) (what : n.what ≡ Played e o) (done : o ≢ Fault → as_list n.published ≡ line_publishes z a e) (failed : o ≡ Fault → n.published ≡ None) where
      pa : PlaysAlike z s a e
      pa = plays_alike z s a e same none

      trace_is : opened ≡ p.trace
      trace_is = t.begins

      abbrev noted : List Note
      noted = n ∷ splice opened a hs ns

      -- what it gave, in a state that is reached
      pub turned : shape_of_sizes h.sizes ≡ y.shape → pin_after a ns ≡ h.pin → (IsInside h.pin → h.begun ≡ turned_at a opened ns) → Turned opened ns h command at e o n.published
      turned sized pinned began = record {
        start = t.start;
        service = pl.service;
        medium = pl.disk;
        history = (run p spl.all).marks;
        reached = record { steps = spl.all; starts = t.starts; runs = spl.runs; state = pl.state; marks = refl; trace = trace_all };
        shape = sized ∙ shape_is ∙ sym pl.shape;
        caller = call.caller;
        call = call.is;
        command = call.command;
        progress = call.progress;
        next = event_is;
        done = λ ok. ((played.done ok).answer ∙ pa.outcome, done ok ∙ pa.published);
        failed = λ bad. (failed bad, λ none. (played.failed bad).asked (pa.call ∙ none));
        pin = pins_are a low in_range ∙ pinned;
        stands = λ inside. stands h.pin h.begun pinned (began inside) inside;
      }

      notes_are : notes ≡ splice opened a hs ns
      notes_are = ap (λ P. splice P a hs ns) (sym trace_is)

      turn_state : state_after (suc (run p spl.all).calls) (run p spl.all).state (Turn a) ≡ after_turn pl.service pl.disk a (Some call.caller)
      turn_state = ap (λ (w : State). state_after (suc (run p spl.all).calls) w (Turn a)) pl.state ∙ ap (after_turn pl.service pl.disk a) call.is

      goes_on : o ≢ Fault → IsTied opened noted z' dev'.honest dev'.medium
      goes_on ok =
          let d = played.done ok in
          let tells : TellsTurn pl.service a (Some call.caller) n = subst (λ q. (n.what ≡ Played q (line s a q).1) × (as_list n.published ≡ line_publishes s a q)) (sym event_is)
          (what ∙ ap (Played e) (d.answer ∙ pa.outcome), done ok ∙ pa.published) in
          let told : TellsStep (Up pl.service pl.disk) n (Turn a) = (by, subst (λ q. TellsTurn pl.service a q n) (sym call.is) tells) in
          let may : MayStep (Up pl.service pl.disk) (Turn a) = subst (HasTurn pl.service a) (sym call.is) (never_late t.start pl.service pl.disk (run p spl.all).marks (run p spl.all).trace a call.caller reached call.is) in
          record {
            start = t.start;
            steps = Turn a ∷ spl.all;
            service = _;
            medium = _;
            starts = t.starts;
            runs = (subst (λ (w : State). MayStep w (Turn a)) (sym pl.state) may, spl.runs);
            reads = (Turn a ∷ [], spl.all, refl, subst (λ w. TellsOf (run p spl.all).state n w (Turn a ∷ [])) (sym what) (record { step = Turn a; steps = refl; tells = subst (λ (w : State). TellsStep w n (Turn a)) (sym pl.state) told }), subst (λ l. ReadsAs p l spl.all) notes_are spl.reads);
            begins = t.begins;
            state = turn_state;
            yard = subst (λ (x : Yard). SameButAllPins x (line s a (next_event s call.caller)).0) (sym d.yard) (subst (λ q. SameButAllPins (line z a e).0 (line s a q).0) (sym event_is) pa.yard);
            device = λ h.
                let h0 = subst IsTrue d.call.honest h in
                d.call.medium h0 ∙ ap (λ m. medium_after (line_call z a e) m) (device_is h0) ∙ ap (λ c. medium_after c pl.disk) (pa.call ∙ ap (line_call s a) (sym event_is));
          }

      gives_up : o ≡ Fault → IsTied opened noted z' dev'.honest dev'.medium
      gives_up bad =
          let d = played.failed bad in
          let f = failed_medium dev.honest (line_call z a e) dev.medium dev'.medium pl.disk d.asked d.call.medium device_is in
          let new = f.0 in
          let tells : TellsFault pl.service (Some call.caller) n = subst (λ q. (n.what ≡ Played q Fault) × (n.published ≡ None)) (sym event_is) (what ∙ ap (Played e) bad, failed bad) in
          let told : TellsStep (Up pl.service pl.disk) n (FailsStep a new) = (by, subst (λ q. TellsFault pl.service q n) (sym call.is) tells) in
          let may : MayStep (Up pl.service pl.disk) (FailsStep a new) = subst (λ q. HasFault pl.service pl.disk a q new) (sym call.is) (subst (λ c. MayFail c pl.disk new) (pa.call ∙ ap (line_call s a) (sym event_is)) f.1) in
          record {
            start = t.start;
            steps = FailsStep a new ∷ spl.all;
            service = _;
            medium = _;
            starts = t.starts;
            runs = (subst (λ (w : State). MayStep w (FailsStep a new)) (sym pl.state) may, spl.runs);
            reads = (
              FailsStep a new ∷ [],
              spl.all,
              refl,
              subst (λ w. TellsOf (run p spl.all).state n w (FailsStep a new ∷ [])) (sym what)
                  (record { step = FailsStep a new; steps = refl; tells = subst (λ (w : State). TellsStep w n (FailsStep a new)) (sym pl.state) told }),
              subst
                  (λ l. ReadsAs p l spl.all) notes_are spl.reads,
            );
            begins = t.begins;
            state = ap (λ (w : State). state_after (suc (run p spl.all).calls) w (FailsStep a new)) pl.state ∙ ap (after_fault pl.service new a) call.is;
            yard = subst (λ (x : Yard). SameButAllPins x (line_failed s a (next_event s call.caller)).0) (sym d.yard) (subst (λ q. SameButAllPins (line_failed z a e).0 (line_failed s a q).0) (sym event_is) pa.failed);
            device = λ h. f.2 (subst IsTrue d.call.honest h);
          }

      pub holds_on : IsTied opened noted z' dev'.honest dev'.medium
      holds_on = ⊎_elim gives_up goes_on (fault_or_not o)
