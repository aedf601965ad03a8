-- Two notes of the pen that no event gives: a pin word that was found, and a call that was made.
use Rattle.std.proofs.{lemmas.Bool.Decides.{nat_tests}, Common.{◌≡◌, ◌≢◌, ◌⊎◌, inl, inr, ⊎_elim, ℕ, zero, suc, ◌+◌, ◌-◌, ◌≤◌, Bool, true, false, List, [], ◌∷◌}}
use Rattle.std.proofs.Common.{◌++◌, refl, sym, ap, ◌∙◌, subst, arith, replicate, Option, Some, None, IsNone, IsTrue, is_some}
use mathlib.Core.Bool.{false≢true}
use Rattle.lz_refinement.proofs.Vocabulary.{Command, of_pass, set_of_pass, largest_key, Vaulted, key_of, Medium, is_outside, Trace, Progress, Shape, Yard, idle_actor}
use Rattle.lz_refinement.proofs.Vocabulary.{pin_of, last_pin, is_old, MayPlay, State, Up, Service, Caller, Calls, Looks, Point, run, IsRun, MayStep, first_point}
use Rattle.lz_refinement.proofs.Vocabulary.{caller_at, state_after, looked, invoked, Note, note_by, steps_of, place, pin_after, is_calling, PinTold, found_note}
use Rattle.lz_refinement.proofs.Reading.{CallPlaces.{Placed, place_reads}, PinWords.{count_pins, pin_in_state, pin_reads}}
use Rattle.lz_refinement.{proofs.Hold.Alike.{alike_is, alike_then, with_own_pin}, specs.{NotedRuns.{TellsStep, viewed, SameButAllPins, IsTied}, Holds.{sizes_of}}}
use Rattle.lz_machine.{specs.{declared.event.Event.TheVariants.{Invoke}, Runs.{shape_of as shape_in}}, proofs.Runs.Shape.{run_keeps_shape}}
use Rattle.lz_board.specs.declared.view.What.TheVariants.{Called}
use Rattle.lz_slot.proofs.Counted.{of_pass_same}

none_from : (x : Option Caller) → viewed x ≡ None → IsNone x
none_from None is = refl
none_from (Some caller) is = absurd (false≢true (sym (ap is_some is)))

module _ (opened : Trace) (ns : List Note) (y : Yard) (honest : Bool) (disk : Medium) (t : IsTied opened ns y honest disk) where
  abbrev p : Point
  p = first_point t.start

  shape_is : y.shape ≡ t.start.shape
  shape_is = t.yard.shape ∙ subst (λ (w : State). shape_in w ≡ t.start.shape) t.state (run_keeps_shape p t.steps)

  pl : Placed t.start (run p t.steps) ns
  pl = place_reads t.start ns t.steps t.runs t.reads

  -- a pass whose notes place no call has none
  idle_is : (q : ℕ) → 1 ≤ q → is_calling (sizes_of y.shape) (steps_of q ns) ≡ false → IsNone (caller_at pl.service.callers q)
  idle_is q low idle = none_from (caller_at pl.service.callers q) (pl.places q low ∙ none (place t.start.shape (steps_of q ns)) (subst (λ (s : Shape). is_some (place s (steps_of q ns)) ≡ false) shape_is idle))
    where
      none : (x : Option (Command × Progress)) → is_some x ≡ false → x ≡ None
      none None is = refl
      none (Some x) is = absurd (false≢true (sym is))

  pin_is : (q : ℕ) → 1 ≤ q → q ≤ y.shape.passes → pin_of pl.service.yard q ≡ pin_after q ns
  pin_is q low high = ap (λ w. pin_in_state t.start t.starts w q) (sym pl.state) ∙ pin_reads t.start t.starts ns t.steps t.runs t.reads q low (subst (λ (s : Shape). q ≤ s.passes) shape_is high)

  same_yard : SameButAllPins y pl.service.yard
  same_yard = grind (arith, nat_tests, pl)

  -- looks of a pass without a call, as far as its pin word goes
  record Looked (k q : ℕ) (w : State) : Type 0 where
    after : Service
    left : Medium
    at : w ≡ Up after left
    disk_is : left ≡ pl.disk
    callers : after.callers ≡ pl.service.callers
    own : pin_of after.yard q ≡ pin_of pl.service.yard q + k
    yard : SameButAllPins pl.service.yard after.yard

  looks_run : (k q : ℕ) → 1 ≤ q → q ≤ y.shape.passes → IsNone (caller_at pl.service.callers q) → pin_of pl.service.yard q + k ≤ last_pin
      → IsRun p (replicate k (Looks q) ++ t.steps) × Looked k q (run p (replicate k (Looks q) ++ t.steps)).state
  looks_run zero q low high none room = (t.runs, record { after = pl.service; left = pl.disk; at = pl.state; disk_is = refl; callers = refl; own = omega arith; yard = alike_is refl })
  looks_run (suc k) q low high none room =
      let r = looks_run k q low high none (omega (arith, room)) in
      let l = r.1 in
      let before = replicate k (Looks q) ++ t.steps in
      let own = l.own in
      let passes : y.shape.passes ≡ l.after.yard.shape.passes = ap (λ (s : Shape). s.passes) (shape_is ∙ sym pl.shape ∙ l.yard.shape) in
      let worn : pin_of l.after.yard q ≢ last_pin = λ is. absurd (omega (arith, is, own, room)) in
      let may : MayStep (Up l.after l.left) (Looks q) = ((low, omega (arith, high, passes)), subst (λ cs. IsNone (caller_at cs q)) (sym l.callers) none, worn) in
      let count = count_pins t.start t.starts before l.after l.left r.0 l.at in
      let set = of_pass_same l.after.yard.words.pins q (pin_of l.after.yard q + 1) 0 low (omega (arith, high, passes, count)) in (
        (subst (λ (w : State). MayStep w (Looks q)) (sym l.at) may, r.0),
        record {
          after = record { yard = looked l.after.yard q; callers = l.after.callers };
          left = l.left;
          at = ap (λ (w : State). state_after (suc (run p before).calls) w (Looks q)) l.at;
          disk_is = l.disk_is;
          callers = l.callers;
          own = set ∙ ap (λ n. n + 1) l.own ∙ omega arith;
          yard = record { shape = l.yard.shape; heads = l.yard.heads; links = l.yard.links; keys = l.yard.keys; halt = l.yard.halt; locks = l.yard.locks; vault = l.yard.vault; uses = l.yard.uses; actors = l.yard.actors };
        },
      )

  medium_is : pl.disk ≡ t.medium
  medium_is = grind (arith, nat_tests, pl)

  found_by : (k q v : ℕ) → 1 ≤ q → q ≤ y.shape.passes → v ≤ last_pin → pin_after q ns + k ≡ v → (k ≡ 0) ⊎ IsNone (caller_at pl.service.callers q) → IsTied opened (found_note q v ∷ ns) y honest disk
  found_by k q v low high worn sum idle =
      let pin = pin_is q low high in
      let looks = ⊎_elim
      (λ (nothing : k ≡ 0). subst (λ k. IsRun p (replicate k (Looks q) ++ t.steps) × Looked k q (run p (replicate k (Looks q) ++ t.steps)).state) (sym nothing)
      (t.runs, record { after = pl.service; left = pl.disk; at = pl.state; disk_is = refl; callers = refl; own = omega arith; yard = alike_is refl }))
      (λ none. looks_run k q low high none (omega (arith, worn, sum, pin)))
      idle in
      let l = looks.1 in
      record {
        start = t.start;
        steps = replicate k (Looks q) ++ t.steps;
        service = l.after;
        medium = l.left;
        starts = t.starts;
        runs = looks.0;
        reads = (
          replicate k (Looks q),
          t.steps,
          refl,
          (
            refl,
            refl,
            record {
              looks = k;
              steps = refl;
              found =
                  λ service medium is. let here : pin_of service.yard q ≡ pin_of pl.service.yard q = ap (λ w. pin_in_state t.start t.starts w q) (sym is ∙ pl.state) in omega
                  (arith, here, pin, sum);
            },
          ),
          t.reads,
        );
        begins = t.begins;
        state = l.at;
        yard = alike_then same_yard l.yard;
        device = λ h. t.device h ∙ sym medium_is ∙ sym l.disk_is;
      }

  -- The pen has found the pin word of a pass: the notes with it are tied.
  pub found_tied : (q v : ℕ) → 1 ≤ q → q ≤ y.shape.passes → PinTold (sizes_of y.shape) ns q v → IsTied opened (found_note q v ∷ ns) y honest disk
  found_tied q v low high told =
      let past = told.past in
      found_by (v - pin_after q ns) q v low high told.worn (omega (arith, past)) (either_way (is_calling (sizes_of y.shape) (steps_of q ns)) refl)
    where
      either_way : (b : Bool) → is_calling (sizes_of y.shape) (steps_of q ns) ≡ b → (v - pin_after q ns ≡ 0) ⊎ IsNone (caller_at pl.service.callers q)
      either_way true is = let same = told.calling is in inl (omega (arith, same))
      either_way false is = inr (idle_is q low is)

  -- the Invoke of a pass without a call may be played
  pub may_invoke : (a : ℕ) (c : Command) → 1 ≤ a → a ≤ y.shape.passes → is_calling (sizes_of y.shape) (steps_of a ns) ≡ false → pin_of y a ≡ pin_after a ns → MayPlay y honest disk a (Invoke c)
  may_invoke a c low high idle pin = record {
    start = t.start;
    service = pl.service;
    medium = pl.disk;
    history = (run p t.steps).marks;
    trace = (run p t.steps).trace;
    reached = record { steps = t.steps; starts = t.starts; runs = t.runs; state = pl.state; marks = refl; trace = refl };
    next = idle_is a low idle;
    yard = with_own_pin a same_yard (pin ∙ sym (pin_is a low high));
    device = λ h. t.device h ∙ sym medium_is;
  }

  -- A pass without a call, outside, makes one: the notes with it are tied to the yard on which its Invoke was played.
  pub called_tied : (a : ℕ) (c : Command) → 1 ≤ a → a ≤ y.shape.passes → is_calling (sizes_of y.shape) (steps_of a ns) ≡ false → IsTrue (is_outside (pin_after a ns)) → key_of c ≤ largest_key
      → IsTied opened (note_by a (Called c y.vault.format) None ∷ ns) (invoked y a c) honest disk
  called_tied a c low high idle outside key =
      let passes : y.shape.passes ≡ pl.service.yard.shape.passes = ap (λ (s : Shape). s.passes) (shape_is ∙ sym pl.shape) in
      let may : MayStep (Up pl.service pl.disk) (Calls a c) = ((low, omega (arith, high, passes)), idle_is a low idle, subst (λ n. IsTrue (is_outside n)) (sym (pin_is a low high)) outside, key) in
      let format : Called c y.vault.format ≡ Called c pl.service.yard.vault.format = ap (λ (v : Vaulted). Called c v.format) same_yard.vault in
      record {
        start = t.start;
        steps = Calls a c ∷ t.steps;
        service = _;
        medium = _;
        starts = t.starts;
        runs = (subst (λ (w : State). MayStep w (Calls a c)) (sym pl.state) may, t.runs);
        reads = (Calls a c ∷ [], t.steps, refl, record { step = Calls a c; steps = refl; tells = subst (λ (w : State). TellsStep w (note_by a (Called c y.vault.format) None) (Calls a c)) (sym pl.state) (refl, format, refl) }, t.reads);
        begins = t.begins;
        state = ap (λ (w : State). state_after (suc (run p t.steps).calls) w (Calls a c)) pl.state;
        yard = invoked_alike a c;
        device = λ h. t.device h ∙ sym medium_is;
      }
    where
      invoked_alike : (a : ℕ) (c : Command) → SameButAllPins (invoked y a c) (invoked pl.service.yard a c)
      invoked_alike a c = record {
        shape = same_yard.shape;
        heads = same_yard.heads;
        links = same_yard.links;
        keys = same_yard.keys;
        halt = same_yard.halt;
        locks = same_yard.locks;
        vault = ap (λ (v : Vaulted). record { format = v.format; cells = v.cells; syncs = v.syncs; dead = v.dead }) same_yard.vault;
        uses = same_yard.uses;
        actors = λ i. set_of_pass (same_yard.actors i) a (record (of_pass (same_yard.actors i) a idle_actor) { refused = is_old (same_yard.vault i).format c });
      }
