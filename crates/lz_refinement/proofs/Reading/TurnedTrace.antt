-- The trace at which a pass of a run went in is that before the last change of its pin word in the notes.
use Rattle.std.proofs.{lemmas.Bool.{cases_eq, Decides.{nat_tests}}, Common.{◌≡◌, ◌≢◌, ◌⊎◌, inl, inr, ⊎_elim, ℕ, zero, suc, ◌+◌, ◌%◌, ◌≤◌, ◌==◌, Bool, true}}
use Rattle.std.proofs.Common.{false, List, [], ◌∷◌, ◌++◌, refl, sym, ap, ◌∙◌, subst, arith, eq-eqb, ne_eqb, replicate, if◌then◌else◌}
use Rattle.lz_refinement.proofs.Vocabulary.{Medium, Trace, Event, Outcome, Start, IsStart, State, Up, Down, Service, Transition, Looks, Point, run, IsRun, first_point}
use Rattle.lz_refinement.proofs.Vocabulary.{is_out, trace_outside, What, Note, trace_of, pin_after_played, pin_after_what, pin_after, turned_at, IsStep}
use Rattle.lz_refinement.proofs.Reading.{CallPlaces.{place_reads, run_before}, TraceNotes.{looks_trace, trace_reads}}
use Rattle.lz_refinement.{proofs.Reading.PinWords.{still_pin, pin_in_state, looks_pins, pin_reads}, specs.NotedRuns.{TellsOf, TellsOne, TellsLooks, ReadsAs}}
use Rattle.lz_machine.{specs.declared.event.{Event.TheVariants.{Pin, Answer}, Outcome.TheVariants.{Done}}, proofs.Theorem.TraceOutside.{out_now}}
use Rattle.lz_board.specs.declared.view.What.TheVariants.{Called, Played, Found}

-- an event leaves its actor's pin word, or counts it up
played_pin : (e : Event) (o : Outcome) (pin : ℕ) → (pin_after_played e o pin ≡ pin) ⊎ (pin_after_played e o pin ≡ suc pin)
played_pin Pin Done pin = inr refl
played_pin Pin o pin = inl refl
played_pin Answer Done pin = elim (pin % 2 == 0) as (λ (b : Bool). ((if b then pin else suc pin) ≡ pin) ⊎ ((if b then pin else suc pin) ≡ suc pin)) [ true ↦ inl refl | false ↦ inr refl ]
played_pin Answer o pin = inl refl
played_pin e o pin = inl (still_pin e o pin refl)

-- and so does a step of a pass
step_pin : (q p : ℕ) (what : What) (pin : ℕ) → IsStep what → (pin_after_what q p what pin ≡ pin) ⊎ (pin_after_what q p what pin ≡ suc pin)
step_pin q p (Called c format) pin step = inl refl
step_pin q p (Played e o) pin step = grind (arith, nat_tests, played_pin, pin_after_played)
step_pin q p (Found r v) pin step = absurd step

-- the notes before the last change, where the last note is one or isn't
turned_same : (q : ℕ) (opened : Trace) (n : Note) (ns : List Note) → pin_after q (n ∷ ns) ≡ pin_after q ns → turned_at q opened (n ∷ ns) ≡ turned_at q opened ns
turned_same q opened n ns same = ap (λ b. if b then turned_at q opened ns else trace_of opened ns) (eq-eqb (pin_after q (n ∷ ns)) (pin_after q ns) same)

turned_now : (q : ℕ) (opened : Trace) (n : Note) (ns : List Note) → pin_after q (n ∷ ns) ≢ pin_after q ns → turned_at q opened (n ∷ ns) ≡ trace_of opened ns
turned_now q opened n ns away = ap (λ b. if b then turned_at q opened ns else trace_of opened ns) (ne_eqb (pin_after q (n ∷ ns)) (pin_after q ns) away)

module _ (start : Start) (starts : IsStart start) where
  abbrev p : Point
  p = first_point start

  abbrev pin_at : State → ℕ → ℕ
  pin_at = pin_in_state start starts

  odd_in : (w : State) (q : ℕ) → pin_at w q % 2 ≡ 1 → is_out w q ≡ false
  odd_in (Up service disk) q odd = ne_eqb _ 0 (λ even. absurd (omega (arith, odd, even)))
  odd_in (Down shape disk) q odd = absurd (omega (arith, odd))

  even_in : (w : State) (q : ℕ) → pin_at w q % 2 ≡ 0 → is_out w q ≡ true
  even_in (Up service disk) q even = eq-eqb _ 0 even
  even_in (Down shape disk) q even = refl

  -- one more step, after which the pass is inside
  inside_still : (step : Transition) (steps : List Transition) (q : ℕ) → is_out (run p (step ∷ steps)).state q ≡ false → trace_outside p (step ∷ steps) q ≡ trace_outside p steps q
  inside_still step steps q inside = ap (λ b. if b then (run p (step ∷ steps)).trace else trace_outside p steps q) inside

  -- looks of another pass
  looks_still : (k r q : ℕ) (before : List Transition) (service : Service) (disk : Medium) → r ≢ q → IsRun p (replicate k (Looks r) ++ before) → (run p before).state ≡ Up service disk → pin_at (Up service disk) q % 2 ≡ 1
      → trace_outside p (replicate k (Looks r) ++ before) q ≡ trace_outside p before q
  looks_still zero r q before service disk away runs at odd = refl
  looks_still (suc k) r q before service disk away runs at odd =
      let l = looks_pins start starts (suc k) r before service disk runs at in
      inside_still (Looks r) (replicate k (Looks r) ++ before) q
      (ap (λ w. is_out w q) l.at ∙ odd_in (Up l.after l.disk) q (ap (λ v. v % 2) (l.others q (λ is. away (sym is))) ∙ odd))
      ∙ looks_still k r q before service disk away runs.1 at odd

  -- and its own, of which the last led inside
  looks_in : (k q : ℕ) (before : List Transition) (service : Service) (disk : Medium) → IsRun p (replicate (suc k) (Looks q) ++ before) → (run p before).state ≡ Up service disk → (pin_at (Up service disk) q + suc k) % 2 ≡ 1
      → trace_outside p (replicate (suc k) (Looks q) ++ before) q ≡ (run p before).trace
  looks_in k q before service disk runs at odd =
      let l = looks_pins start starts (suc k) q before service disk runs at in
      let l' = looks_pins start starts k q before service disk runs.1 at in
      let own = l'.own in
      inside_still (Looks q) (replicate k (Looks q) ++ before) q (ap (λ w. is_out w q) l.at ∙ odd_in (Up l.after l.disk) q (ap (λ v. v % 2) l.own ∙ odd))
      ∙ out_now p (replicate k (Looks q) ++ before) q (ap (λ w. is_out w q) l'.at ∙ even_in (Up l'.after l'.disk) q (ap (λ v. v % 2) own ∙ even (pin_at (Up service disk) q + k) (ap (λ v. v % 2) (shift (pin_at (Up service disk) q)) ∙ odd)))
      ∙ looks_trace p k q before
    where
      shift : (n : ℕ) → suc (n + k) ≡ n + suc k
      shift n = omega arith

      even : (n : ℕ) → suc n % 2 ≡ 1 → n % 2 ≡ 0
      even n odd = omega (arith, odd)

  pub turned_outside : (ns : List Note) (steps : List Transition) → IsRun p steps → ReadsAs p ns steps → (q : ℕ) → 1 ≤ q → q ≤ start.shape.passes → pin_after q ns % 2 ≡ 1
      → trace_outside p steps q ≡ turned_at q p.trace ns
  turned_outside [] steps runs reads q low high odd = absurd (omega (arith, odd))
  turned_outside (n ∷ ns) steps runs (new, before, is, tells, reads) q low high odd =
      let runs' = subst (IsRun p) is runs in
      let past = run_before p new before runs' in
      let was = pin_reads start starts ns before past reads q low high in
      let now = pin_reads start starts (n ∷ ns) (new ++ before) runs' (new, before, refl, tells, reads) q low high in
      let pl = place_reads start ns before past reads in
      ap (λ l. trace_outside p l q) is ∙ go (turned_outside ns before past reads q low high) pl.service pl.disk pl.state (ap (λ w. pin_at w q) (sym pl.state) ∙ was) runs' now n.what refl tells
    where
      Goal : Type 0
      Goal = trace_outside p (new ++ before) q ≡ turned_at q p.trace (n ∷ ns)

      Earlier : Type 0
      Earlier = pin_after q ns % 2 ≡ 1 → trace_outside p before q ≡ turned_at q p.trace ns

      -- the pin word was even before, and so another one
      moved : pin_after q ns % 2 ≡ 0 → pin_after q (n ∷ ns) ≢ pin_after q ns
      moved even same = let e = sym odd ∙ ap (λ v. v % 2) same ∙ even in absurd (omega (arith, e))

      one : Earlier → pin_at (run p before).state q ≡ pin_after q ns → pin_at (run p (new ++ before)).state q ≡ pin_after q (n ∷ ns) → IsStep n.what → TellsOne (run p before).state n new → Goal
      one earlier was now step t =
          ap (λ l. trace_outside p (l ++ before) q) t.steps
          ∙ inside_still t.step before q (odd_in (run p (t.step ∷ before)).state q (ap (λ v. v % 2) (ap (λ l. pin_at (run p (l ++ before)).state q) (sym t.steps) ∙ now) ∙ odd))
          ∙ ⊎_elim
          (λ (same : pin_after q (n ∷ ns) ≡ pin_after q ns). earlier (ap (λ v. v % 2) (sym same) ∙ odd) ∙ sym (turned_same q p.trace n ns same))
          (λ more. let even : pin_after q ns % 2 ≡ 0 = omega (arith, odd, more) in
          out_now p before q (even_in (run p before).state q (ap (λ v. v % 2) was ∙ even)) ∙ trace_reads p ns before reads ∙ sym (turned_now q p.trace n ns (moved even)))
          (step_pin q n.by n.what (pin_after q ns) step)

      found : Earlier → (service : Service) (disk : Medium) → (run p before).state ≡ Up service disk → pin_at (Up service disk) q ≡ pin_after q ns → IsRun p (new ++ before) → (r v : ℕ) → n.what ≡ Found r v → TellsLooks (run p before).state r v new → Goal
      found earlier service disk at was runs r v what t =
          ap (λ l. trace_outside p (l ++ before) q) t.steps
          ∙ ⊎_elim
          (λ (here : r ≡ q). own here t.looks (subst (λ l. IsRun p (l ++ before)) t.steps runs) (t.found service disk at))
          (λ (away : r ≢ q).
          let same : pin_after q (n ∷ ns) ≡ pin_after q ns = ap (λ w. pin_after_what q n.by w (pin_after q ns)) what ∙ ap (λ b. if b then v else pin_after q ns) (ne_eqb r q away) in
          let odd' : pin_after q ns % 2 ≡ 1 = ap (λ w. w % 2) (sym same) ∙ odd in
          looks_still t.looks r q before service disk away (subst (λ l. IsRun p (l ++ before)) t.steps runs) at (ap (λ w. w % 2) was ∙ odd') ∙ earlier odd' ∙ sym (turned_same q p.trace n ns same))
          (cases_eq r q)
        where
          value : r ≡ q → pin_after q (n ∷ ns) ≡ v
          value here = ap (λ w. pin_after_what q n.by w (pin_after q ns)) what ∙ ap (λ b. if b then v else pin_after q ns) (eq-eqb r q here)

          own : r ≡ q → (k : ℕ) → IsRun p (replicate k (Looks r) ++ before) → pin_at (Up service disk) r + k ≡ v → trace_outside p (replicate k (Looks r) ++ before) q ≡ turned_at q p.trace (n ∷ ns)
          own here zero runs is = grind (arith, value, turned_same)
          own here (suc k) runs is =
              let count : pin_at (Up service disk) q + suc k ≡ pin_after q (n ∷ ns) = ap (λ r. pin_at (Up service disk) r + suc k) (sym here) ∙ is ∙ sym (value here) in
              ap (λ r. trace_outside p (replicate (suc k) (Looks r) ++ before) q) here
              ∙ looks_in k q before service disk (subst (λ r. IsRun p (replicate (suc k) (Looks r) ++ before)) here runs) at (ap (λ w. w % 2) count ∙ odd)
              ∙ trace_reads p ns before reads
              ∙ sym (turned_now q p.trace n ns (λ same. let b = was in absurd (omega (arith, count, same, b))))

      go : Earlier → (service : Service) (disk : Medium) → (run p before).state ≡ Up service disk → pin_at (Up service disk) q ≡ pin_after q ns → IsRun p (new ++ before)
          → pin_at (run p (new ++ before)).state q ≡ pin_after q (n ∷ ns) → (what : What) → n.what ≡ what → TellsOf (run p before).state n what new → Goal
      go earlier service disk at was runs now (Found r v) same t = found earlier service disk at was runs r v same t.2
      go earlier service disk at was runs now _ same t = one earlier (ap (λ w. pin_at w q) at ∙ was) now (subst IsStep (sym same) tt) t
