-- What some beginning of the notes might have left is left by a beginning of them too once more is noted, also where a pass's
-- loads are put in.
use Rattle.std.proofs.Common.{◌≡◌, ◌⊎◌, inl, inr, ⊎_elim, ℕ, ◌<◌, ◌≤◌, List, [], ◌∷◌, ◌++◌, length, refl, sym, ap, ◌∙◌, subst, arith}
use Rattle.lz_refinement.proofs.Vocabulary.{Medium, Trace, State, Up, Down, Service, Turn, run, first_point, SameBut, Sizes, Note, Load, trace_of, steps_of, load_note}
use Rattle.lz_refinement.proofs.Vocabulary.{insert_load, splice, Quiet, InOrder, Shown, AllShown, place, shape_of_sizes}
use Rattle.lz_refinement.{proofs.Splicing.LoadInsertion.{shorter, insert_reads}, specs.{NotedRuns.{ReadsAs, AreNext, IsHopAt}, Moments.{IsLeftBy}}}
use Rattle.lz_board.proofs.Upkeep.Splice.{at_place, other_step, least_load, trace_splice, steps_splice, quiet_splice}

-- one more note
pub more_left : (z : Sizes) (opened : Trace) (n : Note) (ns : List Note) (t : List ℕ) → IsLeftBy z opened ns t → IsLeftBy z opened (n ∷ ns) t
more_left z opened n ns t l = let g = l.begun in record {
  begun = record { later = n ∷ g.later; before = g.before; splits = ap (λ r. n ∷ r) g.splits; start = g.start; steps = g.steps; sizes = g.sizes; starts = g.starts; runs = g.runs; reads = g.reads; begins = g.begins };
  service = l.service;
  medium = l.medium;
  state = l.state;
  leaves = l.leaves;
}

-- a state that differs in one call has the same disk
same_medium : (a : ℕ) (service : Service) (medium : Medium) (w : State) → SameBut a (Up service medium) w → (other : Service) × (w ≡ Up other medium)
same_medium a service medium (Up other disk) same = (other, ap (λ d. Up other d) (sym same.1))
same_medium a service medium (Down shape disk) same = absurd same

module _ (z : Sizes) (opened : Trace) (a : ℕ) (h : Load) where
  -- the load goes into these notes, at a place where it is the pass's next event
  record GoesInto (before now : List Note) : Type 0 where
    is : now ≡ insert_load opened a h before
    quiet : Quiet opened a h.at before
    shown : Shown z (trace_of opened before) h
    hop : IsHopAt (shape_of_sizes z) h (place (shape_of_sizes z) (steps_of a before))

  -- of notes that begin with these, with the load put in: it goes after them, or into them
  record Sunk (before ns : List Note) : Type 0 where
    later : List Note
    now : List Note
    splits : ns ≡ later ++ now
    goes : (now ≡ before) ⊎ GoesInto before now

  sink : (later before : List Note) → Quiet opened a h.at (later ++ before) → Shown z (trace_of opened (later ++ before)) h → IsHopAt (shape_of_sizes z) h (place (shape_of_sizes z) (steps_of a (later ++ before))) → Sunk before (insert_load opened a h (later ++ before))
  sink [] before quiet shown hop = record { later = []; now = insert_load opened a h before; splits = refl; goes = inr (record { is = refl; quiet = quiet; shown = shown; hop = hop }) }
  sink (x ∷ xs) before quiet shown hop = at_place opened (Sunk before) a h x (xs ++ before) (over (sink xs before)) (λ at. record { later = load_note a h ∷ x ∷ xs; now = before; splits = refl; goes = inl refl })
    where
      over : (Quiet opened a h.at (xs ++ before) → Shown z (trace_of opened (xs ++ before)) h → IsHopAt (shape_of_sizes z) h (place (shape_of_sizes z) (steps_of a (xs ++ before))) → Sunk before (insert_load opened a h (xs ++ before)))
          → h.at < length (trace_of opened (x ∷ xs ++ before)) → Sunk before (x ∷ insert_load opened a h (xs ++ before))
      over next past =
          let away = quiet.0 past in
          let l = shown.long in
          let hop' = subst (λ r. IsHopAt (shape_of_sizes z) h (place (shape_of_sizes z) r)) (other_step opened a x (xs ++ before) away) hop in
          let shown' : Shown z (trace_of opened (xs ++ before)) h = record { seen = shown.seen; begins = shorter x.published (trace_of opened (xs ++ before)) shown.seen shown.begins (omega (arith, past, l)); long = shown.long; shared = shown.shared; value = shown.value } in
          let r = next quiet.1 shown' hop' in
          record { later = x ∷ r.later; now = r.now; splits = ap (λ l. x ∷ l) r.splits; goes = r.goes }

  -- one load
  insert_left : (low : 1 ≤ a) (ns : List Note) (t : List ℕ) → Quiet opened a h.at ns → length opened ≤ h.at → Shown z (trace_of opened ns) h → IsHopAt (shape_of_sizes z) h (place (shape_of_sizes z) (steps_of a ns)) → IsLeftBy z opened ns t → IsLeftBy z opened (insert_load opened a h ns) t
  insert_left low ns t quiet least shown hop l =
      let g = l.begun in
      let s = sink g.later g.before (subst (Quiet opened a h.at) g.splits quiet) (subst (λ r. Shown z (trace_of opened r) h) g.splits shown) (subst (λ r. IsHopAt (shape_of_sizes z) h (place (shape_of_sizes z) (steps_of a r))) g.splits hop) in
      let splits : insert_load opened a h ns ≡ s.later ++ s.now = ap (λ r. insert_load opened a h r) g.splits ∙ s.splits in
      ⊎_elim (behind s.later s.now splits) (into s.later s.now splits) s.goes
    where
      behind : (later now : List Note) → insert_load opened a h ns ≡ later ++ now → now ≡ l.begun.before → IsLeftBy z opened (insert_load opened a h ns) t
      behind later now splits same = let g = l.begun in record {
        begun = record { later = later; before = g.before; splits = splits ∙ ap (λ r. later ++ r) same; start = g.start; steps = g.steps; sizes = g.sizes; starts = g.starts; runs = g.runs; reads = g.reads; begins = g.begins };
        service = l.service;
        medium = l.medium;
        state = l.state;
        leaves = l.leaves;
      }

      into : (later now : List Note) → insert_load opened a h ns ≡ later ++ now → GoesInto l.begun.before now → IsLeftBy z opened (insert_load opened a h ns) t
      into later now splits goes =
          let g = l.begun in
          let p = first_point g.start in
          let r = insert_reads g.start g.starts a low h g.before g.steps g.runs g.reads
          (subst (λ P. Quiet P a h.at g.before) g.begins goes.quiet) (subst (λ P. length P ≤ h.at) g.begins least)
          (subst (λ (x : Sizes × Trace). Shown x.0 (trace_of x.1 g.before) h) (λ i. (g.sizes i, g.begins i)) goes.shown)
          (subst (λ s. IsHopAt s h (place s (steps_of a g.before))) (ap shape_of_sizes g.sizes) goes.hop) in
          let all = r.later ++ Turn a ∷ r.before in
          let w = same_medium a l.service l.medium (run p all).state (subst (λ s. SameBut a s (run p all).state) (ap (λ q. (run p q).state) (sym r.splits) ∙ l.state) r.keeps.state) in
          record {
            begun = record {
              later = later;
              before = now;
              splits = splits;
              start = g.start;
              steps = all;
              sizes = g.sizes;
              starts = g.starts;
              runs = r.keeps.runs;
              reads = subst (λ q. ReadsAs p q all) (ap (λ P. insert_load P a h g.before) (sym g.begins) ∙ sym goes.is) r.reads;
              begins = g.begins;
            };
            service = w.0;
            medium = l.medium;
            state = w.1;
            leaves = l.leaves;
          }

-- all loads of a pass
pub splice_left : (z : Sizes) (opened : Trace) (a : ℕ) → 1 ≤ a → (base top : ℕ) (hs : List Load) (ns : List Note) (t : List ℕ) → Quiet opened a base ns → length opened ≤ base → InOrder base hs top → AllShown z (trace_of opened ns) hs
    → AreNext (shape_of_sizes z) a hs (steps_of a ns) → IsLeftBy z opened ns t → IsLeftBy z opened (splice opened a hs ns) t
splice_left z opened a low base top [] ns t quiet least order shown next l = l
splice_left z opened a low base top (h ∷ hs) ns t quiet least order shown next l =
    let own = steps_splice opened a base h.at hs ns quiet least order.1 in
    let past = least_load base h.at hs order.1 in
    insert_left z opened a h low (splice opened a hs ns) t (quiet_splice opened a base h.at hs ns quiet least order.1) (omega (arith, least, past))
    (subst (λ P. Shown z P h) (sym (trace_splice opened a hs ns)) shown.0) (subst (λ r. IsHopAt (shape_of_sizes z) h (place (shape_of_sizes z) r)) (sym own) next.0)
    (splice_left z opened a low base h.at hs ns t quiet least order.1 shown.1 next.1 l)
