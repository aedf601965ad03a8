-- Notes with all loads of a pass put in are read as a run that differs in the pass's call alone.
use Rattle.std.proofs.Common.{◌≡◌, ℕ, ◌≤◌, List, [], ◌∷◌, ◌++◌, length, refl, sym, ap, ◌∙◌, subst, arith}
use Rattle.lz_refinement.proofs.Vocabulary.{Start, IsStart, State, Up, Down, Transition, Turn, Point, run, IsRun, first_point, SameBut, Sizes, Note, Load, trace_of}
use Rattle.lz_refinement.proofs.{Vocabulary.{steps_of, splice, Quiet, InOrder, Shown, AllShown, place}, Splicing.LoadInsertion.{insert_reads}}
use Rattle.lz_refinement.specs.NotedRuns.{ReadsAs, AreNext, IsHopAt}
use Rattle.lz_board.proofs.Upkeep.Splice.{trace_splice, steps_splice, quiet_splice, least_load}

same_refl : (a : ℕ) (w : State) → SameBut a w w
same_refl a (Up service disk) = (refl, refl, λ b away. refl)
same_refl a (Down shape disk) = (refl, refl)

same_trans : (a : ℕ) (w x y : State) → SameBut a w x → SameBut a x y → SameBut a w y
same_trans a (Up s d) (Up s' d') (Up s'' d'') one other = (one.0 ∙ other.0, one.1 ∙ other.1, λ b away. one.2 b away ∙ other.2 b away)
same_trans a (Up s d) (Up s' d') (Down k d'') one other = absurd other
same_trans a (Up s d) (Down k d') y one other = absurd one
same_trans a (Down k d) (Up s d') y one other = absurd one
same_trans a (Down k d) (Down k' d') (Up s d'') one other = absurd other
same_trans a (Down k d) (Down k' d') (Down k'' d'') one other = (one.0 ∙ other.0, one.1 ∙ other.1)

module _ (start : Start) (starts : IsStart start) (a : ℕ) (low : 1 ≤ a) where
  abbrev p : Point
  p = first_point start

  abbrev z : Sizes
  z = record { slots = start.shape.slots; buckets = start.shape.buckets; passes = start.shape.passes }

  pub record Spliced (steps : List Transition) (ns : List Note) : Type 0 where
    pub all : List Transition
    pub runs : IsRun p all
    pub reads : ReadsAs p ns all
    pub marks : (run p all).marks ≡ (run p steps).marks
    pub state : SameBut a (run p steps).state (run p all).state

  pub splice_reads : (base top : ℕ) (hs : List Load) (ns : List Note) (steps : List Transition) → IsRun p steps → ReadsAs p ns steps → Quiet p.trace a base ns → length p.trace ≤ base → InOrder base hs top → AllShown z (trace_of p.trace ns) hs
      → AreNext start.shape a hs (steps_of a ns) → Spliced steps (splice p.trace a hs ns)
  splice_reads base top [] ns steps runs reads quiet least order shown next = record { all = steps; runs = runs; reads = reads; marks = refl; state = same_refl a (run p steps).state }
  splice_reads base top (h ∷ hs) ns steps runs reads quiet least order shown next =
      let r = splice_reads base h.at hs ns steps runs reads quiet least order.1 shown.1 next.1 in
      let now = splice p.trace a hs ns in
      let own = steps_splice p.trace a base h.at hs ns quiet least order.1 in
      let past = least_load base h.at hs order.1 in
      let one = insert_reads start starts a low h now r.all r.runs r.reads (quiet_splice p.trace a base h.at hs ns quiet least order.1) (omega (arith, least, past))
      (subst (λ P. Shown z P h) (sym (trace_splice p.trace a hs ns)) shown.0) (subst (λ l. IsHopAt start.shape h (place start.shape l)) (sym own) next.0) in
      record {
        all = one.later ++ Turn a ∷ one.before;
        runs = one.keeps.runs;
        reads = one.reads;
        marks = one.keeps.marks ∙ ap (λ l. (run p l).marks) (sym one.splits) ∙ r.marks;
        state = same_trans a (run p steps).state (run p r.all).state (run p (one.later ++ Turn a ∷ one.before)).state r.state (subst (λ l. SameBut a (run p l).state (run p (one.later ++ Turn a ∷ one.before)).state) (sym one.splits) one.keeps.state);
      }
