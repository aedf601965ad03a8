-- In a set of one pass the notes are its steps and what the pen found.
use Rattle.std.proofs.Common.{◌≡◌, inl, inr, ⊎_elim, ℕ, List, [], ◌∷◌, sym, ap, ◌∙◌, subst, arith}
use Rattle.lz_refinement.proofs.{Vocabulary.{Device, Yard, Sizes, Note, Part, shape_of_sizes, Knows, knowing, BoardId, Trace}, Marks.RunningSet.{locked_sizes}}
use Rattle.lz_refinement.{proofs.{Marks.WholeHistory.{AreByPasses, notes_by_passes}, Sessions.AloneMarks.{AreSole, alone_marks}}, specs.Holds.{IsLocked}}
use Rattle.lz_refinement.specs.{OwnCalls.{told}, Sessions.{TellsAlone, marks_alone}}

are_sole : (passes : ℕ) → passes ≡ 1 → (ns : List Note) → AreByPasses passes ns → AreSole 1 ns
are_sole passes one [] all = tt
are_sole passes one (n ∷ ns) all = (⊎_elim (λ range. let low = range.0 in let high = range.1 in inl (omega (arith, low, high, one))) (λ found. inr found) all.0, are_sole passes one ns all.1)

module _ (b : BoardId) (ns : List Note) (y : Yard) (dev : Device) (locked : IsLocked b ns y dev) where
  locked_read : AreByPasses locked.tied.start.shape.passes ns
  locked_read = let t = locked.tied in notes_by_passes t.start ns t.steps t.runs t.reads

  -- the pass of a set of one pass has all calls of its history
  pub tells_alone : (h : Part) → Knows b.sizes b.opened ns h → b.sizes.passes ≡ 1 → (seen : Trace) → TellsAlone b ns (knowing seen h)
  tells_alone h knows one seen =
      let t = locked.tied in
      let low = knows.numbered.0 in
      let high = knows.numbered.1 in
      let number : h.number ≡ 1 = omega (arith, low, high, one) in
      let passes : t.start.shape.passes ≡ 1 = ap (λ (z : Sizes). z.passes) (sym (locked_sizes b ns y dev locked)) ∙ one in
      let sole = subst (λ (p : ℕ). AreSole p ns) (sym number) (are_sole t.start.shape.passes passes ns locked_read) in
      alone_marks (shape_of_sizes b.sizes) h.number ns sole ∙ ap (λ l. marks_alone h.number (told (shape_of_sizes b.sizes) l)) knows.noted
