-- Worked rows: what no closed set has left with the passes that were handed back.
use Rattle.std.proofs.Common.{◌≡◌, ℕ, suc, List, [], ◌∷◌, ◌++◌, map, None, refl, sym, ap, ◌∙◌, subst, lit<, arith}
use Rattle.lz_slot.specs.declared.{command.Command.TheVariants.{Add}, format.Format.TheVariants.{Two}}
use Rattle.lz_disk.specs.Devices.{Device}
use Rattle.lz_list.specs.{declared.publishing.Publishing.TheVariants.{Linked as linked}, Traces.{Trace}}
use Rattle.lz_board.specs.{declared.view.{Note.{Note}, Part.{Part}, What.TheVariants.{Called}}, Notes.{note_by, shape_of_sizes, steps_of, trace_of}}
use Rattle.lz_board.specs.Seats.{BoardId, first_of}
use Rattle.lz_refinement.{specs.{Marks.{marks_in}, OwnCalls.{calls_of, shown, told, unnumbered}, Sessions.{marks_alone}}, proofs.MomentRows.{board, later}}
use Rattle.lz_set.specs.Left.{IsLeftWith, IsWelcome}

-- a call of this pass
abbrev call_of : ℕ → Note
call_of p = note_by p (Called (Add 12) Two) None

module _ (b : BoardId) (first disk : Device) (h : Part) where
  -- none had seen more than what was published
  had_seen_more : (after : List Part) (left : IsLeftWith b first disk (h ∷ []) after) → h.known ≡ linked 12 0 1 ∷ [] → trace_of b.opened left.notes ≡ [] → ⊥
  had_seen_more after left saw none =
      let since = left.since 0 h (lit< tt) in go since.0 (sym none ∙ since.1 ∙ ap (λ (P : Trace). since.0 ++ P) saw)
    where
      go : (more : Trace) → [] ≡ more ++ linked 12 0 1 ∷ [] → ⊥
      go [] is = absurd cc
      go (e ∷ more) is = absurd cc

  -- none is lost, and none is changed, but that it has seen all
  is_lost : IsLeftWith b first disk (h ∷ []) [] → ⊥
  is_lost left = let is = left.seen in absurd cc

  goes_inside : (after : Part) → after.pin ≡ suc h.pin → IsLeftWith b first disk (h ∷ []) (after ∷ []) → ⊥
  goes_inside after moved left = let same = ap (λ (l : List Part). (first_of l).pin) left.seen in omega (arith, moved, same)

  saw_too_little : (after : Part) (left : IsLeftWith b first disk (h ∷ []) (after ∷ [])) → after.known ≡ [] → trace_of b.opened left.notes ≡ linked 12 0 1 ∷ [] → ⊥
  saw_too_little after left unseen some = let is = sym unseen ∙ ap (λ (l : List Part). (first_of l).known) left.seen ∙ some in absurd cc

  -- and each is welcome: the notes have its steps
  has_more_steps : (after : Part) (left : IsLeftWith b first disk (h ∷ []) (after ∷ [])) → left.notes ≡ [] → after.steps ≡ call_of 1 ∷ [] → ⊥
  has_more_steps after left none some =
      let noted = (left.welcome 0 after (lit< tt)).noted in
      let is = subst (λ (ns : List Note). steps_of after.number ns ≡ after.steps) none noted ∙ some in
      absurd cc

-- The notes have no step of a pass that it hasn't made, and no call of it.
module _ (h : Part) (none : h.steps ≡ []) where
  not_its_step : (b : BoardId) → h.number ≡ 1 → IsWelcome b (call_of 1 ∷ []) h → ⊥
  not_its_step b number w = let is = subst (λ (p : ℕ). steps_of p (call_of 1 ∷ []) ≡ h.steps) number w.noted ∙ none in absurd cc

  not_its_calls : h.number ≡ 1 → IsWelcome board later h → ⊥
  not_its_calls number w =
      let own = subst (λ (p : ℕ). map unnumbered (calls_of p (marks_in (shape_of_sizes board.sizes) later)) ≡ map shown (told (shape_of_sizes board.sizes) h.steps)) number w.own in
      let is = own ∙ ap (λ (steps : List Note). map shown (told (shape_of_sizes board.sizes) steps)) none in
      absurd cc

  -- where it is alone nobody else has made one
  not_alone : IsWelcome board (call_of 2 ∷ []) h → ⊥
  not_alone w =
      let alone = w.alone refl in
      let is = alone ∙ ap (λ (steps : List Note). marks_alone h.number (told (shape_of_sizes board.sizes) steps)) none in
      absurd cc
