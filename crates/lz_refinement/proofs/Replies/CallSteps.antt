-- The steps of a call, from its beginning to its Answer.
use Rattle.std.proofs.{Common.{arith, ◌≡◌, ℕ, List, [], ◌∷◌, ◌++◌, map, refl, ap, ◌∙◌, append_assoc, Some, None}, lemmas.Bool.Decides.{nat_tests}}
use Rattle.lz_refinement.proofs.Vocabulary.{Command, Format, Reply, Shape, Note, Load, note_by, load_note, place, placed, stamped}
use Rattle.lz_refinement.specs.Answers.{reserved_by, last_reserve, AreWithin, IsOneCall}
use Rattle.lz_machine.specs.declared.{event.{Event.TheVariants.{Answer}, Outcome.TheVariants.{Done}}, caller.Progress.TheVariants.{Answering}}
use Rattle.lz_board.specs.declared.view.What.TheVariants.{Called, Played}

module _ (p : ℕ) (format : Format) (c : Command) where
  abbrev call_note : Note
  call_note = note_by p (Called c format) None

  -- the steps of a call that has answered, by the moment of its Answer, its last loads and the steps before them
  abbrev pub call_steps : ℕ → List Load → List Note → List Note
  call_steps m loads within = stamped m (note_by p (Played Answer Done) None) ∷ ((map (load_note p) loads ++ within) ++ call_note ∷ [])

  -- the place of a call rests on no step before its beginning
  pub place_since : (shape : Shape) (within rest : List Note) → place shape (within ++ call_note ∷ rest) ≡ place shape (within ++ call_note ∷ [])
  place_since shape [] rest = refl
  place_since shape (n ∷ ns) rest = ap (placed shape n.what) (place_since shape ns rest)

  pub loads_within : (loads : List Load) (within : List Note) → AreWithin within → AreWithin (map (load_note p) loads ++ within)
  loads_within [] within only = only
  loads_within (h ∷ hs) within only = (tt, loads_within hs within only)

  pub one_call : (shape : Shape) (reply : Reply) (m : ℕ) (loads : List Load) (within rest : List Note) → AreWithin within → place shape (map (load_note p) loads ++ (within ++ call_note ∷ rest)) ≡ Some (c, Answering reply) → IsOneCall shape p format c reply (call_steps m loads within)
  one_call shape reply m loads within rest only at = grind (arith, nat_tests, load_note, loads_within, place_since, place, append_assoc)

  -- they stand before the steps that the pass had
  pub steps_since : (m : ℕ) (loads : List Load) (within rest : List Note) → stamped m (note_by p (Played Answer Done) None) ∷ (map (load_note p) loads ++ (within ++ call_note ∷ rest)) ≡ call_steps m loads within ++ rest
  steps_since m loads within rest = grind (arith, nat_tests, stamped, note_by, append_assoc, load_note)

  -- the last slot that was asked for
  reserve_called : (within : List Note) → last_reserve (within ++ call_note ∷ []) ≡ last_reserve within
  reserve_called [] = refl
  reserve_called (n ∷ ns) = ap (reserved_by n.what) (reserve_called ns)

  reserve_loaded : (loads : List Load) (within : List Note) → last_reserve (map (load_note p) loads ++ within) ≡ last_reserve within
  reserve_loaded [] within = refl
  reserve_loaded (h ∷ hs) within = reserve_loaded hs within

  pub same_reserve : (m : ℕ) (loads : List Load) (within : List Note) → last_reserve (call_steps m loads within) ≡ last_reserve within
  same_reserve m loads within = reserve_called (map (load_note p) loads ++ within) ∙ reserve_loaded loads within
