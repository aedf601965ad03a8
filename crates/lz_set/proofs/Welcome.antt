-- Passes join the pen one after the other.
use Rattle.std.proofs.Common.{◌≡◌, ◌<◌, ◌≤◌, ◌∷◌, [], arith, ℕ, zero, suc, All, List, length, map, slice_index_or, slice_set, refl, ap, ◌∙◌, subst}
use Rattle.std.proofs.lemmas.List.Elements.{All-nil, All-cons}
use Rattle.lz_list.specs.Traces.{Trace}
use Rattle.lz_board.specs.{declared.{pass.Pass.{Pass}, view.{Note.{Note}, Part.{Part}}}, Notes.{Extends}, Plays.{knowing}, Seats.{BoardId, part}}
use Rattle.lz_set.specs.Left.{IsWelcome}

-- a part that has seen the trace, of which it had seen a beginning, or is as before
abbrev pub HasCome : BoardId → List Note → Trace → ℕ → Part → Part → Type 0
HasCome b ns K zero h g = g ≡ h
HasCome b ns K (suc n) h g = (g ≡ knowing K h) × IsWelcome b ns g × Extends K h.known

-- one fewer
abbrev pub fewer : ℕ → ℕ
fewer zero = zero
fewer (suc n) = n

-- the first n of these parts have seen it, and the others are as before
abbrev pub Welcomed : BoardId → List Note → Trace → ℕ → List Part → List Part → Type 0
Welcomed b ns K n [] [] = Unit {0}
Welcomed b ns K n [] (g ∷ gs) = ⊥
Welcomed b ns K n (h ∷ hs) [] = ⊥
Welcomed b ns K n (h ∷ hs) (g ∷ gs) = HasCome b ns K n h g × Welcomed b ns K (fewer n) hs gs

module _ (b : BoardId) (ns : List Note) (K : Trace) where
  pub none_yet : (hs : List Part) → Welcomed b ns K zero hs hs
  none_yet [] = tt
  none_yet (h ∷ hs) = (refl, none_yet hs)

  pub one_more : (ps : List Pass) (hs : List Part) (n : ℕ) (d x : Pass) → n < length ps → Welcomed b ns K n hs (map (λ p. part p) ps)
      → part x ≡ knowing K (part (slice_index_or ps n d)) → IsWelcome b ns (part x) → Extends K (part (slice_index_or ps n d)).known → Welcomed b ns K (suc n) hs (map (λ p. part p) (slice_set ps n x))
  one_more [] hs n d x lt so seen own since = absurd (omega (arith, lt))
  one_more (p ∷ ps) [] n d x lt so seen own since = absurd so
  one_more (p ∷ ps) (h ∷ hs) zero d x lt so seen own since = ((seen ∙ ap (knowing K) so.0, own, subst (λ (u : Part). Extends K u.known) so.0 since), so.1)
  one_more (p ∷ ps) (h ∷ hs) (suc n) d x lt so seen own since = (so.0, one_more ps hs n d x (omega (arith, lt)) so.1 seen own since)

  pub all_seen : (hs gs : List Part) (n : ℕ) → length gs ≤ n → Welcomed b ns K n hs gs → gs ≡ map (knowing K) hs
  all_seen [] [] n le so = refl
  all_seen [] (g ∷ gs) n le so = absurd so
  all_seen (h ∷ hs) [] n le so = absurd so
  all_seen (h ∷ hs) (g ∷ gs) zero le so = absurd (omega (arith, le))
  all_seen (h ∷ hs) (g ∷ gs) (suc n) le so = λ i. so.0.0 i ∷ all_seen hs gs n (omega (arith, le)) so.1 i

  pub all_own : (hs gs : List Part) (n : ℕ) → length gs ≤ n → Welcomed b ns K n hs gs → All (IsWelcome b ns) gs
  all_own [] [] n le so = All-nil (IsWelcome b ns)
  all_own [] (g ∷ gs) n le so = absurd so
  all_own (h ∷ hs) [] n le so = absurd so
  all_own (h ∷ hs) (g ∷ gs) zero le so = absurd (omega (arith, le))
  all_own (h ∷ hs) (g ∷ gs) (suc n) le so = All-cons (IsWelcome b ns) g gs so.0.1 (all_own hs gs n (omega (arith, le)) so.1)

  pub all_since : (hs gs : List Part) (n : ℕ) → length gs ≤ n → Welcomed b ns K n hs gs → All (λ (h : Part). Extends K h.known) hs
  all_since [] [] n le so = All-nil (λ (h : Part). Extends K h.known)
  all_since [] (g ∷ gs) n le so = absurd so
  all_since (h ∷ hs) [] n le so = absurd so
  all_since (h ∷ hs) (g ∷ gs) zero le so = absurd (omega (arith, le))
  all_since (h ∷ hs) (g ∷ gs) (suc n) le so = All-cons (λ (u : Part). Extends K u.known) h hs so.0.2 (all_since hs gs n (omega (arith, le)) so.1)
