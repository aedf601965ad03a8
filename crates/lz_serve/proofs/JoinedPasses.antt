-- Passes that threads hand back, one after the other.
use Rattle.std.proofs.Common.{◌≡◌, ◌⊎◌, ⊎_elim, Bool, true, false, ◌||◌, All, ℕ, ◌<◌, List, [], ◌∷◌, ◌++◌, map, refl, sym, subst, append_assoc, arith}
use Rattle.std.proofs.lemmas.List.{get_or-map, get_or_append_left, length-append, length-map, Elements.{All-append}, Quantifiers.{Any-push}}
use Rattle.std.specs.List.{Any, list_any}
use Rattle.lz_board.specs.{declared.{pass.Pass.{Pass}, view.Part.{Part}}, Seats.{part}}
use Rattle.lz_serve.specs.{Halts.{IsCalm, IsCalmAfter}, Services.{parts_of}}

module _ {X : Type 0} (P : X → Type 0) (xs ys : List X) (x : X) (pushed : ys ≡ xs ++ x ∷ []) where
  -- what holds of each still does
  pub all_back : All P xs → P x → All P ys
  all_back each new = subst (All P) (sym pushed) (All-append P xs (x ∷ []) each (λ k d low. grind arith))

  here_or_before : Any P xs → Any P (xs ++ x ∷ [])
  here_or_before (k, y, low, at, holds) = grind (arith, length-append, get_or_append_left)

  -- it holds of one of them, where it held of one before, or holds of the last
  pub one_back : (was found now : Bool) → (was ≡ true → Any P xs) → (found ≡ true → P x) → now ≡ true → (now ≡ true → (was ≡ true) ⊎ (found ≡ true)) → Any P ys
  one_back was found now before last is or =
      subst (Any P) (sym pushed) (⊎_elim (λ w. here_or_before (before w)) (λ f. Any-push P xs x (last f)) (or is))

-- what holds of all parts holds of each pass's
each_part : (P : Part → Type 0) (ps : List Pass) → All P (map (λ p. part p) ps) → All (λ p. P (part p)) ps
each_part P ps all = λ k d low. subst P (get_or-map (λ p. part p) ps k d (part d) low) (all k (part d) (subst (λ (n : ℕ). k < n) (sym (length-map ps (λ p. part p))) low))

-- each of these passes is calm, if all their parts are
pub calm_after : (ps : List Pass) → All (IsCalmAfter (parts_of ps)) ps
calm_after ps = λ k d low calm. each_part IsCalm ps calm k d low

-- those that were handed back and those that are left are all, one after the other
module _ {X : Type 0} (left rest : List X) (x : X) (first : left ≡ x ∷ rest) where
  pub handed_on : {Y : Type 0} (f : X → Y) (xs ys all : List Y) (y : Y) → ys ≡ xs ++ y ∷ [] → y ≡ f x → xs ++ map f left ≡ all → ys ++ map f rest ≡ all
  handed_on {Y} f xs ys all y pushed is so = grind (arith, append_assoc)

  either_on : (a b c : Bool) → ((a || b) || c) ≡ (a || (b || c))
  either_on true b c = refl
  either_on false b c = refl

  pub found_on : (p : X → Bool) (was found now all : Bool) → now ≡ (was || found) → found ≡ p x → (was || list_any p left) ≡ all → (now || list_any p rest) ≡ all
  found_on p was found now all either is so = grind (arith, either_on)
