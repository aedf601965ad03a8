-- The views of all seats, and the parts at one, where one view is put for another.
use Rattle.std.proofs.Common.{◌≡◌, ◌≢◌, ◌⊎◌, inl, inr, ⊎_elim, ℕ, zero, suc, ◌<◌, ◌==◌, cond, List, [], ◌∷◌, ◌++◌, map, length, set, refl, sym, ap, ◌∙◌, arith}
use Rattle.std.proofs.Common.{eq-eqb, ne_eqb}
use mathlib.Core.Option.{some, some-ne-none, some-injective}
use lib.ListN.{get_elem?}
use Rattle.atomic_table.proofs.Lists.{at_set}
use Rattle.lz_board.specs.{declared.view.{Part.{Part}, View.{View}}, Kept.{IsPart, Apart}}

pub replaced : (F : ℕ → View → Type 0) (views : List View) (i : ℕ) (w : View) → F i w → ((j : ℕ) (u : View) → j ≢ i → get_elem? views j ≡ some u → F j u) → (j : ℕ) (u : View) → get_elem? (set views i w) j ≡ some u → F j u
replaced F views i w mine others j u e = grind (arith, at_set)

pub from_map : (f : Part → Part) (hs : List Part) (g : Part) → IsPart (map f hs) g → (h : Part) × IsPart hs h × (g ≡ f h)
from_map f [] g (n, e) = absurd (some-ne-none g (sym e))
from_map f (h ∷ hs) g (zero, e) = (h, (0, refl), sym (some-injective (f h) g e))
from_map f (h ∷ hs) g (suc n, e) = let r = from_map f hs g (n, e) in (r.0, (suc r.1.0, r.1.1), r.2)

pub apart_map : (f : Part → Part) → ((h : Part) → (f h).number ≡ h.number) → (hs : List Part) → Apart hs → Apart (map f hs)
apart_map f same [] a = tt
apart_map f same (h ∷ hs) a = ((λ g is. let r = from_map f hs g is in λ e. a.0 r.0 r.1 (sym (same r.0) ∙ (sym (ap (λ (x : Part). x.number) r.2) ∙ e) ∙ same h)), apart_map f same hs a.1)

pub one_part : (h g : Part) → IsPart (h ∷ []) g → h ≡ g
one_part h g (zero, e) = some-injective h g e
one_part h g (suc n, e) = absurd (some-ne-none g (sym e))

pub at_end : {A : Type 0} (l : List A) (a b : A) (j : ℕ) → get_elem? (l ++ a ∷ []) j ≡ some b → ((j < length l) × (get_elem? l j ≡ some b)) ⊎ ((j ≡ length l) × (a ≡ b))
at_end [] a b zero e = inr (refl, some-injective a b e)
at_end [] a b (suc j) e = absurd (some-ne-none b (sym e))
at_end (x ∷ xs) a b zero e = inl (omega arith, e)
at_end (x ∷ xs) a b (suc j) e = ⊎_elim (λ t. let l = t.0 in inl (omega arith, t.1)) (λ t. let l = t.0 in inr (omega arith, t.1)) (at_end xs a b j e)

pub moved : ℕ → ℕ → (ℕ → ℕ) → ℕ → ℕ
moved p new_owner owner q = cond (q == p) new_owner (owner q)

pub moved_same : (p i : ℕ) (owner : ℕ → ℕ) → moved p i owner p ≡ i
unfolding moved
moved_same p i owner = ap (λ b. cond b i (owner p)) (eq-eqb p p refl)

pub moved_other : (p i : ℕ) (owner : ℕ → ℕ) (q : ℕ) → q ≢ p → moved p i owner q ≡ owner q
unfolding moved
moved_other p i owner q ne = ap (λ b. cond b i (owner q)) (ne_eqb q p ne)

pub part_of_both : (xs ys : List Part) (g : Part) → IsPart (xs ++ ys) g → IsPart xs g ⊎ IsPart ys g
part_of_both [] ys g is = inr is
part_of_both (x ∷ xs) ys g (zero, e) = inl (0, e)
part_of_both (x ∷ xs) ys g (suc n, e) = ⊎_elim (λ t. inl (suc t.0, t.1)) (λ t. inr t) (part_of_both xs ys g (n, e))

pub apart_both : (xs ys : List Part) → Apart xs → Apart ys → ((h g : Part) → IsPart xs h → IsPart ys g → ¬ (g.number ≡ h.number)) → Apart (xs ++ ys)
apart_both [] ys a b c = b
apart_both (x ∷ xs) ys a b c = ((λ g is. ⊎_elim (λ l. a.0 g l) (λ r. c x g (0, refl) r) (part_of_both xs ys g is)), apart_both xs ys a.1 b (λ h g l r. c h g (suc l.0, l.1) r))

pub given : ℕ → ℕ → (ℕ → ℕ) → ℕ → ℕ
given other id owner q = cond (owner q == other) id (owner q)

pub given_moved : (other id : ℕ) (owner : ℕ → ℕ) (q : ℕ) → owner q ≡ other → given other id owner q ≡ id
unfolding given
given_moved other id owner q e = ap (λ b. cond b id (owner q)) (eq-eqb (owner q) other e)

pub given_kept : (other id : ℕ) (owner : ℕ → ℕ) (q : ℕ) → owner q ≢ other → given other id owner q ≡ owner q
unfolding given
given_kept other id owner q ne = ap (λ b. cond b id (owner q)) (ne_eqb (owner q) other ne)
