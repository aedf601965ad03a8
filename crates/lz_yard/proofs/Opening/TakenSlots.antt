-- The slots that an open finds taken are those of its members.
use Rattle.std.proofs.Common.{◌≡◌, inl, inr, ℕ, zero, suc, ◌+◌, ◌<◌, Bool, true, false, ◌==◌, List, [], ◌∷◌, ◌++◌, length, sym, ap, ◌∙◌, arith}
use Rattle.std.proofs.{Math.Numerals.{add-one}, lemmas.{Bool.{cases_eq, cases_lt, cases_Bool, Decides.{nat_tests}}, List.{append-nil, Elements.{All-append}}}}
use Rattle.std.{proofs.lemmas.List.Folds.{list_any-append}, specs.{Prelude.{All, Option, Some, None, is_some, nat_lt, ◌&&◌, if◌then◌else◌}, List.{list_any}}}
use mathlib.Core.Bool.{false≢true}
use Rattle.lz_slot.specs.Nodes.{has_node}
use Rattle.lz_vault.specs.{Stages.{Cell}, Members.{AreMembers, member_at}}
use Rattle.lz_list.{specs.Traces.{Chain, has_slot}, proofs.Chains.ChainNode.{node_slot}}
use Rattle.lz_yard.{specs.Filling.{taken_among}, proofs.Opening.MemberNodes.{slot_node}}

module _ (cells : List Cell) where
  -- a slot that is taken, or one that isn't
  abbrev one_if : Bool → ℕ → List ℕ
  one_if b n = if b then n ∷ [] else []

  -- one slot more
  pub taken_more : (n : ℕ) → true ≡ is_some (member_at cells n) → taken_among cells n ++ n ∷ [] ≡ taken_among cells (n + 1)
  taken_more n is = sym (ap (taken_among cells) (add-one n) ∙ ap (λ b. taken_among cells n ++ one_if b n) (sym is))

  pub taken_same : (n : ℕ) → false ≡ is_some (member_at cells n) → taken_among cells n ≡ taken_among cells (n + 1)
  taken_same n is = sym (ap (taken_among cells) (add-one n) ∙ ap (λ b. taken_among cells n ++ one_if b n) (sym is) ∙ append-nil (taken_among cells n))

  one_low : (b : Bool) (n : ℕ) → All (λ s. s < suc n) (one_if b n)
  one_low b n i d low = grind arith

  pub taken_low : (n : ℕ) → All (λ s. s < n) (taken_among cells n)
  taken_low zero i d low = absurd (omega (arith, low))
  taken_low (suc n) i d low =
      All-append (λ s. s < suc n) (taken_among cells n) (one_if (is_some (member_at cells n)) n) (λ j e lower. omega (arith, taken_low n j e lower)) (one_low (is_some (member_at cells n)) n) i d low

  one_any : (b : Bool) (n s : ℕ) → list_any (λ (t : ℕ). t == s) (one_if b n) ≡ ((n == s) && b)
  one_any _ n s = grind (arith, nat_tests)

  is_taken : (s n : ℕ) → list_any (λ (t : ℕ). t == s) (taken_among cells n) ≡ (nat_lt s n && is_some (member_at cells s))
  is_taken s zero = grind (arith, nat_tests)
  is_taken s (suc n) = grind (arith, nat_tests, list_any-append, is_taken s n, one_any, cases_eq)

  module _ (es : Chain) (are : AreMembers cells (length cells) es) where
    abbrev N : ℕ
    N = length cells

    has_it : (s k : ℕ) → has_node k s es ≡ true → has_slot s es ≡ (nat_lt s N && is_some (member_at cells s))
    has_it s k there = grind (arith, nat_tests, node_slot)

    has_none : (s : ℕ) → has_slot s es ≡ false → (o : Option ℕ) → member_at cells s ≡ o → false ≡ (nat_lt s N && is_some o)
    has_none s none None is = grind (arith, nat_tests)
    has_none s none (Some k) is = elim (cases_lt s N) [
      | inl low ↦ let has = node_slot k s es (are.all k s low is) in absurd (false≢true (sym none ∙ has))
      | inr high ↦ grind (arith, nat_tests, high)
    ]

    pub has_taken : (s : ℕ) → list_any (λ (t : ℕ). t == s) (taken_among cells N) ≡ has_slot s es
    has_taken s = grind (arith, is_taken, cases_Bool, slot_node, has_it, has_none)
