-- A listing goes on by one slot, and stays one for who had seen less before and has seen more after.
use Rattle.std.proofs.Common.{◌≡◌, ◌⊎◌, inl, inr, ℕ, zero, suc, ◌+◌, ◌≤◌, true, Some, None, List, [], ◌∷◌, ◌++◌, All, sym, subst, arith}
use Rattle.std.proofs.lemmas.{Bool.{cases_eq}, List.Elements.{All-append, Contains-append_left, Contains-append_right}}
use Rattle.lz_slot.specs.Limits.{largest_key}
use Rattle.lz_list.{specs.Traces.{Trace, Begins}, proofs.Traces.Absence.{begins_itself}}
use Rattle.lz_board.{specs.{Glances.{Glanced}, Listings.{WasAway, Listed}}, proofs.Walk.GlanceAnswer.{between_longer}}

module _ (A P Q B : Trace) (before : Begins A P) (after : Begins Q B) where
  pub glanced_longer : (k : ℕ) → Glanced k P Q true → Glanced k A B true
  glanced_longer k g = record { then = g.then; between = between_longer A P g.then Q B before after g.between; settled = g.settled }

  away_longer : (s k : ℕ) → WasAway s k P Q → WasAway s k A B
  away_longer s k w = record { then = w.then; between = between_longer A P w.then Q B before after w.between; away = w.away }

  pub listed_longer : (from upto : ℕ) (told : List ℕ) → Listed from upto told P Q → Listed from upto told A B
  listed_longer from upto told l = record {
    were = λ n d low. glanced_longer _ (l.were n d low);
    others = λ s k low high small. elim (l.others s k low high small) [
      | inl there ↦ inl there
      | inr away ↦ inr (away_longer s k away)
    ];
  }

module _ (from i : ℕ) (told : List ℕ) (P Q B : Trace) (more : Begins Q B) (l : Listed from i told P Q) where
  later : Listed from i told P B
  later = listed_longer P P Q B (begins_itself P) more from i told l

  pub listed_some : (key : ℕ) → Glanced key P B true → ((k : ℕ) → k ≤ largest_key → (Some key ≡ Some k) ⊎ WasAway i k P B) → Listed from (i + 1) (told ++ key ∷ []) P B
  listed_some key was others = record {
    were = All-append (λ k. Glanced k P B true) told (key ∷ []) later.were (single key was);
    others = λ s k low high small. elim (cases_eq s i) [
      | inl same ↦ elim (others k small) [
        | inl is ↦ inl (Contains-append_right told (key ∷ []) k (0, omega arith, the_same key k is))
        | inr away ↦ inr (subst (λ (t : ℕ). WasAway t k P B) (sym same) away)
      ]
      | inr other ↦ elim (later.others s k low (omega (arith, high, other)) small) [
        | inl there ↦ inl (Contains-append_left told (key ∷ []) k there)
        | inr away ↦ inr away
      ]
    ];
  }
    where
      single : (key : ℕ) → Glanced key P B true → All (λ k. Glanced k P B true) (key ∷ [])
      single key was zero d low = was
      single key was (suc n) d low = absurd (omega (arith, low))

      the_same : (a b : ℕ) → Some a ≡ Some b → a ≡ b
      the_same a b is = cc is

  pub listed_next : ((k : ℕ) → k ≤ largest_key → (None ≡ Some k) ⊎ WasAway i k P B) → Listed from (i + 1) told P B
  listed_next others = record {
    were = later.were;
    others = λ s k low high small. elim (cases_eq s i) [
      | inl same ↦ elim (others k small) [
        | inl is ↦ absurd (cc is)
        | inr away ↦ inr (subst (λ (t : ℕ). WasAway t k P B) (sym same) away)
      ]
      | inr other ↦ later.others s k low (omega (arith, high, other)) small
    ];
  }
