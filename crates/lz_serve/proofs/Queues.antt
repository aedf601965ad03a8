-- Queues of tokens: what is put behind the others, and what is taken out.
use Rattle.std.proofs.Common.{◌≡◌, ◌<◌, ◌==◌, ◌||◌, ◌++◌, inl, inr, ℕ, Bool, true, false, List, [], ◌∷◌, length, get_or, set, refl, sym, ap, ◌∙◌, subst}
use Rattle.std.proofs.lemmas.Bool.{cases_eq, cases_lt, eq-eqb, eqb-false, ne_eqb, or_from, or_left, or_parts, or_right, true≢false}
use Rattle.std.proofs.lemmas.List.{get_or-set_other, get_or-set_same, get_or_past}
use Rattle.lz_serve.specs.Queues.{AreApart, IsQueue, is_in}

pub in_last : (token : ℕ) (queue : List ℕ) → is_in token (queue ++ token ∷ []) ≡ true
in_last token [] = or_left (token == token) false (eq-eqb token token refl)
in_last token (t ∷ queue) = or_right (t == token) (is_in token (queue ++ token ∷ [])) (in_last token queue)

pub in_before : (t token : ℕ) (queue : List ℕ) → (token ≡ t → ⊥) → is_in t (queue ++ token ∷ []) ≡ is_in t queue
in_before t token [] other = or_from (token == t) false (ne_eqb token t other) refl
in_before t token (x ∷ queue) other = ap (λ (b : Bool). (x == t) || b) (in_before t token queue other)

apart_pushed : (token : ℕ) (queue : List ℕ) → AreApart queue → is_in token queue ≡ false → AreApart (queue ++ token ∷ [])
apart_pushed token [] apart out = (refl, tt)
apart_pushed token (t ∷ queue) apart out =
    let parts = or_parts (t == token) (is_in token queue) out in (in_before t token queue (λ same. eqb-false t token parts.0 (sym same)) ∙ apart.0, apart_pushed token queue apart.1 parts.1)

-- what has no flag doesn't stand there
pub flagged_within : (queue : List ℕ) (flags : List Bool) (token : ℕ) → IsQueue queue flags → is_in token queue ≡ true → token < length flags
flagged_within queue flags token is stands =
    elim (cases_lt token (length flags)) as (λ _. token < length flags) [
      | inl less ↦ less
      | inr past ↦ absurd (true≢false (sym stands ∙ sym (is.flagged token) ∙ get_or_past flags token false past))
    ]

pub is_put : (queue : List ℕ) (flags : List Bool) (token : ℕ) → IsQueue queue flags → is_in token queue ≡ false → token < length flags → IsQueue (queue ++ token ∷ []) (set flags token true)
is_put queue flags token is out within = record {
  apart = apart_pushed token queue is.apart out;
  flagged = λ t.
      elim (cases_eq token t) as (λ _. get_or (set flags token true) t false ≡ is_in t (queue ++ token ∷ [])) [
        | inl same ↦ subst (λ (n : ℕ). get_or (set flags token true) n false ≡ is_in n (queue ++ token ∷ [])) same (get_or-set_same flags token true false within ∙ sym (in_last token queue))
        | inr other ↦ get_or-set_other flags token t true false (λ same. other (sym same)) ∙ is.flagged t ∙ sym (in_before t token queue other)
      ];
}
