-- The clients of a service that stops, of which the first ones were refused what they had that wasn't begun.
use Rattle.std.proofs.Common.{◌≡◌, ◌⊎◌, ◌≤◌, ◌<◌, ◌+◌, inl, inr, ℕ, zero, suc, List, [], ◌∷◌, Option, None, IfSome, length, slice_get, refl, sym, ap, subst, ◌∙◌, arith}
use Rattle.std.proofs.lemmas.Bool.{cases_lt, cases_order}
use Rattle.lz_serve.{specs.Clients.{Asker, Askers, ChangesAt, Keeps, RefusesAt, RefusesOf}, proofs.Crowds.{keeps_same, keeps_then}}

-- those of so many places were, and the others are as they were
pub record Refused (count : ℕ) (old new : Askers) : Type 0 where
  pub kept : Keeps old new
  pub refused : (token : ℕ) → token < count → RefusesAt old token new
  pub others : (token : ℕ) → count ≤ token → slice_get new.clients token ≡ slice_get old.clients token

pub refused_none : (old new : Askers) → new ≡ old → Refused 0 old new
refused_none old new is =
    record {
      kept = keeps_same old new is;
      refused = λ token low. absurd (omega (arith, low));
      others = λ token high. ap (λ (a : Askers). slice_get a.clients token) is;
    }

-- the client of a place, of what is known of those before
so_of : (before was now new : Option (Option Asker)) → before ≡ was → new ≡ now → IfSome was (λ a. IfSome now (λ b. RefusesOf a b)) → IfSome before (λ a. IfSome new (λ b. RefusesOf a b))
so_of before was now new old_is new_is so =
    subst (λ (o : Option (Option Asker)). IfSome o (λ a. IfSome new (λ b. RefusesOf a b))) (sym old_is) (subst (λ (n : Option (Option Asker)). IfSome was (λ a. IfSome n (λ b. RefusesOf a b))) (sym new_is) so)

one_so : (count token : ℕ) (old mid new : Askers) → Refused count old mid → RefusesAt mid count new → ChangesAt count mid new → token < count + 1 → (token ≡ count) ⊎ ((token < count) ⊎ (count < token)) → RefusesAt old token new
one_so count token old mid new was one changes low (inl same) =
    subst (λ (t : ℕ). RefusesAt old t new) (sym same)
    (so_of (slice_get old.clients count) (slice_get mid.clients count) (slice_get new.clients count) (slice_get new.clients count) (sym (was.others count (omega arith))) refl one)
one_so count token old mid new was one changes low (inr (inl less)) =
    so_of (slice_get old.clients token) (slice_get old.clients token) (slice_get mid.clients token) (slice_get new.clients token) refl (changes token (λ same. absurd (omega (arith, same, less)))) (was.refused token less)
one_so count token old mid new was one changes low (inr (inr more)) = absurd (omega (arith, low, more))

pub refused_one : (count : ℕ) (old mid new : Askers) → Refused count old mid → Keeps mid new → RefusesAt mid count new → ChangesAt count mid new → Refused (count + 1) old new
refused_one count old mid new was keeps one changes =
    record {
      kept = keeps_then old mid new was.kept keeps;
      refused = λ token low. one_so count token old mid new was one changes low (cases_order token count);
      others = λ token high. changes token (λ same. absurd (omega (arith, same, high))) ∙ was.others token (omega (arith, high));
    }

no_client : (clients : List (Option Asker)) (token : ℕ) → length clients ≤ token → slice_get clients token ≡ None
no_client [] token high = refl
no_client (c ∷ clients) zero high = absurd (omega (arith, high))
no_client (c ∷ clients) (suc token) high = no_client clients token (omega (arith, high))

none_there : (old new : Askers) (token : ℕ) → length old.clients ≤ token → RefusesAt old token new
none_there old new token high =
    subst (λ (o : Option (Option Asker)). IfSome o (λ a. IfSome (slice_get new.clients token) (λ b. RefusesOf a b))) (sym (no_client old.clients token high)) tt

all_so : (count token : ℕ) (old new : Askers) → Refused count old new → length old.clients ≤ count → (token < count) ⊎ (count ≤ token) → RefusesAt old token new
all_so count token old new was all (inl less) = was.refused token less
all_so count token old new was all (inr more) = none_there old new token (omega (arith, all, more))

-- each client was, where all places were gone through
pub refused_all : (count : ℕ) (old new : Askers) → Refused count old new → length old.clients ≤ count → (token : ℕ) → RefusesAt old token new
refused_all count old new was all token = all_so count token old new was all (cases_lt token count)
