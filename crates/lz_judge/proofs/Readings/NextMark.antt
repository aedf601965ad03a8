-- One mark, or one point, more in a pass.
use Rattle.std.specs.BTreeMap as tree
use Rattle.std.specs.BTreeSet as set
use Rattle.std.proofs.Common.{arith, ◌≡◌, ◌≢◌, ◌⊎◌, inl, inr, ⊎_elim, ℕ, ◌+◌, ◌<◌, Bool, true, false, List, [], ◌∷◌, length, get_or, take, sym, refl, ◌∙◌, ap}
use Rattle.std.proofs.Common.{subst, Option, Some, None, Result, Ok, Err, reverse, IsSome, OnOk, is_some, BTreeMap, BTreeSet, nat_cmp}
use Rattle.std.proofs.lemmas.{Bool.Decides.{nat_tests}, List.{reverse-append, take_more}, Option.{same_Some}}
use Rattle.lz_slot.specs.{declared.history.{Refusal.{Refusal}, HistoryEvent.{HistoryEvent, TheVariants.{Answer, Refused}}}, Histories.{IsAnswered, IsRefused}}
use Rattle.lz_judge.specs.{declared.history.Point.{Point}, Records.{IsPoint}, Readings.{Strangers, RefusedOnes, UnlistedOnes}}

-- one element more of a list that is read newest first
pub newest_at : {X : Type 0} (xs : List X) (i : ℕ) (d : X) → i < length xs → reverse (take (i + 1) xs) ≡ get_or xs i d ∷ reverse (take i xs)
newest_at {X} xs i d lt = ap reverse (take_more xs i d lt) ∙ reverse-append (take i xs) (get_or xs i d ∷ [])

pub newest_more : {X : Type 0} (xs : List X) (i : ℕ) (x : X) → i < length xs → x ≡ get_or xs i x → reverse (take (i + 1) xs) ≡ x ∷ reverse (take i xs)
newest_more {X} xs i x lt is = newest_at xs i x lt ∙ ap (λ (y : X). y ∷ reverse (take i xs)) (sym is)

-- what the lesser of two numbers is
abbrev pub IsLesser : Option ℕ → ℕ → Option ℕ → Type 0
IsLesser least n result = (result ≡ Some n) ⊎ ((result ≡ least) × IsSome result)

some_is : (r : Option ℕ) → IsSome r → r ≡ None → ⊥
some_is None there is = absurd (cc)
some_is (Some n) there is = cc

pub lesser_some : (least : Option ℕ) (n : ℕ) (result : Option ℕ) → IsLesser least n result → result ≡ None → ⊥
lesser_some least n result (inl is) none = let e : Some n ≡ None = sym is ∙ none in cc
lesser_some least n result (inr (is, there)) none = some_is result there none

pub lesser_one : (P : ℕ → Type 0) (least : Option ℕ) (n : ℕ) (result : Option ℕ) → IsLesser least n result → P n → ((i : ℕ) → least ≡ Some i → P i) → (i : ℕ) → result ≡ Some i → P i
lesser_one P least n result (inl is) here before i at = subst P (same_Some n i (sym is ∙ at)) here
lesser_one P least n result (inr (is, there)) here before i at = before i (sym is ∙ at)

-- points of calls, and of numbers that are no call's
pub strangers_called : (points : List Point) (point : Point) (calls : BTreeSet ℕ) (least : Option ℕ) → set.contains nat_cmp calls point.call ≡ true → Strangers points calls least → Strangers (point ∷ points) calls least
strangers_called points point calls least called before = record {
  found = λ i at. let f = before.found i at in ((f.0.0, inr f.0.1), f.1);
  none = λ none i p at. ⊎_elim (λ here. subst (λ (n : ℕ). set.contains nat_cmp calls n ≡ true) here.0 called) (λ there. before.none none i p there) at;
}

pub strangers_uncalled : (points : List Point) (point : Point) (calls : BTreeSet ℕ) (least result : Option ℕ) → set.contains nat_cmp calls point.call ≡ false → IsLesser least point.call result → Strangers points calls least
    → Strangers (point ∷ points) calls result
strangers_uncalled points point calls least result called lesser before = record {
  found = lesser_one (λ (i : ℕ). ((p : ℕ) × IsPoint (point ∷ points) i p) × (set.contains nat_cmp calls i ≡ false)) least point.call result lesser
      ((point.place, inl (refl, refl)), called) (λ i at. let f = before.found i at in ((f.0.0, inr f.0.1), f.1));
  none = λ none. absurd (lesser_some least point.call result lesser none);
}

-- answers of calls with a place, and without
pub unlisted_listed : (M : List HistoryEvent) (places : BTreeMap ℕ ℕ) (least : Option ℕ) (n : ℕ) (answer : Bool) → ((p : ℕ) × (tree.get nat_cmp places n ≡ Some p)) → UnlistedOnes M places least → UnlistedOnes (Answer n answer ∷ M) places least
unlisted_listed M places least n answer listed before = record {
  found = λ i at. let f = before.found i at in ((f.0.0, inr f.0.1), f.1);
  none = λ none i told at. ⊎_elim
      (λ here. let same : n ≡ i = cc in subst (λ (j : ℕ). (p : ℕ) × (tree.get nat_cmp places j ≡ Some p)) same listed)
      (λ there. before.none none i told there)
      at;
}

pub unlisted_more : (M : List HistoryEvent) (places : BTreeMap ℕ ℕ) (least result : Option ℕ) (n : ℕ) (answer : Bool) → tree.get nat_cmp places n ≡ None → IsLesser least n result → UnlistedOnes M places least
    → UnlistedOnes (Answer n answer ∷ M) places result
unlisted_more M places least result n answer none lesser before = record {
  found = lesser_one (λ (i : ℕ). ((told : Bool) × IsAnswered (Answer n answer ∷ M) i told) × (tree.get nat_cmp places i ≡ None)) least n result lesser
      ((answer, inl refl), none) (λ i at. let f = before.found i at in ((f.0.0, inr f.0.1), f.1));
  none = λ none. absurd (lesser_some least n result lesser none);
}

pub unlisted_other : (M : List HistoryEvent) (places : BTreeMap ℕ ℕ) (least : Option ℕ) (m : HistoryEvent) → ((n : ℕ) (answer : Bool) → m ≢ Answer n answer) → UnlistedOnes M places least → UnlistedOnes (m ∷ M) places least
unlisted_other M places least m other before = record {
  found = λ i at. let f = before.found i at in ((f.0.0, inr f.0.1), f.1);
  none = λ none i told at. ⊎_elim (λ here. absurd (other i told here)) (λ there. before.none none i told there) at;
}

-- refusals of calls with a place
pub refused_more : (M : List HistoryEvent) (places : BTreeMap ℕ ℕ) (least result : Option ℕ) (n : ℕ) (why : Refusal) → ((p : ℕ) × (tree.get nat_cmp places n ≡ Some p)) → IsLesser least n result → RefusedOnes M places least
    → RefusedOnes (Refused n why ∷ M) places result
refused_more M places least result n why listed lesser before = record {
  found = lesser_one (λ (i : ℕ). IsRefused (Refused n why ∷ M) i × ((p : ℕ) × (tree.get nat_cmp places i ≡ Some p))) least n result lesser
      ((why, inl refl), listed) (λ i at. let f = before.found i at in ((f.0.0, inr f.0.1), f.1));
  none = λ none. absurd (lesser_some least n result lesser none);
}

-- what a test of a map says
pub some_there : {X : Type 0} (r : Option X) → is_some r ≡ true → (x : X) × (r ≡ Some x)
some_there None is = absurd (cc)
some_there (Some x) is = (x, refl)

pub none_there : {X : Type 0} (r : Option X) → is_some r ≡ false → r ≡ None
none_there None is = refl
none_there (Some x) is = absurd (cc)

pub refused_unlisted : (M : List HistoryEvent) (places : BTreeMap ℕ ℕ) (least : Option ℕ) (n : ℕ) (why : Refusal) → tree.get nat_cmp places n ≡ None → RefusedOnes M places least → RefusedOnes (Refused n why ∷ M) places least
refused_unlisted M places least n why unlisted before = grind (arith, nat_tests, nat_cmp)

-- what holds anyway holds where a call succeeded
pub on_ok : {T E : Type 0} (r : Result T E) (P : Type 0) → P → OnOk r P
on_ok (Ok x) P p = p
on_ok (Err e) P p = tt
