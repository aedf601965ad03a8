-- Keys that are told, each kept once.
use Rattle.std.proofs.Common.{◌≡◌, ◌≢◌, ℕ, suc, ◌+◌, ◌<◌, ◌≤◌, inl, inr, List, [], ◌∷◌, ◌++◌, length, take, get_or, true, false, Option, Some, None, refl, sym}
use Rattle.std.proofs.{Common.{ap, subst, ◌∙◌, arith, append_assoc}, Math.Seq.{take-suc}, lemmas.Bool.{eq-eqb, Decides.{nat_tests}}}
use Rattle.std.proofs.lemmas.{Grind.{common_steps, elements}, List.{Elements.{All-nil, All-push}, Folds.{list_any-append}}}
use Rattle.std.{proofs.lemmas.Map.Keys.{IsDistinct-push}, specs.{Prelude.{map, nat_eq, ◌||◌, ◌==◌, is_some, MatchOption}, Cmp.{nat_eq_equiv}}}
use Rattle.std.specs.List.{IsDistinct, list_any}
use Rattle.lz_slot.specs.{Limits.{largest_key}, Sets.{members}}
use Rattle.lz_scan_client.specs.Told.{AddsOnce, AreOnce}

pub none_twice : IsDistinct nat_eq []
unfolding IsDistinct
none_twice = tt

-- nothing was told yet
pub none_told : AreOnce [] []
none_told = record { same = λ k. refl; once = none_twice; fit = All-nil _ }

-- a key that isn't among some is another than each of them
pub unlike : (ks : List ℕ) (k : ℕ) → members ks k ≡ false → list_any (nat_eq k) ks ≡ false
unlike ks k none = grind (arith, common_steps, elements)

-- what a test tells of a list with one more at its end
one_more : (ks : List ℕ) (k j : ℕ) → members (ks ++ k ∷ []) j ≡ (members ks j || ((k == j) || false))
one_more ks k j = list_any-append (λ q. q == j) ks (k ∷ [])

again : (keys : List ℕ) (k j : ℕ) → members keys k ≡ true → members keys j ≡ (members keys j || ((k == j) || false))
again keys k j here = grind (arith, nat_tests)

-- one more was told
pub told_more : (told old new : List ℕ) (k : ℕ) → AreOnce told old → AddsOnce k old new → AreOnce (told ++ k ∷ []) new
told_more told old new k are (inl (here, is)) = grind (arith, again, one_more)
told_more told old new k are (inr (none, fits, is)) = subst (λ (ks : List ℕ). AreOnce (told ++ k ∷ []) ks) (sym is) (record {
  same = λ j. one_more old k j ∙ ap (λ b. b || ((k == j) || false)) (are.same j) ∙ sym (one_more told k j);
  once = IsDistinct-push nat_eq_equiv old k are.once (unlike old k none);
  fit = All-push (λ j. j ≤ largest_key) old k are.fit fits;
})

-- the keys of a page, one more of which was told
pub keys_more : (d : ℕ) (page told old new : List ℕ) (i : ℕ) → i < length page → AreOnce (told ++ take i page) old → AddsOnce (get_or page i d) old new → AreOnce (told ++ take (i + 1) page) new
keys_more d page told old new i low are adds =
    let front = take i page in
    let k = get_or page i d in
    let next : i + 1 ≡ suc i = omega arith in
    let whole : told ++ take (i + 1) page ≡ (told ++ front) ++ k ∷ [] =
    ap (λ (ks : List ℕ). told ++ ks) (ap (λ (n : ℕ). take n page) next ∙ take-suc page i d low) ∙ sym (append_assoc told front (k ∷ [])) in
    subst (λ (ts : List ℕ). AreOnce ts new) (sym whole) (told_more (told ++ front) old new k are adds)

-- a key that stands somewhere among some is one of them, and one that stands nowhere isn't
member_at : (ks : List ℕ) (i k : ℕ) → get_or (map Some ks) i None ≡ Some k → members ks k ≡ true
member_at [] i k is = absurd cc
member_at (q ∷ ks) i k is = grind (arith, nat_tests, member_at ks, eq-eqb)

member_nowhere : (ks : List ℕ) (k : ℕ) → ((i : ℕ) → get_or (map Some ks) i None ≢ Some k) → members ks k ≡ false
member_nowhere [] k none = refl
member_nowhere (q ∷ ks) k none =
    let other : q ≢ k = λ same. none 0 (ap Some same) in
    let ih = member_nowhere ks k (λ i. none (suc i)) in
    grind (arith, nat_tests, other, ih)

-- what was found in a table of them tells whether it is one of them
pub member_found : (ks : List ℕ) (k rank : ℕ) (found : Option ℕ) → rank ≡ k
    → MatchOption found ((i : ℕ) → get_or (map Some ks) i None ≢ Some rank) (λ i. get_or (map Some ks) i None ≡ Some rank) → members ks k ≡ is_some found
member_found ks k rank found same none = grind (arith, nat_tests, member_nowhere, member_at)
