-- A life's calls in the order of their places fit it.
use Rattle.std.specs.BTreeMap as tree
use Rattle.std.proofs.Common.{◌≡◌, ◌≢◌, ◌⊎◌, inl, inr, ⊎_elim, ℕ, ◌<◌, ◌≤◌, Bool, true, false, List, [], ◌∷◌, sym, refl, ◌∙◌, ap, arith, Some, map, nat_cmp}
use Rattle.std.proofs.{Common.{Less}, lemmas.{Map.Keys.{sorted_head, sorted_tail}, Option.{same_Some}, Bool.{cases_eq, Decides.{nat_tests, eqb_tells}}}}
use Rattle.std.specs.{Map.{values_of, keys_of, lookup}, BTreeMap.{BTreeMap, is_at}, List.{AllByRecursion, Sorted.{IsStrictlySortedBy}}}
use Rattle.lz_slot.specs.{Sets.{Keys, Same, after}, declared.history.HistoryEvent.{HistoryEvent}, Histories.{IsAnswered, IsCalled, IsEarlier, IsListed, Runs, count_of}}
use Rattle.lz_slot.proofs.Sets.{after_same}
use Rattle.lz_judge.specs.{Records.{IsMade}, Flaws.{IsInOrder}, Readings.{IsAt}, Plays.{IsLife, Plays}, declared.playing.Listed.{Listed}}

abbrev pub Among : {X : Type 0} → X → List X → Type 0
Among x [] = ⊥
Among x (y ∷ ys) = (y ≡ x) ⊎ Among x ys

abbrev pub calls_of : List Listed → List ℕ
calls_of calls = map (λ l. l.call) calls

-- each call lies below those after it
abbrev pub Rises : BTreeMap ℕ ℕ → List Listed → Type 0
Rises places [] = Unit {0}
Rises places (l ∷ calls) = ((m : Listed) (p q : ℕ) → Among m calls → IsAt places l.call p → IsAt places m.call q → p < q) × Rises places calls

pub value_among : (es : List (ℕ × Listed)) (p : ℕ) (l : Listed) → Among (p, l) es → Among l (values_of es)
value_among [] p l is = is
value_among (e ∷ es) p l is = ⊎_elim (λ here. inl (ap (λ (x : ℕ × Listed). x.1) here)) (λ there. inr (value_among es p l there)) is

pub among_value : (es : List (ℕ × Listed)) (l : Listed) → Among l (values_of es) → (p : ℕ) × Among (p, l) es
among_value [] l is = absurd is
among_value (e ∷ es) l is = ⊎_elim (λ here. (e.0, inl (λ i. (e.0, here i)))) (λ there. let (p, at) = among_value es l there in (p, inr at)) is

-- the keys of a map ascend
above_head : (k : ℕ) (es : List (ℕ × Listed)) → AllByRecursion (λ y. nat_cmp k y ≡ Less) (keys_of es) → (q : ℕ) (m : Listed) → Among (q, m) es → k < q
above_head k [] all q m is = absurd is
above_head k (e ∷ es) all q m is = grind (arith, nat_tests, nat_cmp, above_head k es all.1 q m)

at_same : (a b : ℕ) → a ≡ b → is_at (nat_cmp a) b ≡ true
at_same a b same = grind (arith, nat_tests)

at_apart : (a b : ℕ) → a ≢ b → is_at (nat_cmp a) b ≡ false
at_apart a b apart = grind (arith, nat_tests)

pub lookup_among : (es : List (ℕ × Listed)) (p : ℕ) (l : Listed) → lookup (is_at (nat_cmp p)) es ≡ Some l → Among (p, l) es
lookup_among [] p l is = absurd (cc)
lookup_among (e ∷ es) p l is = grind (arith, nat_tests, nat_cmp, at_same, same_Some, lookup_among es p l, at_apart, cases_eq)

pub among_lookup : (es : List (ℕ × Listed)) (p : ℕ) (l : Listed) → IsStrictlySortedBy nat_cmp (keys_of es) → Among (p, l) es → lookup (is_at (nat_cmp p)) es ≡ Some l
among_lookup [] p l sorted is = absurd is
among_lookup (e ∷ es) p l sorted is = ⊎_elim
    (λ here.
    let e0 : e.0 ≡ p = ap (λ (x : ℕ × Listed). x.0) here in
    let on : is_at (nat_cmp p) e.0 ≡ true = at_same p e.0 (sym e0) in
    rw on (ap (λ (x : ℕ × Listed). Some x.1) here))
    (λ there.
    let above = above_head e.0 es (sorted_head nat_cmp e.0 (keys_of es) sorted) p l there in
    let off : is_at (nat_cmp p) e.0 ≡ false = at_apart p e.0 (λ same. absurd (omega (arith, above, same))) in
    rw off (among_lookup es p l (sorted_tail nat_cmp e.0 (keys_of es) sorted) there))
    is

-- by a map's order the calls rise
pub rises : (places : BTreeMap ℕ ℕ) (es : List (ℕ × Listed)) → IsStrictlySortedBy nat_cmp (keys_of es) → ((p : ℕ) (l : Listed) → Among (p, l) es → IsAt places l.call p) → Rises places (values_of es)
rises places [] sorted each = tt
rises places (e ∷ es) sorted each = (
  λ m p q at here there.
      let (r, among) = among_value es m at in
      let low = same_Some p e.0 (sym here ∙ each e.0 e.1 (inl refl)) in
      let high = same_Some q r (sym there ∙ each r m (inr among)) in
      let lt = above_head e.0 es (sorted_head nat_cmp e.0 (keys_of es) sorted) r m among in
      omega (arith, low, high, lt),
  rises places es (sorted_tail nat_cmp e.0 (keys_of es) sorted) (λ p l at. each p l (inr at)),
)

pub listed_among : (calls : List Listed) (i : ℕ) → IsListed i (calls_of calls) → (l : Listed) × Among l calls × (l.call ≡ i)
listed_among [] i is = absurd is
listed_among (l ∷ calls) i is = ⊎_elim (λ here. (l, inl refl, here)) (λ there. let (m, at, same) = listed_among calls i there in (m, inr at, same)) is

pub among_listed : (calls : List Listed) (l : Listed) → Among l calls → IsListed l.call (calls_of calls)
among_listed [] l is = absurd is
among_listed (m ∷ calls) l is = ⊎_elim (λ here. inl (ap (λ (x : Listed). x.call) here)) (λ there. inr (among_listed calls l there)) is

unlisted_count : (i : ℕ) (L : List ℕ) → (IsListed i L → ⊥) → count_of i L ≡ 0
unlisted_count i [] never = refl
unlisted_count i (j ∷ L) never = grind (arith, eqb_tells, unlisted_count i L (λ there. never (inr there)))

module _ (places : BTreeMap ℕ ℕ) where
  abbrev pub HavePlaces : List Listed → Type 0
  HavePlaces calls = (l : Listed) → Among l calls → (p : ℕ) × IsAt places l.call p

  -- a call below those after it is none of them
  not_behind : (l : Listed) (calls : List Listed) (i : ℕ) → HavePlaces (l ∷ calls) → Rises places (l ∷ calls) → l.call ≡ i → IsListed i (calls_of calls) → ⊥
  not_behind l calls i have rise same is = grind (arith, nat_tests, listed_among, same_Some)

  pub once : (calls : List Listed) (i : ℕ) → HavePlaces calls → Rises places calls → count_of i (calls_of calls) ≤ 1
  once [] i have rise = omega arith
  once (l ∷ calls) i have rise = elim (eqb_tells l.call i) [
    | inl t ↦ rw t.0 (let none = unlisted_count i (calls_of calls) (not_behind l calls i have rise t.1) in omega (arith, none))
    | inr f ↦ rw f.0 (once calls i (λ m at. have m (inr at)) rise.1)
  ]

  pub ascending : (calls : List Listed) (i j p q : ℕ) → Rises places calls → IsEarlier i j (calls_of calls) → IsAt places i p → IsAt places j q → p < q
  ascending [] i j p q rise is at at' = absurd is
  ascending (l ∷ calls) i j p q rise is at at' = ⊎_elim
      (λ (here, behind).
      let (m, among, same) = listed_among calls j behind in
      rise.0 m p q among (ap (tree.get nat_cmp places) here ∙ at) (ap (tree.get nat_cmp places) same ∙ at'))
      (λ there. ascending calls i j p q rise.1 there at at')
      is

  pub earlier : (calls : List Listed) (i j p q : ℕ) → HavePlaces calls → Rises places calls → IsAt places i p → IsAt places j q → p < q → IsListed i (calls_of calls) → IsListed j (calls_of calls) → IsEarlier i j (calls_of calls)
  earlier [] i j p q have rise at at' lt is is' = absurd is
  earlier (l ∷ calls) i j p q have rise at at' lt is is' = ⊎_elim
      (λ here. ⊎_elim
      (λ here'. absurd (let e = same_Some p q (sym at ∙ ap (tree.get nat_cmp places) (sym here ∙ here') ∙ at') in omega (arith, e, lt)))
      (λ there'. inl (here, there'))
      is')
      (λ there. ⊎_elim
      (λ here'. absurd (
      let (m, among, same) = listed_among calls i there in
      let low = rise.0 m q p among (ap (tree.get nat_cmp places) here' ∙ at') (ap (tree.get nat_cmp places) same ∙ at) in
      omega (arith, low, lt)))
      (λ there'. inr (earlier calls i j p q (λ m at. have m (inr at)) rise.1 at at' lt there there'))
      is')
      is

pub runs : (H : List HistoryEvent) (answers : BTreeMap ℕ Bool) (calls : List Listed) (S T S' T' : Keys) → ((i : ℕ) (b : Bool) → IsAnswered H i b → tree.get nat_cmp answers i ≡ Some b)
    → ((l : Listed) → Among l calls → IsCalled H l.call l.command) → Same S S' → Same T T' → Plays answers calls S T → Runs H S' (calls_of calls) T'
runs H answers [] S T S' T' told called start end plays = λ k. sym (start k) ∙ plays k ∙ end k
runs H answers (l ∷ calls) S T S' T' told called start end plays = grind (arith, after_same, runs H answers calls (after l.command S) T (after l.command S') T' told (λ m at. called m (inr at)) (after_same l.command S S' start) end plays.1)

-- what is known of the calls that a life's list has
pub record OfLife (places : BTreeMap ℕ ℕ) (H : List HistoryEvent) (calls : List Listed) : Type 0 where
  pub have : HavePlaces places calls
  pub called : (l : Listed) → Among l calls → IsCalled H l.call l.command
  pub rise : Rises places calls
  pub among : (i p : ℕ) → IsMade H i → IsAt places i p → (l : Listed) × Among l calls × (l.call ≡ i)

pub of_life : (places : BTreeMap ℕ ℕ) (H : List HistoryEvent) (life : BTreeMap ℕ Listed) → tree.IsOrdered nat_cmp life → IsLife places H life → OfLife places H (values_of life.entries)
of_life places H life ordered is_life = record {
  have = λ l at. let (p, among) = among_value life.entries l at in (p, (entry p l among).1);
  called = λ l at. let (p, among) = among_value life.entries l at in (entry p l among).0;
  rise = rises places life.entries ordered (λ p l among. (entry p l among).1);
  among = λ i p made at.
      let (l, there, same) = is_life.all i p made at in
      (l, value_among life.entries p l (lookup_among life.entries p l there), same);
}
  where
    entry : (p : ℕ) (l : Listed) → Among (p, l) life.entries → IsCalled H l.call l.command × IsAt places l.call p
    entry p l among = is_life.listed p l (among_lookup life.entries p l ordered among)

-- they stand in the order of their places
pub in_order : (places : BTreeMap ℕ ℕ) (H : List HistoryEvent) (calls : List Listed) → OfLife places H calls → IsInOrder (IsAt places) H (calls_of calls)
in_order places H calls listed = grind (arith, listed_among, among_listed, ascending)
