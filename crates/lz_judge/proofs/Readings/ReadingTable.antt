-- What the tables of the passes say of the history.
use Rattle.std.specs.BTreeMap as tree
use Rattle.std.proofs.lemmas.{Bool.Decides.{nat_tests, eqb_tells}, Option.{same_Some}}
use Rattle.std.proofs.Common.{◌≡◌, inl, inr, ⊎_elim, ◌↔◌, ℕ, ◌≤◌, Bool, true, List, [], ◌∷◌, sym, refl, ◌∙◌, arith, Some, None, map, BTreeMap, nat_cmp}
use Rattle.lz_slot.specs.{Sets.{Keys}, declared.history.HistoryEvent.{HistoryEvent, TheVariants.{Call, Answer, Refused, Cut, Opened, OpenFailed}}}
use Rattle.lz_slot.specs.Histories.{ChainTo, IsAnswered, Life, count_of}
use Rattle.lz_judge.specs.{declared.{history.Point.{Point}, flaw.Flaw.TheVariants.{WrongReply}}, Limits.{largest_place}}
use Rattle.lz_judge.specs.{Records.{ArePlaces, IsLawful, IsMade, IsPoint, actor_of}, Flaws.{IsFlaw, IsInOrder, IsWrongSet, OrderedChain}}
use Rattle.lz_judge.specs.{Readings.{AreLow, HasPlaces, IsAt, Ordered, answer_of, is_made, place_of}, Plays.{IsKnown, IsWrong}, Verdicts.{AreListed}}
use Rattle.lz_judge.proofs.Lives.{LawfulHistory.{made_more, not_ended}, CurrentLife.{open_made}}

-- a call that was made is counted
pub made_is : (M : List HistoryEvent) (i : ℕ) → IsMade M i → is_made M i ≡ true
made_is [] i made = absurd made.1.1
made_is (Call j a c ∷ M) i (d, (actor, has)) = grind (arith, nat_tests, eqb_tells, made_is M i)
made_is (_ ∷ M) i (d, (actor, has)) = made_is M i (⊎_elim (λ here. absurd (cc)) (λ there. (d, (actor, there))) has)

-- an answered call was made
pub told_made : (M : List HistoryEvent) (i : ℕ) (b : Bool) → IsLawful M → IsAnswered M i b → IsMade M i
told_made [] i b lawful has = absurd has
told_made (Answer j d ∷ M) i b lawful has = grind (arith, nat_tests, made_more, open_made, told_made M i b lawful.1)
told_made (m ∷ M) i b lawful has = made_more m M i (told_made M i b lawful.1 (⊎_elim (λ here. absurd (cc)) (λ there. there) has))

-- an open call has no answer
pub open_untold : (M : List HistoryEvent) (i actor : ℕ) (b : Bool) → IsLawful M → actor_of M i ≡ Some actor → IsAnswered M i b → ⊥
open_untold [] i actor b lawful is has = has
open_untold (Call j a c ∷ M) i actor b lawful is has = grind (arith, nat_tests, eqb_tells, told_made, open_untold M i actor b lawful.1)
open_untold (Answer j d ∷ M) i actor b lawful is has = grind (arith, nat_tests, not_ended, open_untold M i actor b lawful.1)
open_untold (Refused j why ∷ M) i actor b lawful is has = open_untold M i actor b lawful.1 (not_ended j i actor (actor_of M i) is).1 (⊎_elim (λ here. absurd (cc)) (λ there. there) has)
open_untold (Cut j why ∷ M) i actor b lawful is has = open_untold M i actor b lawful.1 (not_ended j i actor (actor_of M i) is).1 (⊎_elim (λ here. absurd (cc)) (λ there. there) has)
open_untold (OpenFailed why ∷ M) i actor b lawful is has = open_untold M i actor b lawful.1 is (⊎_elim (λ here. absurd (cc)) (λ there. there) has)
open_untold (_ ∷ M) i actor b lawful is has = absurd (cc)

-- an answer that was seen is the call's
pub told_is : (M : List HistoryEvent) (i : ℕ) (b : Bool) → IsLawful M → IsAnswered M i b → answer_of M i ≡ Some b
told_is [] i b lawful has = absurd has
told_is (Answer j d ∷ M) i b lawful has = grind (arith, nat_tests, eqb_tells, open_untold, told_is M i b lawful.1)
told_is (_ ∷ M) i b lawful has = told_is M i b lawful.1 (⊎_elim (λ here. absurd (cc)) (λ there. there) has)

-- points and places
pub place_point : (points : List Point) (i p : ℕ) → place_of points i ≡ Some p → IsPoint points i p
place_point [] i p is = absurd (cc)
place_point (point ∷ points) i p is = grind (arith, nat_tests, eqb_tells, same_Some, place_point points i p)

pub at_point : (M : List HistoryEvent) (points : List Point) (places : BTreeMap ℕ ℕ) → HasPlaces points places → AreListed M points places → (i p : ℕ) → IsAt places i p ↔ IsPoint points i p
at_point M points places has listed i p = (λ at. place_point points i p (sym (has i) ∙ at), listed.placed i p)

pub point_place : (points : List Point) (i p : ℕ) → IsPoint points i p → (q : ℕ) × (place_of points i ≡ Some q)
point_place [] i p is = absurd is
point_place (point ∷ points) i p is = elim (eqb_tells point.call i) [
  | inl t ↦ (point.place, rw t.0 refl)
  | inr f ↦ let (q, at) = point_place points i p (⊎_elim (λ here. absurd (f.1 here.0)) (λ there. there) is) in (q, rw f.0 at)
]

listed_count : (points : List Point) (i p : ℕ) → IsPoint points i p → 1 ≤ count_of i (map (λ point. point.call) points)
listed_count [] i p is = absurd is
listed_count (point ∷ points) i p is = grind (arith, nat_tests, eqb_tells, listed_count points i p)

pub only_place : (points : List Point) (i p : ℕ) → count_of i (map (λ point. point.call) points) ≤ 1 → IsPoint points i p → place_of points i ≡ Some p
only_place [] i p one is = absurd is
only_place (point ∷ points) i p one is = grind (arith, nat_tests, eqb_tells, listed_count, only_place points i p)

pub places_low : (points : List Point) (places : BTreeMap ℕ ℕ) → HasPlaces points places → ArePlaces points → AreLow places
places_low points places has low i p at = low_of points low (sym (has i) ∙ at)
  where
    low_of : (ps : List Point) → ArePlaces ps → place_of ps i ≡ Some p → p ≤ largest_place
    low_of [] all is = absurd (cc)
    low_of (point ∷ ps) all is = elim (eqb_tells point.call i) [
      | inl t ↦ let e = same_Some _ _ (rw t.0 at is) in omega (arith, e, all.0)
      | inr f ↦ low_of ps all.1 (rw f.0 at is)
    ]

pub known_all : (M : List HistoryEvent) (points : List Point) (places : BTreeMap ℕ ℕ) (answers : BTreeMap ℕ Bool) → IsLawful M → ((i : ℕ) → tree.get nat_cmp answers i ≡ answer_of M i) → AreListed M points places
    → Ordered M places None → IsKnown places answers M
known_all M points places answers lawful told listed order = grind (arith, told_is)

-- a chain by places is one by points
order_same : (at at' : ℕ → ℕ → Type 0) → ((i p : ℕ) → at i p ↔ at' i p) → (M : List HistoryEvent) (L : List ℕ) → IsInOrder at M L → IsInOrder at' M L
order_same at at' same M L order = grind arith

pub chain_same : (at at' : ℕ → ℕ → Type 0) → ((i p : ℕ) → at i p ↔ at' i p) → (ls : List Life) (T : Keys) → OrderedChain at ls T → OrderedChain at' ls T
chain_same at at' same [] T chain = tt
chain_same at at' same (life ∷ ls) T (L, order, fits, chain) = (L, order_same at at' same life.history L order, fits, chain_same at at' same ls life.start chain)

pub ordered_chain : (at : ℕ → ℕ → Type 0) (ls : List Life) (T : Keys) → OrderedChain at ls T → ChainTo ls T
ordered_chain at [] T chain = tt
ordered_chain at (life ∷ ls) T (L, order, fits, chain) = (L, fits, ordered_chain at ls life.start chain)

-- an answer that was kept was seen
told_from : (M : List HistoryEvent) (i : ℕ) (b : Bool) → answer_of M i ≡ Some b → IsAnswered M i b
told_from [] i b is = absurd (cc)
told_from (Answer j d ∷ M) i b is = grind (arith, nat_tests, eqb_tells, same_Some, told_from M i b)
told_from (_ ∷ M) i b is = inr (told_from M i b is)

-- a call that was found wrong is a flaw
pub wrong_flaw : (M : List HistoryEvent) (points : List Point) (places : BTreeMap ℕ ℕ) (answers : BTreeMap ℕ Bool) → ((i : ℕ) → tree.get nat_cmp answers i ≡ answer_of M i) → ((i p : ℕ) → IsAt places i p ↔ IsPoint points i p)
    → (i : ℕ) → IsWrong places answers M i → IsFlaw (record { marks = M; points = points }) (WrongReply i)
wrong_flaw M points places answers told same i wrong = (
  wrong.set_before,
  wrong.command,
  wrong.answer,
  record {
    place = wrong.reached.place;
    here = (same i wrong.reached.place).0 wrong.reached.here;
    list = wrong.reached.list;
    each = λ j. (
      λ is. let (made, (p, at, lt)) = (wrong.reached.each j).0 is in (made, (p, (same j p).0 at, lt)),
      λ (made, (p, at, lt)). (wrong.reached.each j).1 (made, (p, (same j p).1 at, lt)),
    );
    ascending = λ j k p q is at at'. wrong.reached.ascending j k p q is ((same j p).1 at) ((same k q).1 at');
    leads = wrong.reached.leads;
  },
  wrong.called,
  told_from M i wrong.answer (sym (told i) ∙ wrong.told),
  wrong.other,
)

-- an open that was found wrong is a flaw
pub wrong_set_flaw : (at at' : ℕ → ℕ → Type 0) → ((i p : ℕ) → at i p ↔ at' i p) → (M : List HistoryEvent) (n : ℕ) → IsWrongSet at M n → IsWrongSet at' M n
wrong_set_flaw at at' same [] n wrong = absurd wrong
wrong_set_flaw at at' same (Opened keys ∷ M) n wrong = ⊎_elim
    (λ (is, (L, T, order, leads, differs)). inl (is, (L, T, order_same at at' same M L order, leads, differs)))
    (λ rest. inr (wrong_set_flaw at at' same M n rest))
    wrong
wrong_set_flaw at at' same (_ ∷ M) n wrong = wrong_set_flaw at at' same M n wrong
