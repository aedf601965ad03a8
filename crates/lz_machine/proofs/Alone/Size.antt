-- How many keys a text of N slots holds, and what that says of an adding.
use Rattle.std.proofs.Common.{◌≡◌, ◌≢◌, inl, inr, ℕ, zero, suc, ◌≤◌, ◌<◌, ◌&&◌, ◌||◌, not, Bool, true, false, List, [], ◌∷◌, ◌++◌, length, length-append, refl}
use Rattle.std.proofs.{Common.{sym, ap, ◌∙◌, subst, arith}, lemmas.{Map.Keys.{IsDistinct-push}, List.{append-nil, Folds.{list_any-append}}}}
use Rattle.std.{proofs.lemmas.Bool.{cases_eq, cases_Bool, and_parts, not-true, Decides.{nat_tests}}, specs.Prelude.{if◌then◌else◌, ◌==◌, nat_eq}}
use Rattle.std.specs.{List.{list_any, IsDistinct}, Cmp.{nat_eq_equiv, both_ways}}
use mathlib.Core.Bool.{false≢true}
use Rattle.lz_slot.specs.declared.{command.Command.{Command, TheVariants.{Add, Remove, Has}}, history.Refusal.TheVariants.{Full, Worn, OldFile}}
use Rattle.lz_slot.specs.declared.{history.HistoryEvent.TheVariants.{Call, Answer, Refused, Cut}, slot.SlotRead.{SlotRead, TheVariants.{Member}}}
use Rattle.lz_slot.{specs.{Sets.{Keys, Same, members, HasMembers}, Bytes.{Holds, slot_at}, Histories.{History}}, proofs.Sets.{members_among, after_same}}
use Rattle.lz_machine.{specs.Alone.{has_cut, IsPlain, HasRoomFor, IsFull}, proofs.Crash.ImageSlots.{found, found_in, in_found, reads_key}}
use Rattle.lz_machine.proofs.Alone.Service.{Ended}

-- the keys that the first n slots hold, but k
abbrev key_but : ℕ → SlotRead → List ℕ
key_but k (Member j) = if j == k then [] else j ∷ []
key_but k _ = []

abbrev keys_but : ℕ → List ℕ → ℕ → List ℕ
keys_but k t zero = []
keys_but k t (suc n) = keys_but k t n ++ key_but k (slot_at t n)

one_key : (k : ℕ) (r : SlotRead) → length (key_but k r) ≤ 1
one_key k r = grind (arith, nat_tests)

count_all : (k : ℕ) (t : List ℕ) (n : ℕ) → length (keys_but k t n) ≤ n
count_all k t zero = omega arith
count_all k t (suc n) = omega (arith, count_all k t n, one_key k (slot_at t n), length-append (keys_but k t n) (key_but k (slot_at t n)))

not_k : (k : ℕ) (r : SlotRead) → r ≡ Member k → length (key_but k r) ≡ 0
not_k k r is = subst (λ (q : SlotRead). length (key_but k q) ≡ 0) (sym is) (grind (arith, nat_tests))

-- a slot that holds k isn't counted
count_less : (k : ℕ) (t : List ℕ) (n i : ℕ) → i < n → slot_at t i ≡ Member k → length (keys_but k t n) < n
count_less k t zero i lt is = absurd (omega (arith, lt))
count_less k t (suc n) i lt is = elim (cases_eq i n) [
  | inl same ↦ omega (arith, count_all k t n, not_k k (slot_at t n) (subst (λ (q : ℕ). slot_at t q ≡ Member k) same is), length-append (keys_but k t n) (key_but k (slot_at t n)))
  | inr other ↦ omega (arith, count_less k t n i (omega (arith, lt, other)) is, one_key k (slot_at t n), length-append (keys_but k t n) (key_but k (slot_at t n)))
]

-- where each slot holds a key other than k, all are counted
abbrev pub HoldsOther : List ℕ → ℕ → ℕ → Type 0
HoldsOther t k s = (j : ℕ) × (slot_at t s ≡ Member j) × (j ≢ k)

one_other : (k j : ℕ) (r : SlotRead) → r ≡ Member j → j ≢ k → length (key_but k r) ≡ 1
one_other k j r is other = subst (λ (q : SlotRead). length (key_but k q) ≡ 1) (sym is) (grind (arith, nat_tests, other))

count_full : (k : ℕ) (t : List ℕ) (n : ℕ) → ((s : ℕ) → s < n → HoldsOther t k s) → length (keys_but k t n) ≡ n
count_full k t zero each = omega arith
count_full k t (suc n) each =
    let last = each n (omega arith) in
    omega (arith, count_full k t n (λ s lt. each s (omega (arith, lt))), one_other k last.0 (slot_at t n) last.1 last.2, length-append (keys_but k t n) (key_but k (slot_at t n)))

-- the members of that list
pub members_append : (xs ys : List ℕ) (q : ℕ) → members (xs ++ ys) q ≡ (members xs q || members ys q)
members_append xs ys q = list_any-append (λ (x : ℕ). x == q) xs ys

key_members : (k q : ℕ) (r : SlotRead) → members (key_but k r) q ≡ (not (k == q) && reads_key q r)
key_members k q _ = grind (arith, nat_tests)

distribute : (n x y : Bool) → ((n && x) || (n && y)) ≡ (n && (y || x))
distribute n x y = grind arith

keys_members : (k : ℕ) (t : List ℕ) (n q : ℕ) → members (keys_but k t n) q ≡ (not (k == q) && found t n q)
keys_members k t zero q = grind (arith, nat_tests)
keys_members k t (suc n) q = grind (arith, members_append, not, key_members, distribute, keys_members k t n q)

-- no key stands twice
next_distinct : (k : ℕ) (t : List ℕ) (N n : ℕ) (S : Keys) → Holds t N S → suc n ≤ N → IsDistinct nat_eq (keys_but k t n) → IsDistinct nat_eq (keys_but k t (suc n))
next_distinct k t N n S holds le before = go (slot_at t n) refl
  where
    new : (j : ℕ) → slot_at t n ≡ Member j → list_any (nat_eq j) (keys_but k t n) ≡ false
    new j is = elim (cases_Bool (list_any (nat_eq j) (keys_but k t n))) [
      | inl there ↦
          let has : found t n j ≡ true = (and_parts (not (k == j)) (found t n j) (sym (keys_members k t n j) ∙ members_among (keys_but k t n) j ∙ there)).1 in
          let at = found_in t n j has in
          absurd (omega (arith, at.1, holds.no_key_twice at.0 n j (omega (arith, at.1, le)) (omega (arith, le)) at.2 is))
      | inr none ↦ none
    ]

    of_key : (j : ℕ) (b : Bool) → slot_at t n ≡ Member j → IsDistinct nat_eq (keys_but k t n ++ (if b then [] else j ∷ []))
    of_key j false is = IsDistinct-push nat_eq_equiv (keys_but k t n) j before (new j is)
    of_key j true is = subst (IsDistinct nat_eq) (sym (append-nil (keys_but k t n))) before

    go : (r : SlotRead) → slot_at t n ≡ r → IsDistinct nat_eq (keys_but k t n ++ key_but k r)
    go r is = grind (arith, nat_tests, of_key, append-nil)

pub none_distinct : IsDistinct nat_eq []
unfolding IsDistinct
none_distinct = tt

keys_distinct : (k : ℕ) (t : List ℕ) (N n : ℕ) (S : Keys) → Holds t N S → n ≤ N → IsDistinct nat_eq (keys_but k t n)
keys_distinct k t N zero S holds le = none_distinct
keys_distinct k t N (suc n) S holds le = next_distinct k t N n S holds le (keys_distinct k t N n S holds (omega (arith, le)))

-- the set that the text holds
held_found : (t : List ℕ) (N : ℕ) (S : Keys) → Holds t N S → (q : ℕ) → S q ≡ found t N q
held_found t N S holds q = both_ways (S q) (found t N q)
    (λ has. let at = (holds.set q).0 has in in_found t N q at.0 at.1 at.2)
    (λ has. (holds.set q).1 (found_in t N q has))

-- the members but k
members_but : (k : ℕ) (t : List ℕ) (N : ℕ) (S T : Keys) → Holds t N S → ((q : ℕ) → T q ≡ (not (k == q) && S q)) → HasMembers T (length (keys_but k t N))
members_but k t N S T holds is = record {
  keys = keys_but k t N;
  count = refl;
  distinct = keys_distinct k t N N S holds (omega arith);
  all = λ q. is q ∙ ap (λ (b : Bool). not (k == q) && b) (held_found t N S holds q) ∙ sym (keys_members k t N q);
}

-- calls that have ended, none of them cut off, lead to one set
pub plain_once : (n : ℕ) (M : History) (S T U : Keys) → Ended n M → has_cut M ≡ false → IsPlain S M T → IsPlain S M U → Same T U
plain_once n [] S T U h clean one other = λ k. sym (one k) ∙ other k
plain_once n (Answer i answer ∷ Call j a c ∷ M) S T U h clean one other = grind (arith, after_same, plain_once j M S one.2.0 other.2.0 h.2 clean one.2.1 other.2.1)
plain_once n (Refused i Full ∷ Call j a c ∷ M) S T U h clean one other = plain_once j M S T U h.2 clean one.2 other.2
plain_once n (Refused i Worn ∷ Call j a c ∷ M) S T U h clean one other = plain_once j M S T U h.2 clean one.1 other.1
plain_once n (Refused i OldFile ∷ Call j a c ∷ M) S T U h clean one other = plain_once j M S T U h.2 clean one.1 other.1
plain_once n (Cut i why ∷ M) S T U h clean one other = absurd (false≢true (sym clean))
plain_once n (m ∷ Call j a c ∷ M) S T U h clean one other = absurd h.0
plain_once n (_ ∷ _) S T U h clean one other = absurd h

-- after an adding that was answered yes the text holds its key too
pub has_room : (N n i j a : ℕ) (c : Command) (M : History) (S T : Keys) (t : List ℕ) (new : Keys) → Ended n M → Holds t N new → IsPlain S (Answer i true ∷ Call j a c ∷ M) new → IsPlain S M T → HasRoomFor N c true T
has_room N n i j a (Remove k) M S T t new h holds plain was = tt
has_room N n i j a (Has k) M S T t new h holds plain was = tt
has_room N n i j a (Add k) M S T t new h holds plain was =
    (length (keys_but k t N), members_but k t N new T holds without, count_less k t N at.0 at.1 at.2)
  where
    same : Same T plain.2.0
    same = plain_once n M S T plain.2.0 h plain.1 was plain.2.1

    strange : T k ≡ false
    strange = same k ∙ not-true (plain.2.0 k) plain.2.2

    without : (q : ℕ) → T q ≡ (not (k == q) && new q)
    without q = same q ∙ grind (arith, nat_tests, plain.2.3 q, strange, same k)

    at : (s : ℕ) × (s < N) × (slot_at t s ≡ Member k)
    at = (holds.set k).0 (grind (arith, nat_tests, plain.2.3 k))

-- where each slot holds another key, there is no room
pub is_full : (N n i j a k : ℕ) (M : History) (S T : Keys) (t : List ℕ) (new : Keys) → Ended n M → Holds t N new → IsPlain S (Refused i Full ∷ Call j a (Add k) ∷ M) new → ((s : ℕ) → s < N → HoldsOther t k s) → IsPlain S M T → IsFull N (Add k) T
is_full N n i j a k M S T t new h holds plain each was =
    (strange, subst (HasMembers T) (count_full k t N each) (members_but k t N new T holds without))
  where
    same : Same T new
    same = plain_once n M S T new h plain.1 was plain.2

    member_is : (x y : ℕ) (r : SlotRead) → r ≡ Member x → r ≡ Member y → x ≡ y
    member_is x y r one other = let e : Member x ≡ Member y = sym one ∙ other in cc

    strange : T k ≡ false
    strange = same k ∙ none
      where
        none : new k ≡ false
        none = elim (cases_Bool (new k)) [
          | inl has ↦ let at = (holds.set k).0 has in let own = each at.0 at.1 in absurd (own.2 (member_is own.0 k (slot_at t at.0) own.1 at.2))
          | inr lacks ↦ lacks
        ]

    without : (q : ℕ) → T q ≡ (not (k == q) && new q)
    without q = grind (arith, nat_tests, same q, strange)
