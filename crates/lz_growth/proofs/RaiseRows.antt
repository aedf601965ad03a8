-- Worked rows: which numbers of slots a raise leads to, which texts hold a set, and what a raise leaves.
use Rattle.std.proofs.Common.{◌≡◌, ⊎_elim, ℕ, zero, suc, ◌+◌, ◌*◌, ◌≤◌, ◌<◌, Bool, true, false, List, [], ◌∷◌, ◌++◌, length, get_or, replicate, refl, sym, ◌∙◌, ap, arith}
use Rattle.std.{proofs.lemmas.Bool.{eq-eqb, eqb-true, false≢true}, specs.Prelude.{◌==◌}}
use Rattle.lz_slot.specs.{Limits.{most_slots}, Sets.{Keys}, Bytes.{Holds, slot_at}, Whole.{whole_slot}, declared.slot.SlotRead.{TheVariants.{Closed, Member, BadKey}}}
use Rattle.lz_disk.specs.Images.{Medium, at_rest, written}
use Rattle.lz_growth.specs.Growths.{HoldsGrowing, IsAlikeBut, IsNotRaised, IsRaise, IsRaised, IsRaisedOrNot, growing_head, shown}

-- each of the eight bytes
every_byte : (P : ℕ → Type 0) → P 0 → P 1 → P 2 → P 3 → P 4 → P 5 → P 6 → P 7 → (byte : ℕ) → byte < 8 → P byte
every_byte P a b c d e f g h zero low = a
every_byte P a b c d e f g h (suc zero) low = b
every_byte P a b c d e f g h (suc (suc zero)) low = c
every_byte P a b c d e f g h (suc (suc (suc zero))) low = d
every_byte P a b c d e f g h (suc (suc (suc (suc zero)))) low = e
every_byte P a b c d e f g h (suc (suc (suc (suc (suc zero))))) low = f
every_byte P a b c d e f g h (suc (suc (suc (suc (suc (suc zero)))))) low = g
every_byte P a b c d e f g h (suc (suc (suc (suc (suc (suc (suc zero))))))) low = h
every_byte P a b c d e f g h (suc (suc (suc (suc (suc (suc (suc (suc byte)))))))) low = absurd (omega (arith, low))

-- the numbers that double for ever, and one that doesn't double
doubles_255 : IsRaise 255 511
doubles_255 = record { some = omega arith; more = omega arith; few = omega arith; apart = (1, omega arith, (refl, refl)) }

doubles_65535 : IsRaise 65535 131071
doubles_65535 = record { some = omega arith; more = omega arith; few = omega arith; apart = (2, omega arith, (refl, refl)) }

least_more : IsRaise 1 2
least_more = record { some = omega arith; more = omega arith; few = omega arith; apart = (0, omega arith, (refl, refl)) }

to_the_most : IsRaise 15728640 16711680
to_the_most = record { some = omega arith; more = omega arith; few = omega arith; apart = (2, omega arith, (refl, refl)) }

-- not to one that differs in two bytes
not_256 : IsRaise 255 256 → ⊥
not_256 raise =
    every_byte (λ byte. IsAlikeBut byte 255 256 → ⊥)
    (λ alike. let e : ◌≡◌ {A = ℕ} 0 1 = alike.1 in omega (arith, e))
    (λ alike. let e : ◌≡◌ {A = ℕ} 255 0 = alike.0 in omega (arith, e))
    (λ alike. let e : ◌≡◌ {A = ℕ} 255 256 = alike.0 in omega (arith, e))
    (λ alike. let e : ◌≡◌ {A = ℕ} 255 256 = alike.0 in omega (arith, e))
    (λ alike. let e : ◌≡◌ {A = ℕ} 255 256 = alike.0 in omega (arith, e))
    (λ alike. let e : ◌≡◌ {A = ℕ} 255 256 = alike.0 in omega (arith, e))
    (λ alike. let e : ◌≡◌ {A = ℕ} 255 256 = alike.0 in omega (arith, e))
    (λ alike. let e : ◌≡◌ {A = ℕ} 255 256 = alike.0 in omega (arith, e))
    raise.apart.0 raise.apart.1 raise.apart.2

not_16777216 : IsRaise 8388608 16777216 → ⊥
not_16777216 raise =
    every_byte (λ byte. IsAlikeBut byte 8388608 16777216 → ⊥)
    (λ alike. let e : ◌≡◌ {A = ℕ} 32768 65536 = alike.1 in omega (arith, e))
    (λ alike. let e : ◌≡◌ {A = ℕ} 128 256 = alike.1 in omega (arith, e))
    (λ alike. let e : ◌≡◌ {A = ℕ} 0 1 = alike.1 in omega (arith, e))
    (λ alike. let e : ◌≡◌ {A = ℕ} 8388608 0 = alike.0 in omega (arith, e))
    (λ alike. let e : ◌≡◌ {A = ℕ} 8388608 16777216 = alike.0 in omega (arith, e))
    (λ alike. let e : ◌≡◌ {A = ℕ} 8388608 16777216 = alike.0 in omega (arith, e))
    (λ alike. let e : ◌≡◌ {A = ℕ} 8388608 16777216 = alike.0 in omega (arith, e))
    (λ alike. let e : ◌≡◌ {A = ℕ} 8388608 16777216 = alike.0 in omega (arith, e))
    raise.apart.0 raise.apart.1 raise.apart.2

-- nor to as many, to fewer, to more than a file may have, or from none
not_as_many : IsRaise 255 255 → ⊥
not_as_many raise = omega (arith, raise.more)

not_fewer : IsRaise 511 255 → ⊥
not_fewer raise = omega (arith, raise.more)

not_too_many : IsRaise 16777215 33554431 → ⊥
not_too_many raise = omega (arith, raise.few)

not_from_none : IsRaise 0 1 → ⊥
not_from_none raise = omega (arith, raise.some)

-- the set of key 7, and texts of one and of two slots, of which the first holds it
abbrev seven : Keys
seven k = 7 == k

abbrev one_slot : List ℕ
one_slot = growing_head 1 ++ whole_slot 7

abbrev two_slots : List ℕ → List ℕ
two_slots second = growing_head 2 ++ whole_slot 7 ++ second

module _ (t : List ℕ) (N : ℕ) (some : 1 ≤ N) (first : slot_at (shown N t) 0 ≡ Member 7) (others : (i : ℕ) → 1 ≤ i → i < N → slot_at (shown N t) i ≡ Closed) where
  only : (i k : ℕ) → i < N → slot_at (shown N t) i ≡ Member k → (i ≡ 0) × (7 ≡ k)
  only zero k lt is = let e : Member 7 ≡ Member k = sym first ∙ is in (refl, cc)
  only (suc i) k lt is = absurd (let e : Closed ≡ Member k = sym (others (suc i) (omega arith) lt) ∙ is in cc)

  none_bad : (i : ℕ) → i < N → slot_at (shown N t) i ≡ BadKey → ⊥
  none_bad zero lt is = absurd (let e : Member 7 ≡ BadKey = sym first ∙ is in cc)
  none_bad (suc i) lt is = absurd (let e : Closed ≡ BadKey = sym (others (suc i) (omega arith) lt) ∙ is in cc)

  holds_seven : N ≤ most_slots → length (shown N t) ≡ 16 + 16 * N → Holds (shown N t) N seven
  holds_seven few size = record {
    count = (some, few);
    size = size;
    head = refl;
    no_bad_key = none_bad;
    no_key_twice = λ i j k lt lt' one two. (only i k lt one).0 ∙ sym (only j k lt' two).0;
    set = λ k. (
      λ has. (0, some, first ∙ ap (λ (q : ℕ). Member q) (eqb-true 7 k has)),
      λ (i, lt, is). eq-eqb 7 k (only i k lt is).1,
    );
  }

one_holds : HoldsGrowing one_slot 1 seven
one_holds = record {
  long = omega arith;
  head = refl;
  slots = holds_seven one_slot 1 (omega arith) refl (λ i low high. absurd (omega (arith, low, high))) (omega arith) refl;
}

second_shut : (i : ℕ) → 1 ≤ i → i < 2 → slot_at (shown 2 (two_slots (replicate 16 0))) i ≡ Closed
second_shut zero low high = absurd (omega (arith, low))
second_shut (suc zero) low high = refl
second_shut (suc (suc i)) low high = absurd (omega (arith, high))

-- a second slot of zeros holds the same set, also where more bytes come after it, whatever they are
two_hold : HoldsGrowing (two_slots (replicate 16 0)) 2 seven
two_hold = record { long = omega arith; head = refl; slots = holds_seven (two_slots (replicate 16 0)) 2 (omega arith) refl second_shut (omega arith) refl }

what_follows : HoldsGrowing (one_slot ++ whole_slot 9) 1 seven
what_follows = record {
  long = omega arith;
  head = refl;
  slots = holds_seven (one_slot ++ whole_slot 9) 1 (omega arith) refl (λ i low high. absurd (omega (arith, low, high))) (omega arith) refl;
}

-- one with another key, with the same key, or with no key's bytes doesn't
not_with_another_key : HoldsGrowing (two_slots (whole_slot 9)) 2 seven → ⊥
not_with_another_key holds = let nine : ◌≡◌ {A = Bool} false true = (holds.slots.set 9).1 (1, omega arith, refl) in false≢true nine

not_with_the_key_again : (S : Keys) → HoldsGrowing (two_slots (whole_slot 7)) 2 S → ⊥
not_with_the_key_again S holds = let same : ◌≡◌ {A = ℕ} 0 1 = holds.slots.no_key_twice 0 1 7 (omega arith) (omega arith) refl refl in absurd (omega (arith, same))

not_with_no_key : (S : Keys) → HoldsGrowing (two_slots (replicate 16 255)) 2 S → ⊥
not_with_no_key S holds = holds.slots.no_bad_key 1 (omega arith) refl

-- nor does a text that ends before its second slot, or whose head says one slot
not_cut : (S : Keys) → HoldsGrowing (growing_head 2 ++ whole_slot 7) 2 S → ⊥
not_cut S holds = omega (arith, holds.long)

not_by_another_head : (S : Keys) (slot : List ℕ) → HoldsGrowing (two_slots slot) 1 S → ⊥
not_by_another_head S slot holds = let last : ◌≡◌ {A = ℕ} 2 1 = ap (λ (t : List ℕ). get_or t 15 0) holds.head in absurd (omega (arith, last))

-- so a crash must not leave the new number before its zeros
not_before_its_zeros : IsRaisedOrNot 1 2 one_slot (two_slots (whole_slot 9)) → ⊥
not_before_its_zeros may = ⊎_elim (not_by_another_head seven (whole_slot 9)) not_with_another_key (may seven one_holds)

-- what is raised is durable: not with the last write under way
not_with_a_loose_byte : (t : List ℕ) (at : ℕ) (bytes : List ℕ) → IsRaised one_slot 1 2 (written (at_rest true t) at bytes) → ⊥
not_with_a_loose_byte t at bytes raised = let none : ◌≡◌ {A = List (ℕ × List ℕ)} ((at, bytes) ∷ []) [] = ap (λ (m : Medium). m.loose) raised.sure in absurd cc

-- and where it isn't raised no image has the new number
not_with_the_new_number : IsNotRaised one_slot 1 (at_rest true (two_slots (replicate 16 0))) → ⊥
not_with_the_new_number kept = not_by_another_head seven (replicate 16 0) (kept.seen seven one_holds)
