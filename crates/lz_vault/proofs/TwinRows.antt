-- Worked rows: which two slots are told where keys stand twice.
use Rattle.std.proofs.{Common.{◌≡◌, ℕ, zero, suc, List, [], ◌∷◌, Some, None, refl, sym, ◌∙◌, arith}, lemmas.Option.{same_Some}}
use Rattle.lz_vault.specs.{Stages.{Cell}, Members.{AreApart, AreInOrder, AreTwins, IsLowest, lower_twins}, declared.vault.Stage.TheVariants.{Closed, Open}}

abbrev member : ℕ → Cell
member k = record { stage = Open; key = k }

-- four slots: key 7 stands in the slots 0, 2 and 3
abbrev cells : List Cell
cells = member 7 ∷ member 8 ∷ member 7 ∷ member 7 ∷ []

apart : AreApart cells 2
apart zero zero k low low' one other = refl
apart zero (suc zero) k low low' one other = let same : ◌≡◌ {A = ℕ} 7 8 = same_Some 7 8 (one ∙ sym other) in absurd (omega (arith, same))
apart (suc zero) zero k low low' one other = let same : ◌≡◌ {A = ℕ} 8 7 = same_Some 8 7 (one ∙ sym other) in absurd (omega (arith, same))
apart (suc zero) (suc zero) k low low' one other = refl
apart (suc (suc i)) j k low low' one other = absurd (omega (arith, low))
apart zero (suc (suc j)) k low low' one other = absurd (omega (arith, low'))
apart (suc zero) (suc (suc j)) k low low' one other = absurd (omega (arith, low'))

-- slot 2 is the lowest that holds a key again
second_slot : AreTwins cells 0 2
second_slot = record { order = omega arith; range = omega arith; key = 7; one = refl; other = refl; lowest = apart }

-- not slot 3, though it holds the key of slots 0 and 2, nor the two the other way round
not_a_later_one : AreTwins cells 0 3 → ⊥
not_a_later_one twins = let same : ◌≡◌ {A = ℕ} 0 2 = twins.lowest 0 2 7 (omega arith) (omega arith) refl refl in absurd (omega (arith, same))

not_turned_round : AreTwins cells 2 0 → ⊥
not_turned_round twins = absurd (omega (arith, twins.order))

-- a closed slot holds no key
none_if_closed : AreTwins (record { stage = Closed; key = 7 } ∷ member 7 ∷ []) 0 1 → ⊥
none_if_closed twins = let none : None ≡ Some twins.key = twins.one in absurd cc

-- the neighbours of one key, those of a lower second slot, and no others
first_twins : lower_twins None (7, 0) (7, 2) ≡ Some (0, 2)
first_twins = refl

other_keys : lower_twins None (7, 0) (8, 2) ≡ None
other_keys = refl

lower_ones : lower_twins (Some (4, 9)) (7, 0) (7, 2) ≡ Some (0, 2)
lower_ones = refl

higher_ones : lower_twins (Some (0, 1)) (7, 0) (7, 2) ≡ Some (0, 1)
higher_ones = refl

-- in order of keys none are neighbours of one key; where some are, it isn't said that none are
keys_ascend : IsLowest ((7, 3) ∷ (8, 0) ∷ []) 2 None
keys_ascend zero lt same = let is : ◌≡◌ {A = ℕ} 7 8 = same in omega (arith, is)
keys_ascend (suc i) lt same = omega (arith, lt)

not_told_as_none : IsLowest ((7, 0) ∷ (7, 2) ∷ []) 2 None → ⊥
not_told_as_none none = none 0 (omega arith) refl

-- a sort leaves twins side by side, the lower slot first
in_order : AreInOrder ((7, 0) ∷ (7, 2) ∷ (8, 1) ∷ [])
in_order zero lt = (omega arith, λ same. omega arith)
in_order (suc zero) lt = (omega arith, λ same. absurd (omega (arith, same)))
in_order (suc (suc i)) lt = absurd (omega (arith, lt))

not_a_later_slot_first : AreInOrder ((7, 2) ∷ (7, 0) ∷ []) → ⊥
not_a_later_slot_first up = let low = (up 0 (omega arith)).1 refl in absurd (omega (arith, low))

not_a_greater_key_first : AreInOrder ((8, 1) ∷ (7, 0) ∷ []) → ⊥
not_a_greater_key_first up = let low = (up 0 (omega arith)).0 in absurd (omega (arith, low))
