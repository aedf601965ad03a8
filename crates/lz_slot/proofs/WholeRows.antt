-- Worked rows: the bytes of slots of format 4, what is read of them, and what isn't.
use Rattle.std.proofs.Common.{◌≡◌, ◌⊎◌, inl, inr, ℕ, [], ◌∷◌, ◌++◌, replicate, refl, arith}
use Rattle.lz_slot.specs.{declared.slot.SlotRead.{SlotRead, TheVariants.{Closed, Torn, Member, BadKey}}, Limits.{largest_key}}
use Rattle.lz_slot.specs.Whole.{whole_slot, whole_read, IsPartOf, with_flip}

-- the highest four bits come first
zero_slot : whole_slot 0 ≡ replicate 16 15
zero_slot = refl

each_digit : whole_slot 0x0123456789abcdef ≡ 15 ∷ 30 ∷ 45 ∷ 60 ∷ 75 ∷ 90 ∷ 105 ∷ 120 ∷ 135 ∷ 150 ∷ 165 ∷ 180 ∷ 195 ∷ 210 ∷ 225 ∷ 240 ∷ []
each_digit = refl

digits_read : whole_read (15 ∷ 30 ∷ 45 ∷ 60 ∷ 75 ∷ 90 ∷ 105 ∷ 120 ∷ 135 ∷ 150 ∷ 165 ∷ 180 ∷ 195 ∷ 210 ∷ 225 ∷ 240 ∷ []) ≡ Member 0x0123456789abcdef
digits_read = refl

largest_reads : whole_read (whole_slot largest_key) ≡ Member largest_key
largest_reads = refl

-- zeros are a closed slot; one zero closes a slot, wherever it stands, and whatever the other bytes are
zeros_are_closed : whole_read (replicate 16 0) ≡ Closed
zeros_are_closed = refl

first_zero : whole_read (0 ∷ replicate 15 15) ≡ Torn
first_zero = refl

last_zero : whole_read (replicate 15 15 ++ 0 ∷ []) ≡ Torn
last_zero = refl

zero_amid : whole_read (replicate 7 255 ++ 0 ∷ replicate 8 255) ≡ Torn
zero_amid = refl

-- a byte that isn't paired, and a rank that no key has
unpaired : whole_read (14 ∷ replicate 15 15) ≡ BadKey
unpaired = refl

no_zero_is_open : whole_read (replicate 16 255) ≡ BadKey
no_zero_is_open = refl

one_too_large : whole_read (whole_slot 16000000000000000000) ≡ BadKey
one_too_large = refl

-- so these aren't read as a key
not_by_its_first_byte : whole_read (15 ∷ replicate 15 0) ≡ Member 0 → ⊥
not_by_its_first_byte is = let e : ◌≡◌ {A = SlotRead} Torn (Member 0) = is in absurd cc

not_of_zeros : whole_read (replicate 16 0) ≡ Member 0 → ⊥
not_of_zeros is = let e : ◌≡◌ {A = SlotRead} Closed (Member 0) = is in absurd cc

not_past_the_largest : whole_read (whole_slot 16000000000000000000) ≡ Member 16000000000000000000 → ⊥
not_past_the_largest is = let e : ◌≡◌ {A = SlotRead} BadKey (Member 16000000000000000000) = is in absurd cc

-- a mixture of two keys' slots may be a third one's, so a slot is closed by zeros before it holds another key
two_keys_mix : whole_read (replicate 15 15 ++ 30 ∷ []) ≡ Member 1
two_keys_mix = refl

-- a zero beside a slot's bytes is a part of it, and another byte isn't
not_of_other_bytes : IsPartOf (30 ∷ replicate 15 0) (whole_slot 0) → ⊥
not_of_other_bytes part = other (part.1 0 (omega arith))
  where
    other : ((◌≡◌ {A = ℕ} 30 0) ⊎ (◌≡◌ {A = ℕ} 30 15)) → ⊥
    other (inl e) = absurd (omega (arith, e))
    other (inr e) = absurd (omega (arith, e))

-- the lowest bit of the first byte, and the highest of the last one
lowest_flip : with_flip (whole_slot 0) 0 0 ≡ 14 ∷ replicate 15 15
lowest_flip = refl

highest_flip : with_flip (whole_slot 0) 15 7 ≡ replicate 15 15 ++ 143 ∷ []
highest_flip = refl

-- two flips may make another key
two_flips : whole_read (with_flip (with_flip (whole_slot 0) 15 4) 15 0) ≡ Member 1
two_flips = refl
