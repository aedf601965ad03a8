-- Worked rows: what heads say of files that grow, and what they must not.
use Rattle.std.proofs.Common.{◌≡◌, inl, inr, ⊎_elim, ℕ, List, [], ◌∷◌, ◌++◌, length, get_or, take, replicate, refl, ap, arith}
use Rattle.std.specs.Prelude.{Err}
use Rattle.lz_slot.specs.{Bytes.{header_body, header_read, open_byte}, declared.format.Format.TheVariants.{Four}}
use Rattle.lz_slot.specs.declared.header.HeaderFault.TheVariants as head
use Rattle.lz_growth.specs.{Growths.{growing_head}, Heads.{IsHeadFaultOf}, declared.head.HeadFault.TheVariants.{NotMade, WrongMagic, BadCount, WrongLength}}

-- nothing, or a head less its last byte, is not made, and neither is a file whose gate is closed
nothing_yet : IsHeadFaultOf [] NotMade
nothing_yet made = omega (arith, made.0)

lacks_a_byte : (n : ℕ) → IsHeadFaultOf (take 15 (growing_head n)) NotMade
lacks_a_byte n made = let long : ◌≡◌ (length (take 15 (growing_head n))) 15 = refl in omega (arith, made.0, long)

closed_gate : IsHeadFaultOf (replicate 32 0) NotMade
closed_gate made = let zero : ◌≡◌ {A = ℕ} 0 165 = made.1 in omega (arith, zero)

-- a file of format 4 has another name, whatever its number of slots is
abbrev file_of_format_4 : List ℕ
file_of_format_4 = open_byte ∷ header_body Four 1 ++ replicate 16 0

of_format_4 : IsHeadFaultOf file_of_format_4 WrongMagic
of_format_4 = ((omega arith, refl), λ is. let other : ◌≡◌ {A = ℕ} 0x34 0x35 = ap (λ (l : List ℕ). get_or l 6 0) is in omega (arith, other))

-- no slots, and more than the most
no_slots : IsHeadFaultOf (growing_head 0) BadCount
no_slots = (((omega arith, refl), refl), inl refl)

too_many : IsHeadFaultOf (growing_head 16_777_217) BadCount
too_many = (((omega arith, refl), refl), inr (omega arith))

-- a file that is shorter than its slots by a byte
abbrev cut_file : List ℕ
cut_file = growing_head 1 ++ replicate 15 0

cut_by_a_byte : IsHeadFaultOf cut_file WrongLength
cut_by_a_byte = (((omega arith, refl), refl), omega arith, omega arith, omega arith)

-- one that has all of them isn't, and has no other fault
abbrev whole_file : List ℕ
whole_file = growing_head 1 ++ replicate 16 0

not_cut : IsHeadFaultOf whole_file WrongLength → ⊥
not_cut is = omega (arith, is.3)

not_unmade : IsHeadFaultOf whole_file NotMade → ⊥
not_unmade is = is (omega arith, refl)

not_of_another_name : IsHeadFaultOf whole_file WrongMagic → ⊥
not_of_another_name is = is.1 refl

not_miscounted : IsHeadFaultOf whole_file BadCount → ⊥
not_miscounted is = ⊎_elim (λ none. omega (arith, none)) (λ many. omega (arith, many)) is.1

-- a cut file isn't told as one of a bad count, nor is a file of format 4 as not made
cut_is_counted : IsHeadFaultOf cut_file BadCount → ⊥
cut_is_counted is = ⊎_elim (λ none. omega (arith, none)) (λ many. omega (arith, many)) is.1

format_4_is_made : IsHeadFaultOf file_of_format_4 NotMade → ⊥
format_4_is_made is = is (omega arith, refl)

-- a program that doesn't know such files refuses one for its name
unknown_name : header_read whole_file 32 ≡ Err head.WrongMagic
unknown_name = refl
