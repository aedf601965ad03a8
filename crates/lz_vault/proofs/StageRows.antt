-- Worked rows: what the stages say of sixteen bytes in format 4, and which device calls put a key, open a slot and close it.
use Rattle.lz_slot.specs.declared.slot.SlotRead.TheVariants as read
use Rattle.std.proofs.Common.{◌≡◌, ◌⊎◌, inl, inr, ℕ, zero, suc, ◌<◌, Bool, true, false, List, [], ◌∷◌, length, get_or, replicate, refl, ap, arith}
use Rattle.std.proofs.lemmas.{Bool.{false≢true}, List.{get_or-replicate}}
use Rattle.lz_slot.specs.{Bytes.{slot_body}, Whole.{whole_slot}, declared.{format.Format.TheVariants.{Two, Three, Four}, slot.SlotRead.{SlotRead}}}
use Rattle.lz_vault.specs.{Stages.{Says, SaysWhole, ReadsWhole, MayRead, stage_put}, Vaults.{DeviceCall, NoCall, WriteAt, key_call, opening_call, closing_call}}
use Rattle.lz_vault.specs.declared.vault.Stage.{Stage, TheVariants.{Closed, Torn, KeyLoose, Keyed, Opening, Open, Closing}}

-- the slot of key 0 is 15, sixteen times: of it the first byte was written, or all but the first
abbrev first_byte : List ℕ
first_byte = 15 ∷ replicate 15 0

abbrev all_but_the_first : List ℕ
all_but_the_first = 0 ∷ replicate 15 15

-- a closed slot is zeros, and a torn one has a zero
zeros_are_closed : SaysWhole Closed 0 (replicate 16 0)
zeros_are_closed = refl

part_is_torn : SaysWhole Torn 0 all_but_the_first
part_is_torn = refl

not_closed_by_one_zero : SaysWhole Closed 0 all_but_the_first → ⊥
not_closed_by_one_zero is = let e : ◌≡◌ {A = ℕ} 15 0 = ap (λ (l : List ℕ). get_or l 1 0) is in absurd (omega (arith, e))

not_torn_without_a_zero : SaysWhole Torn 0 (replicate 16 1) → ⊥
not_torn_without_a_zero is = let e : ◌≡◌ {A = Bool} false true = is in false≢true e

-- where a gate opens a slot its first byte alone closes it
closed_by_its_gate : Says Three Closed 0 all_but_the_first
closed_by_its_gate is = let e : ◌≡◌ {A = ℕ} 0 165 = is in absurd (omega (arith, e))

not_closed_in_format_4 : Says Four Closed 0 all_but_the_first → ⊥
not_closed_in_format_4 = not_closed_by_one_zero

-- the key of a keyed slot is in memory alone
zeros_are_keyed : SaysWhole Keyed 7 (replicate 16 0)
zeros_are_keyed = refl

not_keyed_by_its_bytes : SaysWhole Keyed 0 (whole_slot 0) → ⊥
not_keyed_by_its_bytes is = let e : ◌≡◌ {A = ℕ} 15 0 = ap (λ (l : List ℕ). get_or l 0 0) is in absurd (omega (arith, e))

-- while zeros are written over a torn slot, some byte is zero; they are read at once
part_is_loose : SaysWhole KeyLoose 7 first_byte
part_is_loose = refl

not_loose_where_it_is_open : SaysWhole KeyLoose 0 (whole_slot 0) → ⊥
not_loose_where_it_is_open is = let e : ◌≡◌ {A = Bool} false true = is in false≢true e

not_read_as_it_was : ReadsWhole KeyLoose 7 first_byte → ⊥
not_read_as_it_was is = let e : ◌≡◌ {A = ℕ} 15 0 = ap (λ (l : List ℕ). get_or l 0 0) is in absurd (omega (arith, e))

-- a slot that is being opened, or closed, has each byte or a zero for it; an open one has all
zeros_may_be_opening : SaysWhole Opening 7 (replicate 16 0)
zeros_may_be_opening = (refl, λ i lt. inl (get_or-replicate 16 i 0 0 lt))

slot_may_be_closing : SaysWhole Closing 7 (whole_slot 7)
slot_may_be_closing = (refl, λ i lt. inr refl)

part_may_be_opening : SaysWhole Opening 0 first_byte
part_may_be_opening = (refl, each)
  where
    each : (i : ℕ) → i < length (whole_slot 0) → (get_or first_byte i 0 ≡ 0) ⊎ (get_or first_byte i 0 ≡ get_or (whole_slot 0) i 0)
    each zero lt = inr refl
    each (suc i) lt = inl (get_or-replicate 15 i 0 0 (omega (arith, lt)))

not_opening_by_another_byte : SaysWhole Opening 0 (30 ∷ replicate 15 0) → ⊥
not_opening_by_another_byte part = other (part.1 0 (omega arith))
  where
    other : ((◌≡◌ {A = ℕ} 30 0) ⊎ (◌≡◌ {A = ℕ} 30 15)) → ⊥
    other (inl e) = absurd (omega (arith, e))
    other (inr e) = absurd (omega (arith, e))

not_open_by_its_first_byte : SaysWhole Open 0 first_byte → ⊥
not_open_by_its_first_byte is = let e : ◌≡◌ {A = ℕ} 0 15 = ap (λ (l : List ℕ). get_or l 1 0) is in absurd (omega (arith, e))

not_read_in_part : ReadsWhole Opening 0 first_byte → ⊥
not_read_in_part = not_open_by_its_first_byte

not_read_as_open : ReadsWhole Closing 0 (whole_slot 0) → ⊥
not_read_as_open = not_keyed_by_its_bytes

-- A slot in which no member is held may be read as torn in format 4 alone, and there only where a write may have been cut off.
torn_is_read_torn : MayRead Four Torn 7 read.Torn
torn_is_read_torn = inr refl

loose_may_read_torn : MayRead Four KeyLoose 7 read.Torn
loose_may_read_torn = inr refl

closing_may_read_torn : MayRead Four Closing 7 read.Torn
closing_may_read_torn = inl (inr refl)

loose_behind_a_gate_reads_closed : MayRead Two KeyLoose 7 read.Closed
loose_behind_a_gate_reads_closed = refl

closing_behind_a_gate_reads_either : MayRead Two Closing 7 read.Closed × MayRead Two Closing 7 (read.Member 7)
closing_behind_a_gate_reads_either = (inl refl, inr refl)

not_loose_and_torn_behind_a_gate : MayRead Two KeyLoose 7 read.Torn → ⊥
not_loose_and_torn_behind_a_gate is = let e : ◌≡◌ {A = SlotRead} read.Torn read.Closed = is in absurd cc

not_closing_and_torn_behind_a_gate : MayRead Two Closing 7 read.Torn → ⊥
not_closing_and_torn_behind_a_gate (inl is) = let e : ◌≡◌ {A = SlotRead} read.Torn read.Closed = is in absurd cc
not_closing_and_torn_behind_a_gate (inr is) = let e : ◌≡◌ {A = SlotRead} read.Torn (read.Member 7) = is in absurd cc

not_keyed_and_torn : MayRead Four Keyed 7 read.Torn → ⊥
not_keyed_and_torn is = let e : ◌≡◌ {A = SlotRead} read.Torn read.Closed = is in absurd cc

not_closing_with_another_key : MayRead Four Closing 7 (read.Member 8) → ⊥
not_closing_with_another_key (inl (inl is)) = let e : ◌≡◌ {A = SlotRead} (read.Member 8) read.Closed = is in absurd cc
not_closing_with_another_key (inl (inr is)) = let e : ◌≡◌ {A = SlotRead} (read.Member 8) read.Torn = is in absurd cc
not_closing_with_another_key (inr is) = let e : ◌≡◌ {A = SlotRead} (read.Member 8) (read.Member 7) = is in absurd cc

-- a key is put with no device call, but over a torn slot, which takes zeros and then a sync
put_over_zeros : (stage_put Four Closed ≡ Keyed) × (key_call Four Closed 2 7 ≡ NoCall)
put_over_zeros = (refl, refl)

put_again : (stage_put Four Keyed ≡ Keyed) × (key_call Four Keyed 2 7 ≡ NoCall)
put_again = (refl, refl)

put_over_a_torn_slot : (stage_put Four Torn ≡ KeyLoose) × (key_call Four Torn 2 7 ≡ WriteAt 48 (replicate 16 0))
put_over_a_torn_slot = (refl, refl)

put_again_over_loose_zeros : (stage_put Four KeyLoose ≡ KeyLoose) × (key_call Four KeyLoose 2 7 ≡ NoCall)
put_again_over_loose_zeros = (refl, refl)

put_behind_a_gate : (stage_put Three Closed ≡ KeyLoose) × (key_call Three Closed 2 7 ≡ WriteAt 49 (slot_body 7))
put_behind_a_gate = (refl, refl)

not_used_at_once : stage_put Four Torn ≡ Keyed → ⊥
not_used_at_once is = let e : ◌≡◌ {A = Stage} KeyLoose Keyed = is in absurd cc

not_sure_behind_a_gate : stage_put Three Closed ≡ Keyed → ⊥
not_sure_behind_a_gate is = let e : ◌≡◌ {A = Stage} KeyLoose Keyed = is in absurd cc

not_left_torn : key_call Four Torn 2 7 ≡ NoCall → ⊥
not_left_torn is = let e : ◌≡◌ {A = DeviceCall} (WriteAt 48 (replicate 16 0)) NoCall = is in absurd cc

not_written_for_a_key : key_call Four Closed 2 7 ≡ WriteAt 48 (replicate 16 0) → ⊥
not_written_for_a_key is = let e : ◌≡◌ {A = DeviceCall} NoCall (WriteAt 48 (replicate 16 0)) = is in absurd cc

-- all of a slot is written to open it, and all of it to close it
opened_whole : opening_call Four 2 7 ≡ WriteAt 48 (whole_slot 7)
opened_whole = refl

closed_whole : closing_call Four 2 ≡ WriteAt 48 (replicate 16 0)
closed_whole = refl

abbrev bytes_of : DeviceCall → List ℕ
bytes_of (WriteAt at bytes) = bytes
bytes_of _ = []

not_opened_by_a_gate : opening_call Four 2 7 ≡ WriteAt 48 (165 ∷ []) → ⊥
not_opened_by_a_gate is = let e : ◌≡◌ {A = ℕ} 16 1 = ap (λ (c : DeviceCall). length (bytes_of c)) is in absurd (omega (arith, e))

not_closed_by_a_byte : closing_call Four 2 ≡ WriteAt 48 (0 ∷ []) → ⊥
not_closed_by_a_byte is = let e : ◌≡◌ {A = ℕ} 16 1 = ap (λ (c : DeviceCall). length (bytes_of c)) is in absurd (omega (arith, e))
