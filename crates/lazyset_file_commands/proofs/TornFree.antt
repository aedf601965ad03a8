-- The torn slots of a file are free.
use Rattle.lz_slot.specs.declared.slot.SlotRead.TheVariants as read
use Rattle.lz_judge.specs.declared.finding.Survey.TheVariants as survey
use Rattle.std.proofs.{Common.{◌≡◌, ℕ, zero, suc, ◌+◌, ◌≤◌, length, ap, sym, ◌∙◌, arith, length-append}, lemmas.List.{length-map}}
use Rattle.std.specs.Prelude.{if◌then◌else◌}
use Rattle.lz_slot.specs.{Bytes.{slot_at}, declared.slot.SlotRead.{SlotRead}}
use Rattle.lz_judge.specs.Surveys.{open_slot, open_slots, slot_of}
use Rattle.lazyset_file_commands.specs.Torn.{TornAreFree, is_torn, torn_below}

-- a slot is torn, or open, or neither
one_of_both : (r : SlotRead) (n : ℕ) → (if is_torn r then 1 else 0) + length (open_slot r n) ≤ 1
one_of_both read.Closed n = omega arith
one_of_both read.Torn n = omega arith
one_of_both (read.Member k) n = omega arith
one_of_both read.BadKey n = omega arith

torn_or_open : (says : ℕ → SlotRead) (n : ℕ) → torn_below says n + length (open_slots says n) ≤ n
torn_or_open says zero = omega arith
torn_or_open says (suc n) =
    let below = torn_or_open says n in
    let here = one_of_both (says n) n in
    let both = length-append (open_slots says n) (open_slot (says n) n) in
    omega (arith, below, here, both)

pub torn_are_free : TornAreFree
torn_are_free t (survey.Refused fault) told count torn = tt
torn_are_free t (survey.Found header findings) told count torn =
    let same = torn header.slots told.0 in
    let found : length findings.items ≡ length (open_slots (slot_at t) header.slots) = sym (length-map findings.items slot_of) ∙ ap length told.2.slots in
    let both = torn_or_open (slot_at t) header.slots in
    omega (arith, same, found, both)
