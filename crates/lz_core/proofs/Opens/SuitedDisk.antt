-- A disk in memory that was made bytewise for its file.
use Rattle.std.proofs.Common.{◌≡◌, ◌⊎◌, inl, inr, ℕ, Bool, true, List, [], ◌∷◌, refl, sym, ap, subst}
use Rattle.lz_slot.specs.declared.format.Format.{Format}
use Rattle.lz_disk.specs.{Images.{Medium, at_rest, written, synced}, Records.{Past, after, after_record, after_records, device_of}}
use Rattle.lz_disk.specs.declared.memory.Record.{Record, TheVariants.{Wrote, Failed, Synced}}
use Rattle.lz_vault.specs.Makes.{IsFresh}

-- it is as it was but for that
with_flag : Medium → Medium
with_flag disk = record { bytewise = true; sure = disk.sure; seen = disk.seen; loose = disk.loose }

flagged : (disk : Medium) (records : List Record) → after_records (with_flag disk) records ≡ with_flag (after_records disk records)
unfolding with_flag
flagged disk [] = refl
flagged disk (Wrote at bytes ∷ records) = flagged (written disk at bytes.items) records
flagged disk (Failed at bytes ∷ records) = flagged (after_record disk (Failed at bytes)) records
flagged disk (Synced ∷ records) = flagged (synced disk) records

flagged_after : (b : Bool) (start : List ℕ) (records : List Record) → after true start records ≡ with_flag (after b start records)
unfolding with_flag
flagged_after b start records = flagged (at_rest b start) records

still_fresh : (disk : Medium) (format : Format) (n : ℕ) → IsFresh disk format n → IsFresh (with_flag disk) format n
unfolding with_flag
still_fresh disk format n fresh = record { sure = ap with_flag fresh.sure; empty = fresh.empty; named = fresh.named }

-- so a file that was just made is one still
pub suited_fresh : (disk new : Past) (format : Format) (n : ℕ) → (new ≡ disk) ⊎ (new ≡ record disk { bytewise = true }) → IsFresh (device_of disk).medium format n → IsFresh (device_of new).medium format n
suited_fresh disk new format n (inl same) fresh = subst (λ (d : Past). IsFresh (device_of d).medium format n) (sym same) fresh
suited_fresh disk new format n (inr set) fresh =
    subst (λ (d : Past). IsFresh (device_of d).medium format n) (sym set) (subst (λ (m : Medium). IsFresh m format n) (sym (flagged_after disk.bytewise disk.start disk.records)) (still_fresh (device_of disk).medium format n fresh))
