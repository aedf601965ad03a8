-- Tickets and flags.
use Rattle.std.specs.Prelude.{ℕ, Bool, nat_lt, if◌then◌else◌}
use Rattle.lz_vault.specs.declared.vault.Stage.{Stage, TheVariants.{Closed, Open}}
use Rattle.lz_list.specs.{declared.flags.Flags.{Flags}, Words.{added_flags, removed_flags}}
use Rattle.lz_flush.specs.declared.need.Need.{Need, TheVariants.{Now, Sync}}

-- more syncs have succeeded than at the ticket
abbrev pub covered : ℕ → ℕ → Bool
covered ticket syncs = nat_lt ticket syncs

-- an answer may rest on a node whose last change is settled
abbrev pub may_answer : Flags → Need
may_answer flags =
    if (if flags.mark then flags.remove_settled else flags.add_settled) then Now else Sync

-- the flags of a slot in this stage
abbrev pub settle : Stage → Flags → Flags
settle Open flags = added_flags flags
settle Closed flags = removed_flags flags
settle _ flags = flags
