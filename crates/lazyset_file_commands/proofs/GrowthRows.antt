-- Worked rows: what may be put, what is left under the name, and how a growth isn't refused.
use Rattle.lz_vault.specs.declared.making.MakeFault.TheVariants as making
use Rattle.lazyset_file_commands.specs.declared.growing.Standing.TheVariants as stands
use Rattle.std.proofs.Common.{◌≡◌, ⊎_elim, ℕ, ◌+◌, ◌*◌, List, [], ◌∷◌, length, get_or, Ok, IsTrue, refl, sym, ◌∙◌, arith}
use Rattle.lz_slot.specs.{Bytes.{format_of, open_byte}, Sets.{Keys}, declared.format.Format.{Format, TheVariants.{Two, Three}}}
use Rattle.lz_disk.specs.{Images.{IsImage}, Devices.{Device}}
use Rattle.lz_vault.specs.declared.renewing.RenewFault.{RenewFault, TheVariants.{New}}
use Rattle.lazyset_file_commands.specs.{Growths.{HoldOneSetAtRest, IsLeftOrHolds, IsRefusedLate, IsUnread, MayBeLeft, growth_text}, Renewals.{renewal_text}}

-- a new file whose gate isn't durable yet isn't put
loose_gate : (old new : Device) → IsTrue old.honest → IsTrue new.honest → new.medium.loose ≡ (0, open_byte ∷ []) ∷ [] → HoldOneSetAtRest old new → ⊥
loose_gate old new old_honest honest loose alike = grind arith

-- where nothing was put, nothing of the new file is left under the name
only_old : (old after new : Device) (t : List ℕ) → (after.left_since old.moment t → ⊥) → MayBeLeft old after new stands.Old t → ⊥
only_old old after new t never left = ⊎_elim never (λ put. put.0 refl) left

-- a growth whose new file has the name isn't refused, and one isn't refused late for a file that was a set before
put_is_done : (old after new new_after : Device) (format : Format) (n : ℕ) (fault : RenewFault) → IsRefusedLate old after new new_after stands.New format n fault → ⊥
put_is_done old after new new_after format n fault refused = grind arith

made_before : (old after new new_after : Device) → IsUnread old after new new_after (New making.AlreadyMade) → ⊥
made_before old after new new_after unread = unread

-- what was grown isn't told as renewed: its line begins with another letter
own_line : (m : ℕ) → (get_or (growth_text (Ok m)) 0 0 ≡ 103) × (get_or (renewal_text (Ok m)) 0 0 ≡ 114)
own_line m = (refl, refl)

-- a file of another format, or with other slots, isn't left under the name, unless it might have been before
other_format : (old : Device) (n : ℕ) (S : Keys) (t : List ℕ) → ¬ IsImage old.medium t → format_of t ≡ Two → IsLeftOrHolds old Three n S t → ⊥
other_format old n S t never is = ⊎_elim never (λ file. let other : ◌≡◌ {A = Format} Two Three = sym is ∙ file.1 in absurd cc)

other_slots : (old : Device) (format : Format) (n : ℕ) (S : Keys) (t : List ℕ) → ¬ IsImage old.medium t → length t ≡ 32 + 16 * n → IsLeftOrHolds old format n S t → ⊥
other_slots old format n S t never long = ⊎_elim never (λ file. omega (arith, long, file.0.size))
