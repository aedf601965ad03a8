-- The slots that an open reads of a text.
use Rattle.std.proofs.Common.{◌≡◌, ℕ, zero, suc, List, [], ◌∷◌, length, refl, ◌∙◌, arith, length-append}
use Rattle.lz_slot.specs.Bytes.{slot_at}
use Rattle.lz_machine.specs.Yards.{slots_read}

-- as many are read as are asked for
pub read_length : (t : List ℕ) (n : ℕ) → length (slots_read t n) ≡ n
read_length t zero = refl
read_length t (suc n) = length-append (slots_read t n) (slot_at t n ∷ []) ∙ omega (arith, read_length t n)
