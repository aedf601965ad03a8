-- What an open reads of a slot, and the cell that it makes of it.
use Rattle.lz_slot.specs.declared.slot.SlotRead.TheVariants as read
use Rattle.std.proofs.Common.{◌≡◌, ◌≢◌, ◌⊎◌, inl, inr, ⊎_elim, ℕ, zero, suc, ◌+◌, ◌*◌, ◌-◌, ◌≤◌, List, [], ◌∷◌, length, map, get_or, drop, replicate, None}
use Rattle.std.proofs.{Common.{refl, ap, arith}, lemmas.Bool.{cases_lt, Decides.{nat_tests}}}
use Rattle.std.proofs.lemmas.List.{length-replicate, get_or-replicate, get_or-drop, get_or_past}
use Rattle.lz_slot.specs.{Rooms.{largest_of}, declared.{format.Format.{Format, TheVariants.{Four}}, slot.SlotRead.{SlotRead}}, Counted.{of_pass}}
use Rattle.lz_slot.specs.Bytes.{slot_bytes, gated_read, slot_read}
use Rattle.lz_slot.proofs.{Files.ExactBytes.{read_fits, slot_is_of_its_key, zero_fits, closed_says, fits_taken}, Whole.{torn_is_shut, closed_is_zeros}}
use Rattle.lz_disk.specs.Images.{AreBytes}
use Rattle.lz_vault.specs.{declared.vault.Stage.TheVariants.{Opening}, Stages.{Says, Reads, IsFree, IsReadShut}}
use Rattle.lz_allot.specs.{declared.sight.Sight.{Sight}, Uses.{Free, Limbo, use_of}}
use Rattle.lz_machine.specs.{Yards.{Shape, cell_read, use_read, first_trace, stage_in}, Notes.{Notes}}

-- what is kept beside the first state of a life
abbrev pub first_notes : Shape → List ℕ → Notes
first_notes shape t = record { begun = λ a. first_trace shape t; changed = λ a. None; ended = [] }

replicate_at : {X : Type 0} (n i : ℕ) (x : X) → get_or (replicate n x) i x ≡ x
replicate_at n i x = ⊎_elim (λ lt. get_or-replicate n i x x lt) (λ le. get_or_past (replicate n x) i x (omega (arith, le, length-replicate n x))) (cases_lt i n)

pub pass_of : {X : Type 0} (n a : ℕ) (x : X) → of_pass (replicate n x) a x ≡ x
pass_of n h x = grind (arith, nat_tests, replicate_at)

pub read_cases : (r : SlotRead) → r ≢ read.BadKey → ((k : ℕ) × (r ≡ read.Member k)) ⊎ IsReadShut r
read_cases (read.Member k) fine = inl (k, refl)
read_cases read.Closed fine = inr (inl refl)
read_cases read.Torn fine = inr (inr refl)
read_cases read.BadKey fine = absurd (fine refl)

-- a slot that holds no member is free
pub shut_use : (r : SlotRead) → IsReadShut r → use_read r ≡ Free
shut_use r h = grind (arith, nat_tests)

pub shut_free : (r : SlotRead) → IsReadShut r → IsFree (cell_read r).stage
shut_free r h = grind (arith, nat_tests)

-- where a gate opens a slot, none is torn
never_torn : (F : Format) (bytes : List ℕ) → gated_read F bytes ≡ read.Torn → ⊥
never_torn F bytes is = grind (arith, nat_tests)

-- what is read of a slot is what its cell says
pub read_says : (F : Format) (r : SlotRead) (bytes : List ℕ) → slot_read F bytes ≡ r → r ≢ read.BadKey → length bytes ≡ 16 → AreBytes bytes → Says F (cell_read r).stage (cell_read r).key bytes
read_says Four read.Closed bytes is fine long fits = closed_is_zeros bytes long is
read_says Four read.Torn bytes is fine long fits = torn_is_shut bytes is
read_says Four (read.Member k) bytes is fine long fits = (slot_is_of_its_key Four bytes k long fits is).1
read_says F read.Closed bytes is fine long fits = closed_says F bytes is
read_says F read.Torn bytes is fine long fits = absurd (never_torn F bytes is)
read_says F (read.Member k) bytes is fine long fits =
    let law = slot_is_of_its_key F bytes k long fits is in
    (ap (λ (l : List ℕ). get_or l 0 0) law.1, ap (λ (l : List ℕ). drop 1 l) law.1)
read_says F read.BadKey bytes is fine long fits = absurd (fine refl)

pub read_reads : (F : Format) (r : SlotRead) (bytes : List ℕ) → Reads F (cell_read r).stage (cell_read r).key bytes
read_reads Four read.Closed bytes = tt
read_reads F read.Closed bytes = tt
read_reads F _ bytes = tt

pub read_key : (F : Format) (r : SlotRead) (bytes : List ℕ) → slot_read F bytes ≡ r → (cell_read r).key ≤ largest_of F
read_key F (read.Member k) bytes is = read_fits F bytes k is
read_key F _ bytes is = zero_fits F

-- no slot that an open finds is in limbo, or being opened
pub no_limbo_read : (rs : List SlotRead) (s : ℕ) (seen : List Sight) → use_of (map use_read rs) s ≡ Limbo seen → ⊥
no_limbo_read [] s seen is = absurd cc
no_limbo_read (read.Member k ∷ rs) zero seen is = absurd cc
no_limbo_read (r ∷ rs) zero seen is = absurd cc
no_limbo_read (r ∷ rs) (suc s) seen is = no_limbo_read rs s seen is

pub no_opening_read : (rs : List SlotRead) (s : ℕ) → stage_in (map cell_read rs) s ≡ Opening → ⊥
no_opening_read [] s is = absurd cc
no_opening_read (read.Member k ∷ rs) zero is = absurd cc
no_opening_read (r ∷ rs) zero is = absurd cc
no_opening_read (r ∷ rs) (suc s) is = no_opening_read rs s is

pub slot_fits : (t : List ℕ) (i : ℕ) → AreBytes t → AreBytes (slot_bytes t i)
slot_fits t i bytes = fits_taken (32 + 16 * i - (16 + 16 * i)) (drop (16 + 16 * i) t) (λ k. rw (get_or-drop (16 + 16 * i) t k 0) (bytes (16 + 16 * i + k)))
