-- What putting a key, opening a slot and closing one make of the disk, done or failed.
use Rattle.std.proofs.lemmas.{Bool.Decides.{nat_tests}, Option.{slice_get-get_or}}
use Rattle.std.proofs.Common.{◌≡◌, inl, inr, ℕ, ◌<◌, ◌≤◌, Bool, true, false, List, Some, sym, ap, ◌∙◌, subst, arith, length-set}
use Rattle.std.specs.Prelude.{slice_get, slice_set}
use Rattle.lz_slot.specs.{Rooms.{largest_of}, declared.format.Format.{Format}}
use Rattle.lz_disk.specs.Images.{Medium}
use Rattle.lz_vault.specs.{declared.vault.Stage.{Stage, TheVariants.{Keyed, Opening, Closing}}, Stages.{Cell, IsFree, IsOpened, Keeps, stage_put}}
use Rattle.lz_vault.specs.{Vaults.{Vaulted, MayFail, key_call, opening_call, closing_call, medium_after, syncs_after, cells_failed}, Members.{no_cell}}
use Rattle.lz_vault.proofs.{Changes.{set_cases}, SlotWrites.{key_put, key_put_failed, opening_written, opening_failed, closing_written, closing_failed}}
use Rattle.lz_machine.specs.{Yards.{Shape, cell_in, stage_in}, CallersSound.{IsKeyed}, Sound.{DiskSound}}

-- after a key was put the slot is still surely closed
pub put_keyed : (F : Format) (stage : Stage) → IsKeyed (stage_put F stage)
put_keyed F stage = grind (arith, nat_tests)

pub put_free : (F : Format) (stage : Stage) → IsFree (stage_put F stage)
put_free F stage = elim (put_keyed F stage) [ inl loose ↦ subst IsFree (sym loose) tt | inr keyed ↦ subst IsFree (sym keyed) tt ]

-- putting one is no sync
pub key_syncs : (F : Format) (stage : Stage) (s k syncs : ℕ) → syncs_after (key_call F stage s k) syncs ≡ syncs
key_syncs F stage s k syncs = grind (arith, nat_tests)

pub key_cells : (F : Format) (stage : Stage) (s k : ℕ) (old cells : List Cell) → cells_failed (key_call F stage s k) old cells ≡ cells
key_cells F stage s k old cells = grind (arith, nat_tests)

module _ (shape : Shape) (vault : Vaulted) (disk : Medium) (images : DiskSound shape vault disk) (alive : vault.dead ≡ false) (s : ℕ) (lt : s < shape.slots) where
  abbrev with_cell : Cell → Bool → Vaulted
  with_cell new dead = record vault { cells = slice_set vault.cells s new; dead = dead }

  here : slice_get vault.cells s ≡ Some (cell_in vault.cells s)
  here = slice_get-get_or vault.cells s no_cell (omega (arith, lt, images.count))

  fits_here : (cell_in vault.cells s).key ≤ largest_of vault.format
  fits_here = images.keys s (cell_in vault.cells s) here

  keeps : Keeps vault.format vault.cells false disk
  keeps = subst (λ (b : Bool). Keeps vault.format vault.cells b disk) alive images.keeps

  -- a disk that is as the cells say after the write
  over : (new : Cell) (dead : Bool) (medium : Medium) → new.key ≤ largest_of vault.format → Keeps vault.format (slice_set vault.cells s new) dead medium → DiskSound shape (with_cell new dead) medium
  over new dead medium fits kept = record {
    slots = images.slots;
    count = length-set vault.cells s new ∙ images.count;
    keys = λ i cell there. elim (set_cases vault.cells s i new cell there) [
      | inl it ↦ omega (arith, ap (λ (q : Cell). q.key) it.1, fits)
      | inr other ↦ images.keys i cell other.1
    ];
    keeps = kept;
  }

  done : (new : Cell) (medium : Medium) → new.key ≤ largest_of vault.format → Keeps vault.format (slice_set vault.cells s new) false medium → DiskSound shape (with_cell new vault.dead) medium
  done new medium fits kept = subst (λ (b : Bool). DiskSound shape (with_cell new b) medium) (sym alive) (over new false medium fits kept)

  -- a key is put
  module _ (k : ℕ) (fits : k ≤ largest_of vault.format) (free : IsFree (stage_in vault.cells s)) where
    abbrev put_cell : Cell
    put_cell = record { stage = stage_put vault.format (stage_in vault.cells s); key = k }

    pub key_done : DiskSound shape (with_cell put_cell vault.dead) (medium_after (key_call vault.format (stage_in vault.cells s) s k) disk)
    key_done = done put_cell (medium_after (key_call vault.format (stage_in vault.cells s) s k) disk) fits (key_put vault.format vault.cells disk s k (cell_in vault.cells s) keeps here free fits)

    pub key_failed : (medium : Medium) → MayFail (key_call vault.format (stage_in vault.cells s) s k) disk medium → DiskSound shape (with_cell put_cell true) medium
    key_failed medium may = over put_cell true medium fits (key_put_failed vault.format vault.cells disk s k (cell_in vault.cells s) keeps here free fits medium may)

  abbrev at_stage : Stage → Cell
  at_stage stage = record { stage = stage; key = (cell_in vault.cells s).key }

  -- the slot is opened
  module _ (keyed : stage_in vault.cells s ≡ Keyed) where
    pub opening_done : DiskSound shape (with_cell (at_stage Opening) vault.dead) (medium_after (opening_call vault.format s (cell_in vault.cells s).key) disk)
    opening_done = done (at_stage Opening) (medium_after (opening_call vault.format s (cell_in vault.cells s).key) disk) fits_here (opening_written vault.format vault.cells disk s (cell_in vault.cells s) keeps here keyed fits_here)

    pub opening_lost : (medium : Medium) → MayFail (opening_call vault.format s (cell_in vault.cells s).key) disk medium → DiskSound shape (with_cell (at_stage Opening) true) medium
    opening_lost medium may = over (at_stage Opening) true medium fits_here (opening_failed vault.format vault.cells disk s (cell_in vault.cells s) keeps here keyed fits_here medium may)

  -- the slot is closed
  module _ (opened : IsOpened (stage_in vault.cells s)) where
    pub closing_done : DiskSound shape (with_cell (at_stage Closing) vault.dead) (medium_after (closing_call vault.format s) disk)
    closing_done = done (at_stage Closing) (medium_after (closing_call vault.format s) disk) fits_here (closing_written vault.format vault.cells disk s (cell_in vault.cells s) keeps here opened fits_here)

    pub closing_lost : (medium : Medium) → MayFail (closing_call vault.format s) disk medium → DiskSound shape (with_cell (at_stage Closing) true) medium
    closing_lost medium may = over (at_stage Closing) true medium fits_here (closing_failed vault.format vault.cells disk s (cell_in vault.cells s) keeps here opened fits_here medium may)
