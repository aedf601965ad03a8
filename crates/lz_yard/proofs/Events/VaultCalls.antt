-- What the calls of the vault ask for, and what they make of an event.
use Rattle.std.proofs.lemmas.{Bool.Decides.{nat_tests}, Option.{same_Some, slice_get-get_or}}
use Rattle.std.{proofs.Common.{◌≡◌, ℕ, ◌<◌, Bool, true, false, ◌&&◌, length, sym, ◌∙◌, arith}, specs.Prelude.{Some, Ok, slice_get, slice_set}}
use Rattle.lz_disk.specs.Devices.{Device}
use Rattle.lz_vault.specs.{Stages.{Cell, stage_put}, Vaults.{Vaulted, Called, key_call}}
use Rattle.lz_list.specs.{declared.word.Word.TheVariants.{Key as key_at}, Words.{set}, Lists.{Listed}}
use Rattle.lz_machine.specs.declared.{event.{Event.TheVariants.{WriteKey}, Outcome.TheVariants.{Done}}, course.Course.TheVariants.{Plays}}
use Rattle.lz_machine.specs.{Yards.{Yard, actor_at}, Ready.{IsReady}}
use Rattle.lz_yard.specs.Parts.{Does, Known, PartsFit}

-- an event that a dead vault refuses is played on one that isn't dead
pub lives : (dead : Bool) → (dead && true) ≡ false → dead ≡ false
lives dead h = grind arith

-- the slot into which a key is put is one of the vault's
pub key_slot : (y : Yard) (known a k s : ℕ) → PartsFit y known → IsReady y a (WriteKey k) → (actor_at y a).slot ≡ Some s → s < length y.vault.cells
key_slot y known a k s fits ready slot = let at = ready.calls.0 in omega (arith, at.2.0, same_Some _ _ (sym at.1 ∙ slot), fits.cells)

-- a key was put
pub write_key_does : (y : Yard) (a k s v : ℕ) (list : Listed) (new : Vaulted) (before after : Device) (done : Unit {0}) → Known Plays y a (WriteKey k) → (actor_at y a).slot ≡ Some s → v ≡ k
    → list ≡ record { words = set y.words (key_at s) v; locks = y.locks }
    → s < length y.vault.cells
    → ((cell : Cell) → slice_get y.vault.cells s ≡ Some cell → Called (key_call y.vault.format cell.stage s k) (slice_set y.vault.cells s (record { stage = stage_put y.vault.format cell.stage; key = k })) y.vault new before after (Ok done))
    → Does y a (WriteKey k) (Ok Done) (record { shape = y.shape; words = list.words; locks = list.locks; vault = new; uses = y.uses; actors = y.actors }) before after
write_key_does y a k s v list new before after done known slot key is within call = grind (arith, nat_tests, slice_get-get_or, lives)
