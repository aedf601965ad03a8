-- A turn in which the vault dies keeps the invariant: no sync is left, or a sync failed.
use Rattle.std.proofs.Common.{◌≡◌, ℕ, false, List, Option, Some, refl}
use Rattle.lz_slot.specs.{declared.command.Command.{Command}, Histories.{History}}
use Rattle.lz_disk.specs.Images.{Medium}
use Rattle.lz_vault.specs.Vaults.{died}
use Rattle.lz_list.specs.Traces.{Trace}
use Rattle.lz_machine.specs.declared.event.{Event.TheVariants.{Sync}, Outcome.TheVariants.{Dead, Fault}, Reply.TheVariants.{Device}}
use Rattle.lz_machine.specs.{declared.caller.Progress.{Progress}, Yards.{Yard}, Table.{with_vault, is_sure, line_failed}, Calls.{progress_after, halts}}
use Rattle.lz_machine.{specs.{Runs.{Caller, caller_at}, Notes.{Notes}, CallersSound.{is_before_pin}, Sound.{Sound}}, proofs.Frames.OneActor.{moving}}
use Rattle.lz_machine.proofs.Steps.{Hop.{call_at, goes_on_keeps, dead_keeps}, Sync.{died_keeps}}

module _ (n calls : ℕ) (y : Yard) (callers : List (Option Caller)) (disk : Medium) (M : History) (P : Trace) (notes : Notes) (a i : ℕ) (c : Command) (at : Progress)
    (is : caller_at callers a ≡ Some (call_at i c at)) (sound : Sound n calls y callers disk M P notes) (inside : is_before_pin at ≡ false) where
  -- no sync is left
  pub dies_keeps : Sound n calls (with_vault y (died y.vault)) (moving callers a (call_at i c at) (progress_after y.shape c at Dead)) disk M P notes
  dies_keeps = dead_keeps n calls (with_vault y (died y.vault)) callers disk M P notes a i c at is (died_keeps n calls y callers disk M P notes sound) inside refl

  -- a sync failed
  pub sync_fails_keeps : (s : ℕ) → is_sure y s ≡ false → Sound n calls (line_failed y a (Sync s)).0 (moving callers a (call_at i c at) (progress_after y.shape c at Fault)) disk M P notes
  sync_fails_keeps s loose = rw loose (goes_on_keeps n calls (with_vault y (died y.vault)) callers disk M P notes a i c at is (died_keeps n calls y callers disk M P notes sound) (halts Device) inside (λ none is. refl) (record { relies = (tt, refl); inside = refl }))
