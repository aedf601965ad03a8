-- Worked rows: a device that is tripped fails once, and a device that isn't never fails. And the numbers of a play's faults.
use Rattle.lz_core.specs.declared.world.PlayFault.TheVariants as play_fault
use Rattle.std.proofs.{Common.{◌≡◌, ℕ, true, false, [], ◌∷◌, refl, arith}, lemmas.Bool.{false≢true}}
use Rattle.lz_slot.specs.declared.command.Command.{Command}
use Rattle.lz_disk.specs.Images.{Medium}
use Rattle.lz_machine.specs.Runs.{Point, Calls, Turn, Fails, Looks, Trips, Stops, Opens, OpenFails, run}
use Rattle.lz_core.specs.{Trips.{CallsDevice, GoAsTripped}, Worlds.{play_fault_number}}

module _ (p : Point) (a b : ℕ) (c : Command) (new later : Medium) where
  -- the first call after a trip fails, also where other calls have begun between
  once : GoAsTripped p false (Fails a new ∷ Calls b c ∷ Trips ∷ [])
  once = (refl, (tt, (tt, tt)))

  -- or other actors have looked, which calls no device
  after_a_look : GoAsTripped p false (Fails a new ∷ Looks b ∷ Trips ∷ [])
  after_a_look = (refl, (tt, (tt, tt)))

  not_opened_after_a_look : GoAsTripped p false (Opens ∷ Looks b ∷ Trips ∷ []) → ⊥
  not_opened_after_a_look h = h.0 refl

  -- and the second one doesn't
  not_twice : GoAsTripped p false (Fails b later ∷ Fails a new ∷ Trips ∷ []) → ⊥
  not_twice h = false≢true h.0

  -- it fails again where it was tripped again
  twice_tripped : GoAsTripped p false (Fails b later ∷ Trips ∷ Fails a new ∷ Trips ∷ [])
  twice_tripped = (refl, (tt, (refl, (tt, tt))))

  -- nothing fails where there was no trip
  untripped : GoAsTripped p false (Fails a new ∷ []) → ⊥
  untripped h = false≢true h.0

  -- nor after a stop, which ends the trip
  not_after_stop : GoAsTripped p false (Fails a new ∷ Stops ∷ Trips ∷ []) → ⊥
  not_after_stop h = false≢true h.0

  -- a turn that calls the device isn't done while it is tripped
  not_done : CallsDevice (run p (Trips ∷ [])).state a → GoAsTripped p false (Turn a ∷ Trips ∷ []) → ⊥
  not_done calls h = h.0 refl calls

  -- no open is done while the device is tripped; it is refused with the device's number, 7
  not_opened : GoAsTripped p false (Opens ∷ Trips ∷ []) → ⊥
  not_opened h = h.0 refl

  open_fails : GoAsTripped p false (OpenFails 7 false ∷ Trips ∷ [])
  open_fails = ((λ number. refl, λ tripped. refl), (tt, tt))

  -- which ends the trip: the next open is done, and isn't refused so once more
  opened_then : GoAsTripped p false (Opens ∷ OpenFails 7 false ∷ Trips ∷ [])
  opened_then = (λ tripped. false≢true tripped, open_fails)

  not_refused_twice : GoAsTripped p false (OpenFails 7 false ∷ OpenFails 7 false ∷ Trips ∷ []) → ⊥
  not_refused_twice h = false≢true (h.0.0 refl)

  -- for lack of memory, which is number 8, an open is refused only where the device isn't tripped
  no_memory : GoAsTripped p false (OpenFails 8 true ∷ [])
  no_memory = ((λ number. absurd cc, λ tripped. absurd (false≢true tripped)), tt)

  not_memory_tripped : GoAsTripped p false (OpenFails 8 true ∷ Trips ∷ []) → ⊥
  not_memory_tripped h = let number : ◌≡◌ {A = ℕ} 8 7 = h.0.1 refl in absurd (omega (arith, number))

fault_numbers : (play_fault_number (play_fault.NotNow 3) ≡ 1) × (play_fault_number play_fault.Memory ≡ 2)
fault_numbers = (refl, refl)
