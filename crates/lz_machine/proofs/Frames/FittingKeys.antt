-- The key that a call writes is one that the file can hold.
use Rattle.std.{specs.Prelude.{nat_lt}, proofs.{Common.{◌≡◌, ℕ, zero, suc, ◌≤◌, false, Option, Some, None, refl, arith}, lemmas.Option.{none-some}}}
use Rattle.std.proofs.lemmas.Bool.Decides.{nat_tests}
use Rattle.lz_slot.specs.{declared.{command.Command.{Command}, format.Format.{Format}}, Rooms.{largest_of}, Sets.{key_of}}
use Rattle.lz_list.specs.{Words.{Words}, Traces.{Trace}}
use Rattle.lz_machine.specs.declared.caller.Sequence.{Sequence, TheVariants.{Pinning, Resting, Writing, Adding, Removing, Releasing, Halting}}
use Rattle.lz_machine.specs.{declared.{caller.Progress.{Progress, TheVariants.{Playing}}, event.Event.{Event, TheVariants.{WriteKey}}}, Yards.{Shape}}
use Rattle.lz_machine.specs.{Calls.{event_at, loaded}, Table.{is_old}, CallersSound.{View, IsAdder, Relies, is_before_pin}}

within : (most k : ℕ) → nat_lt most k ≡ false → k ≤ most
within most k is = grind (arith, nat_tests)

pub adds_fitting : (format : Format) (c : Command) → IsAdder c → is_old format c ≡ false → key_of c ≤ largest_of format
adds_fitting format c adder fits = grind (arith, nat_tests, within)

-- the key that an event writes
abbrev pub key_written : Event → Option ℕ
key_written (WriteKey k) = Some k
key_written _ = None

module _ (words : Words) (shape : Shape) (v : View) (c : Command) (P0 P : Trace) (changed : Option ℕ) (k : ℕ) where
  abbrev Writes : Progress → Type 0
  Writes at = key_written (loaded words (event_at shape c at)) ≡ Some k

  writes_in : (sequence : Sequence) (i : ℕ) → Relies v c (Playing sequence i) P0 P changed → Writes (Playing sequence i) → IsAdder c × (key_of c ≡ k) × (is_before_pin (Playing sequence i) ≡ false)
  writes_in (Writing s) zero h is = (h.2, cc, refl)
  writes_in (Writing s) (suc (suc i)) h is = absurd h
  writes_in Pinning (suc i) h is = absurd h
  writes_in (Resting s reply) (suc (suc i)) h is = absurd h
  writes_in (Releasing aim) (suc i) h is = absurd h
  writes_in (Halting reply) (suc i) h is = absurd h
  writes_in (Adding s) i h is = grind (arith, nat_tests, none-some)
  writes_in (Removing s) i h is = grind (arith, nat_tests, none-some)
  writes_in _ _ h is = absurd (none-some _ is)

  -- only an adder writes a key, and it writes its own
  writes : (at : Progress) → Relies v c at P0 P changed → Writes at → IsAdder c × (key_of c ≡ k) × (is_before_pin at ≡ false)
  writes (Playing sequence i) h is = writes_in sequence i h is
  writes _ h is = absurd (none-some _ is)

  pub writes_fitting : (at : Progress) → (is_before_pin at ≡ false → is_old v.format c ≡ false) → Relies v c at P0 P changed → Writes at → k ≤ largest_of v.format
  writes_fitting at fits h is = grind (arith, writes, adds_fitting)
