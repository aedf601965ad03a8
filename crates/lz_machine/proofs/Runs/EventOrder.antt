-- What plays no part in the order of events.
use Rattle.std.proofs.{Common.{arith, ◌≡◌, ℕ, refl}, lemmas.Bool.Decides.{nat_tests}}
use Rattle.lz_slot.specs.declared.command.Command.{Command}
use Rattle.lz_machine.specs.{declared.{event.Outcome.{Outcome}, caller.Progress.{Progress}}, Yards.{Shape}, Calls.{event_at, progress_after}}

-- how many slots a yard has plays no part in the order of events
abbrev pub shaped : ℕ → ℕ → ℕ → Shape
shaped slots buckets passes = record { slots = slots; buckets = buckets; passes = passes }

pub same_event : (n m buckets passes : ℕ) (c : Command) (at : Progress) → event_at (shaped n buckets passes) c at ≡ event_at (shaped m buckets passes) c at
same_event n m buckets passes c _ = refl

pub same_follows : (n m buckets passes : ℕ) (c : Command) (at : Progress) (o : Outcome) → progress_after (shaped n buckets passes) c at o ≡ progress_after (shaped m buckets passes) c at o
same_follows n m buckets passes c at o = grind (arith, nat_tests)
