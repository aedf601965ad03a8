-- What becomes of the call of an actor by steps that aren't its own.
use Rattle.std.proofs.{Common.{◌≡◌, ◌≢◌, ℕ, true, false, Option, arith}, lemmas.Bool.Decides.{nat_tests}}
use mathlib.Core.Bool.{false≢true}
use Rattle.lz_slot.proofs.Counted.{of_pass_other}
use Rattle.lz_disk.specs.Images.{Medium}
use Rattle.lz_machine.specs.Runs.{Caller, Service, State, Transition, caller_at, after_turn, after_fault, state_after}
use Rattle.lz_machine.{specs.Laws.{is_of, SameBut, call_in, ends_life}, proofs.Open.FoundSlots.{pass_of}}

module _ (a : ℕ) where
  other_turn : (service : Service) (disk : Medium) (b : ℕ) (who : Option Caller) → a ≢ b → call_in (after_turn service disk b who) a ≡ caller_at service.callers a
  other_turn service disk b who apart = grind (arith, nat_tests, of_pass_other)

  other_fault : (service : Service) (disk : Medium) (b : ℕ) (who : Option Caller) → a ≢ b → call_in (after_fault service disk b who) a ≡ caller_at service.callers a
  other_fault service disk b who apart = grind (arith, nat_tests, of_pass_other)

  -- a step of others that doesn't end the life leaves it
  pub call_stays : (n : ℕ) (w : State) (step : Transition) → is_of a step ≡ false → ends_life step ≡ false → call_in (state_after n w step) a ≡ call_in w a
  call_stays n w step other goes = grind (arith, nat_tests, of_pass_other, other_turn, other_fault, false≢true, pass_of)

  -- after the life's end states that differ in the call alone are the same
  pub ends_same : (n m : ℕ) (one other : State) (step : Transition) → ends_life step ≡ true → SameBut a one other → state_after m other step ≡ state_after n one step
  ends_same n m one other step ends h = grind arith
