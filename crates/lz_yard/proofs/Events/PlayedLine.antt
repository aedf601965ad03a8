-- A line from what became of its event.
use Rattle.std.{proofs.{Common.{◌≡◌, ◌≢◌, ℕ, arith}, lemmas.Bool.Decides.{nat_tests}}, specs.Prelude.{Ok, Err}}
use Rattle.lz_disk.specs.Devices.{Device}
use Rattle.lz_vault.specs.{Vaults.{NoCall, Succeeds, died}, declared.vault.VaultFault.{VaultFault}}
use Rattle.lz_machine.specs.declared.{event.{Event.{Event}, Outcome.{Outcome, TheVariants.{Fault, Dead}}}, course.Course.TheVariants.{Refused, Dies, Plays}}
use Rattle.lz_machine.{specs.{Yards.{Yard, actor_at}, Table.{course, with_vault}}, proofs.Runs.Outcomes.{no_fault}}
use Rattle.lz_yard.specs.{Steps.{Played, Tells, nothing_told}, declared.told.Told.{Told}, Parts.{Known, Does}}

module _ (y : Yard) (a : ℕ) (e : Event) where
  -- it is played, and done
  pub played_ok : (outcome : Outcome) (new : Yard) (told : Told) (before after : Device)
      → Known Plays y a e → Does y a e (Ok outcome) new before after → Tells y (actor_at y a) a e told
      → Played y a e outcome new told before after
  played_ok outcome new told before after m d t = grind (arith, nat_tests, no_fault)

  -- it is played, and its device call failed
  pub played_err : (fault : VaultFault) (new : Yard) (told : Told) (before after : Device)
      → Known Plays y a e → Does y a e (Err fault) new before after → told ≡ nothing_told
      → Played y a e Fault new told before after
  played_err fault new told before after m d t = grind arith

  -- it isn't played, and nothing is told
  -- it isn't played
  pub played_refused : (outcome : Outcome) (new : Yard) (told : Told) (before : Device)
      → Refused outcome ≡ course y a e → outcome ≢ Fault → Succeeds NoCall before before → new ≡ y → told ≡ nothing_told
      → Played y a e outcome new told before before
  played_refused outcome new told before m n s k t = grind arith

  -- it finds no sync left
  pub played_dies : (new : Yard) (told : Told) (before after : Device)
      → Dies ≡ course y a e → Succeeds NoCall before after → new ≡ with_vault y (died y.vault) → told ≡ nothing_told
      → Played y a e Dead new told before after
  played_dies new told before after m s k t = grind arith

pub ruleset line_rules = (played_ok, played_err, played_refused, played_dies)
