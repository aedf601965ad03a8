-- What a turn is told as, by whether its device was tripped.
use Rattle.std.proofs.Common.{◌≡◌, ◌≢◌, ℕ, true, false, List, [], ◌∷◌, refl, sym, ◌∙◌, subst}
use Rattle.lz_slot.specs.declared.history.HistoryEvent.{HistoryEvent}
use Rattle.lz_machine.specs.{declared.event.Outcome.{Outcome, TheVariants.{Fault}}, Runs.{Turn, Fails}}
use Rattle.lz_core.{specs.{declared.play.Step.TheVariants.{Turn as TurnOf}, Worlds.{WorldOver, PlaysOn, TakesTurn}}, proofs.Runs.PlayedStep.{leads}}

module _ (old mid : WorldOver) (a : ℕ) (outcome : Outcome) (marks : List HistoryEvent) (takes : TakesTurn old a outcome marks mid) where
  -- one that was done
  pub done_plays : outcome ≢ Fault → PlaysOn old (TurnOf a ∷ []) marks mid
  done_plays other =
      let done = takes.done other in
      leads old mid (TurnOf a) (Turn a) marks done.0 takes.of_run done.1 (sym takes.tripped)

  -- one whose device call failed, as it was tripped: the trip is over
  pub failed_plays : (new : WorldOver) → outcome ≡ Fault → mid.tripped ≡ true → new ≡ record mid { tripped = false } → PlaysOn old (TurnOf a ∷ []) marks new
  failed_plays new fault tripped is =
      let failed = takes.failed fault in
      let goes = failed.1 in
      subst (PlaysOn old (TurnOf a ∷ []) marks) (sym is)
      (leads old (record mid { tripped = false }) (TurnOf a) (Fails a failed.0) marks (record { is = goes.is; may = goes.may; to = goes.to; counts = goes.counts; told = goes.told }) takes.of_run (sym takes.tripped ∙ tripped) refl)
