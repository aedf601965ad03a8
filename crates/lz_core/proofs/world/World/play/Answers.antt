use Rattle.lz_core.proofs.world.World.play.Goals as goal
use Rattle.std.proofs.{Common.{◌+◌, ◌++◌, List, Option, length, arith, subst, sym, ◌∙◌, ap, take, refl}, lemmas.Result.{err_from_is_err_and}}
use Rattle.std.proofs.lemmas.{Option.{slice_get_read}, List.{take_all, append-nil}}
use Rattle.lz_core.specs.{declared.{world.PlayFault.TheVariants.{NotNow, Memory}, play.Step.{Step as PlayStep}}, Worlds.{PlaysOn, mark_list}}
use Rattle.lz_core.proofs.Runs.{PlayedStep.{stays}, JoinedPlays.{chains, goes_on, early_on, stops_at, same_fault, no_mark}}
use Rattle.lz_core.proofs.world.World.play.Goals.{in-Some, in_default}
use Rattle.lz_slot.specs.declared.history.HistoryEvent.{HistoryEvent}

pub loop-before-init : goal.loop-before-init
loop-before-init c = record {
  played = rw c.new-marks.ensures.items (stays c.args.self.now);
  still = λ none. refl;
}

pub returns-in_err-mark-clause-not_now : goal.returns-in_err-mark-clause-not_now
returns-in_err-mark-clause-not_now c = λ n is.
    let p = err_from_is_err_and c.from_residual.result c.from_residual.ensures.1 in
    let at = slice_get_read c.args.steps.now (length c.args.steps.now) c.loop-before.before c.index-steps-before.result refl c.loop-before-test.true c.index-steps-before.is in
    let told = c.in_err-mark.ensures.not_now n (same_fault c.from_residual.result p.0 _ (NotNow n) p.1 p.2 is) in
    stops_at c.args.self.now c.loop-before.self c.play_step.new.self c.args.steps.now c.loop-before.before n c.index-steps-before.result c.loop-before.marks.items at c.loop-before.invariant.played told.0 told.1 told.2

pub returns-in_err-mark-clause-first : goal.returns-in_err-mark-clause-first
returns-in_err-mark-clause-first c = λ is.
    let p = err_from_is_err_and c.from_residual.result c.from_residual.ensures.1 in
    let told = c.in_err-mark.ensures.not_now 1 (same_fault c.from_residual.result p.0 _ (NotNow 1) p.1 p.2 is) in
    told.1 ∙ c.loop-before.invariant.still (omega (arith, told.0))

pub returns-in_err-mark-clause-memory : goal.returns-in_err-mark-clause-memory
returns-in_err-mark-clause-memory c = λ is.
    let p = err_from_is_err_and c.from_residual.result c.from_residual.ensures.1 in
    let at = slice_get_read c.args.steps.now (length c.args.steps.now) c.loop-before.before c.index-steps-before.result refl c.loop-before-test.true c.index-steps-before.is in
    early_on c.args.self.now c.loop-before.self c.play_step.new.self c.args.steps.now c.loop-before.before c.index-steps-before.result c.loop-before.marks.items at c.loop-before.invariant.played
    (c.in_err-mark.ensures.memory (same_fault c.from_residual.result p.0 _ Memory p.1 p.2 is))

pub loop-before-preserved : goal.loop-before-preserved
loop-before-preserved c =
    let at = slice_get_read c.args.steps.now (length c.args.steps.now) c.loop-before.before c.index-steps-before.result refl c.loop-before-test.true c.index-steps-before.is in
    let more = goes_on c.args.self.now c.loop-before.self c.play_step.new.self c.args.steps.now c.loop-before.before c.index-steps-before.result c.loop-before.marks.items _ at c.loop-before.invariant.played c.in_ok-mark.ensures.ok in
    let kept = ap (λ (ms : List HistoryEvent). ms ++ mark_list c.in_ok-mark.field-0) (sym c.reserve.ensures.items) in
    record {
      played = elim c.match-branch-2.branch [
        | in-Some w ↦
            subst (λ (ms : List HistoryEvent). PlaysOn c.args.self.now (take (c.loop-before.before + 1) c.args.steps.now) ms c.play_step.new.self)
            (kept ∙ ap (λ (mark : Option HistoryEvent). c.reserve.new.self.items ++ mark_list mark) w.in-Some.is ∙ sym w.push_reserved.ensures.items ∙ ap (λ v. v.items) (sym w.marks-is)) more
        | in_default w ↦
            subst (λ (ms : List HistoryEvent). PlaysOn c.args.self.now (take (c.loop-before.before + 1) c.args.steps.now) ms c.play_step.new.self)
            (kept ∙ ap (λ (ms : List HistoryEvent). c.reserve.new.self.items ++ ms) (no_mark c.in_ok-mark.field-0 w.in_default.not-Some) ∙ append-nil c.reserve.new.self.items ∙ ap (λ v. v.items) (sym w.marks-is)) more
      ];
      still = λ none. absurd (omega (arith, none));
    }

pub returns-clause-ok : goal.returns-clause-ok
returns-clause-ok c =
    subst (λ (plays : List PlayStep). PlaysOn c.args.self.now plays c.loop-before.marks.items c.loop-before.self)
    (take_all c.loop-before.before c.args.steps.now c.loop-before-test.false) c.loop-before.invariant.played

pub returns-clause-chain : goal.returns-clause-chain
returns-clause-chain c = chains c.args.self.now c.loop-before.self (take c.loop-before.before c.args.steps.now) c.loop-before.marks.items c.loop-before.invariant.played
