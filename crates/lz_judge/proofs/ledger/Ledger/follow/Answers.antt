use Rattle.lz_judge.proofs.ledger.Ledger.follow.Goals as goal
use Rattle.std.proofs.Common.{◌≡◌, sym, subst, false, IfOk}
use Rattle.lz_slot.specs.declared.history.HistoryEvent.{HistoryEvent}
use Rattle.lz_judge.specs.Records.{MayFollow}

pub returns-in-Call-clause-refuses : goal.returns-in-Call-clause-refuses
returns-in-Call-clause-refuses c = λ M before.
    subst (λ (m : HistoryEvent). IfOk c.begin.result (λ may. may ≡ false → ¬ MayFollow m M)) (sym c.in-Call.is) (c.begin.ensures.refuses M c.in-Call.field-2 before)
