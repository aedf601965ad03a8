use Rattle.lz_judge.proofs.listing.with_answered.Goals as goal
use Rattle.std.proofs.Common.{◌∙◌, sym, subst, ◌∷◌}
use Rattle.lz_slot.specs.declared.history.HistoryEvent.{HistoryEvent}
use Rattle.lz_judge.{specs.Readings.{UnlistedOnes}, proofs.Readings.NextMark.{unlisted_listed, unlisted_more, unlisted_other, some_there, none_there}}

pub returns-then-contains_key : goal.returns-then-contains_key
returns-then-contains_key c = λ M before.
    subst (λ (m : HistoryEvent). UnlistedOnes (m ∷ M) c.args.places.now c.args.least) (sym c.in-Answer.is)
    (unlisted_listed M c.args.places.now c.args.least c.in-Answer.call c.in-Answer.field-1 (some_there _ (sym c.contains_key.ensures ∙ c.if-contains_key.true)) before)

pub returns-else-contains_key : goal.returns-else-contains_key
returns-else-contains_key c = λ M before.
    subst (λ (m : HistoryEvent). UnlistedOnes (m ∷ M) c.args.places.now c.lesser.result) (sym c.in-Answer.is)
    (unlisted_more M c.args.places.now c.args.least c.lesser.result c.in-Answer.call c.in-Answer.field-1 (none_there _ (sym c.contains_key.ensures ∙ c.if-contains_key.false)) c.lesser.ensures.one before)

pub returns-in_default : goal.returns-in_default
returns-in_default c = λ M before. unlisted_other M c.args.places.now c.args.least c.args.mark.now c.in_default.not-Answer before
