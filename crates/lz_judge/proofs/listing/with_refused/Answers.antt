use Rattle.lz_judge.proofs.listing.with_refused.Goals as goal
use Rattle.std.proofs.Common.{◌∙◌, sym, subst, ◌∷◌}
use Rattle.lz_slot.specs.declared.history.HistoryEvent.{HistoryEvent}
use Rattle.lz_judge.{specs.Readings.{RefusedOnes}, proofs.Readings.NextMark.{refused_unlisted, refused_more, some_there, none_there}}

pub returns-then-contains_key : goal.returns-then-contains_key
returns-then-contains_key c = λ M before.
    subst (λ (m : HistoryEvent). RefusedOnes (m ∷ M) c.args.places.now c.lesser.result) (sym c.in-Refused.is)
    (refused_more M c.args.places.now c.args.least c.lesser.result c.in-Refused.call c.in-Refused.field-1 (some_there _ (sym c.contains_key.ensures ∙ c.if-contains_key.true)) c.lesser.ensures.one before)

pub returns-else-contains_key : goal.returns-else-contains_key
returns-else-contains_key c = λ M before.
    subst (λ (m : HistoryEvent). RefusedOnes (m ∷ M) c.args.places.now c.args.least) (sym c.in-Refused.is)
    (refused_unlisted M c.args.places.now c.args.least c.in-Refused.call c.in-Refused.field-1 (none_there _ (sym c.contains_key.ensures ∙ c.if-contains_key.false)) before)
