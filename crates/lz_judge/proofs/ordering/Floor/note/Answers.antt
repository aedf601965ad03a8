use Rattle.lz_judge.proofs.ordering.Floor.note.Goals as goal
use Rattle.std.proofs.Common.{◌∷◌, sym, subst}
use Rattle.lz_slot.specs.declared.history.HistoryEvent.{HistoryEvent}
use Rattle.lz_judge.{specs.{Readings.{Floored}, Records.{IsLawful}}, proofs.Lives.CurrentLife.{answered_made}}
use Rattle.lz_judge.proofs.Readings.CallFloor.{floored_opened, floored_rest, floored_told, floored_unlisted, floored_untold}

pub returns-in_ok-list-in-Call : goal.returns-in_ok-list-in-Call
returns-in_ok-list-in-Call c = λ M lawful before.
    subst (λ (m : HistoryEvent). Floored (m ∷ M) c.args.places.now c.list.new.self.floor c.list.new.self.top c.list.new.self.used c.list.new.self.least) (sym c.in-Call.is)
    (c.in_ok-list-in-Call.ensures M c.args.places.now c.in-Call.field-1 c.in-Call.field-2 (sym c.in-Some.ensures.value) before)

pub returns-in_default-get : goal.returns-in_default-get
returns-in_default-get c = λ M lawful before.
    subst (λ (m : HistoryEvent). Floored (m ∷ M) c.args.places.now c.args.self.now.floor c.args.self.now.top c.args.self.now.used c.args.self.now.least) (sym c.in-Call.is)
    (floored_unlisted M c.args.places.now _ _ _ _ before c.in-Call.call c.in-Call.field-1 c.in-Call.field-2 (sym c.in_default-get.ensures.value))

pub returns-in-Some-get : goal.returns-in-Some-get
returns-in-Some-get c = λ M lawful before.
    subst (λ (m : HistoryEvent). Floored (m ∷ M) c.args.places.now c.max-self.result c.args.self.now.top c.args.self.now.used c.args.self.now.least) (sym c.in-Answer.is)
    (floored_told M c.args.places.now _ _ _ _ before c.in-Answer.call c.in-Answer.field-1 c.in-Some-get.place.now c.max-self.result (sym c.in-Some-get.ensures.value)
    (answered_made M c.in-Answer.call c.in-Answer.field-1 (subst (λ (m : HistoryEvent). IsLawful (m ∷ M)) c.in-Answer.is lawful)) c.max-self.ensures)

pub returns-in_default-get-2 : goal.returns-in_default-get-2
returns-in_default-get-2 c = λ M lawful before.
    subst (λ (m : HistoryEvent). Floored (m ∷ M) c.args.places.now c.args.self.now.floor c.args.self.now.top c.args.self.now.used c.args.self.now.least) (sym c.in-Answer.is)
    (floored_untold M c.args.places.now _ _ _ _ before c.in-Answer.call c.in-Answer.field-1 (sym c.in_default-get-2.ensures.value))

pub returns-in-Opened : goal.returns-in-Opened
returns-in-Opened c = λ M lawful before.
    subst (λ (m : HistoryEvent). Floored (m ∷ M) c.args.places.now c.max-self-in-Opened.result c.args.self.now.top c.args.self.now.used c.args.self.now.least) (sym c.in-Opened.is)
    (floored_opened M c.args.places.now _ _ _ _ before c.in-Opened.field-0 c.max-self-in-Opened.result c.max-self-in-Opened.ensures)

pub returns-in_default : goal.returns-in_default
returns-in_default c = λ M lawful before. floored_rest M c.args.places.now _ _ _ _ before c.args.mark.now c.in_default.not-Call c.in_default.not-Answer c.in_default.not-Opened
