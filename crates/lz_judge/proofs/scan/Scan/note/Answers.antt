use Rattle.lz_judge.proofs.scan.Scan.note.Goals as goal
use Rattle.std.proofs.Common.{◌∙◌, ⊎_elim, refl, sym, ap, subst}
use Rattle.lz_judge.{specs.Surveys.{open_slot}, proofs.Surveys.{SlotFinding.{IsOpened}, MetSlots.{met_closed, met_more}}}

pub returns-in-Closed : goal.returns-in-Closed
returns-in-Closed c = λ says is before.
    let none = ⊎_elim (λ shut. ap (λ r. open_slot r c.args.slot) (is ∙ shut)) (λ torn. ap (λ r. open_slot r c.args.slot) (is ∙ torn)) c.in-Closed.is in
    met_closed says c.args.slot _ none before

pub returns-in-BadKey : goal.returns-in-BadKey
returns-in-BadKey c = λ says is before.
    let here = is ∙ c.in-BadKey.is in
    met_more says c.args.slot c.args.self.now c.add.new.self _ c.add.result (subst IsOpened (sym here) tt) refl here c.add.ensures before

pub returns-in-Member : goal.returns-in-Member
returns-in-Member c = λ says is before.
    let here = is ∙ c.in-Member.is in
    met_more says c.args.slot c.args.self.now c.add-in-Member.new.self _ c.add-in-Member.result (subst IsOpened (sym here) tt) refl here c.add-in-Member.ensures before
