use Rattle.lz_judge.proofs.renewing.held_findings.Goals as goal
use Rattle.std.proofs.Common.{List, sym, ◌∙◌, subst}
use Rattle.lz_judge.{specs.{Surveys.{IsSurveyed}, Renewals.{AreHeld}, declared.finding.{Finding.{Finding}, Survey.{Survey}}}, proofs.OneSet.{held_found}}

pub returns-in-Found : goal.returns-in-Found
returns-in-Found c = λ t surveyed.
    let (M, S, held) = surveyed.good.0 (sym c.is_good.ensures ∙ c.if-is_good.true) in
    let found = subst (λ (s : Survey). IsSurveyed t s) c.in-Found.is surveyed in
    subst (λ (l : List Finding). AreHeld t l) (sym c.as_slice.ensures.value) (held_found t c.in-Found.findings.items c.in-Found.field-0.slots found.told.0 found.told.2 M S held)
