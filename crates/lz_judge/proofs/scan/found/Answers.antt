use Rattle.lz_judge.proofs.scan.found.Goals as goal
use Rattle.std.proofs.Common.{◌∙◌, Some, ap, subst, sym}
use Rattle.lz_judge.specs.{Scans.{IsMet}, Surveys.{AreFindings, slot_of}, declared.finding.Finding.{Finding}}
use Rattle.lz_judge.proofs.Surveys.SlotFinding.{found_again, found_first}

pub returns-in-Some : goal.returns-in-Some
returns-in-Some c = λ says is below table.
    let slot = c.in-Key.slot in
    let found = c.args.below.now in
    let findings = subst (λ (f : Finding). AreFindings says (slot_of f) found) c.in-Key.is below in
    let key = c.in-Some.ensures.found table ∙ ap Some c.rank.ensures.value in
    (rw c.slot.ensures (found_again says slot found findings c.in-Key.key c.in-Some.index c.index-below-index.result (subst (IsMet says) c.in-Key.is is) c.in-Some.ensures.low c.index-below-index.is key), ap slot_of (sym c.in-Key.is))

pub returns-in-None : goal.returns-in-None
returns-in-None c = λ says is below table.
    let findings = subst (λ (f : Finding). AreFindings says (slot_of f) c.args.below.now) c.in-Key.is below in (
      found_first says c.in-Key.slot c.args.below.now findings c.in-Key.key (subst (IsMet says) c.in-Key.is is)
          (λ i there. c.in-None.ensures.found table i (there ∙ ap Some (sym c.rank.ensures.value))),
      ap slot_of (sym c.in-Key.is),
    )
