use Rattle.lz_judge.proofs.scan.Scan.findings.Goals as goal
use Rattle.std.{proofs.{Common.{List, ◌∙◌, sym, subst}, lemmas.List.{with_items_is}}, specs.{List.{IsDistinct, filter_map}, Prelude.{nat_eq}}}
use Rattle.lz_judge.{specs.{Scans.{AreMet}, Surveys.{AreFindings, finding_key}, declared.finding.Finding.{Finding}}, proofs.Surveys.MetSlots.{found_as_met}}

pub returns-then-branch : goal.returns-then-branch
returns-then-branch c = λ says slots are.
    let once = subst (λ (l : List Finding). IsDistinct nat_eq (filter_map finding_key l)) c.as_slice.ensures.value (c.in_ok-has_each_key_once.ensures.0 c.if-branch.true) in
    found_as_met says slots c.args.self.met.items are once

pub returns : goal.returns
returns c = λ says slots are.
    let row = c.find_twins.new.findings in
    let same = with_items_is c.args.self.met row (c.find_twins.auto.findings ∙ c.as_mut_slice.ensures.len) in
    subst (AreFindings says slots) (sym same) (c.in_ok-find_twins.ensures says slots (subst (AreMet says slots) (sym c.as_mut_slice.ensures.value) are))
