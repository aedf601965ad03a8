use Rattle.lz_judge.proofs.renewing.first_outside.Goals as goal
use Rattle.lz_judge.{proofs.KeysOutside.{all_found_within, found_outside, found_within}, specs.Surveys.{found_keys}}
use Rattle.std.proofs.Common.{sym, ◌∙◌}

pub returns-then-is_some : goal.returns-then-is_some
returns-then-is_some c = λ table. let S = found_keys c.args.others.now in
    found_outside S c.args.findings.now c.loop-finding.finding-index c.finding-item.result c.loop-finding-test.true c.finding-item.is (c.loop-finding.invariant table)
    c.slot_outside-outside.result (sym c.is_some.ensures ∙ c.if-is_some.true) (c.slot_outside-outside.ensures table)

pub loop-finding-preserved : goal.loop-finding-preserved
loop-finding-preserved c = λ table. let S = found_keys c.args.others.now in
    found_within S c.args.findings.now c.loop-finding.finding-index c.finding-item.result c.loop-finding-test.true c.finding-item.is (c.loop-finding.invariant table)
    c.slot_outside-outside.result (sym c.is_some.ensures ∙ c.if-is_some.false) (c.slot_outside-outside.ensures table)

pub returns : goal.returns
returns c = λ table. let S = found_keys c.args.others.now in all_found_within S c.args.findings.now c.loop-finding.finding-index c.loop-finding-test.false (c.loop-finding.invariant table)
