use Rattle.lz_judge.proofs.scan.find_twins.Goals as goal
use Rattle.std.proofs.Common.{◌≡◌, ◌≢◌, ◌<◌, ◌+◌, ◌∷◌, [], ◌∙◌, length, take, get_or, map, ap, subst, sym, arith, length-set, get_or-set_other}
use Rattle.std.proofs.lemmas.List.{map-append, take_more_set}
use Rattle.lz_judge.specs.{Scans.{IsMet}, Surveys.{AreFindings, finding_key, slot_of}, declared.finding.Finding.{Finding}}
use Rattle.lz_judge.proofs.Surveys.MetSlots.{IsTelling, told_below, told_more}

pub loop-index-preserved : goal.loop-index-preserved
loop-index-preserved c =
    let i = c.loop-index.index in
    let now = c.loop-index.findings in
    let met = c.args.findings.now in
    let inv = c.loop-index.invariant in
    let here = c.found-here.result in
    let one = c.index-findings-index.result in
    let within : i < length now = omega (arith, inv.size, c.loop-index-test.true) in
    let low : i < length met = c.loop-index-test.true in
    let same : get_or met i one ≡ one = sym (inv.rest i one (omega arith)) ∙ sym c.index-findings-index.is in
    record {
      size = length-set now i here ∙ inv.size;
      rest = λ j d le. let apart : j ≢ i = omega (arith, le) in get_or-set_other now i j here d apart ∙ inv.rest j d (omega (arith, le));
      told = λ says n are.
          let telling = inv.told says n are in
          let below = subst (λ (f : Finding). AreFindings says (slot_of f) (take i now)) same (told_below says n met are i one low (take i now) telling) in
          let answer = c.found-here.ensures says (subst (IsMet says) same (are.each i one low)) below inv.table in
          subst (IsTelling says met (i + 1)) (sym (take_more_set now i here within))
          (told_more says n met are i one low (take i now) telling here answer.0 (answer.1 ∙ ap slot_of (sym same)));
      table = c.in_ok-add.ensures (map finding_key (take i now)) (finding_key here)
          (ap (map finding_key) (take_more_set now i here within) ∙ map-append finding_key (take i now) (here ∷ [])) inv.table;
    }
