use Rattle.lz_judge.proofs.renewing.compare.Goals as goal
use Rattle.std.proofs.Common.{List, ℕ, refl}
use Rattle.lz_judge.specs.{Surveys.{IsSurveyed}, declared.renewing.RenewFlaw.TheVariants.{Missing, Extra}}
use Rattle.lz_judge.proofs.OneSet.{extra, flaw_parts, missing, none_extra, none_missing}

pub returns-in_default-clause-same : goal.returns-in_default-clause-same
returns-in_default-clause-same c = λ before after old new. (λ never. absurd (cc), λ (S, (N, one), other). absurd (c.in_default.ensures before old (N, S, one)))

pub returns-in_default-held_findings-clause-same : goal.returns-in_default-held_findings-clause-same
returns-in_default-held_findings-clause-same c = λ before after old new. (λ never. absurd (cc), λ (S, one, (N, other)). absurd (c.in_default-held_findings.ensures after new (N, S, other)))

pub returns-in-Some-first_outside : goal.returns-in-Some-first_outside
returns-in-Some-first_outside c =
    let first = c.in-Some-first_outside.ensures c.in_ok-kept.ensures in
    let flaw = λ (before : List ℕ) (after : List ℕ) (old : IsSurveyed before c.args.old.now) (new : IsSurveyed after c.args.new.now).
    missing before after c.in-Some.before.now c.in-Some-held_findings.after.now (c.in-Some.ensures before old) (c.in-Some-held_findings.ensures after new) c.in-Some-first_outside.slot first in
    record { same = λ before after old new. (λ never. absurd (cc), λ one. absurd (flaw_parts before after (Missing c.in-Some-first_outside.slot) (flaw before after old new) one)); flaw = flaw }

pub returns-in-Some-first_outside-2 : goal.returns-in-Some-first_outside-2
returns-in-Some-first_outside-2 c =
    let within = c.in_default-first_outside.ensures c.in_ok-kept.ensures in
    let first = c.in-Some-first_outside-2.ensures c.in_ok-given.ensures in
    let flaw = λ (before : List ℕ) (after : List ℕ) (old : IsSurveyed before c.args.old.now) (new : IsSurveyed after c.args.new.now).
    let kept = c.in-Some.ensures before old in
    let given = c.in-Some-held_findings.ensures after new in
    extra before after c.in-Some.before.now c.in-Some-held_findings.after.now kept given (none_missing before after c.in-Some.before.now c.in-Some-held_findings.after.now kept given within) c.in-Some-first_outside-2.slot first in
    record { same = λ before after old new. (λ never. absurd (cc), λ one. absurd (flaw_parts before after (Extra c.in-Some-first_outside-2.slot) (flaw before after old new) one)); flaw = flaw }

pub returns : goal.returns
returns c =
    let within = c.in_default-first_outside.ensures c.in_ok-kept.ensures in
    let inside = c.in_default-first_outside-2.ensures c.in_ok-given.ensures in
    record {
      same = λ before after old new.
          let kept = c.in-Some.ensures before old in
          let given = c.in-Some-held_findings.ensures after new in
          let all = none_missing before after c.in-Some.before.now c.in-Some-held_findings.after.now kept given within in
          (λ done. none_extra before after c.in-Some.before.now c.in-Some-held_findings.after.now kept given all inside, λ held. refl);
      flaw = λ before after old new. tt;
    }
