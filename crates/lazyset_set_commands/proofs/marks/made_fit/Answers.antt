use Rattle.lazyset_set_commands.proofs.marks.made_fit.Goals as goal
use Rattle.lazyset_set_commands.specs.declared.marks.Step.TheVariants as step
use Rattle.std.proofs.{lemmas.Result.{IfErr-weaker, IfOk-weaker}, Common.{rules, ◌≡◌, true, sym, ◌∙◌}}
use mathlib.Core.Bool.{true≢false}
use Rattle.lazyset_set_commands.{specs.Marks.{othernumbers_line, othersecret_line, othertext_line, step_for}, proofs.MarkedSets.{mark_fits, marks_failed}}
use Rattle.lazyset_set_commands.proofs.MarkedSets.{none_fits, numbers_why, scan, seal_failed, seal_fits, secret_why, serve_fits, text_why, told_other}

pub returns-in-Ok-None-clause-fit : goal.returns-in-Ok-None-clause-fit
returns-in-Ok-None-clause-fit g c = none_fits g.D.Disk.device c.args.disk c.found_keys.new.disk c.args.wanted c.found_keys.ensures.reads
    (λ N S honest holds. rw c.in-Ok-None.field-0-is at (c.in-Ok-None.ensures.keys N S honest holds))

pub returns-in-Serve-clause-fit : goal.returns-in-Serve-clause-fit
returns-in-Serve-clause-fit g c =
    let is : step_for c.args.wanted c.in-Ok-Some.found ≡ step.Serve = search rules in
    let s = scan g.D.Disk.device c.args.wanted c.args.disk c.found_keys.new.disk c.in-Ok-Some.found c.own_of-own.result c.in-Ok-Some.field-0 c.own_of-own.ensures c.found_keys.ensures.reads
    c.in-Ok-Some.ensures.sure c.in-Ok-Some.ensures.free c.in-Ok-Some.field-0-is c.in-Ok-Some.ensures.keys in
    serve_fits g.D.Disk.device c.args.disk c.found_keys.new.disk c.in-Ok-Some.found c.args.wanted (λ any. let yes : c.eq.result ≡ true = search rules in true≢false (sym yes ∙ c.if-eq.false)) s is

pub returns-in-Mark-clause-fit : goal.returns-in-Mark-clause-fit
returns-in-Mark-clause-fit g c =
    let is : step_for c.args.wanted c.in-Ok-Some.found ≡ step.Mark = search rules in
    let s = scan g.D.Disk.device c.args.wanted c.args.disk c.found_keys.new.disk c.in-Ok-Some.found c.own_of-own.result c.in-Ok-Some.field-0 c.own_of-own.ensures c.found_keys.ensures.reads
    c.in-Ok-Some.ensures.sure c.in-Ok-Some.ensures.free c.in-Ok-Some.field-0-is c.in-Ok-Some.ensures.keys in
    IfOk-weaker c.mark_texts.result _ _ (λ new left. mark_fits g.D.Disk.device c.args.disk c.found_keys.new.disk c.in-Ok-Some.found new c.args.wanted c.own_of-own.result c.own_of-own.ensures s is left) c.mark_texts.ensures.left

pub returns-in-Mark-clause-err : goal.returns-in-Mark-clause-err
returns-in-Mark-clause-err g c =
    let is : step_for c.args.wanted c.in-Ok-Some.found ≡ step.Mark = search rules in
    let s = scan g.D.Disk.device c.args.wanted c.args.disk c.found_keys.new.disk c.in-Ok-Some.found c.own_of-own.result c.in-Ok-Some.field-0 c.own_of-own.ensures c.found_keys.ensures.reads
    c.in-Ok-Some.ensures.sure c.in-Ok-Some.ensures.free c.in-Ok-Some.field-0-is c.in-Ok-Some.ensures.keys in
    IfErr-weaker c.mark_texts.result _ _ (λ refused failed. marks_failed g.D.Disk.device c.args.disk c.found_keys.new.disk c.in-Ok-Some.found refused.1 refused.0 _ _ c.args.wanted c.own_of-own.result c.own_of-own.ensures s is failed)
    c.mark_texts.ensures.err

pub returns-in-Secret-clause-fit : goal.returns-in-Secret-clause-fit
returns-in-Secret-clause-fit g c =
    let is : step_for c.args.wanted c.in-Ok-Some.found ≡ step.Secret = search rules in
    let s = scan g.D.Disk.device c.args.wanted c.args.disk c.found_keys.new.disk c.in-Ok-Some.found c.own_of-own.result c.in-Ok-Some.field-0 c.own_of-own.ensures c.found_keys.ensures.reads
    c.in-Ok-Some.ensures.sure c.in-Ok-Some.ensures.free c.in-Ok-Some.field-0-is c.in-Ok-Some.ensures.keys in
    IfOk-weaker c.seal.result _ _ (λ new left. seal_fits g.D.Disk.device c.args.disk c.found_keys.new.disk c.in-Ok-Some.found new c.args.wanted c.own_of-own.result c.own_of-own.ensures s is left) c.seal.ensures.left

pub returns-in-Secret-clause-err : goal.returns-in-Secret-clause-err
returns-in-Secret-clause-err g c =
    let is : step_for c.args.wanted c.in-Ok-Some.found ≡ step.Secret = search rules in
    let s = scan g.D.Disk.device c.args.wanted c.args.disk c.found_keys.new.disk c.in-Ok-Some.found c.own_of-own.result c.in-Ok-Some.field-0 c.own_of-own.ensures c.found_keys.ensures.reads
    c.in-Ok-Some.ensures.sure c.in-Ok-Some.ensures.free c.in-Ok-Some.field-0-is c.in-Ok-Some.ensures.keys in
    IfErr-weaker c.seal.result _ _ (λ refused failed. seal_failed g.D.Disk.device c.args.disk c.found_keys.new.disk c.in-Ok-Some.found refused.1 refused.0 _ _ c.args.wanted c.own_of-own.result c.own_of-own.ensures s is failed)
    c.seal.ensures.err

pub returns-in-OtherText-clause-err : goal.returns-in-OtherText-clause-err
returns-in-OtherText-clause-err g c =
    let is : step_for c.args.wanted c.in-Ok-Some.found ≡ step.OtherText = search rules in
    let s = scan g.D.Disk.device c.args.wanted c.args.disk c.found_keys.new.disk c.in-Ok-Some.found c.own_of-own.result c.in-Ok-Some.field-0 c.own_of-own.ensures c.found_keys.ensures.reads
    c.in-Ok-Some.ensures.sure c.in-Ok-Some.ensures.free c.in-Ok-Some.field-0-is c.in-Ok-Some.ensures.keys in
    told_other g.D.Disk.device c.args.disk c.found_keys.new.disk c.in-Ok-Some.found c.tell_other.result.1 _ _ _ c.args.wanted s (g.met.D.Disk.timely c.args.disk) othertext_line
    (text_why g.D.Disk.device c.args.disk c.found_keys.new.disk c.in-Ok-Some.found c.args.wanted s is) c.tell_other.ensures

pub returns-in-OtherNumbers-clause-err : goal.returns-in-OtherNumbers-clause-err
returns-in-OtherNumbers-clause-err g c =
    let is : step_for c.args.wanted c.in-Ok-Some.found ≡ step.OtherNumbers = search rules in
    let s = scan g.D.Disk.device c.args.wanted c.args.disk c.found_keys.new.disk c.in-Ok-Some.found c.own_of-own.result c.in-Ok-Some.field-0 c.own_of-own.ensures c.found_keys.ensures.reads
    c.in-Ok-Some.ensures.sure c.in-Ok-Some.ensures.free c.in-Ok-Some.field-0-is c.in-Ok-Some.ensures.keys in
    told_other g.D.Disk.device c.args.disk c.found_keys.new.disk c.in-Ok-Some.found c.tell_other-in-OtherNumbers.result.1 _ _ _ c.args.wanted s (g.met.D.Disk.timely c.args.disk) othernumbers_line
    (numbers_why g.D.Disk.device c.args.disk c.found_keys.new.disk c.in-Ok-Some.found c.args.wanted s is) c.tell_other-in-OtherNumbers.ensures

pub returns-in-OtherSecret-clause-err : goal.returns-in-OtherSecret-clause-err
returns-in-OtherSecret-clause-err g c =
    let is : step_for c.args.wanted c.in-Ok-Some.found ≡ step.OtherSecret = search rules in
    let s = scan g.D.Disk.device c.args.wanted c.args.disk c.found_keys.new.disk c.in-Ok-Some.found c.own_of-own.result c.in-Ok-Some.field-0 c.own_of-own.ensures c.found_keys.ensures.reads
    c.in-Ok-Some.ensures.sure c.in-Ok-Some.ensures.free c.in-Ok-Some.field-0-is c.in-Ok-Some.ensures.keys in
    told_other g.D.Disk.device c.args.disk c.found_keys.new.disk c.in-Ok-Some.found c.tell_other-in-OtherSecret.result.1 _ _ _ c.args.wanted s (g.met.D.Disk.timely c.args.disk) othersecret_line
    (secret_why g.D.Disk.device c.args.disk c.found_keys.new.disk c.in-Ok-Some.found c.args.wanted s is) c.tell_other-in-OtherSecret.ensures
