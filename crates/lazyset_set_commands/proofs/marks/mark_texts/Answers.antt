use Rattle.lazyset_set_commands.proofs.marks.mark_texts.Goals as goal
use Rattle.std.proofs.{lemmas.Result.{IfErr-weaker, IfOk-weaker}, Common.{inr, ℕ, List, Option, subst}}
use Rattle.lazyset_set_commands.{specs.Marks.{Leaves, SealFailed, marked, sealed, with_mark}, proofs.MarkLines.{leaves_next}}

pub returns-in-Ok-clause-left : goal.returns-in-Ok-clause-left
returns-in-Ok-clause-left g c =
    let first : Leaves g.D.Disk.device marked c.args.disk c.in-Ok.disk = subst (λ (k : ℕ). Leaves g.D.Disk.device (with_mark k) c.args.disk c.in-Ok.disk) c.texts_mark.ensures c.in-Ok.ensures.left in
    IfOk-weaker c.seal.result _ _ (λ new left. leaves_next g.D.Disk.device marked (sealed c.args.own) c.args.disk c.in-Ok.disk new first left) c.seal.ensures.left

pub returns-in-Ok-clause-err : goal.returns-in-Ok-clause-err
returns-in-Ok-clause-err g c =
    let first : Leaves g.D.Disk.device marked c.args.disk c.in-Ok.disk = subst (λ (k : ℕ). Leaves g.D.Disk.device (with_mark k) c.args.disk c.in-Ok.disk) c.texts_mark.ensures c.in-Ok.ensures.left in
    IfErr-weaker c.seal.result _ _ (λ refused failed. inr (c.in-Ok.disk, first, subst (λ (before : Option (List ℕ)). SealFailed g.D.Disk.device c.args.own refused.0 before (g.W.Write.contents c.seal.new.writer) c.in-Ok.disk refused.1) c.in-Ok.ensures.untold failed))
    c.seal.ensures.err
