use Rattle.lazyset_file_commands.proofs.rewriting.rewrite.Goals as goal
use Rattle.std.proofs.{Common.{IsTrue, length, ap, subst, sym, ◌∙◌}, lemmas.Result.{err_from_is_err_and}}
use Rattle.lazyset_file_commands.proofs.Rewritten.{any_before}

pub returns-in_err-slots-clause-refused : goal.returns-in_err-slots-clause-refused
returns-in_err-slots-clause-refused g c =
    let p = err_from_is_err_and c.from_residual.result c.from_residual.ensures.1 in
    rw (p.1, p.2) c.in_err-slots.ensures.refused

pub returns-in-Ok-clause-written : goal.returns-in-Ok-clause-written
returns-in-Ok-clause-written g c = λ honest off.
    let keeps = c.in_ok-slots.ensures.keeps in
    any_before (Unit {0}) (g.D.Disk.device c.args.disk.now) (g.D.Disk.device c.slots_of.new.disk) (g.D.Disk.device c.write_whole.new.disk) honest keeps (ap length (keeps.seen honest tt))
    (c.in-Ok.ensures.written (subst IsTrue (sym keeps.honest) honest) (keeps.bytewise honest ∙ off))

pub returns-in-Ok-clause-safe : goal.returns-in-Ok-clause-safe
returns-in-Ok-clause-safe g c = λ honest none. absurd (none c.in_ok-slots.slots (c.in_ok-slots.ensures.whole honest))

pub returns-in-Err-clause-safe : goal.returns-in-Err-clause-safe
returns-in-Err-clause-safe g c = λ honest none. absurd (none c.in_ok-slots.slots (c.in_ok-slots.ensures.whole honest))
