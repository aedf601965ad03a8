use Rattle.lz_rehearsal.proofs.script.read_lines.Goals as goal
use Rattle.std.proofs.Common.{rules}
use Rattle.lz_rehearsal.proofs.Scripting.{fails_last, fault_told, leaves_all, leaves_next, ended_rest}

pub loop-end-init : goal.loop-end-init
loop-end-init c = rw c.new-lines.ensures.items (leaves_all c.args.text.now)

pub returns-in-Err-clause-err : goal.returns-in-Err-clause-err
returns-in-Err-clause-err c =
    let why = rw c.split_at.ensures.front at c.in-Err.ensures.err in
    fault_told c.args.text.now c.loop-end.rest.now c.in-Some.end c.loop-end.lines.items c.in-Err.fault c.loop-end.invariant c.in-Some.ensures why

pub loop-end-preserved : goal.loop-end-preserved
loop-end-preserved c =
    let adds = rw c.split_at.ensures.front at c.add_line.ensures.ok in
    leaves_next c.args.text.now c.loop-end.rest.now _ c.in-Some.end c.loop-end.lines.items c.add_line.new.lines.items
    c.loop-end.invariant c.in-Some.ensures (ended_rest c.loop-end.rest.now c.split_at.result.1.now c.in-Some.end c.in-Some.ensures c.split_at.ensures.back) (search rules)

pub returns-else-is_empty-clause-err : goal.returns-else-is_empty-clause-err
returns-else-is_empty-clause-err c =
    fails_last c.args.text.now c.loop-end.rest.now _ c.loop-end.lines.items c.loop-end.invariant c.in_default.ensures (search rules) (search rules)
