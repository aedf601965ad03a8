use Rattle.lazyset_file_commands.proofs.list.KeyList.take.Goals as goal
use Rattle.std.proofs.Common.{rules}
use Rattle.lz_slot.proofs.Texts.Cuts.{lacks_all, lacks_first}
use Rattle.lazyset_file_commands.proofs.ListPieces.{last_fails, within_fails, within_next}

pub take_line-requires-clause-clear : goal.take_line-requires-clause-clear
take_line-requires-clause-clear c = rw c.split_at.ensures.front (lacks_first 10 c.loop-end.rest.now c.in-Some.end c.in-Some.ensures)

pub returns-in-Err-clause-err : goal.returns-in-Err-clause-err
returns-in-Err-clause-err c =
    within_fails c.args.self.now c.args.piece.now c.loop-end.self c.loop-end.rest.now c.in-Some.end c.in-Some.ensures c.loop-end.invariant c.in-Err.fault (rw c.split_at.ensures.front at c.in-Err.ensures.err)

pub loop-end-preserved : goal.loop-end-preserved
loop-end-preserved c = within_next c.args.self.now c.args.piece.now c.loop-end.self c.loop-end.rest.now c.in-Some.end c.in-Some.ensures c.loop-end.invariant
    c.take_line.new.self c.split_at.result.1.now _ c.in_default-take_line.ensures.kept (rw c.split_at.ensures.front at c.in_default-take_line.ensures.goes) c.split_at.ensures.back (search rules)

pub keep-requires-clause-clear : goal.keep-requires-clause-clear
keep-requires-clause-clear c = lacks_all 10 c.loop-end.rest.now c.in_default.ensures

pub returns-clause-err : goal.returns-clause-err
returns-clause-err c = last_fails c.args.self.now c.args.piece.now c.loop-end.self c.loop-end.rest.now c.loop-end.invariant c.keep.result c.keep.ensures.err
