use Rattle.lazyset_file_commands.proofs.list.KeyList.take_line.Goals as goal
use Rattle.std.proofs.Common.{rules}
use Rattle.lazyset_file_commands.proofs.ListPieces.{line_at_fault, line_kept, line_read}

pub returns-in-Err-clause-err : goal.returns-in-Err-clause-err
returns-in-Err-clause-err c =
    line_at_fault c.args.self.now c.args.part.now c.extend_from_slice.new.self.items c.in-Err.fault c.requires.kept c.requires.clear c.in-Ok.ensures.items c.in-Err.ensures.err

pub returns-clause-kept : goal.returns-clause-kept
returns-clause-kept c = line_kept c.args.self.now c.args.part.now c.extend_from_slice.new.self.items _ c.requires.kept c.requires.clear c.in-Ok.ensures.items
    c.in_default-add_line.ensures.ok c.add_line.ensures.like c.clear.ensures.items c.in_default-add_line.ensures.seen

pub returns-clause-goes : goal.returns-clause-goes
returns-clause-goes c = line_read c.args.self.now c.args.part.now c.extend_from_slice.new.self.items _ c.requires.kept c.requires.clear c.in-Ok.ensures.items
    c.in_default-add_line.ensures.ok c.add_line.ensures.like c.clear.ensures.items (search rules)
