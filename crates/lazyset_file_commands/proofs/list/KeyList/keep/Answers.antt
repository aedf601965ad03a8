use Rattle.lazyset_file_commands.proofs.list.KeyList.keep.Goals as goal
use Rattle.std.proofs.Common.{arith}
use Rattle.lazyset_file_commands.proofs.ListPieces.{part_too_long}

pub returns-then-len-most_bytes-clause-err : goal.returns-then-len-most_bytes-clause-err
returns-then-len-most_bytes-clause-err c = part_too_long c.args.self.now c.args.part.now c.extend_from_slice.new.self.items c.most_bytes.result c.fault.result c.requires.kept c.requires.clear
    c.in-Ok.ensures.items (omega (arith, c.len.ensures, c.if-len-most_bytes.true)) c.most_bytes.ensures c.fault.ensures
