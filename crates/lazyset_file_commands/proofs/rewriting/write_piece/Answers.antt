use Rattle.lazyset_file_commands.proofs.rewriting.write_piece.Goals as goal
use Rattle.std.proofs.Common.{length}
use Rattle.lazyset_file_commands.proofs.Rewritten.{piece_keeps, piece_more, same_keeps}

pub returns-in_err-read-clause-keeps : goal.returns-in_err-read-clause-keeps
returns-in_err-read-clause-keeps g c = same_keeps _ _ _ _ (g.met.D.Disk.timely c.args.disk.now) c.in_err-read.ensures.call c.in_err-read.ensures.medium

pub returns-clause-keeps : goal.returns-clause-keeps
returns-clause-keeps g c =
    piece_keeps c.write.result _ (g.D.Disk.device c.args.disk.now) (g.D.Disk.device c.read.new.self) (g.D.Disk.device c.write.new.self) c.args.at (length c.args.piece.now) c.read.new.buffer
    (g.met.D.Disk.timely c.args.disk.now) c.in_ok-read.ensures.call c.in_ok-read.ensures.medium c.requires c.in_ok-read.ensures.bytes
    (g.met.D.Disk.timely c.read.new.self) c.write.ensures.call c.write.ensures.written c.write.ensures.failed

pub returns-clause-written : goal.returns-clause-written
returns-clause-written g c =
    piece_more c.write.result _ (g.D.Disk.device c.args.disk.now) (g.D.Disk.device c.read.new.self) (g.D.Disk.device c.write.new.self) c.args.at (length c.args.piece.now) c.read.new.buffer
    (g.met.D.Disk.timely c.args.disk.now) c.in_ok-read.ensures.call c.in_ok-read.ensures.medium c.requires c.in_ok-read.ensures.bytes
    (g.met.D.Disk.timely c.read.new.self) c.write.ensures.call c.write.ensures.written c.write.ensures.failed
