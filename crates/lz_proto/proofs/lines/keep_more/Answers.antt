use Rattle.lz_proto.proofs.lines.keep_more.Goals as goal
use Rattle.std.proofs.Common.{◌-◌, ◌++◌, take, arith}
use Rattle.lz_proto.proofs.Texts.{extended, kept_more}

pub returns-clause-ok : goal.returns-clause-ok
returns-clause-ok c =
    extended c.extend_from_slice.result c.args.kept.now.items c.extend_from_slice.new.self.items (take c.min.result c.args.more.now) (take 66 (c.args.kept.now.items ++ c.args.more.now))
    (rw c.in_ok-reserve_exact.ensures.items at c.extend_from_slice.ensures.items) (kept_more c.args.kept.now.items c.args.more.now c.min.result (66 - c.len-room.result) c.min.ensures (omega arith))
