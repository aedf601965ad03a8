use Rattle.lz_proto.proofs.lines.keep.Goals as goal
use Rattle.std.proofs.Common.{[], take}
use Rattle.lz_proto.proofs.Texts.{extended, take_least}

pub returns-clause-ok : goal.returns-clause-ok
returns-clause-ok c =
    extended c.extend_from_slice.result [] c.extend_from_slice.new.self.items (take c.min.result c.args.left.now) (take 66 c.args.left.now)
    (rw c.clear.ensures.items at c.extend_from_slice.ensures.items) (rw c.min.ensures (take_least 66 c.args.left.now))
