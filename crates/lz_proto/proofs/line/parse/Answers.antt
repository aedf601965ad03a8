use Rattle.lz_proto.proofs.line.parse.Goals as goal
use Rattle.lz_proto.proofs.LineReads.{item_read}

pub returns : goal.returns
returns c = rw (c.read_request.ensures, c.without_return.ensures) (item_read c.args.line.now)
