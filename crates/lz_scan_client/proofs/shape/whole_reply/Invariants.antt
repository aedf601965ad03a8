use Rattle.lz_scan_client.proofs.shape.whole_reply.Given as goal
use Rattle.std.specs.Io.KnownBytes.{Consumes}

abbrev pub invariant-pieces : goal.invariant-pieces
invariant-pieces g l = Consumes (g.R.Read.remaining l.initial.reader) (g.R.Read.remaining l.reader) l.text.items
