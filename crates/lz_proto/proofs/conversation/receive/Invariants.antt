use Rattle.lz_proto.proofs.conversation.receive.Given as goal
use Rattle.std.{proofs.Common.{◌≡◌, length}, specs.Io.KnownBytes.{Keeps}}

abbrev pub invariant-tries : goal.invariant-tries
invariant-tries g l = (length l.buffer ≡ length l.initial.buffer) × Keeps (g.R.Read.remaining l.initial.reader) (g.R.Read.remaining l.reader)
