use Rattle.lz_proto.proofs.conversation.send.Given as goal
use Rattle.lz_proto.proofs.Bytes.{Sending}

abbrev pub invariant-tries : goal.invariant-tries
invariant-tries g l = Sending (g.W.Write.contents l.initial.writer) (g.W.Write.contents l.writer) l.text l.rest
