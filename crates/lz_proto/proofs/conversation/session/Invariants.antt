use Rattle.lz_proto.proofs.conversation.session.Given as goal
use Rattle.std.proofs.Common.{◌<◌, length}
use Rattle.lz_proto.{specs.Sessions.{Writes}, proofs.Begun.{Begun}}

abbrev pub invariant-pieces : goal.invariant-pieces
invariant-pieces g l =
    record {
      begun :
          Writes (g.W.Write.contents l.initial.writer) (g.W.Write.contents l.writer) (λ written.
          Begun g.S.Service.answers (g.R.Read.remaining l.initial.reader) (g.R.Read.remaining l.reader) l.lines l.initial.service l.service written);
      room : 0 < length l.buffer;
    }
