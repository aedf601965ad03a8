use Rattle.lz_proto.specs.declared.end.End.TheVariants as ends
use Rattle.lz_proto.proofs.conversation.answer_piece.Given as goal
use Rattle.std.proofs.Common.{take}
use Rattle.lz_proto.specs.Sessions.{Answered, Writes}

abbrev pub invariant-items : goal.invariant-items
invariant-items g l =
    Writes (g.W.Write.contents l.initial.writer) (g.W.Write.contents l.writer) (λ written.
    Answered g.S.Service.answers l.initial.service (take l.item-index l.item-items) l.service written ends.Done)
