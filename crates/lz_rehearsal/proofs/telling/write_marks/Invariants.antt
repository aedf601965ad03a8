use Rattle.lz_rehearsal.proofs.telling.write_marks.Given as goal
use Rattle.std.{proofs.Common.{take}, specs.Io.KnownBytes.{Appends}}
use Rattle.lz_slot.specs.MarkTexts.{marks_text}

abbrev pub invariant-loop-mark : goal.invariant-loop-mark
invariant-loop-mark g l = Appends (g.W.Write.contents l.initial.writer) (g.W.Write.contents l.writer) (marks_text (take l.mark-index l.marks))
