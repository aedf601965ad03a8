use Rattle.lz_rehearsal.proofs.telling.write_keys.Given as goal
use Rattle.std.{proofs.Common.{take}, specs.Io.KnownBytes.{Appends}}
use Rattle.lz_slot.specs.MarkTexts.{keys_text}

abbrev pub invariant-loop-key : goal.invariant-loop-key
invariant-loop-key g l = Appends (g.W.Write.contents l.initial.writer) (g.W.Write.contents l.writer) (keys_text (take l.key-index l.keys))
