use Rattle.lz_rehearsal.proofs.script.read_text.Goals as goal
use Rattle.std.proofs.Common.{ap}
use Rattle.lz_rehearsal.proofs.Scripting.{taken_text}

pub returns-in-Ok-clause-ok : goal.returns-in-Ok-clause-ok
returns-in-Ok-clause-ok g c =
    taken_text (g.R.Read.remaining c.take.result.inner.now) (g.R.Read.remaining c.args.reader.now) c.read_to_end.new.buf.items c.new-text.result.items c.take.result.limit
    (ap (λ b. g.R.Read.remaining b.now) c.take.ensures.inner) c.new-text.ensures.items c.take.ensures.limit c.in-Ok.ensures.bytes
