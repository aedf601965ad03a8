use Rattle.lazyset_file_commands.proofs.torn.torn_slots.Goals as goal
use Rattle.std.proofs.Common.{arith}
use Rattle.lazyset_file_commands.proofs.TornSlots.{gated_has, refused_has}

pub returns-in_default : goal.returns-in_default
returns-in_default g c =
    let size = c.read_exact.auto.buf in
    refused_has c.read_exact.new.buf (g.R.Read.remaining c.args.reader.now) (g.R.Read.remaining c.read_exact.new.self) (omega (arith, size)) c.in_ok-read_exact.ensures.bytes
    c.in_default.field-0 c.in_default.ensures.slots

pub returns-in-One : goal.returns-in-One
returns-in-One g c =
    let size = c.read_exact.auto.buf in
    gated_has c.read_exact.new.buf (g.R.Read.remaining c.args.reader.now) (g.R.Read.remaining c.read_exact.new.self) (omega (arith, size)) c.in_ok-read_exact.ensures.bytes
    c.in-Ok.header.format c.in-Ok.ensures.format c.in-One.is
