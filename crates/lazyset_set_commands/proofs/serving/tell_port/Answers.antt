use Rattle.lazyset_set_commands.proofs.serving.tell_port.Goals as goal
use Rattle.std.proofs.Common.{◌<◌, sym, ◌∙◌, arith}
use Rattle.lazyset_set_commands.specs.Services.{port_text}
use Rattle.lazyset_file_commands.proofs.SentTexts.{flushed_part, flushed_whole}

pub returns-clause-told : goal.returns-clause-told
returns-clause-told g c = λ whole.
    let kept = g.W.Write.contents in
    let port = c.from.result in
    let low : port < 65_536 = omega (arith, c.from.ensures, c.ranges.port.fits) in
    (port, low, flushed_whole (kept c.args.writer.now) (kept c.send_line-sent.new.writer) (kept c.flush.new.self) (port_text port) c.send_line-sent.result c.send_line-sent.ensures c.flush.ensures.bytes (sym c.is_ok.ensures.value ∙ whole))

pub returns-clause-untold : goal.returns-clause-untold
returns-clause-untold g c = λ part.
    let kept = g.W.Write.contents in
    let port = c.from.result in
    let low : port < 65_536 = omega (arith, c.from.ensures, c.ranges.port.fits) in
    (port, low, flushed_part (kept c.args.writer.now) (kept c.send_line-sent.new.writer) (kept c.flush.new.self) (port_text port) c.send_line-sent.result c.send_line-sent.ensures c.flush.ensures.bytes (sym c.is_ok.ensures.value ∙ part))
