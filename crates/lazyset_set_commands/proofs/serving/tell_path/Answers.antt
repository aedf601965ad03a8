use Rattle.lazyset_set_commands.proofs.serving.tell_path.Goals as goal
use Rattle.std.proofs.Common.{sym, ◌∙◌}
use Rattle.lazyset_set_commands.specs.Services.{path_text}
use Rattle.lazyset_file_commands.proofs.SentTexts.{flushed_part, flushed_whole}

pub returns-clause-told : goal.returns-clause-told
returns-clause-told g c = λ whole.
    let kept = g.W.Write.contents in
    flushed_whole (kept c.args.writer.now) (kept c.send_path-sent.new.writer) (kept c.flush.new.self) (path_text c.args.path.now) c.send_path-sent.result c.send_path-sent.ensures c.flush.ensures.bytes (sym c.is_ok.ensures.value ∙ whole)

pub returns-clause-untold : goal.returns-clause-untold
returns-clause-untold g c = λ part.
    let kept = g.W.Write.contents in
    flushed_part (kept c.args.writer.now) (kept c.send_path-sent.new.writer) (kept c.flush.new.self) (path_text c.args.path.now) c.send_path-sent.result c.send_path-sent.ensures c.flush.ensures.bytes (sym c.is_ok.ensures.value ∙ part)
