use Rattle.lazyset_set_commands.proofs.serving.send_ended.Goals as goal
use Rattle.std.{proofs.Common.{List, ℕ, [], ◌∷◌, Err, subst}, specs.Io.KnownBytes.{Appends}}
use Rattle.lz_proto.specs.Steps.{SendTells}
use Rattle.lazyset_file_commands.proofs.SentTexts.{sent_less, sent_more}

pub returns-in-Err : goal.returns-in-Err
returns-in-Err g c =
    let kept = g.W.Write.contents in
    let part = subst (λ (t : List ℕ). SendTells (kept c.args.writer.now) (kept c.send.new.writer) t (Err c.in-Err.fault)) c.as_bytes.ensures.value c.in-Err.ensures in
    sent_less (kept c.args.writer.now) (kept c.send.new.writer) c.args.text.now (10 ∷ []) c.in-Err.fault part

pub returns : goal.returns
returns g c =
    let kept = g.W.Write.contents in
    let whole = subst (λ (t : List ℕ). Appends (kept c.args.writer.now) (kept c.send.new.writer) t) c.as_bytes.ensures.value c.in_default.ensures in
    sent_more (kept c.args.writer.now) (kept c.send.new.writer) _ c.args.text.now (10 ∷ []) c.send-2.result whole c.send-2.ensures
