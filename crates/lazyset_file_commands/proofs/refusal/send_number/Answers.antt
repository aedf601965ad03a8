use Rattle.lazyset_file_commands.proofs.refusal.send_number.Goals as goal
use Rattle.std.proofs.Common.{decimal, ◌∙◌}
use Rattle.lazyset_file_commands.proofs.SentTexts.{sent_after, sent_less}

pub returns-in-Err : goal.returns-in-Err
returns-in-Err g c = sent_less _ _ c.args.words.now _ c.in-Err.fault c.in-Err.ensures

pub returns : goal.returns
returns g c = sent_after _ _ _ c.args.words.now (decimal c.args.number) _ c.send-2.result c.in_default.ensures (c.as_bytes.ensures.value ∙ c.format.ensures.text) c.send-2.ensures
