use Rattle.lazyset_file_commands.proofs.judging.tell_flaw.Goals as goal
use Rattle.std.proofs.Common.{codes, ◌∙◌}
use Rattle.lz_judge.specs.Flaws.{flaw_number, flaw_subject}
use Rattle.lazyset_file_commands.{specs.{Judgements.{flaw_text}, declared.status.Status.TheVariants.{Damaged}}, proofs.SentTexts.{sent_tells}}
use Rattle.lazyset_file_commands.proofs.TwoNumbers.{two_same}

pub returns : goal.returns
returns g c =
    let flaw = c.args.flaw in
    let sent = two_same (codes "flaw ") c.from-number.result c.subject.result (flaw_number flaw) (flaw_subject flaw) _ _ c.send_two-sent.result
    (c.from-number.ensures ∙ c.number.ensures) c.subject.ensures c.send_two-sent.ensures
    in
    rw c.status_sent.ensures (sent_tells _ _ (flaw_text flaw) Damaged c.send_two-sent.result sent)
