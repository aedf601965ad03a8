use Rattle.lazyset_file_commands.proofs.refusal.refuse_line.Goals as goal
use Rattle.lazyset_file_commands.{specs.declared.status.Status.TheVariants.{Refused}, proofs.SentTexts.{sent_tells}}

pub returns : goal.returns
returns g c = rw c.status_sent.ensures (sent_tells _ _ _ Refused c.send_line.result c.send_line.ensures)
