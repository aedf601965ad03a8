use Rattle.lazyset_file_commands.proofs.growing.tell_answer.Goals as goal
use Rattle.lazyset_file_commands.proofs.SentTexts.{sent_tells}

pub returns : goal.returns
returns g c = rw (c.status_sent.ensures, c.status_of.ensures) (sent_tells _ _ _ _ c.send_answer.result c.send_answer.ensures)
