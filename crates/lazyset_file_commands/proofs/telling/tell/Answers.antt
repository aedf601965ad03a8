use Rattle.lazyset_file_commands.proofs.telling.tell.Goals as goal
use Rattle.lazyset_file_commands.proofs.SentTexts.{sent_tells, told_either}

pub returns-clause-told : goal.returns-clause-told
returns-clause-told g c = rw c.status_sent.ensures (told_either _ _ _ _ _ (sent_tells _ _ _ c.args.status c.send.result c.send.ensures))

pub returns-clause-tells : goal.returns-clause-tells
returns-clause-tells g c = rw c.status_sent.ensures (sent_tells _ _ _ c.args.status c.send.result c.send.ensures)
