use Rattle.lazyset_file_commands.proofs.refusal.refuse.Goals as goal
use Rattle.lazyset_file_commands.proofs.SentTexts.{refusal_ends, sent_tells, told_refused}

pub returns-clause-told : goal.returns-clause-told
returns-clause-told g c = rw (c.status_sent.ensures, c.status_of.ensures) (sent_tells _ _ _ _ c.send_refusal.result c.send_refusal.ensures)

pub returns-clause-refused : goal.returns-clause-refused
returns-clause-refused g c = rw (c.status_sent.ensures, c.status_of.ensures) (told_refused _ _ _ _ _ (sent_tells _ _ _ _ c.send_refusal.result c.send_refusal.ensures))

pub returns-clause-other : goal.returns-clause-other
returns-clause-other g c = rw (c.status_sent.ensures, c.status_of.ensures) (refusal_ends _ _ _ c.args.fault _ (sent_tells _ _ _ _ c.send_refusal.result c.send_refusal.ensures))
