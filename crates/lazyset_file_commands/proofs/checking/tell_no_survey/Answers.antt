use Rattle.lazyset_file_commands.proofs.checking.tell_no_survey.Goals as goal
use Rattle.lazyset_file_commands.proofs.SentTexts.{only_failed}

pub returns-in-Read-clause-failed : goal.returns-in-Read-clause-failed
returns-in-Read-clause-failed g c = only_failed _ c.tell.ensures.told

pub returns-in-Memory : goal.returns-in-Memory
returns-in-Memory g c = record { told = rw c.in-Memory.is c.tell-in-Memory.ensures.tells; failed = only_failed _ c.tell-in-Memory.ensures.told }
