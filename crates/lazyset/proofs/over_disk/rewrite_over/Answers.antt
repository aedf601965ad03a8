use Rattle.lazyset.proofs.over_disk.rewrite_over.Goals as goal

pub returns-clause-same : goal.returns-clause-same
returns-clause-same g c = rw (← c.shown-disk.ensures, c.end.ensures) c.rewrite-answer.ensures.same

pub returns-clause-any_moment : goal.returns-clause-any_moment
returns-clause-any_moment g c = rw (← c.shown-disk.ensures, c.end.ensures) c.rewrite-answer.ensures.any_moment

pub returns-clause-safe : goal.returns-clause-safe
returns-clause-safe g c = rw (← c.shown-disk.ensures, c.end.ensures) c.rewrite-answer.ensures.safe

pub returns-clause-calls : goal.returns-clause-calls
returns-clause-calls g c = rw (← c.shown-disk.ensures, c.end.ensures) c.rewrite-answer.ensures.calls
