use Rattle.test_threads.proofs.values.answer.Goals as goal

pub answer-answer-requires-clause-counted : goal.answer-answer-requires-clause-counted
answer-answer-requires-clause-counted g c = let was = c.requires.1 in (was.0, was.1, was.2, c.go_on.ensures.counts was.0 was.1 was.2 was.3)
