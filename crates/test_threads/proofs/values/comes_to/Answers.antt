use Rattle.test_threads.proofs.values.comes_to.Goals as goal

pub returns : goal.returns
returns g c = let was = c.requires.1 in (c.go_on.ensures.pass, (was.0, was.1, was.2, c.go_on.ensures.counts was.0 was.1 was.2 was.3))
