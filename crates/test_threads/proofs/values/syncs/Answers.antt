use Rattle.test_threads.proofs.values.syncs.Goals as goal

pub sync-requires-clause-counted : goal.sync-requires-clause-counted
sync-requires-clause-counted g c = let was = c.requires.1 in (was.0, was.1, was.2, c.go_on.ensures.counts was.0 was.1 was.2 was.3)

pub returns-in-Syncs : goal.returns-in-Syncs
returns-in-Syncs g c =
    let was = c.requires.1 in
    (c.sync.ensures.pass, (was.0, was.1, was.2, c.sync.ensures.counts was.0 was.1 was.2 (c.go_on.ensures.counts was.0 was.1 was.2 was.3)))

pub returns-in_default : goal.returns-in_default
returns-in_default g c = let was = c.requires.1 in (c.go_on.ensures.pass, (was.0, was.1, was.2, c.go_on.ensures.counts was.0 was.1 was.2 was.3))
