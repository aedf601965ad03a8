use Rattle.lazyset.proofs.over_disk.run_over.Goals as goal

pub returns : goal.returns
returns g c = rw (← c.shown-disk.ensures, c.end.ensures) c.run_on-status.ensures.set
