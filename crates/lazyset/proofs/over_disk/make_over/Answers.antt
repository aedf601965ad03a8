use Rattle.lazyset.proofs.over_disk.make_over.Goals as goal

pub returns : goal.returns
returns g c = rw (← c.shown-disk.ensures, c.end.ensures) c.make_on-status.ensures.any_moment
