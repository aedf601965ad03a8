use Rattle.lazyset.proofs.over_disk.make_keys_over.Goals as goal

pub returns : goal.returns
returns g c = rw (← c.shown-disk.ensures, c.end.ensures) c.make_keys_on-status.ensures.any_moment
