use Rattle.lazyset.proofs.over_disk.renew_over.Goals as goal

pub returns : goal.returns
returns g c = rw (← c.shown-old.ensures, ← c.shown-new.ensures, c.end-2.ensures) c.renew_on-status.ensures.any_moment
