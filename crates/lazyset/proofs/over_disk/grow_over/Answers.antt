use Rattle.lazyset.proofs.over_disk.grow_over.Goals as goal

pub returns : goal.returns
returns g c = rw (← c.shown-old.ensures, ← c.shown-new.ensures, c.end.ensures, c.end-2.ensures) c.grow_on-status.ensures.named
