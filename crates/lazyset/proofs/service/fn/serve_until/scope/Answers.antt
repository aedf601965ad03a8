use Rattle.lazyset.proofs.service.fn.serve_until.scope.Goals as goal

pub returns : goal.returns
returns g c = record { ran = rw c.options-options.ensures at c.serve_kept_on-status.ensures }
