use Rattle.lazyset_set_commands.proofs.marks.seal.Goals as goal
use Rattle.std.proofs.Common.{ℕ, IfOk, Option, subst, sym}
use Rattle.lazyset_set_commands.specs.Marks.{Leaves, sealed}

pub returns-in-Some-clause-left : goal.returns-in-Some-clause-left
returns-in-Some-clause-left g c = subst (λ (o : Option ℕ). IfOk c.mark.result (λ mid. Leaves g.D.Disk.device (sealed o) c.args.disk mid)) (sym c.in-Some.is) c.mark.ensures.left
