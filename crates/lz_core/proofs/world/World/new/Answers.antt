use Rattle.lz_core.proofs.world.World.new.Goals as goal
use Rattle.std.proofs.Common.{arith}
use Rattle.lz_core.proofs.Opens.OpenedWorld.{new_is, new_world}

pub invariant_of-result : goal.invariant_of-result
invariant_of-result c =
    new_world (record { slots = c.args.slots; buckets = c.args.buckets; passes = 64 }) c.in_ok-disk.disk c.in-Ok.yard c.in-Ok.ensures.ok
    c.args.format c.requires.buckets (omega arith, omega arith) c.in_ok-disk.ensures.0 c.in_ok-callers.callers.items c.in_ok-callers.ensures

pub returns-in-Ok : goal.returns-in-Ok
returns-in-Ok c =
    new_is (record { slots = c.args.slots; buckets = c.args.buckets; passes = 64 }) c.in_ok-disk.disk c.in-Ok.yard c.in-Ok.ensures.ok
    c.args.format c.requires.buckets (omega arith, omega arith) c.in_ok-disk.ensures.0 c.in_ok-callers.callers.items c.in_ok-callers.ensures
