use Rattle.lz_disk.proofs.memory.MemoryDisk.set_bytewise.Goals as goal
use Rattle.std.proofs.Common.{true, rules}
use Rattle.lz_disk.proofs.GrownRecords.{stays_tied}

pub invariant_of-self : goal.invariant_of-self
invariant_of-self c = (stays_tied _ true _ _ _ _ c.self.invariant.0, search rules)
