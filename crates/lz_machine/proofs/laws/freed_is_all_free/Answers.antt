use Rattle.lz_machine.proofs.laws.freed_is_all_free.Goals as goal
use Rattle.lz_machine.proofs.Theorem.FreedSlots.{freed_is_all_free}

pub returns : goal.returns
returns c = freed_is_all_free
