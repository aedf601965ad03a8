use Rattle.lz_judge.proofs.playing.set_of.Given as goal
use Rattle.std.proofs.Common.{take}
use Rattle.lz_slot.specs.Sets.{members}
use Rattle.lz_judge.specs.Plays.{IsSet}

abbrev pub invariant-loop-key : goal.invariant-loop-key
invariant-loop-key l = IsSet l.found (members (take l.key-index l.keys))
