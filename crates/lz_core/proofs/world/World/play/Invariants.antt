use Rattle.lz_core.proofs.world.World.play.Given as goal
use Rattle.std.proofs.Common.{◌≡◌, take}
use Rattle.lz_core.specs.Worlds.{PlaysOn}

abbrev pub invariant-loop-before : goal.invariant-loop-before
invariant-loop-before l = record {
  played : PlaysOn l.fn.self (take l.before l.steps) l.marks.items l.self;
  still : l.before ≡ 0 → l.self ≡ l.fn.self;
}
