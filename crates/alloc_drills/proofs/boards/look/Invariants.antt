use Rattle.alloc_drills.proofs.boards.look.Given as goal
use Rattle.alloc_drills.specs.Looks.{MayLook}

abbrev pub invariant-loop-number : goal.invariant-loop-number
invariant-loop-number g l = MayLook l.board l.pass
