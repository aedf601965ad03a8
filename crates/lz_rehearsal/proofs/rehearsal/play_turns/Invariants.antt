use Rattle.lz_rehearsal.proofs.rehearsal.play_turns.Given as goal
use Rattle.lz_rehearsal.proofs.Rehearsed.{Going}

abbrev pub invariant-loop : goal.invariant-loop
invariant-loop l = Going l.actor l.awaited l.most l.fn.world l.counter l.world
