use Rattle.lz_serve.proofs.conversation.pass_over.Given as goal
use Rattle.std.specs.Prelude.{◌≡◌, drop}

abbrev pub invariant-loop : goal.invariant-loop
invariant-loop g l = l.queue.items ≡ drop l.counter l.fn.queue.items
