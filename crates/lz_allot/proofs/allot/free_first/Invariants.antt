use Rattle.lz_allot.specs.declared.kind.Kind.TheVariants as kind
use Rattle.lz_allot.proofs.allot.free_first.Given as goal
use Rattle.std.{proofs.Common.{◌≡◌, true, take, drop}, specs.VecDeque.{deque_capacity}}
use Rattle.lz_allot.specs.Allots.{set_each}

abbrev pub invariant-loop : goal.invariant-loop
invariant-loop l = record {
  limbo : l.limbo.items ≡ drop l.counter l.initial.limbo.items;
  kinds : l.kinds ≡ set_each l.initial.kinds (take l.counter l.initial.limbo.items) kind.Free;
  free : l.free ≡ set_each l.initial.free (take l.counter l.initial.limbo.items) true;
  room : deque_capacity l.limbo ≡ deque_capacity l.initial.limbo;
}
