use Rattle.lz_serve.proofs.client.Client.tell_all.Given as goal
use Rattle.std.specs.Prelude.{◌≡◌, ◌≤◌, Some, length, true}
use Rattle.lz_serve.specs.{Clients.{IsHeard, KeepsOwn}, Grants.{Posed}}

abbrev pub invariant-turns : goal.invariant-turns
invariant-turns g l = record {
  connection : l.self.connection ≡ l.fn.self.connection;
  lines : l.self.lines ≡ l.fn.self.lines;
  kept : KeepsOwn (Some l.fn.self) (Some l.self);
  heard : (q : Posed) → IsHeard l.fn.self q → IsHeard l.self q;
  seen : l.self.seen ≡ l.fn.self.seen;
  lost : l.fn.self.lost ≡ true → l.self ≡ l.fn.self;
  fewer : length l.self.turns ≤ length l.fn.self.turns;
}

abbrev pub decreases-turns : goal.decreases-turns
decreases-turns g l = length l.self.turns
