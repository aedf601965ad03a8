use Rattle.lz_serve.proofs.crowd.Crowd.new.Given as goal
use Rattle.std.specs.Prelude.{◌≡◌, ◌≤◌, None, All, length}

abbrev pub invariant-loop-token : goal.invariant-loop-token
invariant-loop-token g l = record {
  none : All (λ place. place.client ≡ None) l.places.items;
  count : length l.places.items ≡ l.token;
  within : l.token ≤ l.most;
}
