use Rattle.lz_serve.proofs.exchanges.Exchanges.put_requests.Given as goal
use Rattle.std.specs.Prelude.{◌≡◌, ◌≢◌, ◌++◌, All, take}
use Rattle.lz_proto.specs.declared.request.Request.TheVariants.{Quit}

abbrev pub invariant-loop-request : goal.invariant-loop-request
invariant-loop-request l =
    record {
      turns : l.self-inside.turns.items ≡ l.initial.self-inside.turns.items;
      requests : l.self-inside.requests.items ≡ l.initial.self-inside.requests.items ++ take l.request-index l.requests;
      stops : l.self-inside.stops ≡ l.initial.self-inside.stops;
      asks : All (λ request. request ≢ Quit) l.self-inside.requests.items;
    }
