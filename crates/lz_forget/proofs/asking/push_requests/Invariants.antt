use Rattle.std.proofs.Common.{◌≡◌, ◌≢◌, ◌++◌, All, length, map}
use Rattle.lz_proto.specs.declared.request.Request.TheVariants.{Quit}
use Rattle.lz_forget.specs.Askings.{request_of}
use Rattle.lz_forget.proofs.asking.push_requests.Given as goal

abbrev pub invariant-keys : goal.invariant-keys
invariant-keys l =
    record {
      requests : l.requests.items ++ map (request_of l.ask) l.keys.items ≡ l.initial.requests.items ++ map (request_of l.ask) l.initial.keys.items;
      asks : All (λ request. request ≢ Quit) l.initial.requests.items → All (λ request. request ≢ Quit) l.requests.items;
    }

abbrev pub decreases-keys : goal.decreases-keys
decreases-keys l = length l.keys.items
