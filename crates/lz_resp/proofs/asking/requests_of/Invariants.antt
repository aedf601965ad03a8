use Rattle.lz_resp.proofs.asking.requests_of.Given as goal
use Rattle.std.{proofs.Common.{◌≡◌, ◌≢◌, ◌++◌, All, drop}, specs.Prelude.{map, option_map}}
use Rattle.lz_proto.specs.declared.request.Request.TheVariants.{Quit}
use Rattle.lz_resp.specs.{Commands.{requests_of}, Keys.{subset_of}}

abbrev pub invariant-loop-member : goal.invariant-loop-member
invariant-loop-member l =
    record {
      asked : option_map (λ more. l.list.items ++ more) (requests_of l.form (subset_of l.subset) (map (λ argument. argument.now) (drop l.member-index l.members)))
          ≡ requests_of l.form (subset_of l.subset) (map (λ argument. argument.now) l.members);
      asks : All (λ request. request ≢ Quit) l.list.items;
    }
