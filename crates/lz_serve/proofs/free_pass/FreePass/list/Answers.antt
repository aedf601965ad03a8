use Rattle.lz_serve.proofs.free_pass.FreePass.list.Goals as goal
use Rattle.lz_serve.proofs.Listings.{calm_kept, halt_kept}

pub invariant_of-self-else-has_halted : goal.invariant_of-self-else-has_halted
invariant_of-self-else-has_halted g c =
    let old = c.args.self.now.pass in
    let new = c.list_page-listed.new.pass in
    record {
      may_call = c.list_page-listed.ensures.may_call;
      seen = λ told. halt_kept old new c.list_page-listed.ensures.grows (c.args.self.now.seen told);
      calm = λ told all. calm_kept old new c.list_page-listed.ensures.call (c.args.self.now.calm told all);
    }
