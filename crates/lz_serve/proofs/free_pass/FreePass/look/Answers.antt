use Rattle.lz_serve.proofs.free_pass.FreePass.look.Goals as goal
use Rattle.lz_serve.proofs.Listings.{calm_kept, halt_kept}

pub invariant_of-self : goal.invariant_of-self
invariant_of-self g c =
    let old = c.args.self.now.pass in
    let new = c.look_at.new.pass in
    record {
      may_call = c.look_at.ensures.may_call;
      seen = λ told. halt_kept old new c.look_at.ensures.grows (c.args.self.now.seen told);
      calm = λ told all. calm_kept old new c.look_at.ensures.call (c.args.self.now.calm told all);
    }
