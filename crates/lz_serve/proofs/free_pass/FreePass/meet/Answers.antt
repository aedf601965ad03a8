use Rattle.lz_serve.proofs.free_pass.FreePass.meet.Goals as goal
use Rattle.lz_serve.{specs.Halts.{SeesMore}, proofs.Meetings.{sees_calm, sees_halt}}

pub invariant_of-self : goal.invariant_of-self
invariant_of-self g c =
    let old = c.args.self.now.pass in
    let new = c.meet.new.one in
    let more : SeesMore old new = record { grows = c.meet.ensures.met.one_one; kept = c.meet.ensures.met.one_kept } in
    record {
      may_call = c.meet.ensures.one;
      seen = λ told. sees_halt old new more (c.args.self.now.seen told);
      calm = λ told all. sees_calm old new more (c.args.self.now.calm told all);
    }
