use Rattle.lz_core.proofs.world.World.members.Goals as goal
use Rattle.lz_core.proofs.Members.ShownKeys.{world_members, if_ok}

pub returns-in-Some-clause-members : goal.returns-in-Some-clause-members
returns-in-Some-clause-members c =
    rw (← c.self.view_is) (if_ok (λ keys among. world_members (record {
      slots = c.self.inside.slots;
      buckets = c.self.inside.buckets;
      passes =
          64;
    }) c.self.inside.yard c.self.inside.disk c.self.inside.callers.items c.self.inside.calls c.in-Some.yard c.self.invariant c.in-Some.is keys.items among)
    c.members_of.result c.members_of.ensures.members)
