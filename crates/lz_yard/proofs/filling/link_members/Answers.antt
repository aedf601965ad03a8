use Rattle.lz_yard.proofs.filling.link_members.Goals as goal
use Rattle.lz_yard.proofs.Opening.LinkedMembers.{links_go}

pub loop-key-preserved : goal.loop-key-preserved
loop-key-preserved c = links_go _ _ _ _ _ _ _ _ _ c.loop-key.invariant c.in-Some.ensures.items c.link_first.ensures (cc) (cc)
