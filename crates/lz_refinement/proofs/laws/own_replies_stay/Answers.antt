use Rattle.lz_refinement.proofs.laws.own_replies_stay.Goals as goal
use Rattle.lz_refinement.proofs.Moments.OwnReplies.{own_replies_stay as own_replies_stay_law}

pub returns : goal.returns
returns g c = own_replies_stay_law _ g.D.Disk.device
