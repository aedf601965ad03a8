use Rattle.lz_set.proofs.laws.scans_tell_members.Goals as goal
use Rattle.lz_set.proofs.Scans.{scans_tell_members as scans_tell_members_law}

pub returns : goal.returns
returns c = scans_tell_members_law
