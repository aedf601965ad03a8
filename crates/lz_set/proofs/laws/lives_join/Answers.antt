use Rattle.lz_set.proofs.laws.lives_join.Goals as goal
use Rattle.lz_set.proofs.JoinedLives.{lives_join as lives_join_law}

pub returns : goal.returns
returns g c = lives_join_law _ g.D.Disk.device
