use Rattle.lz_core.proofs.world.World.trip.Goals as goal
use Rattle.std.proofs.Common.{refl}
use Rattle.lz_core.proofs.Runs.{PlayedStep.{leads}, Endings.{trips}}

pub returns : goal.returns
returns c = rw (← c.self.view_is) (leads _ _ _ _ _ (trips _ _ refl refl) tt tt refl)
