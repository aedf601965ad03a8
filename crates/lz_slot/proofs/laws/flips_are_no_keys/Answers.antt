use Rattle.lz_slot.proofs.Flips as flips
use Rattle.lz_slot.proofs.laws.flips_are_no_keys.Goals as goal

pub returns : goal.returns
returns c = flips.flips_are_no_keys
