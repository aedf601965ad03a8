use Rattle.lz_yard.proofs.parts.Parts.needs.Goals as goal
use Rattle.std.proofs.Common.{arith}
use Rattle.lz_yard.proofs.Events.HandRange.{slot_fits, curr_fits}

pub stage-requires : goal.stage-requires
stage-requires g c =
    let fits = c.requires.fits in
    omega (arith, fits.cells, slot_fits _ _ fits c.args.actor c.requires.low c.requires.high _ c.actor-hand.ensures _ c.in-Some.is)

pub is_marked-requires : goal.is_marked-requires
is_marked-requires g c =
    let fits = c.requires.fits in
    omega (arith, fits.links, curr_fits _ _ fits c.args.actor c.requires.low c.requires.high _ c.actor-hand.ensures _ c.in-Some-curr.is)

pub stage-requires-then-has_marked : goal.stage-requires-then-has_marked
stage-requires-then-has_marked g c =
    let fits = c.requires.fits in
    omega (arith, fits.cells, curr_fits _ _ fits c.args.actor c.requires.low c.requires.high _ c.actor-hand.ensures _ c.in-Some-curr-2.is)
