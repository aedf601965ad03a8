use Rattle.lz_judge.proofs.census.read_places.Goals as goal
use Rattle.std.proofs.Common.{List, sym, subst, take, reverse, take_all}
use Rattle.lz_judge.{specs.{declared.history.Point.{Point}, Readings.{HasPlaces}}, proofs.Readings.NextMark.{newest_at}}

pub loop-point-preserved : goal.loop-point-preserved
loop-point-preserved c =
    subst (λ (points : List Point). HasPlaces points c.place.new.places) (sym (newest_at c.args.points.now c.loop-point.point-index _ c.loop-point-test.true))
    (c.in_ok-place.ensures (reverse (take c.loop-point.point-index c.args.points.now)) c.loop-point.invariant)

pub returns : goal.returns
returns c = subst (λ (points : List Point). HasPlaces (reverse points) c.loop-point.places) (take_all c.loop-point.point-index c.args.points.now c.loop-point-test.false) c.loop-point.invariant
