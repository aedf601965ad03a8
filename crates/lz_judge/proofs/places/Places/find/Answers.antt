use Rattle.lz_judge.proofs.places.Places.find.Goals as goal
use Rattle.std.proofs.Common.{◌≡◌, ℕ, length, arith, rules, ap, sym, ◌∙◌, slice_index, map}
use Rattle.lz_judge.{specs.Places.{place_of}, proofs.PlaceTables.{absent_all, absent_free}}

pub returns-then-row-eq0-clause-found : goal.returns-then-row-eq0-clause-found
returns-then-row-eq0-clause-found g c = λ table.
    let size : c.len.result ≡ length c.args.self.now.rows.items = omega (arith, c.len.ensures) in
    let place : c.place_of-place.result ≡ place_of c.args.key c.loop-step.step (length c.args.self.now.rows.items) = c.place_of-place.ensures.value ∙ ap (place_of c.args.key c.loop-step.step) size in
    let free : slice_index c.args.self.now.rows.items c.place_of-place.result ≡ 0 = search rules in
    absent_free (map g.T.Keyed.key c.args.items.now) c.args.self.now c.args.key table c.loop-step.step c.loop-step.invariant
    (ap (λ (p : ℕ). slice_index c.args.self.now.rows.items p) (sym place) ∙ free)

pub returns-clause-found : goal.returns-clause-found
returns-clause-found g c = λ table.
    absent_all (map g.T.Keyed.key c.args.items.now) c.args.self.now c.args.key table c.loop-step.step c.loop-step.invariant (omega (arith, c.len-step-end.ensures, c.loop-step-test.false))
