use Rattle.lz_serve.proofs.crowd.Crowd.new.Goals as goal
use Rattle.std.proofs.{Common.{◌≡◌, None, List, [], ◌∷◌, length, ap, ◌∙◌, arith, length-append}, lemmas.List.{length-map}}
use Rattle.lz_serve.{specs.declared.place.Place.{Place}, proofs.{Crowds.{none_seen}, JoinedPasses.{all_back}}}

pub loop-token-preserved : goal.loop-token-preserved
loop-token-preserved g c =
    let count = c.loop-token.invariant.count in
    let more = ap (λ (l : List (Place g.row.S.Denot)). length l) c.in_ok-push.ensures.items ∙ length-append c.loop-token.places.items (c.empty.result ∷ []) in
    record {
      none = all_back (λ (place : Place g.row.S.Denot). place.client ≡ None) _ _ _ c.in_ok-push.ensures.items c.loop-token.invariant.none c.empty.ensures;
      count = omega (arith, count, more);
      within = omega (arith, c.loop-token-test.true);
    }

pub returns-clause-seen : goal.returns-clause-seen
returns-clause-seen g c = none_seen (λ place. place.client) 0 c.loop-token.places.items [] c.loop-token.invariant.none

pub returns-clause-places : goal.returns-clause-places
returns-clause-places g c =
    let many = length-map c.loop-token.places.items (λ place. place.client) in
    let count = c.loop-token.invariant.count in
    let low = c.loop-token.invariant.within in
    omega (arith, many, count, low, c.loop-token-test.false)
