use Rattle.lz_serve.proofs.crowd.Crowd.take_back.Goals as goal
use Rattle.lz_serve.proofs.Crowds.{keeps_at, same_heard, same_own, same_seen}

pub returns-clause-kept : goal.returns-clause-kept
returns-clause-kept g c =
    let old = c.in-Some.place.now in
    let new = c.take_back.new.self in
    keeps_at (λ place. place.client) c.args.self.now c.self.inside.admitted c.self.inside.places.items c.in_ok-token.token old c.self.view_is
    c.in-Some.ensures.item.3.0 c.in-Some.ensures.value new (same_own old.client new.client c.take_back.ensures) (same_heard old.client new.client c.take_back.ensures)
    (same_seen old.client new.client c.take_back.ensures)
