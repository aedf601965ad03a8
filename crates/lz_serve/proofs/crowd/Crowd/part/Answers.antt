use Rattle.lz_serve.proofs.crowd.Crowd.part.Goals as goal
use Rattle.lz_serve.proofs.Crowds.{keeps_at, keeps_then, same_heard, same_own, same_seen}

pub returns : goal.returns
returns g c =
    let old = c.in-Some.place.now in
    let new = c.part.new.self in
    keeps_then c.args.self.now _ c.tend.new.self
    (keeps_at (λ place. place.client) c.args.self.now c.self.inside.admitted c.self.inside.places.items c.args.token old c.self.view_is c.in-Some.ensures.item.3.0
    c.in-Some.ensures.value new (same_own old.client new.client c.part.ensures) (same_heard old.client new.client c.part.ensures)
    (same_seen old.client new.client c.part.ensures)) c.tend.ensures.kept
