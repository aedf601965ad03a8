use Rattle.lz_serve.proofs.crowd.Crowd.see.Goals as goal
use Rattle.lz_serve.proofs.{Crowds.{keeps_at, lines_heard, lines_own, lines_seen, only_seen, seen_here}, Sights.{sight_here}}

pub returns-clause-kept : goal.returns-clause-kept
returns-clause-kept g c =
    keeps_at (λ place. place.client) c.args.self.now c.self.inside.admitted c.self.inside.places.items c.in-Some.token c.in-Some-get_mut.place.now c.self.view_is
    c.in-Some-get_mut.ensures.item.3.0 c.in-Some-get_mut.ensures.value c.see.new.self (lines_own _ _ c.see.ensures) (lines_heard _ _ c.see.ensures)
    (lines_seen _ _ c.see.ensures)

pub see-requires : goal.see-requires
see-requires g c =
    let old = c.in-Some-get_mut.place.now in
    sight_here old.client c.args.sight c.args.self.now
    (λ known are. only_seen c.args.self.now.admitted known old.client (seen_here (λ place. place.client) c.args.self.now c.self.inside.admitted c.self.inside.places.items c.in-Some.token old c.self.view_is
    c.in-Some-get_mut.ensures.item.3.0 c.in-Some-get_mut.ensures.value known are)) c.requires
