use Rattle.lz_serve.proofs.crowd.Crowd.refuse.Goals as goal
use Rattle.lz_serve.proofs.Crowds.{changes_at, keeps_at, keeps_same, lines_heard, lines_own, lines_seen, refused_here}

pub returns-in_default-clause-kept : goal.returns-in_default-clause-kept
returns-in_default-clause-kept g c = keeps_same c.args.self.now _ c.self.view_is

pub returns-clause-kept : goal.returns-clause-kept
returns-clause-kept g c =
    keeps_at (λ place. place.client) c.args.self.now c.self.inside.admitted c.self.inside.places.items c.args.token c.in-Some.place.now c.self.view_is c.in-Some.ensures.item.3.0 c.in-Some.ensures.value c.stop.new.self (lines_own _ _ c.stop.ensures.kept) (lines_heard _ _ c.stop.ensures.kept)
    (lines_seen _ _ c.stop.ensures.kept)

pub returns-clause-refused : goal.returns-clause-refused
returns-clause-refused g c =
    refused_here (λ place. place.client) c.args.self.now c.self.inside.admitted c.self.inside.places.items c.args.token c.in-Some.place.now c.self.view_is c.in-Some.ensures.item.3.0 c.in-Some.ensures.value c.stop.new.self c.stop.ensures.refused

pub returns-clause-others : goal.returns-clause-others
returns-clause-others g c = changes_at (λ place. place.client) c.args.self.now c.self.inside.admitted c.self.inside.places.items c.args.token c.stop.new.self c.self.view_is
