use Rattle.lz_serve.proofs.crowd.Crowd.admit.Goals as goal
use Rattle.std.proofs.Common.{ap}
use Rattle.lz_serve.{specs.Clients.{Asker}, proofs.Crowds.{admits_at, keeps_same, keeps_then}}

pub returns-in_default : goal.returns-in_default
returns-in_default g c = keeps_same c.args.self.now _ c.self.view_is

pub returns-in_default-get_mut : goal.returns-in_default-get_mut
returns-in_default-get_mut g c = keeps_same c.args.self.now _ c.self.view_is

pub returns : goal.returns
returns g c =
    let old = c.in-Some-get_mut.place.now in
    let new = c.admit.new.self in
    keeps_then c.args.self.now _ c.tend.new.self
    (admits_at (λ place. place.client) c.args.self.now c.self.inside.admitted c.self.inside.places.items c.in-Some.token old new c.new-client.result c.self.view_is c.in-Some-get_mut.ensures.item.3.0 c.in-Some-get_mut.ensures.value c.admit.ensures
    (ap (λ (a : Asker). a.connection) c.new-client.ensures) (ap (λ (a : Asker). a.seen) c.new-client.ensures)) c.tend.ensures.kept
