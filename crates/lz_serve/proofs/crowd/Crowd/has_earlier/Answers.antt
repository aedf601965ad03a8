use Rattle.lz_serve.proofs.crowd.Crowd.has_earlier.Goals as goal
use Rattle.std.proofs.Common.{IfSome, IsSomeAnd, ap}
use Rattle.lz_serve.{specs.Clients.{Askers, AwaitsBefore, HasRepliedBefore}, proofs.PagesTold.{here, nobody_here}}

pub returns-in-Some-clause-none : goal.returns-in-Some-clause-none
returns-in-Some-clause-none g c = λ none.
    let at = c.in-Some.ensures.lookup in
    here (λ place. place.client) c.args.self.now.clients c.self.inside.places.items c.deref.result.now c.args.token c.deref.ensures.value (ap (λ (a : Askers). a.clients) c.self.view_is)
    (λ client. IfSome client (λ a. IfSome a (HasRepliedBefore c.args.line))) c.in-Some.place.now at.3.0 at.1 (c.has_earlier.ensures.none none)

pub returns-in-Some-clause-some : goal.returns-in-Some-clause-some
returns-in-Some-clause-some g c = λ some.
    let at = c.in-Some.ensures.lookup in
    here (λ place. place.client) c.args.self.now.clients c.self.inside.places.items c.deref.result.now c.args.token c.deref.ensures.value (ap (λ (a : Askers). a.clients) c.self.view_is)
    (λ client. IsSomeAnd client (AwaitsBefore c.args.line)) c.in-Some.place.now at.3.0 at.1 (c.has_earlier.ensures.some some)

pub returns-in-None-clause-none : goal.returns-in-None-clause-none
returns-in-None-clause-none g c = λ none.
    nobody_here (HasRepliedBefore c.args.line) (λ place. place.client) c.args.self.now.clients c.self.inside.places.items c.deref.result.now c.args.token c.deref.ensures.value (ap (λ (a : Askers). a.clients) c.self.view_is) c.in-None.ensures.lookup.3
