use Rattle.lz_serve.proofs.crowd.Crowd.scan_at.Goals as goal
use Rattle.std.proofs.Common.{IfSome, IsSomeAnd, ap}
use Rattle.lz_serve.{specs.Clients.{Askers, AwaitsNoPage, AwaitsPage}, proofs.PagesTold.{here, nobody_here}}

pub returns-in-Some-clause-some : goal.returns-in-Some-clause-some
returns-in-Some-clause-some g c =
    let at = c.in-Some.ensures.lookup in
    here (λ place. place.client) c.args.self.now.clients c.self.inside.places.items c.deref.result.now c.args.token c.deref.ensures.value (ap (λ (a : Askers). a.clients) c.self.view_is)
    (λ client. IfSome c.scan.result (λ scan. IsSomeAnd client (λ a. IsSomeAnd a (λ asker. AwaitsPage asker scan)))) c.in-Some.place.now at.3.0 at.1 c.scan.ensures.some

pub returns-in-Some-clause-none : goal.returns-in-Some-clause-none
returns-in-Some-clause-none g c = λ none.
    let at = c.in-Some.ensures.lookup in
    here (λ place. place.client) c.args.self.now.clients c.self.inside.places.items c.deref.result.now c.args.token c.deref.ensures.value (ap (λ (a : Askers). a.clients) c.self.view_is)
    (λ client. IfSome client (λ a. IfSome a AwaitsNoPage)) c.in-Some.place.now at.3.0 at.1 (c.scan.ensures.none none)

pub returns-in-None-clause-none : goal.returns-in-None-clause-none
returns-in-None-clause-none g c = λ none.
    nobody_here AwaitsNoPage (λ place. place.client) c.args.self.now.clients c.self.inside.places.items c.deref.result.now c.args.token c.deref.ensures.value (ap (λ (a : Askers). a.clients) c.self.view_is) c.in-None.ensures.lookup.3
