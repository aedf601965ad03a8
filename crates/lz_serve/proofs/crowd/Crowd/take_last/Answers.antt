use Rattle.lz_serve.proofs.crowd.Crowd.take_last.Goals as goal
use Rattle.lz_board.specs.Seats.{part}
use Rattle.lz_serve.{specs.Clients.{HasNone}, proofs.Crowds.{keeps_at, next_here, one_so, only_seen, seen_here, some_asked}}

pub ask-requires : goal.ask-requires
ask-requires g c =
    let old = c.in-Some.place.now in
    let K = (part c.args.pass.now).known in
    only_seen c.args.self.now.admitted K old.client (seen_here (λ place. place.client) c.args.self.now c.self.inside.admitted c.self.inside.places.items c.args.token old c.self.view_is c.in-Some.ensures.item.3.0 c.in-Some.ensures.value K c.requires)

pub returns-clause-awaited : goal.returns-clause-awaited
returns-clause-awaited g c =
    let old = c.in-Some.place.now in
    let new = c.ask.new.self in
    some_asked (λ place. place.client) c.args.self.now c.self.inside.admitted c.self.inside.places.items c.args.token old c.self.view_is c.in-Some.ensures.item.3.0
    c.in-Some.ensures.value new _ c.self.inside.queue c.ask.result (part c.args.pass.now).known c.ask.ensures.seen c.requires c.ask.ensures.asked

pub returns-clause-kept : goal.returns-clause-kept
returns-clause-kept g c =
    let old = c.in-Some.place.now in
    let new = c.ask.new.self in
    keeps_at (λ place. place.client) c.args.self.now c.self.inside.admitted c.self.inside.places.items c.args.token old c.self.view_is c.in-Some.ensures.item.3.0 c.in-Some.ensures.value new c.ask.ensures.kept c.ask.ensures.heard c.ask.ensures.seen

pub returns-clause-later : goal.returns-clause-later
returns-clause-later g c =
    next_here (λ place. place.client) c.args.self.now c.self.inside.admitted c.self.inside.places.items c.args.token c.in-Some.place.now c.self.view_is c.in-Some.ensures.item.3.0 c.in-Some.ensures.value c.ask.result c.ask.ensures.later

pub returns-clause-none : goal.returns-clause-none
returns-clause-none g c none = one_so (λ place. place.client) HasNone c.self.inside.places.items c.args.token c.ask.new.self (c.ask.ensures.none none)
