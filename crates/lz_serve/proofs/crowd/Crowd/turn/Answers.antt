use Rattle.lz_serve.proofs.crowd.Crowd.turn.Goals as goal
use Rattle.std.proofs.Common.{ap, refl, slice_get, sym, ◌∙◌}
use Rattle.lz_board.specs.Seats.{part}
use Rattle.lz_serve.specs.Clients.{Askers, HasNone}
use Rattle.lz_serve.proofs.Crowds.{keeps_at, keeps_here, keeps_then, leave_keeps, next_here, one_so, only_seen, other_at, seen_here, some_asked, some_kept}
use Rattle.lz_serve.proofs.Turns.{turned}

pub take_turn-question-requires : goal.take_turn-question-requires
take_turn-question-requires g c =
    let old = c.in-Some.place.now in
    let K = (part c.args.pass.now).known in
    only_seen c.args.self.now.admitted K old.client (seen_here (λ place. place.client) c.args.self.now c.self.inside.admitted c.self.inside.places.items c.in_ok-token.token old c.self.view_is c.in-Some.ensures.item.3.0 c.in-Some.ensures.value K c.requires)

pub returns-in_default-clause-kept : goal.returns-in_default-clause-kept
returns-in_default-clause-kept g c = keeps_here (λ place. place.client) c.args.self.now c.self.inside.admitted c.self.inside.places.items c.self.view_is

pub returns-clause-turned : goal.returns-clause-turned
returns-clause-turned g c =
    let t = c.take_turn-question.result in
    let new = c.take_turn-question.new.self in
    let token = c.in_ok-token.token in
    let places = c.self.inside.places.items in
    turned c.args.self.now _ c.put.new.self c.put_back.new.self token c.pop.new.self t.question t.is_next (ap (λ (x : Askers). x.queue) (sym c.self.view_is) ∙ c.in_ok-token.ensures.some.0) c.in_ok-token.ensures.some.1 refl
    (λ t other. other_at (λ place. place.client) places token new t other ∙ ap (λ (x : Askers). slice_get x.clients t) c.self.view_is) c.put.ensures.leave c.put_back.ensures.leave c.put_back.ensures.queue c.put.ensures.queue c.put.ensures.last c.put.ensures.next
    c.take_turn-question.ensures.last (λ last. one_so (λ place. place.client) HasNone places token new (c.take_turn-question.ensures.none last))

pub returns-clause-awaited : goal.returns-clause-awaited
returns-clause-awaited g c =
    let old = c.in-Some.place.now in
    let t = c.take_turn-question.result in
    let new = c.take_turn-question.new.self in
    let token = c.in_ok-token.token in
    some_kept c.put.new.self c.put_back.new.self token t.question (leave_keeps c.put.new.self c.put_back.new.self c.put_back.ensures.leave)
    (some_kept _ c.put.new.self token t.question (leave_keeps _ c.put.new.self c.put.ensures.leave)
    (some_asked (λ place. place.client) c.args.self.now c.self.inside.admitted c.self.inside.places.items token old c.self.view_is c.in-Some.ensures.item.3.0
    c.in-Some.ensures.value new _ c.pop.new.self t.question
    (part c.args.pass.now).known c.take_turn-question.ensures.seen c.requires c.take_turn-question.ensures.asked))

pub returns-clause-kept : goal.returns-clause-kept
returns-clause-kept g c =
    let old = c.in-Some.place.now in
    let new = c.take_turn-question.new.self in
    keeps_then c.args.self.now c.put.new.self c.put_back.new.self
    (keeps_then c.args.self.now _ c.put.new.self
    (keeps_at (λ place. place.client) c.args.self.now c.self.inside.admitted c.self.inside.places.items c.in_ok-token.token old c.self.view_is
    c.in-Some.ensures.item.3.0 c.in-Some.ensures.value new c.take_turn-question.ensures.kept c.take_turn-question.ensures.heard c.take_turn-question.ensures.seen)
    (leave_keeps _ c.put.new.self c.put.ensures.leave))
    (leave_keeps c.put.new.self c.put_back.new.self c.put_back.ensures.leave)

pub returns-clause-later : goal.returns-clause-later
returns-clause-later g c =
    next_here (λ place. place.client) c.args.self.now c.self.inside.admitted c.self.inside.places.items c.in_ok-token.token c.in-Some.place.now c.self.view_is c.in-Some.ensures.item.3.0 c.in-Some.ensures.value c.take_turn-question.result.question c.take_turn-question.ensures.later
