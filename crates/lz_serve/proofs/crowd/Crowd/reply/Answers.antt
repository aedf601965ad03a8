use Rattle.lz_serve.proofs.crowd.Crowd.reply.Goals as goal
use Rattle.std.proofs.Common.{IfSome, Option, sym, subst}
use Rattle.lz_board.specs.Seats.{part}
use Rattle.lz_serve.specs.Clients.{Asker, Askers, HasNone, HasSeenIn, HasTold, HaveSeenIn, IsHeard, IsHeardOf}
use Rattle.lz_serve.proofs.Crowds.{heard_here, keeps_awaited, leave_keeps, leave_so, one_so, only_seen, own_here, same_own, seen_at, seen_here}
use Rattle.lz_serve.proofs.Turns.{both_in_turn}

pub returns-in_default-clause-seen : goal.returns-in_default-clause-seen
returns-in_default-clause-seen g c = subst (λ (a : Askers). HaveSeenIn a (part c.args.pass.now).known) (sym c.self.view_is) c.requires.seen

pub reply-is_next-requires-clause-own : goal.reply-is_next-requires-clause-own
reply-is_next-requires-clause-own g c =
    let old = c.in-Some.place.now in
    own_here (λ place. place.client) c.args.self.now c.self.inside.admitted c.self.inside.places.items c.args.token old c.self.view_is c.in-Some.ensures.item.3.0 c.in-Some.ensures.value c.args.granted.question c.requires.awaited

pub reply-is_next-requires-clause-seen : goal.reply-is_next-requires-clause-seen
reply-is_next-requires-clause-seen g c =
    let old = c.in-Some.place.now in
    let K = (part c.args.pass.now).known in
    only_seen c.args.self.now.admitted K old.client (seen_here (λ place. place.client) c.args.self.now c.self.inside.admitted c.self.inside.places.items c.args.token old c.self.view_is c.in-Some.ensures.item.3.0 c.in-Some.ensures.value K c.requires.seen)

pub returns-clause-kept : goal.returns-clause-kept
returns-clause-kept g c = λ token q awaited.
    let old = c.in-Some.place.now in
    let told = c.reply-is_next.new.self in
    let new = c.give_back-is_back.new.self in
    (leave_keeps _ c.put_back.new.self c.put_back.ensures.leave).awaited token q ((leave_keeps _ c.put.new.self c.put.ensures.leave).awaited token q
    (keeps_awaited (λ place. place.client) c.args.self.now c.self.inside.admitted c.self.inside.places.items c.args.token old c.self.view_is
    c.in-Some.ensures.item.3.0 c.in-Some.ensures.value new (λ q own. same_own told.client new.client c.give_back-is_back.ensures q
    (c.reply-is_next.ensures.kept q own)) token q awaited))

pub returns-clause-seen : goal.returns-clause-seen
returns-clause-seen g c =
    let old = c.in-Some.place.now in
    let new = c.give_back-is_back.new.self in
    let K = (part c.args.pass.now).known in
    (leave_keeps _ c.put_back.new.self c.put_back.ensures.leave).seen K ((leave_keeps _ c.put.new.self c.put.ensures.leave).seen K
    (seen_at (λ place. place.client) c.args.self.now c.self.inside.admitted c.self.inside.places.items c.args.token old c.self.view_is c.in-Some.ensures.item.3.0
    c.in-Some.ensures.value new K (λ admitted was. subst (HasSeenIn admitted K) (sym c.give_back-is_back.ensures)
    (c.reply-is_next.ensures.seen admitted was)) c.requires.seen))

pub returns-clause-heard : goal.returns-clause-heard
returns-clause-heard g c =
    let new = c.give_back-is_back.new.self in
    let q = c.args.granted.question in
    leave_so (λ (a : Asker). IsHeard a q) c.put.new.self c.put_back.new.self c.args.token c.put_back.ensures.leave
    (leave_so (λ (a : Asker). IsHeard a q) _ c.put.new.self c.args.token c.put.ensures.leave
    (one_so (λ place. place.client) (λ (a : Option Asker). IsHeardOf a q) c.self.inside.places.items c.args.token new (subst (λ (a : Option Asker). IsHeardOf a q) (sym c.give_back-is_back.ensures) c.reply-is_next.ensures.heard)))

pub returns-clause-waits : goal.returns-clause-waits
returns-clause-waits g c =
    let new = c.give_back-is_back.new.self in
    both_in_turn c.reply-is_next.result _ c.put.new.self c.put_back.new.self c.args.token c.put.ensures.leave c.put_back.ensures.leave c.put_back.ensures.queue
    (λ last. one_so (λ place. place.client) HasNone c.self.inside.places.items c.args.token new (subst HasNone (sym c.give_back-is_back.ensures) (c.reply-is_next.ensures.next last))) c.put.ensures.next

pub returns-clause-told : goal.returns-clause-told
returns-clause-told g c = λ unheard.
    let old = c.in-Some.place.now in
    let new = c.give_back-is_back.new.self in
    let q = c.args.granted.question in
    leave_so HasTold c.put.new.self c.put_back.new.self c.args.token c.put_back.ensures.leave
    (leave_so HasTold _ c.put.new.self c.args.token c.put.ensures.leave
    (one_so (λ place. place.client) (λ (a : Option Asker). IfSome a HasTold) c.self.inside.places.items c.args.token new (subst (λ (a : Option Asker). IfSome a HasTold) (sym c.give_back-is_back.ensures)
    (c.reply-is_next.ensures.told (λ heard. unheard (heard_here (λ place. place.client) c.args.self.now c.self.inside.admitted c.self.inside.places.items c.args.token old c.self.view_is c.in-Some.ensures.item.3.0 c.in-Some.ensures.value q heard))))))
