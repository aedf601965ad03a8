use Rattle.lz_serve.proofs.crowd.Crowd.tell_page.Goals as goal
use Rattle.std.proofs.Common.{◌∙◌, IfSome, Option, sym, subst}
use Rattle.lz_list.proofs.Traces.WalkEnd.{begins_before}
use Rattle.lz_board.specs.Seats.{part}
use Rattle.lz_serve.specs.Clients.{Asker, Askers, HasSeenIn, HasTold, HaveSeenIn, IsHeardOf, TellsPageOf}
use Rattle.lz_serve.proofs.Crowds.{changes_at, keeps_awaited, keeps_heard, leave_keeps, leave_so, one_so, only_seen, paged_here, same_own, seen_at, seen_here}
use Rattle.lz_serve.proofs.{Joins.{seen_later}, PagesTold.{leave_paged}}

pub returns-in_default-clause-seen : goal.returns-in_default-clause-seen
returns-in_default-clause-seen g c =
    let l = c.args.listed.now in
    let K = (part c.args.pass.now).known in
    let more = begins_before (part l.before).known (part l.after).known K c.requires.grows c.requires.after in
    subst (λ (a : Askers). HaveSeenIn a K) (sym c.self.view_is) (seen_later c.args.self.now (part l.before).known K more c.requires.seen)

pub tell_page-requires-clause-seen : goal.tell_page-requires-clause-seen
tell_page-requires-clause-seen g c =
    let old = c.in-Some.place.now in
    let B = (part c.args.listed.now.before).known in
    only_seen c.args.self.now.admitted B old.client (seen_here (λ place. place.client) c.args.self.now c.self.inside.admitted c.self.inside.places.items c.args.token old c.self.view_is c.in-Some.ensures.item.3.0 c.in-Some.ensures.value B c.requires.seen)

pub returns-clause-kept : goal.returns-clause-kept
returns-clause-kept g c = λ token q awaited.
    let old = c.in-Some.place.now in
    let told = c.tell_page.new.self in
    let new = c.give_back-is_back.new.self in
    (leave_keeps _ c.put_back.new.self c.put_back.ensures.leave).awaited token q (keeps_awaited
    (λ place. place.client) c.args.self.now c.self.inside.admitted c.self.inside.places.items c.args.token old c.self.view_is c.in-Some.ensures.item.3.0
    c.in-Some.ensures.value new (λ q own. same_own told.client new.client c.give_back-is_back.ensures q (c.tell_page.ensures.kept q own)) token q awaited)

pub returns-clause-heard : goal.returns-clause-heard
returns-clause-heard g c = λ token q awaited heard.
    let old = c.in-Some.place.now in
    let told = c.tell_page.new.self in
    let new = c.give_back-is_back.new.self in
    (leave_keeps _ c.put_back.new.self c.put_back.ensures.leave).heard token q
    (keeps_awaited (λ place. place.client) c.args.self.now c.self.inside.admitted c.self.inside.places.items c.args.token old c.self.view_is c.in-Some.ensures.item.3.0
    c.in-Some.ensures.value new (λ q own. same_own told.client new.client c.give_back-is_back.ensures q (c.tell_page.ensures.kept q own)) token q awaited)
    (keeps_heard (λ place. place.client) c.args.self.now c.self.inside.admitted c.self.inside.places.items c.args.token old c.self.view_is c.in-Some.ensures.item.3.0
    c.in-Some.ensures.value new c.args.self.now.begun c.args.self.now.queue (λ q own was. subst (λ (a : Option Asker). IsHeardOf a q)
    (sym c.give_back-is_back.ensures) (c.tell_page.ensures.heard q own was)) token q awaited heard)

pub returns-clause-paged : goal.returns-clause-paged
returns-clause-paged g c =
    let old = c.in-Some.place.now in
    let new = c.give_back-is_back.new.self in
    let scan = c.args.listed.now.scan in
    paged_here (λ place. place.client) c.args.self.now c.self.inside.admitted c.self.inside.places.items c.args.token old c.self.view_is c.in-Some.ensures.item.3.0 c.in-Some.ensures.value scan c.put_back.new.self
    (leave_paged old.client scan _ c.put_back.new.self c.args.token c.put_back.ensures.leave
    (one_so (λ place. place.client) (TellsPageOf old.client scan) c.self.inside.places.items c.args.token new (subst (TellsPageOf old.client scan) (sym c.give_back-is_back.ensures) c.tell_page.ensures.paged)))

pub returns-clause-told : goal.returns-clause-told
returns-clause-told g c =
    let new = c.give_back-is_back.new.self in
    leave_so HasTold _ c.put_back.new.self c.args.token c.put_back.ensures.leave
    (one_so (λ place. place.client) (λ (a : Option Asker). IfSome a HasTold) c.self.inside.places.items c.args.token new (subst (λ (a : Option Asker). IfSome a HasTold) (sym c.give_back-is_back.ensures) c.tell_page.ensures.told))

pub returns-clause-seen : goal.returns-clause-seen
returns-clause-seen g c =
    let old = c.in-Some.place.now in
    let new = c.give_back-is_back.new.self in
    let l = c.args.listed.now in
    let K = (part c.args.pass.now).known in
    let more = begins_before (part l.before).known (part l.after).known K c.requires.grows c.requires.after in
    (leave_keeps _ c.put_back.new.self c.put_back.ensures.leave).seen K
    (seen_at (λ place. place.client) c.args.self.now c.self.inside.admitted c.self.inside.places.items c.args.token old c.self.view_is c.in-Some.ensures.item.3.0
    c.in-Some.ensures.value new K (λ admitted was. subst (HasSeenIn admitted K) (sym c.give_back-is_back.ensures) (c.tell_page.ensures.seen admitted was))
    (seen_later c.args.self.now (part l.before).known K more c.requires.seen))

pub returns-clause-others : goal.returns-clause-others
returns-clause-others g c = λ t other.
    c.put_back.ensures.others t other ∙ changes_at (λ place. place.client) c.args.self.now c.self.inside.admitted c.self.inside.places.items c.args.token c.give_back-is_back.new.self c.self.view_is t other
