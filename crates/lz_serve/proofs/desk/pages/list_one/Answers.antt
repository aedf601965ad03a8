use Rattle.lz_serve.proofs.desk.pages.list_one.Goals as goal
use Rattle.std.proofs.Common.{◌∙◌, refl, sym, subst}
use Rattle.lz_list.{specs.Traces.{Begins}, proofs.Traces.Absence.{begins_itself}}
use Rattle.lz_board.specs.{declared.pass.Pass.{Pass}, Seats.{part}}
use Rattle.lz_serve.{specs.Clients.{left}, proofs.{Crowds.{leave_keeps, takes_keeps}, Joins.{seen_later}, PagesTold.{gone_paged, one_listed}}}

pub returns-in_default-awaited-clause-page : goal.returns-in_default-awaited-clause-page
returns-in_default-awaited-clause-page g c = left c.in-Some.token c.in-Some.ensures.taken (c.in-Some.ensures.left c.in_default-awaited.is) refl

pub returns-in_default-list-clause-page : goal.returns-in_default-list-clause-page
returns-in_default-list-clause-page g c =
    let scan = c.in-Some-awaited.scan in
    one_listed c.args.crowd.now c.take_scan.new.self c.give_up.new.self c.in-Some.token c.in-Some.awaited scan scan c.in-Some.ensures.taken c.in-Some.ensures.asks c.in-Some-awaited.is refl
    (gone_paged c.take_scan.new.self c.give_up.new.self c.in-Some.token scan c.give_up.ensures.gone) c.give_up.ensures.others c.give_up.ensures.scans

pub returns-in_default-list-clause-seen : goal.returns-in_default-list-clause-seen
returns-in_default-list-clause-seen g c =
    let K = (part c.list.new.self.pass).known in
    (leave_keeps c.take_scan.new.self c.give_up.new.self c.give_up.ensures.leave).seen K
    ((takes_keeps c.args.crowd.now c.take_scan.new.self c.in-Some.token c.in-Some.ensures.taken).seen K (seen_later c.args.crowd.now (part c.args.free.now.pass).known K c.list.ensures.grows c.requires.seen))

pub tell_page-requires-clause-after : goal.tell_page-requires-clause-after
tell_page-requires-clause-after g c =
    let K = (part c.pass.result.now).known in
    subst (λ (p : Pass). Begins (part p).known K) (c.pass.ensures ∙ sym c.in-Some-list.ensures.listed.2) (begins_itself K)

pub returns-clause-page : goal.returns-clause-page
returns-clause-page g c =
    one_listed c.args.crowd.now c.take_scan.new.self c.tell_page.new.self c.in-Some.token c.in-Some.awaited c.in-Some-awaited.scan c.in-Some-list.listed.scan c.in-Some.ensures.taken c.in-Some.ensures.asks c.in-Some-awaited.is
    c.in-Some-list.ensures.listed.0 c.tell_page.ensures.paged c.tell_page.ensures.others c.tell_page.ensures.scans
