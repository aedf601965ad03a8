use Rattle.lz_board.proofs.board.Board.list.Goals as goal
use Rattle.std.proofs.Common.{◌≡◌, ℕ, suc, IfOk, ap, ◌∙◌, subst}
use Rattle.lz_board.{specs.{Notes.{Since}, Plays.{knowing, IsShownTo}, Seats.{id_of, part}, Listings.{IsPage}}, proofs.Walk.ListAnswer.{list_rows}}

pub returns-clause-lists : goal.returns-clause-lists
returns-clause-lists c =
    let h = part c.args.pass.now in
    let after = part c.unpin.new.pass in
    let slots = (id_of c.args.self.now).sizes.slots in
    let most = c.args.most in
    let pinned = (part c.pin.new.pass).known in
    let seen = (part c.list_inside-answer.new.pass).known in
    let p = c.in_default-pin.ensures.ok in
    let l = c.list_inside-answer.ensures in
    let r = c.list_inside-answer.result in
    let u = c.unpin.ensures in
    let inside = l.part ∙ ap (knowing seen) p.0 in
    let shown = subst (λ g. IsShownTo after.known g) inside u.shown in
    let pin : after.pin ≡ suc (suc h.pin) = ap (λ g. g.pin) u.part ∙ ap (λ (n : ℕ). suc n) (l.here.2.pin ∙ ap (λ g. g.pin) inside ∙ ap (λ (n : ℕ). suc n) c.requires.here.2.pin) in
    list_rows slots c.args.from most h after pinned seen p.1.since (subst (λ g. Since g.number seen g.known) p.0 l.shown) shown.since pin r
    (subst (λ (from : ℕ). IfOk r (λ page. IsPage slots from most page.keys.items page.next pinned seen)) c.index.ensures
    (subst (λ g. IfOk r (λ page. IsPage slots c.index.result most page.keys.items page.next g.begun seen)) p.0 l.ok)) l.unhalted l.err
