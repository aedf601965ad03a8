use Rattle.lz_serve.proofs.place.Place.tend.Goals as goal
use Rattle.std.proofs.Common.{sym, subst}
use Rattle.lz_serve.specs.Clients.{KeepsLinesOf}
use Rattle.lz_serve.proofs.Crowds.{lines_heard, lines_own, lines_seen, lines_stay}

pub returns-clause-stays : goal.returns-clause-stays
returns-clause-stays g c = lines_stay _ _ _ c.tell_cleared.ensures.stays (subst (λ n. KeepsLinesOf c.tell_cleared.new.self.client n) (sym c.note.ensures) c.send_and_read-wish.ensures)

pub returns-clause-kept : goal.returns-clause-kept
returns-clause-kept g c =
    let same = subst (λ n. KeepsLinesOf c.tell_cleared.new.self.client n) (sym c.note.ensures) c.send_and_read-wish.ensures in
    λ q own. lines_own _ _ same q (c.tell_cleared.ensures.kept q own)

pub returns-clause-heard : goal.returns-clause-heard
returns-clause-heard g c =
    let same = subst (λ n. KeepsLinesOf c.tell_cleared.new.self.client n) (sym c.note.ensures) c.send_and_read-wish.ensures in
    λ q own heard. lines_heard _ _ same q (c.tell_cleared.ensures.kept q own) (c.tell_cleared.ensures.heard q own heard)

pub returns-clause-seen : goal.returns-clause-seen
returns-clause-seen g c =
    let same = subst (λ n. KeepsLinesOf c.tell_cleared.new.self.client n) (sym c.note.ensures) c.send_and_read-wish.ensures in
    λ admitted known was. lines_seen _ _ same admitted known (c.tell_cleared.ensures.seen admitted known was)
