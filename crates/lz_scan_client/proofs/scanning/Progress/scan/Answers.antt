use Rattle.lz_scan_client.proofs.scanning.Progress.scan.Goals as goal
use Rattle.std.proofs.Common.{ℕ, Option, subst}
use Rattle.lz_scan_client.{specs.Scanning.{IsAt, cursor_after, unread}, proofs.Reached.{cursor_ends}}

pub returns-then-next-eq0-clause-ended : goal.returns-then-next-eq0-clause-ended
returns-then-next-eq0-clause-ended g c is input before at =
    let left = unread c.next_page.new.self.replies (g.R.Read.remaining c.next_page.new.reader) in
    let written = g.W.Write.contents c.next_page.new.writer in
    let keys = c.next_page.new.self.told.keys.items in
    subst (λ (q : Option ℕ). IsAt q input left before written keys) (cursor_ends c.in-Ok.next c.if-next-eq0.true)
    (c.in-Ok.ensures.goes input before (c.pages.invariant.goes input before at))

pub returns-then-len-most-clause-goes : goal.returns-then-len-most-clause-goes
returns-then-len-most-clause-goes g c is = (cursor_after c.in-Ok.next, λ input before at. c.in-Ok.ensures.goes input before (c.pages.invariant.goes input before at))
