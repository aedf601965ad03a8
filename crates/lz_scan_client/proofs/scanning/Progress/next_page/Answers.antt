use Rattle.lz_scan_client.proofs.scanning.Progress.next_page.Goals as goal
use Rattle.lz_scan_client.{specs.Scanning.{unread}, proofs.Reached.{page_goes}}

pub returns-in-Ok-add_all-clause-goes : goal.returns-in-Ok-add_all-clause-goes
returns-in-Ok-add_all-clause-goes g c =
    let left = g.R.Read.remaining in
    let written = g.W.Write.contents in
    page_goes c.args.cursor c.in-Ok.page.next c.in-Ok.page.numbers.items c.args.self.now.told.keys.items c.add_all.new.self.keys.items
    (unread c.args.self.now.replies (left c.args.reader.now)) (unread c.page.new.self (left c.page.new.reader)) (written c.args.writer.now) (written c.ask.new.writer)
    (c.leads_on.ensures c.if-not-leads_on.false) c.in_default.ensures c.in-Ok.ensures (rw c.as_slice.ensures.value at c.in-Ok-add_all.ensures.once)
