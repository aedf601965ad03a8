use Rattle.lz_scan_client.proofs.replies.Replies.page.Goals as goal
use Rattle.std.proofs.{Common.{[]}, KnownBytes.{Consumes-trans}}
use Rattle.lz_resp.specs.Pages.{told_text}
use Rattle.lz_scan_client.{specs.Scanning.{unread}, proofs.Unread.{page_taken}}

pub returns-in-Ok-Some : goal.returns-in-Ok-Some
returns-in-Ok-Some g c =
    let left = g.R.Read.remaining in
    let text = told_text c.in-Ok-Some.page.next c.in-Ok-Some.page.numbers.items in
    let taken = page_taken (left c.pieces.reader) c.pieces.self.kept.items text c.take.new.self.kept.items (rw c.in-Ok-Some.field-0-is at c.in-Ok-Some.ensures.some) in
    Consumes-trans (unread c.args.self.now (left c.args.reader.now)) (unread c.pieces.self (left c.pieces.reader)) (unread c.take.new.self (left c.pieces.reader)) [] text
    c.pieces.invariant taken
