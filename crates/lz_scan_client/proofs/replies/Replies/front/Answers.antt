use Rattle.lz_scan_client.proofs.replies.Replies.front.Goals as goal
use Rattle.std.proofs.Common.{arith}
use Rattle.lz_resp.{specs.Pages.{told_text}, proofs.PageTexts.{pages_are_spelled}}
use Rattle.lz_scan_client.proofs.Unread.{after_page}

pub returns-in-Ok-Some-clause-some : goal.returns-in-Ok-Some-clause-some
returns-in-Ok-Some-clause-some c =
    let page = c.in-Ok-Some.page in
    let gives = rw (c.as_slice.ensures.value, c.in-Ok-Some.field-0-is) at c.in-Ok-Some.ensures.gives in
    let spelled = pages_are_spelled c.args.self.now.kept.items c.in-Ok-Some.rest.now page.numbers.items page.next gives in
    after_page c.args.self.now.kept.items (told_text page.next page.numbers.items) c.in-Ok-Some.rest.now c.len.result spelled.0 (omega (arith, c.len.ensures))
