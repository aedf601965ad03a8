use Rattle.lz_scan_client.proofs.scanning.scan_rooms.Goals as goal
use Rattle.std.proofs.Common.{◌≡◌, Bool, true, false, length, Ok, ap, ◌∙◌, arith}
use Rattle.lz_scan_client.{specs.Scanning.{unread}, proofs.Reached.{at_first}}

pub returns-in-Ok-true : goal.returns-in-Ok-true
returns-in-Ok-true g c =
    let input = g.R.Read.remaining c.args.reader.now in
    let before = g.W.Write.contents c.args.writer.now in
    let progress = c.new-progress.result in
    let so : c.scan.result ≡ Ok true = c.in-Ok-true.is ∙ ap (λ (b : Bool). Ok b) c.in-Ok-true.field-0-test in
    let at = at_first input before progress.replies.kept.items progress.told.keys.items c.new-progress.ensures.none.1 c.new-progress.ensures.none.0 in
    ((unread c.scan.new.self.replies (g.R.Read.remaining c.scan.new.reader), c.scan.ensures.ended so input before at), c.scan.ensures.few so)

pub returns-in-Ok-false : goal.returns-in-Ok-false
returns-in-Ok-false g c =
    let input = g.R.Read.remaining c.args.reader.now in
    let before = g.W.Write.contents c.args.writer.now in
    let progress = c.new-progress.result in
    let so : c.scan.result ≡ Ok false = c.in-Ok-false.is ∙ ap (λ (b : Bool). Ok b) c.in-Ok-false.field-0-test in
    let at = at_first input before progress.replies.kept.items progress.told.keys.items c.new-progress.ensures.none.1 c.new-progress.ensures.none.0 in
    let goes = c.scan.ensures.goes so in
    let many : length c.scan.new.self.told.keys.items ≡ c.len.result = omega (arith, c.len.ensures) in
    let left = unread c.scan.new.self.replies (g.R.Read.remaining c.scan.new.reader) in
    ((goes.0, left, c.scan.new.self.told.keys.items, goes.1 input before at, many), omega (arith, c.scan.ensures.many so, c.len.ensures))
