use Rattle.lz_scan_client.proofs.scanning.Progress.scan.Given as goal
use Rattle.std.{proofs.Common.{Some}, specs.Prelude.{map}}
use Rattle.lz_judge.specs.Places.{IsTable}
use Rattle.lz_scan_client.specs.Scanning.{GoesTo, unread}

abbrev pub invariant-pages : goal.invariant-pages
invariant-pages g l = record {
  seen : IsTable (map Some l.self.told.keys.items) l.self.told.seen;
  goes : GoesTo (Some 0) (unread l.initial.self.replies (g.R.Read.remaining l.initial.reader)) (g.W.Write.contents l.initial.writer) l.initial.self.told.keys.items
      (Some l.cursor) (unread l.self.replies (g.R.Read.remaining l.reader)) (g.W.Write.contents l.writer) l.self.told.keys.items;
}
