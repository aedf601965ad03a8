use Rattle.lz_scan_client.proofs.replies.Replies.page.Given as goal
use Rattle.std.{proofs.Common.{[]}, specs.Io.KnownBytes.{Consumes}}
use Rattle.lz_scan_client.specs.Scanning.{unread}

abbrev pub invariant-pieces : goal.invariant-pieces
invariant-pieces g l = Consumes (unread l.initial.self (g.R.Read.remaining l.initial.reader)) (unread l.self (g.R.Read.remaining l.reader)) []
