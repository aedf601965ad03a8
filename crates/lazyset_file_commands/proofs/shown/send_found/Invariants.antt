use Rattle.lazyset_file_commands.proofs.shown.send_found.Given as goal
use Rattle.std.{proofs.Common.{◌++◌, take}, specs.{List.{flat_map}, String.{string_bytes}}}
use Rattle.lazyset_file_commands.specs.{Checks.{line_of}, Tellings.{IsSentTo}}

abbrev pub invariant-loop-finding : goal.invariant-loop-finding
invariant-loop-finding g l = IsSentTo (g.W.Write.contents l.initial.writer) (g.W.Write.contents l.writer) (string_bytes l.fn.first ++ flat_map (line_of l.shown) (take l.finding-index l.findings)) (string_bytes l.page)
