use Rattle.lz_rehearsal.proofs.script.Script.read.Goals as goal
use Rattle.std.proofs.Common.{rules}
use Rattle.lz_rehearsal.proofs.Scripting.{fault_known, script_known}

pub returns-in-Ok-read_lines-clause-ok : goal.returns-in-Ok-read_lines-clause-ok
returns-in-Ok-read_lines-clause-ok g c =
    script_known (g.R.Read.remaining c.args.reader.now) c.in-Ok.text.items c.as_slice.result.now c.in-Ok-read_lines.lines.items (search rules) c.in-Ok.ensures.ok c.in-Ok-read_lines.ensures.ok

pub returns-clause-line : goal.returns-clause-line
returns-clause-line g c = λ number is.
    fault_known (g.R.Read.remaining c.args.reader.now) c.in-Ok.text.items c.as_slice.result.now c.in-Err-read_lines.fault number (search rules) c.in-Ok.ensures.ok c.in-Err-read_lines.ensures.err (search rules)
