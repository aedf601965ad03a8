use Rattle.lz_rehearsal.proofs.line.read_line.Goals as goal
use Rattle.std.proofs.Common.{rules}
use Rattle.lz_rehearsal.proofs.LineReads.{call_line, turn_line, until_line, finish_line, trip_line, stop_line, crash_line, open_line, show_line}

pub returns-then-starts_with : goal.returns-then-starts_with
returns-then-starts_with c = call_line c.args.text.now c.read_call.result (search rules) (search rules) c.read_call.ensures

pub returns-then-starts_with-2 : goal.returns-then-starts_with-2
returns-then-starts_with-2 c = turn_line c.args.text.now c.read_turn.result (search rules) (search rules) (search rules) c.read_turn.ensures

pub returns-then-starts_with-3 : goal.returns-then-starts_with-3
returns-then-starts_with-3 c = until_line c.args.text.now c.read_until.result (search rules) (search rules) (search rules) (search rules) c.read_until.ensures

pub returns-then-starts_with-4 : goal.returns-then-starts_with-4
returns-then-starts_with-4 c = finish_line c.args.text.now c.read_finish.result (search rules) (search rules) (search rules) (search rules) (search rules) c.read_finish.ensures

pub returns-then-starts_with-5 : goal.returns-then-starts_with-5
returns-then-starts_with-5 c = trip_line c.args.text.now c.read_bare.result (search rules) (search rules) (search rules) (search rules) (search rules) (search rules) c.read_bare.ensures

pub returns-then-starts_with-6 : goal.returns-then-starts_with-6
returns-then-starts_with-6 c = stop_line c.args.text.now c.read_bare-then-starts_with-6.result (search rules) (search rules) (search rules) (search rules) (search rules) (search rules) (search rules) c.read_bare-then-starts_with-6.ensures

pub returns-then-starts_with-7 : goal.returns-then-starts_with-7
returns-then-starts_with-7 c = crash_line c.args.text.now c.read_crash.result (search rules) (search rules) (search rules) (search rules) (search rules) (search rules) (search rules) (search rules) c.read_crash.ensures

pub returns-then-starts_with-8 : goal.returns-then-starts_with-8
returns-then-starts_with-8 c = open_line c.args.text.now c.read_bare-then-starts_with-8.result (search rules) (search rules) (search rules) (search rules) (search rules) (search rules) (search rules) (search rules) (search rules) c.read_bare-then-starts_with-8.ensures

pub returns-then-starts_with-9 : goal.returns-then-starts_with-9
returns-then-starts_with-9 c = show_line c.args.text.now c.read_bare-then-starts_with-9.result (search rules) (search rules) (search rules) (search rules) (search rules) (search rules) (search rules) (search rules) (search rules) (search rules) c.read_bare-then-starts_with-9.ensures
