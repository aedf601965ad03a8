use Rattle.lz_proto.proofs.line.read_request.Goals as goal
use Rattle.std.proofs.Common.{rules, Ok, Err}
use Rattle.lz_proto.proofs.LineReads.{add_read, remove_read, has_read}

pub returns-in-Ok : goal.returns-in-Ok
returns-in-Ok c = add_read c.args.line.now (Ok c.in-Ok.key) (search rules) (search rules) (search rules) c.in-Ok.ensures

pub returns-in-Err : goal.returns-in-Err
returns-in-Err c = add_read c.args.line.now (Err c.in-Err.bad) (search rules) (search rules) (search rules) c.in-Err.ensures

pub returns-in-Ok-read_key : goal.returns-in-Ok-read_key
returns-in-Ok-read_key c = remove_read c.args.line.now (Ok c.in-Ok-read_key.key) (search rules) (search rules) (search rules) (search rules) c.in-Ok-read_key.ensures

pub returns-in-Err-read_key : goal.returns-in-Err-read_key
returns-in-Err-read_key c = remove_read c.args.line.now (Err c.in-Err-read_key.bad) (search rules) (search rules) (search rules) (search rules) c.in-Err-read_key.ensures

pub returns-in-Ok-read_key-2 : goal.returns-in-Ok-read_key-2
returns-in-Ok-read_key-2 c = has_read c.args.line.now (Ok c.in-Ok-read_key-2.key) (search rules) (search rules) (search rules) (search rules) (search rules) c.in-Ok-read_key-2.ensures

pub returns-in-Err-read_key-2 : goal.returns-in-Err-read_key-2
returns-in-Err-read_key-2 c = has_read c.args.line.now (Err c.in-Err-read_key-2.bad) (search rules) (search rules) (search rules) (search rules) (search rules) c.in-Err-read_key-2.ensures
