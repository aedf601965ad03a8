use Rattle.lazyset_file_commands.proofs.refusal.send_two.Goals as goal
use Rattle.lazyset_file_commands.proofs.TwoNumbers.{two_cut, two_sent}

pub returns-in-Err : goal.returns-in-Err
returns-in-Err g c = two_cut c.args.words.now c.args.first c.args.second _ _ c.in-Err.fault c.in-Err.ensures

pub returns : goal.returns
returns g c = two_sent c.args.words.now c.args.first c.args.second _ _ _ c.send_line.result c.in_default.ensures c.send_line.ensures
