use Rattle.lazyset_file_commands.proofs.lines.Lines.most_bytes.Goals as goal
use Rattle.lazyset_file_commands.proofs.ListPieces.{keys_short}

pub returns-in-Keys : goal.returns-in-Keys
returns-in-Keys c = keys_short c.args.format c.args.self c.in-Keys.is
