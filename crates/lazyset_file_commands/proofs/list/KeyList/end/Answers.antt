use Rattle.lazyset_file_commands.proofs.list.KeyList.end.Goals as goal
use Rattle.std.proofs.Common.{rules}
use Rattle.lazyset_file_commands.{specs.ListParts.{named_in}, proofs.{Listed.{are_members, is_listed}, ListPieces.{ends_again, list_ends, list_fails}}}

pub returns-then-not-is_empty-clause-err : goal.returns-then-not-is_empty-clause-err
returns-then-not-is_empty-clause-err c = list_fails c.args.self c.fault.result c.requires.clear (search rules) c.fault.ensures

pub returns-in-Ok-clause-ok : goal.returns-in-Ok-clause-ok
returns-in-Ok-clause-ok c = list_ends c.args.self (search rules) c.in-Ok.ensures.ok

pub returns-in-Ok-clause-members : goal.returns-in-Ok-clause-members
returns-in-Ok-clause-members c = are_members c.args.self.format c.args.self.lines c.requires.above c.args.self.keys.items c.requires.place
    (is_listed (named_in c.args.self) c.requires.above c.args.self.keys.items c.requires.lists c.in-Ok.ensures.ok)

pub returns-in-Err-clause-err : goal.returns-in-Err-clause-err
returns-in-Err-clause-err c = ends_again c.args.self c.in-Err.fault c.in-Err.ensures.err
