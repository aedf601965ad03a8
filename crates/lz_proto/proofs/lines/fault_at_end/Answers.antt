use Rattle.lz_proto.proofs.lines.fault_at_end.Goals as goal
use Rattle.std.proofs.{Common.{arith}, lemmas.Bool.Decides.{nat_tests}}
use Rattle.lz_proto.proofs.Texts.{end_items, no_items}

pub returns-then-is_empty : goal.returns-then-is_empty
returns-then-is_empty c = no_items c.args.kept.now (grind (arith, nat_tests))

pub returns-else-is_empty : goal.returns-else-is_empty
returns-else-is_empty c = end_items c.args.kept.now c.requires (grind (arith, nat_tests))
