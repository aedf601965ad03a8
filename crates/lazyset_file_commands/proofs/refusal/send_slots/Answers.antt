use Rattle.lazyset_file_commands.proofs.refusal.send_slots.Goals as goal
use Rattle.std.proofs.Common.{◌∙◌}
use Rattle.lazyset_file_commands.proofs.TwoNumbers.{two_same}

pub returns : goal.returns
returns g c = two_same c.args.words.now c.from.result c.from-2.result c.args.first c.args.second _ _ c.send_two.result (c.from.ensures ∙ c.index.ensures) (c.from-2.ensures ∙ c.index-2.ensures) c.send_two.ensures
