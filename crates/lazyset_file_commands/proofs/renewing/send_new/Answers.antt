use Rattle.lazyset_file_commands.proofs.renewing.send_new.Goals as goal
use Rattle.std.proofs.Common.{codes, ◌∙◌}
use Rattle.lz_vault.specs.Makes.{make_fault_number}
use Rattle.lazyset_file_commands.proofs.TwoNumbers.{one_same}

pub returns : goal.returns
returns g c = one_same (codes "refused new ") c.from.result (make_fault_number c.args.fault) _ _ c.send_line.result (c.from.ensures ∙ c.number.ensures) c.send_line.ensures
