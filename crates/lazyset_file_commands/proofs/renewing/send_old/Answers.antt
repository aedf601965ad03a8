use Rattle.lazyset_file_commands.proofs.renewing.send_old.Goals as goal
use Rattle.std.proofs.Common.{codes, ◌∙◌}
use Rattle.lz_vault.specs.Opens.{open_fault_number}
use Rattle.lazyset_file_commands.proofs.{LineTexts.{old_numbered}, TwoNumbers.{one_same}}

pub returns-in-BadKey : goal.returns-in-BadKey
returns-in-BadKey g c = rw c.in-BadKey.is (one_same (codes "refused old 5 ") c.from.result c.in-BadKey.slot _ _ c.send_line.result (c.from.ensures ∙ c.index.ensures) c.send_line.ensures)

pub returns-in-Twice : goal.returns-in-Twice
returns-in-Twice g c = rw c.in-Twice.is c.send_slots.ensures

pub returns-in_default : goal.returns-in_default
returns-in_default g c = rw (old_numbered c.args.fault c.in_default.not-BadKey c.in_default.not-Twice)
    (one_same (codes "refused old ") c.from-in_default.result (open_fault_number c.args.fault) _ _ c.send_line-in_default.result (c.from-in_default.ensures ∙ c.number.ensures) c.send_line-in_default.ensures)
