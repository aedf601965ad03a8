use Rattle.lazyset_file_commands.proofs.making.tell_fault.Goals as goal
use Rattle.std.proofs.Common.{◌∙◌}
use Rattle.lz_vault.specs.Makes.{make_fault_number}
use Rattle.lazyset_file_commands.{specs.Ends.{make_status}, proofs.SentTexts.{number_tells}}

pub returns : goal.returns
returns g c = rw (c.status_sent.ensures, c.status_of.ensures)
    (number_tells _ _ (make_status c.args.fault) c.send_line.result c.from-number.result (make_fault_number c.args.fault) (c.from-number.ensures ∙ c.number.ensures) c.send_line.ensures)
