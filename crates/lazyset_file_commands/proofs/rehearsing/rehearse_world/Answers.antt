use Rattle.lazyset_file_commands.proofs.rehearsing.rehearse_world.Goals as goal
use Rattle.std.proofs.Common.{Err, ap}
use Rattle.lz_rehearsal.specs.declared.rehearsal.RehearsalFault.{RehearsalFault}
use Rattle.lazyset_file_commands.proofs.RehearsalEnds.{fault_told}

pub returns-in-Err : goal.returns-in-Err
returns-in-Err g c = λ shape format new.
    let kept = g.W.Write.contents in
    let ended = c.in-Err.ensures in
    fault_told shape format c.args.lines.now c.args.world.now c.rehearse.new.world c.in-Err.fault c.tell_fault.result (kept c.args.writer.now) (kept c.rehearse.new.writer) (kept c.tell_fault.new.writer)
    new (λ number is. ended.line number (ap (λ (f : RehearsalFault). Err f) is)) (λ is. ended.write (ap (λ (f : RehearsalFault). Err f) is)) (λ is. ended.memory (ap (λ (f : RehearsalFault). Err f) is)) c.tell_fault.ensures
