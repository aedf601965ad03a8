use Rattle.lazyset_set_commands.proofs.found.head_of.Goals as goal
use Rattle.std.proofs.Common.{◌≡◌, ◌≤◌, ◌∙◌, ap, arith, List, ℕ, take, sym}
use Rattle.lz_slot.{specs.Bytes.{format_of}, proofs.Files.{ExactBytes.{header_counts, slots_of_format}, HeadBytes.{format_alone}}}
use Rattle.lz_vault.proofs.Openings.{call_reads, head_read, read_before, reads_then}
use Rattle.lazyset_set_commands.proofs.FoundKeys.{head_holds}

pub returns-in-Ok-read_header-clause-reads : goal.returns-in-Ok-read_header-clause-reads
returns-in-Ok-read_header-clause-reads g c =
    reads_then _ _ _ (call_reads _ _ _ (g.met.D.Disk.timely c.args.disk.now) c.in-Ok.ensures.call c.in-Ok.ensures.medium) c.front_of.ensures.reads

pub returns-in-Ok-read_header-clause-range : goal.returns-in-Ok-read_header-clause-range
returns-in-Ok-read_header-clause-range g c =
    let counts = header_counts c.in-Ok-front_of.front c.in-Ok.size c.in-Ok-read_header.header.slots (sym c.in-Ok-read_header.ensures.slots) in
    slots_of_format (format_of c.in-Ok-front_of.front) c.in-Ok-read_header.header.slots counts.1

pub returns-in-Ok-read_header-clause-some : goal.returns-in-Ok-read_header-clause-some
returns-in-Ok-read_header-clause-some g c = λ honest.
    let old = g.D.Disk.device c.args.disk.now in
    let sized = call_reads old (g.D.Disk.device c.size.new.self) _ (g.met.D.Disk.timely c.args.disk.now) c.in-Ok.ensures.call c.in-Ok.ensures.medium in
    let front = read_before old (g.D.Disk.device c.size.new.self) (λ (t : List ℕ). 16 ≤ c.in-Ok.size → c.in-Ok-front_of.front ≡ take 16 t) sized c.in-Ok-front_of.ensures.ok honest in
    let counts = header_counts c.in-Ok-front_of.front c.in-Ok.size c.in-Ok-read_header.header.slots (sym c.in-Ok-read_header.ensures.slots) in
    (sym (c.in-Ok.ensures.size honest) ∙ counts.2, c.in-Ok-read_header.ensures.format ∙ ap format_of (front (omega (arith, counts.2))) ∙ format_alone old.medium.seen)

pub returns-in-Err-read_header-clause-reads : goal.returns-in-Err-read_header-clause-reads
returns-in-Err-read_header-clause-reads g c =
    reads_then _ _ _ (call_reads _ _ _ (g.met.D.Disk.timely c.args.disk.now) c.in-Ok.ensures.call c.in-Ok.ensures.medium) c.front_of.ensures.reads

pub returns-in-Err-read_header-clause-none : goal.returns-in-Err-read_header-clause-none
returns-in-Err-read_header-clause-none g c = λ honest is N S holds.
    let old = g.D.Disk.device c.args.disk.now in
    let sized = call_reads old (g.D.Disk.device c.size.new.self) _ (g.met.D.Disk.timely c.args.disk.now) c.in-Ok.ensures.call c.in-Ok.ensures.medium in
    let front = read_before old (g.D.Disk.device c.size.new.self) (λ (t : List ℕ). 16 ≤ c.in-Ok.size → c.in-Ok-front_of.front ≡ take 16 t) sized c.in-Ok-front_of.ensures.ok honest in
    head_holds old.medium.seen N S holds c.in-Err-read_header.field-0 (sym (head_read old.medium.seen c.in-Ok-front_of.front c.in-Ok.size (c.in-Ok.ensures.size honest) front) ∙ sym c.in-Err-read_header.ensures.slots)
