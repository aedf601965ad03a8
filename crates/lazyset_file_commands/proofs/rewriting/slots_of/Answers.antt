use Rattle.lazyset_file_commands.proofs.rewriting.slots_of.Goals as goal
use Rattle.std.proofs.Common.{◌≡◌, ◌≤◌, IsTrue, take, subst, sym}
use Rattle.lz_disk.specs.Images.{Medium}
use Rattle.lazyset_file_commands.proofs.WholeFours.{other_format, whole_four}

pub returns-in_default-clause-refused : goal.returns-in_default-clause-refused
returns-in_default-clause-refused g c = λ honest told.
    other_format (g.D.Disk.device c.args.disk.now).medium.seen c.in-Ok-read_head.head c.in-Ok.size (c.in-Ok.ensures.size honest)
    (subst (λ (m : Medium). 16 ≤ c.in-Ok.size → c.in-Ok-read_head.head ≡ take 16 m.seen) (c.in-Ok.ensures.sure honest) (c.in-Ok-read_head.ensures.ok (subst IsTrue (sym c.in-Ok.ensures.keeps.honest) honest)))
    c.in-Ok-read_header.header.format c.in-Ok-read_header.header.slots (sym c.in-Ok-read_header.ensures.slots) c.in-Ok-read_header.ensures.format c.in_default.not-Four

pub returns-in-Four-clause-whole : goal.returns-in-Four-clause-whole
returns-in-Four-clause-whole g c = λ honest.
    whole_four (g.D.Disk.device c.args.disk.now).medium.seen c.in-Ok-read_head.head c.in-Ok.size (c.in-Ok.ensures.size honest)
    (subst (λ (m : Medium). 16 ≤ c.in-Ok.size → c.in-Ok-read_head.head ≡ take 16 m.seen) (c.in-Ok.ensures.sure honest) (c.in-Ok-read_head.ensures.ok (subst IsTrue (sym c.in-Ok.ensures.keeps.honest) honest)))
    c.in-Ok-read_header.header.format c.in-Ok-read_header.header.slots (sym c.in-Ok-read_header.ensures.slots) c.in-Ok-read_header.ensures.format c.in-Four.is
