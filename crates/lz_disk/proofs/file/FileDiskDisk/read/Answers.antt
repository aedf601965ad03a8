use Rattle.lz_disk.proofs.file.FileDiskDisk.read.Goals as goal
use Rattle.std.{proofs.Common.{◌≡◌, ◌+◌, ◌∙◌, IsTrue, List, ℕ, ap, length, subst, sym}, specs.Prelude.{OnOk, slice_range}}
use Rattle.lz_disk.{specs.Images.{Medium}, proofs.OverFiles.{nothing_waits}}

pub returns-clause-bytes : goal.returns-clause-bytes
returns-clause-bytes g c = λ honest.
    let over = c.in_ok-hand_over.ensures in
    let same = sym (nothing_waits _ _ _ over.none) ∙ ap (λ (m : Medium). m.seen) (over.medium honest) in
    subst (λ (t : List ℕ). OnOk c.read.result (c.read.new.buffer ≡ slice_range t c.args.at (c.args.at + length c.args.buffer.now))) same
    (c.read.ensures.bytes (subst IsTrue (sym over.part.honest) honest))
