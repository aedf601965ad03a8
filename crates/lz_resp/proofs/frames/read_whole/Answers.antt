use Rattle.lz_resp.proofs.frames.read_whole.Goals as goal
use Rattle.std.proofs.Common.{◌∙◌, ap}
use Rattle.lz_resp.{specs.Pieces.{step}, proofs.Texts.{step_short}}

pub returns-clause-waits : goal.returns-clause-waits
returns-clause-waits c =
    let so = (rw c.in-Some.is at c.in_ok-next.ensures.ok).1.0 in
    let left = rw (c.requires.none, c.split_at.ensures.back) at c.in_ok-extend_from_slice.ensures.items in
    let waits_so = ap (step c.in-Some.next) left ∙ so in
    (waits_so, step_short c.in-Some.next c.extend_from_slice.new.self.items waits_so)
