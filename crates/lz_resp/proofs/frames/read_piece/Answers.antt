use Rattle.lz_resp.proofs.frames.read_piece.Goals as goal
use Rattle.std.proofs.Common.{◌∙◌, ℕ, List, drop, sym, ap}
use Rattle.lz_resp.{specs.Pieces.{step}, proofs.Texts.{step_short}}

pub returns-in-Ok-Some-clause-waits : goal.returns-in-Ok-Some-clause-waits
returns-in-Ok-Some-clause-waits c =
    let so = (rw c.in-Ok-Some.field-0-is at c.in-Ok-Some.ensures.ok).1.0 in
    let left = c.drop_front.ensures ∙ ap (λ (t : List ℕ). drop c.in-Ok-Some.used t) (sym c.as_slice.ensures.value) in
    let waits_so = ap (step c.in-Ok-Some.state) left ∙ so in
    (waits_so, step_short c.in-Ok-Some.state c.drop_front.new.kept.items waits_so)
