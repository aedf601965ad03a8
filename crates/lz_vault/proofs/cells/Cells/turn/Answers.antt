use Rattle.lz_vault.proofs.cells.Cells.turn.Goals as goal
use Rattle.std.{proofs.{Common.{◌∙◌, ap, sym}, lemmas.{List.{map-set}, Option.{get_or_from_slice_get}}}, specs.Prelude.{slice_index_or, slice_set}}
use Rattle.lz_vault.specs.{Members.{no_cell}, Stages.{Cell}}

pub invariant_of-self : goal.invariant_of-self
invariant_of-self c =
    let known = c.self.inside.known.cells in
    rw (c.index.ensures, c.turned-self-inside.ensures, c.self.invariant)
    (sym (map-set (λ (cell : Cell). cell.stage) known c.args.slot (record { stage = c.args.stage; key = (slice_index_or known c.args.slot no_cell).key })))

pub returns : goal.returns
returns c = λ cell there.
    let known = c.self.inside.known.cells in
    let here = rw (← c.self.view_is) at there in
    rw (← c.self.view_is)
    (c.turned-self-inside.ensures
    ∙ ap (λ (q : Cell). slice_set known c.args.slot (record { stage = c.args.stage; key = q.key })) (get_or_from_slice_get known c.args.slot cell no_cell here))
