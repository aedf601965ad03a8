use Rattle.lz_list.proofs.table.Words.row.Goals as goal
use Rattle.std.proofs.Common.{sym, ap, ◌∙◌, subst}
use Rattle.lz_list.{specs.Addresses.{row_of, sizes_in, words_in, IsAtRest}, proofs.Tables.WordRow.{laid, sizes_are}}

pub returns : goal.returns
returns c =
    let row = c.self.inside in
    c.as_slice.ensures.value
    ∙ laid c.self.invariant row.halt (subst IsAtRest (sym c.self.view_is) c.requires)
    ∙ ap (λ z. row_of z (words_in row.sizes row.row.items row.pins.items row.halt)) (sym (sizes_are c.self.invariant row.halt))
    ∙ ap (λ w. row_of (sizes_in w) w) c.self.view_is
