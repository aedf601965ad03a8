use Rattle.lz_list.proofs.table.Words.set.Goals as goal
use Rattle.std.{proofs.Common.{sym, ap, ◌∙◌, subst, arith}, specs.Prelude.{slice_set}}
use Rattle.lz_list.{specs.{Words.{set}, Addresses.{words_in, IsRow}}, proofs.Tables.WordRow.{in_row, still_row, stored, word_placed}}

pub place-requires : goal.place-requires
place-requires c = record { word = word_placed c.self.invariant c.self.inside.halt c.self.view_is c.args.word c.requires; room = c.self.invariant.room }

pub index_mut-requires-in_default : goal.index_mut-requires-in_default
index_mut-requires-in_default c =
    let placed = word_placed c.self.invariant c.self.inside.halt c.self.view_is c.args.word c.requires in
    omega (arith, in_row c.self.invariant c.self.inside.halt c.args.word placed, c.place.ensures, c.self.inside.row.ok)

pub invariant_of-self-in_default : goal.invariant_of-self-in_default
invariant_of-self-in_default c =
    let placed = word_placed c.self.invariant c.self.inside.halt c.self.view_is c.args.word c.requires in
    subst (λ i. IsRow c.self.inside.sizes (slice_set c.self.inside.row.items i c.args.value) c.self.inside.pins.items) (sym c.place.ensures)
    (still_row c.self.invariant c.self.inside.halt c.args.value c.args.word placed c.in_default.not-Pin c.in_default.not-Halt)

pub returns-in_default : goal.returns-in_default
returns-in_default c =
    let placed = word_placed c.self.invariant c.self.inside.halt c.self.view_is c.args.word c.requires in
    ap (λ i. words_in c.self.inside.sizes (slice_set c.self.inside.row.items i c.args.value) c.self.inside.pins.items c.self.inside.halt) c.place.ensures
    ∙ stored c.self.invariant c.self.inside.halt c.args.value c.args.word placed c.in_default.not-Pin c.in_default.not-Halt
    ∙ ap (λ w. set w c.args.word c.args.value) c.self.view_is
