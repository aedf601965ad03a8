use Rattle.lz_list.proofs.table.Words.get.Goals as goal
use Rattle.std.{proofs.{Common.{ap, ◌∙◌, arith}, lemmas.List.{get_or_default}}, specs.Prelude.{slice_index}}
use Rattle.lz_list.{specs.Words.{get}, proofs.Tables.WordRow.{got, in_row, word_placed}}

pub place-requires : goal.place-requires
place-requires c = record { word = word_placed c.self.invariant c.self.inside.halt c.self.view_is c.args.word c.requires; room = c.self.invariant.room }

pub index-requires-in_default : goal.index-requires-in_default
index-requires-in_default c =
    let placed = word_placed c.self.invariant c.self.inside.halt c.self.view_is c.args.word c.requires in
    omega (arith, in_row c.self.invariant c.self.inside.halt c.args.word placed, c.place.ensures, c.self.inside.row.ok)

pub returns-in_default : goal.returns-in_default
returns-in_default c =
    let row = c.self.inside.row.items in
    let placed = word_placed c.self.invariant c.self.inside.halt c.self.view_is c.args.word c.requires in
    c.index-in_default.ensures
    ∙ get_or_default row c.place.result c.index-in_default.result.now 0 (omega (arith, in_row c.self.invariant c.self.inside.halt c.args.word placed, c.place.ensures))
    ∙ ap (slice_index row) c.place.ensures
    ∙ got c.self.invariant c.self.inside.halt c.args.word placed (λ p e h. absurd (c.in_default.not-Pin p e)) (λ e. absurd (c.in_default.not-Halt e))
    ∙ ap (λ w. get w c.args.word) c.self.view_is
