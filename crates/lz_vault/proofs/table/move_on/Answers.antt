use Rattle.lz_vault.proofs.table.move_on.Goals as goal
use Rattle.std.proofs.Common.{◌≡◌, ◌+◌, ◌<◌, ◌∙◌, Bool, List, [], ◌∷◌, ◌++◌, ℕ, Some, length, get_or, take, ap, arith, rules, subst, sym}
use Rattle.std.{proofs.lemmas.{List.{take_more}, Option.{slice_get-get_or}}, specs.Prelude.{cond, slice_get, slice_set}}
use Rattle.lz_vault.specs.{Members.{no_cell}, Opens.{is_open, open_count}, Stages.{Cell, cell_synced, stage_synced}, Tables.{AreMoved, is_opening}}
use Rattle.lz_vault.{specs.declared.vault.Stage.{Stage}, proofs.Tables.{counted, moved_more, opened_synced}}
use Rattle.lz_vault.proofs.table.move_on.Goals.{then-is_opening, else-is_opening}

pub loop-index-preserved : goal.loop-index-preserved
loop-index-preserved c =
    let i = c.loop-index.index in
    let cells = c.loop-index.cells in
    let slots = c.args.slots.now in
    let s = c.index-slots-index.result in
    let is = c.loop-index.invariant in
    let low : i < length slots = search rules in
    let listed : slice_get slots i ≡ Some s = slice_get-get_or slots i s low ∙ ap (λ (q : ℕ). Some q) (sym c.index-slots-index.is) in
    let within : s < length cells = omega (arith, c.requires.within i s listed, is.moved.size) in
    let cell = get_or cells s no_cell in
    let there = slice_get-get_or cells s no_cell within in
    let stage_is = c.stage-stage.ensures cell there in
    let next : take (i + 1) slots ≡ take i slots ++ s ∷ [] = take_more slots i s low ∙ ap (λ (q : ℕ). take i slots ++ q ∷ []) (sym c.index-slots-index.is) in
    let turned : c.turn.new.self ≡ slice_set cells s (cell_synced cell) = c.turn.ensures cell there ∙ ap (λ (st : Stage). slice_set cells s (record { stage = st; key = cell.key })) (c.synced.ensures ∙ ap stage_synced stage_is) in
    let moved : AreMoved c.args.cells.now c.turn.new.self (take (i + 1) slots) =
    subst (λ (cs : List Cell). AreMoved c.args.cells.now cs (take (i + 1) slots)) (sym turned) (subst (λ (ss : List ℕ). AreMoved c.args.cells.now (slice_set cells s (cell_synced cell)) ss) (sym next) (moved_more c.args.cells.now cells (take i slots) s cell is.moved there)) in
    let by = counted cells s cell (cell_synced cell) there (λ (q : Cell). is_open q.stage) in
    let more = opened_synced cell.stage in
    let after : open_count c.turn.new.self ≡ open_count (slice_set cells s (cell_synced cell)) = ap open_count turned in
    let test : is_opening cell.stage ≡ c.is_opening.result = sym (c.is_opening.ensures ∙ ap is_opening stage_is) in
    elim c.if-is_opening.branch [
      | then-is_opening w ↦
          let one : ◌≡◌ {A = ℕ} (cond (is_opening cell.stage) 1 0) 1 = ap (λ (b : Bool). cond b 1 0) (test ∙ w.if-is_opening.true) in
          rw w.opened-is (record { moved = moved; count = omega (arith, by, more, after, one, is.count) })
      | else-is_opening w ↦
          let none : ◌≡◌ {A = ℕ} (cond (is_opening cell.stage) 1 0) 0 = ap (λ (b : Bool). cond b 1 0) (test ∙ w.if-is_opening.false) in
          rw w.opened-is (record { moved = moved; count = omega (arith, by, more, after, none, is.count) })
    ]
