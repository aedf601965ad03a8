use Rattle.lz_vault.proofs.table.count_open.Goals as goal
use Rattle.std.proofs.{Common.{◌≡◌, ◌+◌, ◌<◌, ℕ, length, get_or, rules, sym, ap, ◌∙◌, arith}, lemmas.List.Sums.{count_by_more_no, count_by_more_yes}}
use Rattle.std.{proofs.lemmas.Option.{slice_get-get_or}, specs.Prelude.{slice_get}}
use Rattle.lz_vault.{specs.{Members.{no_cell}, Opens.{is_open}, Stages.{Cell}}, proofs.table.count_open.Goals.{then-is_open, else-is_open}}

pub loop-index-preserved : goal.loop-index-preserved
loop-index-preserved c =
    let i = c.loop-index.index in
    let cells = c.args.cells.now in
    let low : i < length cells = search rules in
    let place : c.new.result ≡ i = search rules in
    let cell = get_or cells i no_cell in
    let stage_is : c.stage.result ≡ cell.stage = c.stage.ensures cell (ap (slice_get cells) place ∙ slice_get-get_or cells i no_cell low) in
    let open_is : is_open cell.stage ≡ c.is_open.result = sym (c.is_open.ensures ∙ ap is_open stage_is) in
    elim c.if-is_open.branch [
      | then-is_open w ↦ rw w.opened-is (record {
        count = ap (λ (n : ℕ). n + 1) c.loop-index.invariant.count ∙ sym (count_by_more_yes (λ (q : Cell). is_open q.stage) cells i no_cell low (open_is ∙ w.if-is_open.true));
        few = omega (arith, c.loop-index.invariant.few);
      })
      | else-is_open w ↦ rw w.opened-is (record {
        count = c.loop-index.invariant.count ∙ sym (count_by_more_no (λ (q : Cell). is_open q.stage) cells i no_cell low (open_is ∙ w.if-is_open.false));
        few = omega (arith, c.loop-index.invariant.few);
      })
    ]
