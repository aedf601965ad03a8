use Rattle.lz_allot.proofs.row.drop_first.Goals as goal
use Rattle.std.proofs.{Common.{◌<◌, get_or, length, arith}, lemmas.List.{get_or_default, Edits.{map_over_more}}}
use Rattle.lz_allot.specs.Rows.{row_freed, first_row}

pub loop-row-preserved : goal.loop-row-preserved
loop-row-preserved c =
    let rows = c.loop-row.rows in
    let low : c.loop-row.row-index < length rows = omega arith in
    rw c.drop_first.ensures
    (map_over_more (row_freed c.args.freed) c.args.rows.now rows c.loop-row.row-index (get_or rows c.loop-row.row-index first_row) c.loop-row-test.true c.loop-row.invariant
    (get_or_default rows c.loop-row.row-index first_row _ low))
