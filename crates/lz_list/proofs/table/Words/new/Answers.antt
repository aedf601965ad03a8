use Rattle.lz_list.proofs.table.Words.new.Goals as goal
use Rattle.lz_list.proofs.Tables.WordRow.{row_of_zeros}

pub returns : goal.returns
returns c = row_of_zeros c.args.slots c.args.buckets c.args.passes _ (c.in_ok-row.ensures.items_if_clones_equal (λ y is. is)) (c.in_ok-pins.ensures.items_if_clones_equal (λ y is. is))
