use Rattle.lz_list.proofs.table.Words.buckets.Goals as goal
use Rattle.std.proofs.Common.{length, sym, ap, ◌∙◌, subst}
use Rattle.lz_list.{specs.Lists.{IsTable}, proofs.Tables.WordRow.{row_table, sizes_are}}

pub returns-clause-count : goal.returns-clause-count
returns-clause-count c = ap (λ z. z.buckets) (sym (sizes_are c.self.invariant c.self.inside.halt)) ∙ ap (λ w. length w.heads) c.self.view_is

pub returns-clause-table : goal.returns-clause-table
returns-clause-table c = subst IsTable c.self.view_is (row_table c.self.invariant c.self.inside.halt)
