use Rattle.lz_list.proofs.table.Words.sizes.Goals as goal
use Rattle.std.proofs.Common.{sym, ap, ◌∙◌, subst}
use Rattle.lz_list.{specs.{Lists.{IsTable}, Addresses.{sizes_in}}, proofs.Tables.WordRow.{row_table, sizes_are}}

pub returns-clause-sizes : goal.returns-clause-sizes
returns-clause-sizes c = sym (sizes_are c.self.invariant c.self.inside.halt) ∙ ap sizes_in c.self.view_is

pub returns-clause-table : goal.returns-clause-table
returns-clause-table c = subst IsTable c.self.view_is (row_table c.self.invariant c.self.inside.halt)
