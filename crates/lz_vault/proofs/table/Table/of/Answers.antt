use Rattle.lz_vault.proofs.table.Table.of.Goals as goal
use Rattle.std.proofs.Common.{List, ℕ, sym, subst, arith}
use Rattle.lz_vault.{specs.Tables.{AreUnsynced}, proofs.Tables.{steady_unsynced}}

pub invariant_of-result : goal.invariant_of-result
invariant_of-result c = record {
  few = c.requires.few;
  room = omega (arith, c.len.ensures, c.in_ok-unsynced.ensures.capacity);
  listed = subst (λ (slots : List ℕ). AreUnsynced c.args.cells slots) (sym c.in_ok-unsynced.ensures.items) (steady_unsynced c.args.cells c.requires.steady);
  opened = c.count_open-opened.ensures;
}
