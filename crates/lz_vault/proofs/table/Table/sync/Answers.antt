use Rattle.lz_vault.proofs.table.Table.sync.Goals as goal
use Rattle.std.{proofs.Common.{◌≡◌, ◌+◌, ◌∙◌, List, ℕ, ap, arith, subst}, specs.Prelude.{map, vec_capacity}}
use Rattle.lz_vault.{specs.{Opens.{open_count}, Stages.{cell_synced}, Tables.{AreMoved}}, proofs.Tables.{moved_all, table_synced}}
use Rattle.lz_vault.proofs.table.Table.sync.Goals.{After-clear}

all_moved : (c : After-clear) → c.move_on.new.cells ≡ map cell_synced c.self.inside.cells
all_moved c =
    let slots = c.self.inside.unsynced.items in
    moved_all c.self.inside.cells c.move_on.new.cells slots c.self.invariant.listed
    (subst (λ (ss : List ℕ). AreMoved c.self.inside.cells c.move_on.new.cells ss) c.deref.ensures.value c.move_on.ensures.moved)

pub invariant_of-self : goal.invariant_of-self
invariant_of-self c =
    let opened = c.self.inside.opened in
    let all : opened + c.move_on.result ≡ open_count c.move_on.new.cells = omega (arith, c.self.invariant.opened, c.move_on.ensures.count) in
    rw (c.clear.ensures.items, c.clear.ensures.capacity, all_moved c)
    (table_synced c.self.inside.cells c.self.inside.unsynced.items (vec_capacity c.self.inside.unsynced) opened (opened + c.move_on.result) c.self.invariant (all ∙ ap open_count (all_moved c)))

pub returns : goal.returns
returns c = rw (← c.self.view_is) (all_moved c)
