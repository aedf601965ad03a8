use Rattle.lz_vault.proofs.table.Table.close.Goals as goal
use Rattle.std.{proofs.Common.{◌≡◌, ◌+◌, arith, refl, ◌∙◌}, specs.Prelude.{cond, vec_capacity}}
use Rattle.lz_vault.{specs.{Opens.{is_open}, Stages.{Cell}, declared.vault.Stage.TheVariants.{Closing}}, proofs.Tables.{finds_room, open_counts, table_turned}}

pub without-self-inside-requires : goal.without-self-inside-requires
without-self-inside-requires c = λ opened.
    let at = rw (← c.self.view_is) at c.requires in
    let here = rw (c.stage-was.ensures at.0 at.1) at opened in
    omega (arith, open_counts c.self.inside.cells c.args.slot at.0 at.1 here, c.self.invariant.opened)

pub list-requires : goal.list-requires
list-requires c = λ comes.
    let at = rw (← c.self.view_is) at c.requires in
    let new : Cell = record { stage = Closing; key = at.0.key } in
    let slots = c.self.inside.unsynced in
    let here = rw (c.stage-was.ensures at.0 at.1) at comes in
    omega (arith, finds_room c.self.inside.cells c.args.slot at.0 new at.1 slots.items (vec_capacity slots) c.self.inside.opened c.self.invariant here, slots.ok)

pub invariant_of-self : goal.invariant_of-self
invariant_of-self c =
    let at = rw (← c.self.view_is) at c.requires in
    let was = c.stage-was.ensures at.0 at.1 in
    let new : Cell = record { stage = Closing; key = at.0.key } in
    let slots = c.self.inside.unsynced in
    let opened = c.self.inside.opened in
    let less : c.without-self-inside.result + cond (is_open at.0.stage) 1 0 ≡ opened + 0 = rw was at c.without-self-inside.ensures ∙ omega arith in
    rw (c.turn.ensures at.0 at.1)
    (table_turned c.self.inside.cells c.args.slot at.0 new at.1 slots.items c.list.new.unsynced.items (vec_capacity slots) (vec_capacity c.list.new.unsynced) opened c.without-self-inside.result c.self.invariant
    (λ loose. refl) (rw was at c.list.ensures.items) c.list.ensures.room less)
