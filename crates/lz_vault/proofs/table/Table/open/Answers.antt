use Rattle.lz_vault.proofs.table.Table.open.Goals as goal
use Rattle.std.{proofs.Common.{◌+◌, ◌∙◌, [], ◌∷◌, ◌++◌, ap, arith, refl, sym}, specs.Prelude.{cond, if◌then◌else◌, vec_capacity}}
use Rattle.lz_vault.specs.{Opens.{is_open}, Stages.{Cell}, Tables.{is_listed_then}, declared.vault.Stage.{Stage, TheVariants.{Opening}}}
use Rattle.lz_vault.proofs.Tables.{finds_room, table_turned}

pub list-requires : goal.list-requires
list-requires c = λ comes.
    let at = rw (← c.self.view_is) at c.requires in
    let new : Cell = record { stage = Opening; key = at.0.key } in
    let slots = c.self.inside.unsynced in
    omega (arith, finds_room c.self.inside.cells c.args.slot at.0 new at.1 slots.items (vec_capacity slots) c.self.inside.opened c.self.invariant (ap (λ (was : Stage). is_listed_then was Opening) at.2), slots.ok)

pub invariant_of-self : goal.invariant_of-self
invariant_of-self c =
    let at = rw (← c.self.view_is) at c.requires in
    let new : Cell = record { stage = Opening; key = at.0.key } in
    let slots = c.self.inside.unsynced in
    let opened = c.self.inside.opened in
    rw (c.turn.ensures at.0 at.1)
    (table_turned c.self.inside.cells c.args.slot at.0 new at.1 slots.items c.list.new.unsynced.items (vec_capacity slots) (vec_capacity c.list.new.unsynced) opened opened c.self.invariant
    (λ loose. refl)
    (c.list.ensures.items ∙ sym (ap (λ (was : Stage). if is_listed_then was Opening then slots.items ++ c.args.slot ∷ [] else slots.items) at.2))
    c.list.ensures.room
    (ap (λ (was : Stage). opened + cond (is_open was) 1 0) at.2))
