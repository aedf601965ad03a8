use Rattle.lz_vault.proofs.table.Table.put.Goals as goal
use Rattle.std.{proofs.Common.{◌≡◌, ◌+◌, ◌∙◌, Bool, ℕ, ap, arith, sym}, specs.Prelude.{cond, vec_capacity}}
use Rattle.lz_vault.{specs.{Opens.{is_open}, Stages.{Cell, stage_put}}, proofs.Tables.{finds_room, free_shut, put_shut, put_stays, table_turned}}

pub list-requires : goal.list-requires
list-requires c = λ comes.
    let at = rw (← c.self.view_is) at c.requires in
    let was = c.stage-was.ensures at.0 at.1 in
    let next = c.put-stage.ensures ∙ ap (stage_put c.args.format) was in
    let new : Cell = record { stage = stage_put c.args.format at.0.stage; key = c.args.key } in
    let slots = c.self.inside.unsynced in
    let here = rw (next, was) at comes in
    omega (arith, finds_room c.self.inside.cells c.args.slot at.0 new at.1 slots.items (vec_capacity slots) c.self.inside.opened c.self.invariant here, slots.ok)

pub invariant_of-self : goal.invariant_of-self
invariant_of-self c =
    let at = rw (← c.self.view_is) at c.requires in
    let was = c.stage-was.ensures at.0 at.1 in
    let next = c.put-stage.ensures ∙ ap (stage_put c.args.format) was in
    let new : Cell = record { stage = stage_put c.args.format at.0.stage; key = c.args.key } in
    let slots = c.self.inside.unsynced in
    let opened = c.self.inside.opened in
    let items = rw (next, was) at c.list.ensures.items in
    let before : ◌≡◌ {A = ℕ} (opened + cond (is_open at.0.stage) 1 0) (opened + 0) = ap (λ (b : Bool). opened + cond b 1 0) (free_shut at.0.stage at.2) in
    let after : ◌≡◌ {A = ℕ} (opened + cond (is_open new.stage) 1 0) (opened + 0) = ap (λ (b : Bool). opened + cond b 1 0) (put_shut c.args.format at.0.stage) in
    rw (c.put.ensures, c.rank.ensures.value, next)
    (table_turned c.self.inside.cells c.args.slot at.0 new at.1 slots.items c.list.new.unsynced.items (vec_capacity slots) (vec_capacity c.list.new.unsynced) opened opened c.self.invariant
    (put_stays c.args.format at.0.stage at.2) items c.list.ensures.room (before ∙ sym after))
