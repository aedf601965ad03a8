use Rattle.lz_allot.proofs.allot.Allot.see_pin.Goals as goal
use Rattle.std.{proofs.{Common.{◌≡◌, ◌-◌, ◌∙◌, sym, ap, subst, set, length, arith, List}, lemmas.List.{get_or_read}}, specs.VecDeque.{deque_capacity}}
use Rattle.lz_allot.{specs.{declared.row.Row.{Row}, Rows.{rows_seen}, Allots.{IsAllot, uses_told}}, proofs.SightChanges.{rows_seen_is}}
use Rattle.lz_allot.proofs.CallEffects.{allot_seen, told_pin, limbo_is}

rows_are : (c : goal.After-self-1) → set c.self.inside.rows.items (c.args.pass - 1) c.see.new.self ≡ rows_seen c.args.pass c.args.pin (length c.self.inside.limbo.items) c.self.inside.rows.items
rows_are c = grind (arith, get_or_read, rows_seen_is)

pub invariant_of-self : goal.invariant_of-self
invariant_of-self c =
    let within = rw (← c.self.view_is) at c.requires in
    subst (λ (rows : List Row). IsAllot c.self.inside.kinds.items c.self.inside.free c.self.inside.limbo.items (deque_capacity c.self.inside.limbo) rows c.self.inside.counts)
    (sym (rows_are c)) (allot_seen _ _ _ _ _ _ c.self.invariant c.args.pass c.args.pin within.1)

pub returns-clause-uses : goal.returns-clause-uses
returns-clause-uses c =
    let within = rw (← c.self.view_is) at c.requires in
    rw (← c.self.view_is)
    (ap (λ (rows : List Row). uses_told c.self.inside.kinds.items c.self.inside.limbo.items rows) (rows_are c) ∙ told_pin _ _ _ _ _ _ c.self.invariant c.args.pass c.args.pin within.1)

pub returns-clause-rows : goal.returns-clause-rows
returns-clause-rows c =
    rw (← c.self.view_is, limbo_is _ _ _ _ _ _ c.self.invariant) (rows_are c)
