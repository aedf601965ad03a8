use Rattle.lz_core.proofs.world.World.call.Goals as goal
use Rattle.std.proofs.Common.{◌≤◌, ◌+◌, arith, refl, rules}
use Rattle.lz_slot.specs.{Numerals.{largest_read}, Limits.{largest_key}, Sets.{key_of}}
use Rattle.lz_core.{specs.Worlds.{MayCall}, proofs.{Runs.PlayedStep.{leads}, Callers.{ShownCallers.{lawful_call}, Invoke.{may_invoke, call_runs, call_world}}}}

pub invariant_of-self : goal.invariant_of-self
invariant_of-self c =
    let may : MayCall c.self.inside.yard c.self.inside.callers.items c.args.actor = search rules in
    let key : key_of c.args.command ≤ largest_key = search rules in
    let room : c.self.inside.calls + 1 ≤ largest_read = search rules in
    rw c.begun.ensures (call_world _ c.self.inside.disk c.self.inside.callers.items c.self.inside.calls c.args.actor c.args.command may.1 may.2 key may.3 c.self.inside.tripped room c.self.inside.yard _ c.step_on-outcome.result may.0 c.self.invariant c.step_on-outcome.ensures)

pub returns-clause-ok : goal.returns-clause-ok
returns-clause-ok c =
    let may : MayCall c.self.inside.yard c.self.inside.callers.items c.args.actor = search rules in
    let key : key_of c.args.command ≤ largest_key = search rules in
    let room : c.self.inside.calls + 1 ≤ largest_read = search rules in
    rw (← c.self.view_is, c.begun.ensures)
    (leads _ _ _ _ _ (call_runs _ c.self.inside.disk c.self.inside.callers.items c.self.inside.calls c.args.actor c.args.command may.1 may.2 key may.3
    c.self.inside.tripped room c.self.inside.yard _ c.step_on-outcome.result may.0 c.self.invariant.ran c.step_on-outcome.ensures)
    (((omega arith, room), may.1, may.2, key), tt) tt refl)

pub returns-then-not-may_call-clause-not_now : goal.returns-then-not-may_call-clause-not_now
returns-then-not-may_call-clause-not_now c = λ i is.
    let may_not : MayCall c.self.inside.yard c.self.inside.callers.items c.args.actor → ⊥ = λ may. search (rules, may) in
    (cc, refl, rw (← c.self.view_is) (λ lawful. may_not (lawful_call _ c.self.inside.yard c.self.inside.disk c.self.inside.callers.items c.self.inside.calls c.args.actor c.args.command refl c.self.invariant.ran lawful)))

pub step_on-outcome-requires : goal.step_on-outcome-requires
step_on-outcome-requires c =
    let may : MayCall c.self.inside.yard c.self.inside.callers.items c.args.actor = search rules in
    let key : key_of c.args.command ≤ largest_key = search rules in
    let room : c.self.inside.calls + 1 ≤ largest_read = search rules in
    may_invoke _ c.self.inside.disk c.self.inside.callers.items c.self.inside.calls c.args.actor c.args.command may.1 may.2 key may.3 c.self.inside.tripped room c.self.inside.yard c.self.invariant
