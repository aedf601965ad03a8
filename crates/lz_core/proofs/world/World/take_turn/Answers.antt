use Rattle.lz_core.proofs.world.World.take_turn.Goals as goal
use Rattle.std.proofs.Common.{◌≡◌, ◌-◌, IfSome, IsSome, Option, Some, None, subst, sym}
use Rattle.lz_disk.specs.Records.{Past}
use Rattle.lz_yard.specs.Parts.{YardOver}
use Rattle.lz_core.specs.{declared.open_calls.OpenCall.{OpenCall}, Worlds.{WorldOver, IsCallOn, MayStepOn, call_after, call_shown, mark_list, next_of}}
use Rattle.lz_core.proofs.Callers.TurnOfWorld.{may_on, takes, kept, tells, ranged, taken_at, tells_outcome, turns_on}
use Rattle.lz_machine.specs.{Orders.{MayTake}, Runs.{marks_of_turn}}

pub step_on-outcome-requires : goal.step_on-outcome-requires
step_on-outcome-requires c =
    let next = subst (λ (w : WorldOver). next_of w.state c.args.actor ≡ Some c.args.event) (sym c.self.view_is) c.requires in
    subst (λ (yard : Option (YardOver Past)). IfSome yard (λ over. MayStepOn over c.args.actor c.args.event)) (sym c.arm_yard.ensures)
    (may_on _ c.self.inside.disk c.self.inside.callers.items c.self.inside.calls _ c.self.inside.tripped _ c.self.inside.yard c.self.invariant next)

pub take_outcome-mark-requires : goal.take_outcome-mark-requires
take_outcome-mark-requires c =
    let next = subst (λ (w : WorldOver). next_of w.state c.args.actor ≡ Some c.args.event) (sym c.self.view_is) c.requires in
    let at = taken_at c.self.inside.callers.items (c.args.actor - 1) c.index_mut.result.now None (ranged _ c.self.inside.disk c.self.inside.callers.items c.self.inside.calls _ c.self.inside.tripped _ c.self.inside.yard c.self.invariant next) c.index_mut.ensures.value in
    subst (λ (q : Option OpenCall). IfSome q (λ under_way. MayTake under_way.caller.progress c.step_on-outcome.result)) (sym at)
    (takes _ c.self.inside.disk c.self.inside.callers.items c.self.inside.calls _ c.self.inside.tripped _ c.self.inside.yard _ _ c.self.invariant next (rw c.arm_yard.ensures at c.step_on-outcome.ensures))

pub invariant_of-self : goal.invariant_of-self
invariant_of-self c =
    let next = subst (λ (w : WorldOver). next_of w.state c.args.actor ≡ Some c.args.event) (sym c.self.view_is) c.requires in
    let at = taken_at c.self.inside.callers.items (c.args.actor - 1) c.index_mut.result.now None (ranged _ c.self.inside.disk c.self.inside.callers.items c.self.inside.calls _ c.self.inside.tripped _ c.self.inside.yard c.self.invariant next) c.index_mut.ensures.value in
    kept _ c.self.inside.disk c.self.inside.callers.items c.self.inside.calls _ c.self.inside.tripped _ c.self.inside.yard _ c.step_on-outcome.result _ c.self.invariant next (rw c.arm_yard.ensures at c.step_on-outcome.ensures)
    (subst (λ (q : Option OpenCall). call_shown c.take_outcome-mark.new.call ≡ call_after q c.step_on-outcome.result) at c.take_outcome-mark.ensures.call)
    (λ on. c.take_outcome-mark.ensures.on (record { slots = c.self.inside.slots; buckets = c.self.inside.buckets; passes = 64 }) (subst (IsCallOn (record { slots = c.self.inside.slots; buckets = c.self.inside.buckets; passes = 64 })) (sym at) on))

pub returns-clause-takes : goal.returns-clause-takes
returns-clause-takes c =
    let next = subst (λ (w : WorldOver). next_of w.state c.args.actor ≡ Some c.args.event) (sym c.self.view_is) c.requires in
    let at = taken_at c.self.inside.callers.items (c.args.actor - 1) c.index_mut.result.now None (ranged _ c.self.inside.disk c.self.inside.callers.items c.self.inside.calls _ c.self.inside.tripped _ c.self.inside.yard c.self.invariant next) c.index_mut.ensures.value in
    rw (← c.self.view_is)
    (tells _ c.self.inside.disk c.self.inside.callers.items c.self.inside.calls _ c.self.inside.tripped _ c.self.inside.yard _ c.step_on-outcome.result _ _ c.self.invariant next (rw c.arm_yard.ensures at c.step_on-outcome.ensures)
    (subst (λ (q : Option OpenCall). call_shown c.take_outcome-mark.new.call ≡ call_after q c.step_on-outcome.result) at c.take_outcome-mark.ensures.call)
    (subst (λ (q : Option OpenCall). mark_list c.take_outcome-mark.result ≡ marks_of_turn (call_shown q)) at c.take_outcome-mark.ensures.mark))

pub returns-clause-goes_on : goal.returns-clause-goes_on
returns-clause-goes_on c = λ none.
    let next = subst (λ (w : WorldOver). next_of w.state c.args.actor ≡ Some c.args.event) (sym c.self.view_is) c.requires in
    let at = taken_at c.self.inside.callers.items (c.args.actor - 1) c.index_mut.result.now None (ranged _ c.self.inside.disk c.self.inside.callers.items c.self.inside.calls _ c.self.inside.tripped _ c.self.inside.yard c.self.invariant next) c.index_mut.ensures.value in
    turns_on _ c.self.inside.disk c.self.inside.callers.items c.self.inside.calls _ c.self.inside.tripped _ c.self.inside.yard _ c.step_on-outcome.result _ c.self.invariant next (rw c.arm_yard.ensures at c.step_on-outcome.ensures)
    (λ some. c.take_outcome-mark.ensures.goes_on (subst (λ (q : Option OpenCall). IsSome (call_shown q)) (sym at) some) none)

pub returns-clause-outcome : goal.returns-clause-outcome
returns-clause-outcome c =
    let next = subst (λ (w : WorldOver). next_of w.state c.args.actor ≡ Some c.args.event) (sym c.self.view_is) c.requires in
    rw (← c.self.view_is)
    (tells_outcome _ c.self.inside.disk c.self.inside.callers.items c.self.inside.calls _ c.self.inside.tripped _ c.self.inside.yard _ c.step_on-outcome.result _ c.self.invariant next (rw c.arm_yard.ensures at c.step_on-outcome.ensures))
