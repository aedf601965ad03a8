use Rattle.lz_core.proofs.world.World.reopen.Goals as goal
use Rattle.std.proofs.Common.{◌∙◌, subst, sym}
use Rattle.lz_disk.specs.Records.{Past, device_of}
use Rattle.lz_vault.specs.Opens.{MayOpen}
use Rattle.lz_judge.specs.MarkLines.{AscendFrom}
use Rattle.lz_core.proofs.Opens.{OpenedWorld.{may_reopen, reopened_world, reopened_on}, RefusedOpen.{refused_world, told_fault, told_none}}

pub open_again-requires-clause-disk : goal.open_again-requires-clause-disk
open_again-requires-clause-disk c =
    subst (λ (d : Past). MayOpen (device_of d)) (sym c.armed.ensures)
    (may_reopen _ c.self.inside.yard c.self.inside.disk c.self.inside.callers.items c.self.inside.calls c.in-Some.disk (sym c.take.ensures.value ∙ c.in-Some.is) c.self.invariant c.self.inside.tripped)

pub invariant_of-self-in-Ok-open_again : goal.invariant_of-self-in-Ok-open_again
invariant_of-self-in-Ok-open_again c =
    reopened_world _ c.self.inside.yard c.self.inside.disk c.self.inside.callers.items c.self.inside.calls c.in-Some.disk (sym c.take.ensures.value ∙ c.in-Some.is) c.self.invariant
    c.self.inside.tripped c.in-Ok-open_again.opened.yard
    (rw c.armed.ensures at c.in-Ok-open_again.ensures.ok) c.take.new.self c.take.ensures.after c.in-Ok.callers.items c.in-Ok.ensures c.new.result
    (c.new.ensures ∙ (rw c.armed.ensures at c.in-Ok-open_again.ensures.keys)) (subst (AscendFrom 0) (sym c.new.ensures) c.in-Ok-open_again.ensures.ascending)

pub returns-in-Ok-open_again-clause-ok : goal.returns-in-Ok-open_again-clause-ok
returns-in-Ok-open_again-clause-ok c =
    rw (← c.self.view_is)
    (reopened_on (record { slots = c.self.inside.slots; buckets = c.self.inside.buckets; passes = 64 }) c.self.inside.yard c.self.inside.disk c.self.inside.callers.items c.self.inside.calls c.in-Some.disk
    (sym c.take.ensures.value ∙ c.in-Some.is) c.self.invariant
    c.self.inside.tripped c.in-Ok-open_again.opened.yard
    (rw c.armed.ensures at c.in-Ok-open_again.ensures.ok) c.take.new.self c.take.ensures.after c.in-Ok.callers.items c.in-Ok.ensures c.new.result
    (c.new.ensures ∙ (rw c.armed.ensures at c.in-Ok-open_again.ensures.keys)) (subst (AscendFrom 0) (sym c.new.ensures) c.in-Ok-open_again.ensures.ascending))

pub invariant_of-self-in-None : goal.invariant_of-self-in-None
invariant_of-self-in-None c =
    refused_world _ c.self.inside.yard c.self.inside.disk c.self.inside.callers.items c.self.inside.calls c.in-Some.disk (sym c.take.ensures.value ∙ c.in-Some.is) c.self.invariant
    c.self.inside.tripped c.in-Err.refused.disk c.in-Err.refused.fault (rw c.armed.ensures at c.in-Err.ensures.err)

pub returns-in-None-clause-memory : goal.returns-in-None-clause-memory
returns-in-None-clause-memory c is =
    rw (← c.self.view_is)
    (told_none (record { slots = c.self.inside.slots; buckets = c.self.inside.buckets; passes = 64 }) c.self.inside.yard c.self.inside.disk c.self.inside.callers.items c.self.inside.calls c.in-Some.disk
    (sym c.take.ensures.value ∙ c.in-Some.is) c.self.invariant c.self.inside.tripped c.in-Err.refused.disk c.in-Err.refused.fault (rw c.armed.ensures at c.in-Err.ensures.err) (sym c.fault_told.ensures ∙ c.in-None.is))

pub invariant_of-self-in-Err : goal.invariant_of-self-in-Err
invariant_of-self-in-Err c =
    refused_world _ c.self.inside.yard c.self.inside.disk c.self.inside.callers.items c.self.inside.calls c.in-Some.disk (sym c.take.ensures.value ∙ c.in-Some.is) c.self.invariant
    c.self.inside.tripped c.in-Err.refused.disk c.in-Err.refused.fault (rw c.armed.ensures at c.in-Err.ensures.err)

pub returns-clause-ok : goal.returns-clause-ok
returns-clause-ok c =
    rw (← c.self.view_is)
    (told_fault (record { slots = c.self.inside.slots; buckets = c.self.inside.buckets; passes = 64 }) c.self.inside.yard c.self.inside.disk c.self.inside.callers.items c.self.inside.calls c.in-Some.disk
    (sym c.take.ensures.value ∙ c.in-Some.is) c.self.invariant c.self.inside.tripped c.in-Err.refused.disk c.in-Err.refused.fault (rw c.armed.ensures at c.in-Err.ensures.err) c.in-Some-fault_told.number (sym c.fault_told.ensures ∙ c.in-Some-fault_told.is))
