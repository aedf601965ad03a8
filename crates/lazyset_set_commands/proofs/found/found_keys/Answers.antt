use Rattle.lazyset_set_commands.proofs.found.found_keys.Goals as goal
use Rattle.std.proofs.{Common.{◌≡◌, Bool, true, refl, Ok, Option, IsTrue, ap, subst, sym}, lemmas.Bool.{false≢true}}
use Rattle.lz_slot.specs.declared.header.Header.{Header}
use Rattle.lz_vault.proofs.Openings.{reads_then}
use Rattle.lazyset_set_commands.proofs.FoundKeys.{found_tells, holds_synced, looked, unsynced}

pub returns-in-Err-clause-reads : goal.returns-in-Err-clause-reads
returns-in-Err-clause-reads g c = (unsynced _ _ (◌≡◌ {A = Bool} true true) refl (g.met.D.Disk.timely c.args.disk.now) c.in-Err.ensures.call c.in-Err.ensures.failed).0

pub returns-in-Err-clause-err : goal.returns-in-Err-clause-err
returns-in-Err-clause-err g c = (unsynced _ _ (◌≡◌ {A = Bool} true true) refl (g.met.D.Disk.timely c.args.disk.now) c.in-Err.ensures.call c.in-Err.ensures.failed).1

pub returns-in-Ok-clause-reads : goal.returns-in-Ok-clause-reads
returns-in-Ok-clause-reads g c =
    (looked _ _ _ _ (g.met.D.Disk.timely c.args.disk.now) c.in_default.ensures.call (λ is. false≢true is) c.in_default.ensures.synced (reads_then _ _ _ c.head_of.ensures.reads c.found_in.ensures.reads)).0

pub returns-in-Ok-clause-sure : goal.returns-in-Ok-clause-sure
returns-in-Ok-clause-sure g c =
    (looked _ _ _ _ (g.met.D.Disk.timely c.args.disk.now) c.in_default.ensures.call (λ is. false≢true is) c.in_default.ensures.synced (reads_then _ _ _ c.head_of.ensures.reads c.found_in.ensures.reads)).1

pub returns-in-Ok-clause-free : goal.returns-in-Ok-clause-free
returns-in-Ok-clause-free g c = λ bound. false≢true (c.in_default.ensures.call.must bound)

pub returns-in-Ok-clause-keys : goal.returns-in-Ok-clause-keys
returns-in-Ok-clause-keys g c = λ N S honest holds.
    found_tells (g.D.Disk.device c.args.disk.now) (g.D.Disk.device c.sync.new.self) (g.D.Disk.device c.head_of.new.disk) N S honest c.in_default.ensures.call.honest c.in_default.ensures.synced holds
    c.head_of.ensures.reads c.args.own.now c.in-Ok-Some.header.slots c.in-Ok.found (λ still. (rw c.in-Ok-Some.field-0-is at (c.in-Ok-Some.ensures.some still)).0) c.in-Ok.ensures.found

pub returns-in-Ok-None-clause-reads : goal.returns-in-Ok-None-clause-reads
returns-in-Ok-None-clause-reads g c = (looked _ _ _ _ (g.met.D.Disk.timely c.args.disk.now) c.in_default.ensures.call (λ is. false≢true is) c.in_default.ensures.synced c.head_of.ensures.reads).0

pub returns-in-Ok-None-clause-sure : goal.returns-in-Ok-None-clause-sure
returns-in-Ok-None-clause-sure g c = (looked _ _ _ _ (g.met.D.Disk.timely c.args.disk.now) c.in_default.ensures.call (λ is. false≢true is) c.in_default.ensures.synced c.head_of.ensures.reads).1

pub returns-in-Ok-None-clause-free : goal.returns-in-Ok-None-clause-free
returns-in-Ok-None-clause-free g c = λ bound. false≢true (c.in_default.ensures.call.must bound)

pub returns-in-Ok-None-clause-keys : goal.returns-in-Ok-None-clause-keys
returns-in-Ok-None-clause-keys g c = λ N S honest holds.
    let still = subst IsTrue (sym c.in_default.ensures.call.honest) honest in
    c.in-Ok-None.ensures.none still (ap (λ (o : Option Header). Ok o) c.in-Ok-None.field-0-is) N S (holds_synced (g.D.Disk.device c.args.disk.now) (g.D.Disk.device c.sync.new.self) (g.D.Disk.device c.head_of.new.disk) N S honest c.in_default.ensures.call.honest c.in_default.ensures.synced holds)
