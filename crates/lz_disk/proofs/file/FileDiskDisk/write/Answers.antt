use Rattle.lz_disk.proofs.file.FileDiskDisk.write.Goals as goal
use Rattle.std.{proofs.Common.{◌≡◌, ◌⊎◌, ◌∙◌, ◌++◌, IsTrue, List, ℕ, [], length, subst, sym, take}, specs.Prelude.{◌+◌, ◌-◌, IsErr, OnErr, OnOk}}
use Rattle.lz_disk.specs.{Devices.{Device, IsCall, IsTimely}, Gathers.{Waiting}, Images.{Medium, WriteFailed, written}}
use Rattle.lz_disk.specs.{FileDisks.{IsPart, KeepsFile, device_over, medium_over, waiting_of}, TimelyOver.{timely as timely_over}}
use Rattle.lz_disk.proofs.{OverFiles.{call_then, part_then, through_faulted, through_over, through_part, through_written}, file.FileDiskDisk.write.Given.{Over}}
use Rattle.lz_disk.proofs.file.FileDiskDisk.write.Goals.{After-and_of-self}

module _ (g : Over) (c : After-and_of-self g) where
  -- the disk before the call, once it has counted so many calls
  abbrev first : ℕ → Device
  first calls = device_over (g.F.Disk.device c.args.self.now.file) (waiting_of c.args.self.now.gathered) c.args.self.now.unsynced.writes calls

  -- what it is of where no write waits, and the file is written
  abbrev file : Device
  file = g.F.Disk.device c.gathers-2.new.self.file

  abbrev given : Device
  given = g.F.Disk.device c.write-given.new.self

  abbrev waiting : Waiting
  waiting = waiting_of c.gathers-2.new.self.gathered

  abbrev unsynced : List (ℕ × List ℕ)
  unsynced = c.gathers-2.new.self.unsynced.writes

  -- what was written since the last sync, once it is
  abbrev grown : List (ℕ × List ℕ)
  grown = take (length given.medium.loose - length file.medium.loose) given.medium.loose ++ unsynced

  abbrev calls : ℕ
  calls = c.gathers-2.new.self.calls.count

  none : waiting.bytes ≡ []
  none = c.gathers-2.ensures.none c.if-gathers-2.false c.in_ok-hand_over.ensures.none

  first_timely : IsTrue (first 0).honest → IsTimely (first (c.args.self.now.calls.count + 1))
  first_timely honest = timely_over (g.F.Disk.device c.args.self.now.file) (waiting_of c.args.self.now.gathered) c.args.self.now.unsynced.writes (c.args.self.now.calls.count + 1) (g.met.F.Disk.timely c.args.self.now.file honest) (c.args.self.now.keeps honest)

  same_handed : IsTrue (first 0).honest → (device_over (g.F.Disk.device c.hand_over.new.self.file) (waiting_of c.hand_over.new.self.gathered) c.hand_over.new.self.unsynced.writes 0).medium ≡ (first 0).medium
  same_handed honest = c.in_ok-hand_over.ensures.medium (subst IsTrue (sym c.gathers.ensures.part.honest) honest) ∙ c.gathers.ensures.waits c.if-gathers.false

  same : IsTrue (first 0).honest → medium_over file.medium waiting unsynced ≡ (first 0).medium
  same honest = c.gathers-2.ensures.waits c.if-gathers-2.false ∙ same_handed honest

  -- up to there the medium stays
  before : IsPart (first (c.args.self.now.calls.count + 1)) (device_over file waiting unsynced calls) ⊥
  before =
      part_then _ _ _ first_timely same_handed
      (part_then _ _ _ first_timely (λ honest. c.gathers.ensures.waits c.if-gathers.false) (rw c.count_one.ensures at c.gathers.ensures.part) c.in_ok-hand_over.ensures.part)
      c.gathers-2.ensures.part

  honest_there : IsTrue (first 0).honest → IsTrue file.honest
  honest_there honest = subst IsTrue (sym before.honest) honest

  keeps : KeepsFile given waiting grown
  keeps = through_over file given waiting unsynced calls (g.met.F.Disk.timely c.gathers-2.new.self.file) c.gathers-2.new.self.keeps none c.args.at c.args.bytes.now c.write-given.result c.write-given.ensures.call c.write-given.ensures.written c.write-given.ensures.failed

  part_there : IsPart (device_over file waiting unsynced calls) (device_over given waiting grown calls) (IsErr c.write-given.result)
  part_there = through_part file given waiting unsynced calls (g.met.F.Disk.timely c.gathers-2.new.self.file) c.gathers-2.new.self.keeps none c.args.at c.args.bytes.now c.write-given.result c.write-given.ensures.call c.write-given.ensures.written c.write-given.ensures.failed

  called : IsCall (first c.args.self.now.calls.count) (device_over given waiting grown calls) (IsErr c.write-given.result)
  called =
      call_then (g.F.Disk.device c.args.self.now.file) (waiting_of c.args.self.now.gathered) c.args.self.now.unsynced.writes c.args.self.now.calls.count
      (device_over file waiting unsynced calls) (device_over given waiting grown calls)
      (g.met.F.Disk.timely c.args.self.now.file) c.args.self.now.keeps same before part_there

  done : IsTrue (first 0).honest → OnOk c.write-given.result (medium_over given.medium waiting grown ≡ written (first 0).medium c.args.at c.args.bytes.now)
  done honest =
      subst (λ (m : Medium). OnOk c.write-given.result (medium_over given.medium waiting grown ≡ written m c.args.at c.args.bytes.now)) (same honest)
      ((through_written file given waiting unsynced calls (g.met.F.Disk.timely c.gathers-2.new.self.file) c.gathers-2.new.self.keeps none c.args.at c.args.bytes.now c.write-given.result c.write-given.ensures.call c.write-given.ensures.written c.write-given.ensures.failed (honest_there honest)))

  failed : IsTrue (first 0).honest → OnErr c.write-given.result ((medium_over given.medium waiting grown ≡ (first 0).medium) ⊎ WriteFailed (first 0).medium c.args.at c.args.bytes.now (medium_over given.medium waiting grown))
  failed honest =
      subst (λ (m : Medium). OnErr c.write-given.result ((medium_over given.medium waiting grown ≡ m) ⊎ WriteFailed m c.args.at c.args.bytes.now (medium_over given.medium waiting grown))) (same honest)
      ((through_faulted file given waiting unsynced calls (g.met.F.Disk.timely c.gathers-2.new.self.file) c.gathers-2.new.self.keeps none c.args.at c.args.bytes.now c.write-given.result c.write-given.ensures.call c.write-given.ensures.written c.write-given.ensures.failed (honest_there honest)))

pub invariant_of-self-2 : goal.invariant_of-self-2
invariant_of-self-2 g c = rw (c.and_of-self.ensures, c.of-before.ensures) (record { keeps = keeps g c })

pub returns-clause-call : goal.returns-clause-call
returns-clause-call g c = rw (c.and_of-self.ensures, c.of-before.ensures) (called g (goal.at.returns-clause-call g c).After-and_of-self)

pub returns-clause-written : goal.returns-clause-written
returns-clause-written g c = rw (c.and_of-self.ensures, c.of-before.ensures) (done g (goal.at.returns-clause-written g c).After-and_of-self)

pub returns-clause-failed : goal.returns-clause-failed
returns-clause-failed g c = rw (c.and_of-self.ensures, c.of-before.ensures) (failed g (goal.at.returns-clause-failed g c).After-and_of-self)
