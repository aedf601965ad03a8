use Rattle.lz_growth.proofs.front.FrontDisk.write.Goals as goal
use Rattle.std.proofs.Common.{IsTrue, refl, subst}
use Rattle.lz_growth.proofs.FrontCalls.{behind_call, write_done, write_failed, write_fronted}

pub invariant_of-self-2 : goal.invariant_of-self-2
invariant_of-self-2 g c =
    let old = g.D.Disk.device c.args.self.now.disk in
    let new = g.D.Disk.device c.write.new.self in
    let slots = c.if-not-is_within.ensures.within refl in
    let keeps = c.args.self.now.keeps in
    record {
      keeps = record {
        count = keeps.count;
        fronted = λ honest'.
            let honest = subst IsTrue c.write.ensures.call.honest honest' in
            write_fronted old.medium new.medium c.args.self.now.slots c.args.at c.args.bytes.now (keeps.fronted honest) slots.0 slots.1 c.write.result (c.write.ensures.written honest) (c.write.ensures.failed honest);
      };
    }

pub returns-clause-call : goal.returns-clause-call
returns-clause-call g c =
    let old = g.D.Disk.device c.args.self.now.disk in
    let new = g.D.Disk.device c.write.new.self in
    let slots = c.if-not-is_within.ensures.within refl in
    behind_call old new c.args.self.now.slots c.args.self.now.refused.count
    (λ honest. write_fronted old.medium new.medium c.args.self.now.slots c.args.at c.args.bytes.now (c.args.self.now.keeps.fronted honest) slots.0 slots.1 c.write.result (c.write.ensures.written honest) (c.write.ensures.failed honest))
    (g.met.D.Disk.timely c.write.new.self) c.write.ensures.call

pub returns-clause-written : goal.returns-clause-written
returns-clause-written g c = λ honest.
    let old = g.D.Disk.device c.args.self.now.disk in
    let new = g.D.Disk.device c.write.new.self in
    let slots = c.if-not-is_within.ensures.within refl in
    write_done old.medium new.medium c.args.self.now.slots c.args.at c.args.bytes.now (c.args.self.now.keeps.fronted honest) slots.0 slots.1 c.write.result (c.write.ensures.written honest)

pub returns-clause-failed : goal.returns-clause-failed
returns-clause-failed g c = λ honest.
    let old = g.D.Disk.device c.args.self.now.disk in
    let new = g.D.Disk.device c.write.new.self in
    let slots = c.if-not-is_within.ensures.within refl in
    write_failed old.medium new.medium c.args.self.now.slots c.args.at c.args.bytes.now (c.args.self.now.keeps.fronted honest) slots.0 slots.1 c.write.result (c.write.ensures.failed honest)
