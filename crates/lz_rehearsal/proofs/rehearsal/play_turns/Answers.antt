use Rattle.lz_rehearsal.proofs.rehearsal.play_turns.Goals as goal
use Rattle.lz_rehearsal.proofs.Rehearsed.{going_ends, going_enough, going_on}

pub returns-in-Ok-Some-clause-ok : goal.returns-in-Ok-Some-clause-ok
returns-in-Ok-Some-clause-ok c =
    going_ends c.args.actor c.args.awaited c.args.most c.loop.counter c.args.world.now c.loop.world c.turn.new.self c.in-Ok.turned c.in-Ok-Some.text.items
    c.loop-test.true c.loop.invariant c.in-Ok.ensures.ok c.in-Ok.ensures.told (rw c.in-Ok-Some.field-0-is at c.in-Ok-Some.ensures.told)

pub loop-preserved : goal.loop-preserved
loop-preserved c =
    going_on c.args.actor c.args.awaited c.args.most c.loop.counter c.args.world.now c.loop.world c.turn.new.self c.in-Ok.turned
    c.loop-test.true c.loop.invariant c.in-Ok.ensures.ok c.in-Ok.ensures.told c.in-Ok.ensures.goes_on (rw c.in-Ok-None.field-0-is at c.in-Ok-None.ensures.told)

pub returns-clause-ok : goal.returns-clause-ok
returns-clause-ok c = going_enough c.args.actor c.args.awaited c.args.most c.loop.counter c.args.world.now c.loop.world c.new.result.items c.loop-test.false c.loop.invariant c.new.ensures.items
