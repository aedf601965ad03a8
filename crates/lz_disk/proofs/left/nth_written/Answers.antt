use Rattle.lz_disk.proofs.left.nth_written.Goals as goal
use Rattle.std.proofs.Common.{rules, ◌<◌, length, ap}
use Rattle.lz_disk.{specs.{Records.{after_record}, declared.memory.Record.{Record}}, proofs.NthWrites.{choosing_adds, choosing_syncs}}
use Rattle.lz_disk.proofs.left.nth_written.Goals.{in-Wrote, in-Failed, in-Synced}

pub loop-index-preserved : goal.loop-index-preserved
loop-index-preserved c =
    let lt : c.loop-index.index < length c.args.changes.now = search rules in
    elim c.match-changes-index.branch [
      | in-Wrote w ↦
          choosing_adds c.args.changes.now c.args.number c.args.at c.args.byte c.loop-index.index c.loop-index.choice.times c.loop-index.choice.byte c.match-changes-index.choice.times c.match-changes-index.choice.byte
          c.index-changes-index.result lt c.index-changes-index.is c.loop-index.invariant w.in-Wrote.start w.in-Wrote.bytes.items
          (λ disk. ap (λ (r : Record). (after_record disk r).loose) w.in-Wrote.is)
          (search rules)
          (search rules)
          (search rules)
      | in-Failed w ↦
          choosing_adds c.args.changes.now c.args.number c.args.at c.args.byte c.loop-index.index c.loop-index.choice.times c.loop-index.choice.byte c.match-changes-index.choice.times c.match-changes-index.choice.byte
          c.index-changes-index.result lt c.index-changes-index.is c.loop-index.invariant w.in-Failed.start w.in-Failed.bytes.items
          (λ disk. ap (λ (r : Record). (after_record disk r).loose) w.in-Failed.is)
          (search rules)
          (search rules)
          (search rules)
      | in-Synced w ↦
          choosing_syncs c.args.changes.now c.args.number c.args.at c.args.byte c.loop-index.index c.loop-index.choice.times c.loop-index.choice.byte c.match-changes-index.choice.times c.match-changes-index.choice.byte
          c.index-changes-index.result lt c.index-changes-index.is c.loop-index.invariant w.in-Synced.is (search rules) (search rules)
    ]
