use Rattle.test_growth.proofs.raises.raise_after_write.Goals as goal
use Rattle.std.proofs.Common.{◌+◌, ◌≤◌, length, sym, subst, arith}
use Rattle.lz_disk.specs.Records.{Past, after}
use Rattle.lz_growth.specs.Growths.{IsRaisable, room_for}
use Rattle.test_growth.proofs.RaisableTexts.{written_raisable}

pub raise-requires-clause-raisable : goal.raise-requires-clause-raisable
raise-requires-clause-raisable c = λ honest.
    let old = c.slots_of.new.disk in
    let new = c.write.new.self in
    let high : 32 + length c.args.member.now ≤ room_for c.in-Ok.slots = omega (arith, c.if-slots-lt2.false, c.fits-member, c.told-member) in
    subst (λ (disk : Past). IsRaisable (after disk.bytewise disk.start disk.records).seen c.in-Ok.slots) (sym c.fuse.ensures)
    (written_raisable c.in-Ok.slots (after old.bytewise old.start old.records) (after new.bytewise new.start new.records) 32 c.args.member.now (c.in-Ok.ensures.fronted honest) (omega arith) high c.in-Ok-write.ensures.written)
