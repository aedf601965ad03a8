use Rattle.lz_growth.proofs.raising.raise.Goals as goal
use Rattle.std.proofs.Common.{◌≡◌, ◌⊎◌, inl, inr, ◌∙◌, ℕ, List, take, IsTrue, sym, subst}
use Rattle.lz_disk.{specs.{Images.{IsImage, Medium, synced}, Devices.{Device, IsCall, IsTimely, LeavesOnly}}, proofs.Writes.{synced_image}}
use Rattle.lz_vault.{specs.Makes.{IsPart}, proofs.MakingParts.{part_call, part_more, part_then, still_honest}}
use Rattle.lz_growth.specs.{Growths.{HoldsGrowing, IsNotRaised, IsRaisable, IsRaised, IsRaisedOrNot, growing_head, room_for}, Raises.{BeginsAs, IsFirm, StaysFirm}}
use Rattle.lz_growth.proofs.{FirmMedia.{firm_synced, image_begins, seen_begins}, GrownTexts.{holds_still, same_head, same_slots}}

-- a sync, and zeros that leave the beginning as it is
module _ (from to : ℕ) (F G : Type 0) (start settled cleared : Device) (raisable : IsTrue start.honest → IsRaisable start.medium.seen from)
    (start_timely : IsTrue start.honest → IsTimely start) (sync : IsCall start settled F) (sure : IsTrue start.honest → settled.medium ≡ synced start.medium)
    (settled_timely : IsTrue settled.honest → IsTimely settled) (zeros : IsPart (BeginsAs settled.medium.seen (room_for from)) settled cleared G)
    (firm : IsTrue settled.honest → StaysFirm (room_for from) settled.medium cleared.medium) (timely : IsTrue cleared.honest → IsTimely cleared) where
  abbrev May : List ℕ → Type 0
  May = λ t. IsImage start.medium t ⊎ IsRaisedOrNot from to start.medium.seen t

  settled_honest : IsTrue start.honest → IsTrue settled.honest
  settled_honest = still_honest start settled sync.honest

  cleared_honest : IsTrue start.honest → IsTrue cleared.honest
  cleared_honest honest = still_honest settled cleared zeros.honest (settled_honest honest)

  settled_firm : IsTrue start.honest → IsFirm (room_for from) settled.medium
  settled_firm honest = subst (IsFirm (room_for from)) (sym (sure honest)) (firm_synced (room_for from) start.medium (raisable honest).long)

  -- what begins as the text that was read begins as the first one
  from_start : IsTrue start.honest → (c : List ℕ) → BeginsAs settled.medium.seen (room_for from) c → BeginsAs start.medium.seen (room_for from) c
  from_start honest c = subst (λ (m : Medium). BeginsAs m.seen (room_for from) c → BeginsAs start.medium.seen (room_for from) c) (sym (sure honest)) (λ begins. begins)

  still_may : IsTrue start.honest → (c : List ℕ) → BeginsAs start.medium.seen (room_for from) c → May c
  still_may honest c begins = inr (λ S holds. inl (holds_still from start.medium.seen c begins (raisable honest).long S holds))

  cleared_begins : IsTrue start.honest → BeginsAs start.medium.seen (room_for from) cleared.medium.seen
  cleared_begins honest =
      let now = settled_honest honest in
      from_start honest cleared.medium.seen (seen_begins (room_for from) settled.medium cleared.medium (settled_firm honest) (settled_timely now).consistent (firm now) (timely (cleared_honest honest)).consistent)

  image_left : IsTrue start.honest → (c : List ℕ) → IsImage cleared.medium c → BeginsAs start.medium.seen (room_for from) c
  image_left honest c image =
      let now = settled_honest honest in
      from_start honest c (image_begins (room_for from) settled.medium cleared.medium (settled_firm honest) (settled_timely now).consistent (firm now) c image)

  cleared_head : IsTrue start.honest → take 16 cleared.medium.seen ≡ growing_head from
  cleared_head honest = same_head from start.medium.seen cleared.medium.seen (cleared_begins honest) (raisable honest).long ∙ (raisable honest).head

  not_raised : IsTrue start.honest → IsNotRaised start.medium.seen from cleared.medium
  not_raised honest = record {
    seen = holds_still from start.medium.seen cleared.medium.seen (cleared_begins honest) (raisable honest).long;
    left = λ c image. holds_still from start.medium.seen c (image_left honest c image) (raisable honest).long;
  }

  zeros_part : IsPart May start cleared G
  zeros_part =
      part_then May start settled cleared F G
      (part_call May start settled F start_timely sync (λ honest c image. inl image)
      (λ honest c image. inr (λ S holds. inl (subst (λ (t : List ℕ). HoldsGrowing t from S) (sym (synced_image start.medium c (subst (λ (m : Medium). IsImage m c) (sure honest) image))) holds))))
      (part_more (BeginsAs settled.medium.seen (room_for from)) May settled cleared G
      (λ honest c begins. let was = subst IsTrue sync.honest honest in still_may was c (from_start was c begins)) zeros)

  zeros_leave : IsTrue start.honest → LeavesOnly start cleared May
  zeros_leave = zeros_part.time

  -- and the byte
  module _ (H : Type 0) (last : Device) (count : IsPart (IsRaisedOrNot from to cleared.medium.seen) cleared last H) where
    all_part : IsPart May start last H
    all_part =
        part_then May start cleared last G H zeros_part
        (part_more (IsRaisedOrNot from to cleared.medium.seen) May cleared last H
        (λ honest c may.
        let was = subst IsTrue sync.honest (subst IsTrue zeros.honest honest) in
        inr (λ S holds. may S (holds_still from start.medium.seen cleared.medium.seen (cleared_begins was) (raisable was).long S holds)))
        count)

    all_leave : IsTrue start.honest → LeavesOnly start last May
    all_leave = all_part.time

    all_raised : IsTrue start.honest → IsRaised cleared.medium.seen from to last.medium → IsRaised start.medium.seen from to last.medium
    all_raised honest raised = record {
      sure = raised.sure;
      holds = λ S holds. raised.holds S (holds_still from start.medium.seen cleared.medium.seen (cleared_begins honest) (raisable honest).long S holds);
      slots = raised.slots ∙ same_slots from start.medium.seen cleared.medium.seen (cleared_begins honest) (raisable honest).long;
      zeros = raised.zeros;
    }

pub returns-in_default-write_zeros-clause-room : goal.returns-in_default-write_zeros-clause-room
returns-in_default-write_zeros-clause-room g c = λ honest room.
    not_raised c.args.from c.args.to _ _ (g.D.Disk.device c.args.disk.now) (g.D.Disk.device c.sync.new.self) (g.D.Disk.device c.write_zeros.new.disk) c.requires.raisable
    (g.met.D.Disk.timely c.args.disk.now) c.in-Ok.ensures.call c.in-Ok.ensures.synced (g.met.D.Disk.timely c.sync.new.self) c.write_zeros.ensures.part c.write_zeros.ensures.firm (g.met.D.Disk.timely c.write_zeros.new.disk) honest

pub returns-in_default-write_zeros-clause-any_moment : goal.returns-in_default-write_zeros-clause-any_moment
returns-in_default-write_zeros-clause-any_moment g c =
    zeros_leave c.args.from c.args.to _ _ (g.D.Disk.device c.args.disk.now) (g.D.Disk.device c.sync.new.self) (g.D.Disk.device c.write_zeros.new.disk) c.requires.raisable
    (g.met.D.Disk.timely c.args.disk.now) c.in-Ok.ensures.call c.in-Ok.ensures.synced (g.met.D.Disk.timely c.sync.new.self) c.write_zeros.ensures.part c.write_zeros.ensures.firm (g.met.D.Disk.timely c.write_zeros.new.disk)

pub write_count-requires-clause-head : goal.write_count-requires-clause-head
write_count-requires-clause-head g c = λ honest.
    let was = subst IsTrue c.in-Ok.ensures.call.honest (subst IsTrue c.write_zeros.ensures.part.honest honest) in
    cleared_head c.args.from c.args.to _ _ (g.D.Disk.device c.args.disk.now) (g.D.Disk.device c.sync.new.self) (g.D.Disk.device c.write_zeros.new.disk) c.requires.raisable
    (g.met.D.Disk.timely c.args.disk.now) c.in-Ok.ensures.call c.in-Ok.ensures.synced (g.met.D.Disk.timely c.sync.new.self) c.write_zeros.ensures.part c.write_zeros.ensures.firm (g.met.D.Disk.timely c.write_zeros.new.disk) was

pub returns-in_default-write_count-clause-any_moment : goal.returns-in_default-write_count-clause-any_moment
returns-in_default-write_count-clause-any_moment g c =
    all_leave c.args.from c.args.to _ _ (g.D.Disk.device c.args.disk.now) (g.D.Disk.device c.sync.new.self) (g.D.Disk.device c.write_zeros.new.disk) c.requires.raisable
    (g.met.D.Disk.timely c.args.disk.now) c.in-Ok.ensures.call c.in-Ok.ensures.synced (g.met.D.Disk.timely c.sync.new.self) c.write_zeros.ensures.part c.write_zeros.ensures.firm (g.met.D.Disk.timely c.write_zeros.new.disk)
    _ (g.D.Disk.device c.write_count.new.disk) c.write_count.ensures.part

pub returns-clause-raised : goal.returns-clause-raised
returns-clause-raised g c = λ honest.
    let now =
    cleared_honest c.args.from c.args.to _ _ (g.D.Disk.device c.args.disk.now) (g.D.Disk.device c.sync.new.self) (g.D.Disk.device c.write_zeros.new.disk) c.requires.raisable
    (g.met.D.Disk.timely c.args.disk.now) c.in-Ok.ensures.call c.in-Ok.ensures.synced (g.met.D.Disk.timely c.sync.new.self) c.write_zeros.ensures.part c.write_zeros.ensures.firm (g.met.D.Disk.timely c.write_zeros.new.disk) honest in
    all_raised c.args.from c.args.to _ _ (g.D.Disk.device c.args.disk.now) (g.D.Disk.device c.sync.new.self) (g.D.Disk.device c.write_zeros.new.disk) c.requires.raisable
    (g.met.D.Disk.timely c.args.disk.now) c.in-Ok.ensures.call c.in-Ok.ensures.synced (g.met.D.Disk.timely c.sync.new.self) c.write_zeros.ensures.part c.write_zeros.ensures.firm (g.met.D.Disk.timely c.write_zeros.new.disk)
    _ (g.D.Disk.device c.write_count.new.disk) c.write_count.ensures.part honest (c.in-Ok-write_count.ensures.raised now)

pub returns-clause-any_moment : goal.returns-clause-any_moment
returns-clause-any_moment g c =
    all_leave c.args.from c.args.to _ _ (g.D.Disk.device c.args.disk.now) (g.D.Disk.device c.sync.new.self) (g.D.Disk.device c.write_zeros.new.disk) c.requires.raisable
    (g.met.D.Disk.timely c.args.disk.now) c.in-Ok.ensures.call c.in-Ok.ensures.synced (g.met.D.Disk.timely c.sync.new.self) c.write_zeros.ensures.part c.write_zeros.ensures.firm (g.met.D.Disk.timely c.write_zeros.new.disk)
    _ (g.D.Disk.device c.write_count.new.disk) c.write_count.ensures.part
