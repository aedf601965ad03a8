use Rattle.lz_growth.proofs.raising.write_zeros.Goals as goal
use Rattle.std.proofs.Common.{◌≡◌, ◌⊎◌, ⊎_elim, ◌+◌, ◌*◌, ◌≤◌, ◌∙◌, ℕ, zero, suc, List, length, take, replicate, get_or, IsTrue, sym, refl, subst, arith}
use Rattle.std.proofs.lemmas.{Bool.{cases_lt}, List.{get_or-take, get_or_past, length-take, length-replicate}}
use Rattle.std.specs.Prelude.{Result, IsErr, OnErr, OnOk}
use Rattle.lz_disk.specs.{Images.{Medium, WriteFailed, written}, Devices.{Device, IsCall, IsTimely}}
use Rattle.lz_vault.{specs.Makes.{IsPart}, proofs.MakingParts.{part_call, part_if, part_then, still_honest, write_touches}}
use Rattle.lz_growth.{specs.{Growths.{room_for}, Raises.{BeginsAs, IsCleared, IsFirm, StaysFirm}}, proofs.FirmMedia.{image_begins, more_cleared, write_stays}}

-- one piece more
module _ {E : Type 0} (r : Result (Unit {0}) E) (from slot : ℕ) (zeros : List ℕ) (start old new : Device) (low : from ≤ slot)
    (start_timely : IsTrue start.honest → IsTimely start) (firm : IsTrue start.honest → IsFirm (room_for from) start.medium)
    (before : IsPart (BeginsAs start.medium.seen (room_for from)) start old ⊥) (stays : IsTrue start.honest → StaysFirm (room_for from) start.medium old.medium)
    (timely : IsTrue old.honest → IsTimely old) (call : IsCall old new (IsErr r))
    (is : IsTrue old.honest → OnOk r (new.medium ≡ written old.medium (room_for slot) zeros))
    (fails : IsTrue old.honest → OnErr r ((new.medium ≡ old.medium) ⊎ WriteFailed old.medium (room_for slot) zeros new.medium)) where
  begun : IsTrue old.honest → IsTrue start.honest
  begun honest = subst IsTrue before.honest honest

  more_stays : IsTrue start.honest → StaysFirm (room_for from) start.medium new.medium
  more_stays honest =
      let now = still_honest start old before.honest honest in
      write_stays (room_for from) start.medium old.medium (room_for slot) zeros new.medium (stays honest) (omega arith) (write_touches r old.medium new.medium (room_for slot) zeros (is now) (fails now))

  more_part : IsPart (BeginsAs start.medium.seen (room_for from)) start new (IsErr r)
  more_part =
      part_then _ start old new ⊥ (IsErr r) before
      (part_call _ old new (IsErr r) timely call
      (λ honest. image_begins (room_for from) start.medium old.medium (firm (begun honest)) (start_timely (begun honest)).consistent (stays (begun honest)))
      (λ honest. image_begins (room_for from) start.medium new.medium (firm (begun honest)) (start_timely (begun honest)).consistent (more_stays (begun honest))))

-- a piece of zeros
abbrev blank : ℕ → List ℕ
blank n = replicate n 0

all_blank : (n i : ℕ) → get_or (blank n) i 0 ≡ 0
all_blank zero i = refl
all_blank (suc n) zero = refl
all_blank (suc n) (suc i) = all_blank n i

taken_blank : (n m i : ℕ) → get_or (take n (blank m)) i 0 ≡ 0
taken_blank n m i = ⊎_elim
    (λ lt. get_or-take n (blank m) i 0 lt ∙ all_blank m i)
    (λ le. get_or_past (take n (blank m)) i 0 (omega (arith, length-take n (blank m))))
    (cases_lt i n)

taken_long : (n m : ℕ) → n ≤ m → length (take n (blank m)) ≡ n
taken_long n m le = let whole : length (blank m) ≡ m = length-replicate m 0 in omega (arith, length-take n (blank m))

pub loop-slot-preserved : goal.loop-slot-preserved
loop-slot-preserved g c =
    let count = c.min-count.result in
    let few : count ≤ 4096 = omega arith in
    let start = g.D.Disk.device c.args.disk.now in
    let old = g.D.Disk.device c.loop-slot.disk in
    let new = g.D.Disk.device c.write.new.self in
    let zeros = take (16 * count) (blank 65536) in
    let long = taken_long (16 * count) 65536 (omega arith) in
    record {
      low = omega arith;
      high = omega arith;
      part = part_if _ _ _ _ _ (λ never. absurd never)
          (more_part c.write.result c.args.from c.loop-slot.slot zeros start old new c.loop-slot.invariant.low (g.met.D.Disk.timely c.args.disk.now) c.requires.firm c.loop-slot.invariant.part
          c.loop-slot.invariant.firm (g.met.D.Disk.timely c.loop-slot.disk) c.write.ensures.call c.write.ensures.written c.write.ensures.failed);
      firm =
          more_stays c.write.result c.args.from c.loop-slot.slot zeros start old new c.loop-slot.invariant.low (g.met.D.Disk.timely c.args.disk.now) c.requires.firm c.loop-slot.invariant.part
          c.loop-slot.invariant.firm (g.met.D.Disk.timely c.loop-slot.disk) c.write.ensures.call c.write.ensures.written c.write.ensures.failed;
      cleared = λ honest.
          let is = c.in_ok-write.ensures.written (still_honest start old c.loop-slot.invariant.part.honest honest) in
          subst (λ (m : Medium). IsCleared c.args.from (c.loop-slot.slot + count) m.seen) (sym is)
          (more_cleared c.args.from c.loop-slot.slot count old.medium.seen zeros c.loop-slot.invariant.low long (taken_blank (16 * count) 65536) (c.loop-slot.invariant.cleared honest));
    }
