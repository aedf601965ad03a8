use Rattle.lz_growth.proofs.raising.write_count.Goals as goal
use Rattle.std.proofs.Common.{◌≡◌, ◌⊎◌, inl, inr, ◌+◌, ◌<◌, ◌∙◌, ℕ, true, List, [], ◌∷◌, length, take, set, IsTrue, ap, subst, arith}
use Rattle.std.specs.Prelude.{Result, IsErr, OnErr, OnOk, is_err}
use Rattle.byteorder.specs.Endian.{big_bytes}
use Rattle.lz_disk.{specs.{Images.{AreBytes, IsConsistent, IsImage, Medium, WriteFailed, synced, written}, Devices.{Device, IsCall, IsTimely}}, proofs.Writes.{synced_image}}
use Rattle.lz_vault.{specs.Makes.{IsPart}, proofs.MakingParts.{Touched, on_ok, part_call, part_if, part_then, still_honest, sync_part, write_touches}}
use Rattle.lz_growth.specs.{Growths.{IsRaise, IsRaised, IsRaisedOrNot, growing_head, room_for}, Raises.{IsCleared, IsFirm}}
use Rattle.lz_growth.proofs.{FirmMedia.{firm_image}, GrownTexts.{holds_still}, OneByte.{byte_or_not, with_byte}, RaisedTexts.{inside, raised_is, raised_or_not}}

-- what a crash leaves before the byte is written
start_may : (from to : ℕ) (disk : Medium) → IsFirm (room_for from) disk → IsConsistent disk → (c : List ℕ) → IsImage disk c → IsRaisedOrNot from to disk.seen c
start_may from to disk firm same c image S holds = inl (holds_still from disk.seen c (firm_image (room_for from) disk firm same c image) holds.long S holds)

-- and once it was written over a text that is durable
module _ (from to : ℕ) (raise : IsRaise from to) (start : Medium) (on : start.bytewise ≡ true) (head : take 16 start.seen ≡ growing_head from) (cleared : IsCleared from to start.seen)
    (i v : ℕ) (place : i < 8) (changed : set (big_bytes 8 from) i v ≡ big_bytes 8 to) where
  settled_image : (settled : Medium) → settled ≡ synced start → (c : List ℕ) → IsImage settled c → c ≡ start.seen
  settled_image settled is c image = synced_image start c (subst (λ (m : Medium). IsImage m c) is image)

  may_be : (c : List ℕ) → (c ≡ start.seen) ⊎ (c ≡ with_byte start.seen (8 + i) v) → IsRaisedOrNot from to start.seen c
  may_be = raised_or_not from to raise start.seen head cleared i v place changed

  touched_image : (new : Medium) → Touched (synced start) (8 + i) (v ∷ []) new → (c : List ℕ) → IsImage new c → (c ≡ start.seen) ⊎ (c ≡ with_byte start.seen (8 + i) v)
  touched_image new touched c image =
      let within = inside from to raise start.seen head cleared i v place changed in
      byte_or_not start.seen (8 + i) v within new (touched.bytewise ∙ on) touched.sure touched.loose (touched.no_longer (length start.seen) (omega arith) (omega arith)) c image

  new_image : (settled new : Medium) → settled ≡ synced start → (new ≡ settled) ⊎ Touched settled (8 + i) (v ∷ []) new → (c : List ℕ) → IsImage new c → IsRaisedOrNot from to start.seen c
  new_image settled new is (inl none) c image = may_be c (inl (settled_image settled is c (subst (λ (m : Medium). IsImage m c) none image)))
  new_image settled new is (inr touched) c image = may_be c (touched_image new (subst (λ (m : Medium). Touched m (8 + i) (v ∷ []) new) is touched) c image)

  last_is : (settled new last : Medium) → settled ≡ synced start → new ≡ written settled (8 + i) (v ∷ []) → last ≡ synced new → IsRaised start.seen from to last
  last_is settled new last is wrote all =
      raised_is from to raise start.seen head cleared i v place changed start.bytewise last
      (all ∙ ap synced wrote ∙ ap (λ (m : Medium). synced (written m (8 + i) (v ∷ []))) is)

-- a sync, a write of one byte, a sync
module _ {E : Type 0} (F : Type 0) (r : Result (Unit {0}) E) (from to : ℕ) (raise : IsRaise from to) (start settled new : Device) (i v : ℕ) (place : i < 8) (changed : set (big_bytes 8 from) i v ≡ big_bytes 8 to)
    (on : IsTrue start.honest → start.medium.bytewise ≡ true) (firm : IsTrue start.honest → IsFirm (room_for from) start.medium)
    (head : IsTrue start.honest → take 16 start.medium.seen ≡ growing_head from) (cleared : IsTrue start.honest → IsCleared from to start.medium.seen)
    (start_timely : IsTrue start.honest → IsTimely start) (sync : IsCall start settled F) (sure : IsTrue start.honest → settled.medium ≡ synced start.medium)
    (timely : IsTrue settled.honest → IsTimely settled) (call : IsCall settled new (IsErr r))
    (is : IsTrue settled.honest → OnOk r (new.medium ≡ written settled.medium (8 + i) (v ∷ [])))
    (fails : IsTrue settled.honest → OnErr r ((new.medium ≡ settled.medium) ⊎ WriteFailed settled.medium (8 + i) (v ∷ []) new.medium)) where
  abbrev May : List ℕ → Type 0
  May = IsRaisedOrNot from to start.medium.seen

  begun : IsTrue settled.honest → IsTrue start.honest
  begun honest = subst IsTrue sync.honest honest

  start_image : IsTrue start.honest → (c : List ℕ) → IsImage start.medium c → May c
  start_image honest = start_may from to start.medium (firm honest) (start_timely honest).consistent

  sure_image : IsTrue start.honest → (c : List ℕ) → IsImage settled.medium c → May c
  sure_image honest c image =
      may_be from to raise start.medium (on honest) (head honest) (cleared honest) i v place changed c
      (inl (settled_image from to raise start.medium (on honest) (head honest) (cleared honest) i v place changed settled.medium (sure honest) c image))

  byte_image : IsTrue settled.honest → (c : List ℕ) → IsImage new.medium c → May c
  byte_image honest c image =
      let was = begun honest in
      new_image from to raise start.medium (on was) (head was) (cleared was) i v place changed settled.medium new.medium (sure was) (write_touches r settled.medium new.medium (8 + i) (v ∷ []) (is honest) (fails honest)) c image

  byte_part : IsPart May start new (IsErr r)
  byte_part =
      part_then May start settled new F (IsErr r)
      (part_call May start settled F start_timely sync start_image sure_image)
      (part_call May settled new (IsErr r) timely call (λ honest. sure_image (begun honest)) byte_image)

  last_part : (last : Device) (s : Result (Unit {0}) E) → (IsTrue new.honest → IsTimely new) → IsCall new last (IsErr s) → (IsTrue new.honest → OnOk s (last.medium ≡ synced new.medium))
      → (IsTrue new.honest → OnOk s (AreBytes last.medium.seen)) → (IsTrue new.honest → OnErr s (last.medium ≡ new.medium)) → IsPart May start last (IsErr s)
  last_part last s new_timely last_sync all bytes none =
      part_then May start new last (IsErr r) (IsErr s) byte_part
      (sync_part s May new last new_timely last_sync all bytes none (λ honest. byte_image (subst IsTrue call.honest honest)))

pub returns-in_err-sync-clause-part : goal.returns-in_err-sync-clause-part
returns-in_err-sync-clause-part g c =
    let start = g.D.Disk.device c.args.disk.now in
    part_if _ _ _ _ _ (λ told. ap is_err c.in_err-sync.was)
    (sync_part c.sync.result (IsRaisedOrNot c.args.from c.args.to start.medium.seen) start (g.D.Disk.device c.sync.new.self) (g.met.D.Disk.timely c.args.disk.now) c.sync.ensures.call c.sync.ensures.synced c.sync.ensures.bytes c.sync.ensures.failed
    (λ honest. start_may c.args.from c.args.to start.medium (c.requires.firm honest) (g.met.D.Disk.timely c.args.disk.now honest).consistent))

pub returns-in_err-write-clause-part : goal.returns-in_err-write-clause-part
returns-in_err-write-clause-part g c =
    part_if _ _ _ _ _ (λ told. ap is_err c.in_err-write.was)
    (byte_part _ c.write.result c.args.from c.args.to c.requires.raise (g.D.Disk.device c.args.disk.now) (g.D.Disk.device c.sync.new.self) (g.D.Disk.device c.write.new.self)
    c.changed_byte-index.result.0 c.changed_byte-index.result.1 c.changed_byte-index.ensures.place c.changed_byte-index.ensures.bytes
    c.requires.bytewise c.requires.firm c.requires.head c.requires.cleared
    (g.met.D.Disk.timely c.args.disk.now) c.in_ok-sync.ensures.call c.in_ok-sync.ensures.synced (g.met.D.Disk.timely c.sync.new.self) c.write.ensures.call c.write.ensures.written c.write.ensures.failed)

pub returns-clause-part : goal.returns-clause-part
returns-clause-part g c =
    last_part _ c.write.result c.args.from c.args.to c.requires.raise (g.D.Disk.device c.args.disk.now) (g.D.Disk.device c.sync.new.self) (g.D.Disk.device c.write.new.self)
    c.changed_byte-index.result.0 c.changed_byte-index.result.1 c.changed_byte-index.ensures.place c.changed_byte-index.ensures.bytes
    c.requires.bytewise c.requires.firm c.requires.head c.requires.cleared
    (g.met.D.Disk.timely c.args.disk.now) c.in_ok-sync.ensures.call c.in_ok-sync.ensures.synced (g.met.D.Disk.timely c.sync.new.self) c.write.ensures.call c.write.ensures.written c.write.ensures.failed
    (g.D.Disk.device c.sync-2.new.self) c.sync-2.result (g.met.D.Disk.timely c.write.new.self) c.sync-2.ensures.call c.sync-2.ensures.synced c.sync-2.ensures.bytes c.sync-2.ensures.failed

pub returns-clause-raised : goal.returns-clause-raised
returns-clause-raised g c = λ honest.
    let start = g.D.Disk.device c.args.disk.now in
    let settled = g.D.Disk.device c.sync.new.self in
    let new = g.D.Disk.device c.write.new.self in
    let last = g.D.Disk.device c.sync-2.new.self in
    let sure = still_honest start settled c.sync.ensures.call.honest honest in
    let wrote = still_honest settled new c.write.ensures.call.honest sure in
    on_ok c.sync-2.result _ _
    (λ all.
    last_is c.args.from c.args.to c.requires.raise start.medium (c.requires.bytewise honest) (c.requires.head honest) (c.requires.cleared honest)
    c.changed_byte-index.result.0 c.changed_byte-index.result.1 c.changed_byte-index.ensures.place c.changed_byte-index.ensures.bytes
    settled.medium new.medium last.medium (c.in_ok-sync.ensures.synced honest) (c.in_ok-write.ensures.written sure) all)
    (c.sync-2.ensures.synced wrote)
