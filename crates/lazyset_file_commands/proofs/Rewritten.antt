-- What writes leave that put bytes where they were read.
use Rattle.lz_disk.proofs.Overwrites as over
use Rattle.std.proofs.Common.{◌≡◌, ◌⊎◌, inl, inr, ⊎_elim, ℕ, ◌+◌, ◌-◌, ◌≤◌, ◌<◌, true, false, List, [], ◌∷◌, length, get_or, drop, sym, ◌∙◌, ap, refl, subst}
use Rattle.std.proofs.{Common.{arith, IsTrue, length-take, length-drop}, lemmas.Bool.{cases_lt, true≢false, Decides.{nat_tests}}}
use Rattle.std.{proofs.lemmas.{List.{get_or-take, get_or-drop}, Grind.{same_number_lists}}, specs.Prelude.{Result, Ok, Err, IsErr, OnErr, OnOk, slice_range}}
use Rattle.lz_disk.specs.Images.{AreBytes, IsConsistent, IsImage, Medium, WasWritten, WriteFailed, is_loose, overwritten, synced, written}
use Rattle.lz_disk.{specs.Devices.{Device, IsCall, IsTimely}, proofs.Moments.{leaves_more, leaves_then, one_call, quiet}}
use Rattle.lz_disk.proofs.Writes.{loose_inside, loose_outside}
use Rattle.lz_vault.{specs.Scans.{OnlyReads}, proofs.MakingParts.{Touched, on_ok, sync_image, write_touches}}
use Rattle.lazyset_file_commands.specs.Rewritings.{IsRewrittenTo, KeepsImages, LeavesAny}

-- a place where something was written is loose
loose_there : (writes : List (ℕ × List ℕ)) (i b : ℕ) → WasWritten writes i b → is_loose writes i ≡ true
loose_there [] i b none = absurd none
loose_there (w ∷ writes) i b (inl here) = loose_inside w.0 w.1 writes i here.0 here.1
loose_there (w ∷ writes) i b (inr was) = let rest = loose_there writes i b was in grind (arith, nat_tests)

-- bytes as they are read
module _ (t : List ℕ) (at n : ℕ) (within : at + n ≤ length t) where
  pub piece_long : length (slice_range t at (at + n)) ≡ n
  piece_long = omega (arith, length-take ((at + n) - at) (drop at t), length-drop at t)

  piece_read : (i : ℕ) → at ≤ i → i < at + n → get_or (slice_range t at (at + n)) (i - at) 0 ≡ get_or t i 0
  piece_read i le lt =
      get_or-take ((at + n) - at) (drop at t) (i - at) 0 (omega arith) ∙ get_or-drop at t (i - at) 0 ∙ ap (λ k. get_or t k 0) (omega arith)

  -- they are what is there
  pub same_overwritten : overwritten t at (slice_range t at (at + n)) ≡ t
  same_overwritten =
      let bytes = slice_range t at (at + n) in
      let long = piece_long in
      same_number_lists _ _ (over.size t at bytes (omega arith) (omega (arith, long)))
      (λ i lt. ⊎_elim
      (λ below. over.below t at bytes (omega arith) i below)
      (λ le. ⊎_elim
      (λ low. over.inside t at bytes (omega arith) i le (omega (arith, long)) ∙ piece_read i le low)
      (λ past. over.above t at bytes (omega arith) i (omega (arith, long)))
      (cases_lt i (at + n)))
      (cases_lt i at))

-- a write of the bytes that are read there
module _ (old : Medium) (at n : ℕ) (within : at + n ≤ length old.seen) (consistent : IsConsistent old) (on : old.bytewise ≡ true) where
  abbrev bytes : List ℕ
  bytes = slice_range old.seen at (at + n)

  module _ (new : Medium) (touched : Touched old at bytes new) (c : List ℕ) (image : IsImage new c) where
    same_sure : (i : ℕ) → get_or new.sure i 0 ≡ get_or old.sure i 0
    same_sure i = ap (λ (t : List ℕ). get_or t i 0) touched.sure

    may : (i : ℕ) → i < length old.sure → (get_or c i 0 ≡ get_or new.sure i 0) ⊎ WasWritten ((at, bytes) ∷ old.loose) i (get_or c i 0) → (get_or c i 0 ≡ get_or old.sure i 0) ⊎ WasWritten old.loose i (get_or c i 0)
    may i lt (inl sure) = inl (sure ∙ same_sure i)
    may i lt (inr (inl wrote)) =
        let is : get_or old.seen i 0 ≡ get_or c i 0 = sym (piece_read old.seen at n within i wrote.0 (omega (arith, wrote.1, piece_long old.seen at n within))) ∙ wrote.2 in
        subst (λ b. (b ≡ get_or old.sure i 0) ⊎ WasWritten old.loose i b) is (consistent.each on i lt)
    may i lt (inr (inr was)) = inr was

    each : (i : ℕ) → i < length old.sure → (get_or c i 0 ≡ get_or old.sure i 0) ⊎ WasWritten old.loose i (get_or c i 0)
    each i lt =
        let now : i < length new.sure = omega (arith, lt, ap length touched.sure) in
        may i lt (subst (λ l. (get_or c i 0 ≡ get_or new.sure i 0) ⊎ WasWritten l i (get_or c i 0)) touched.loose (image.each (touched.bytewise ∙ on) i now))

    is_sure : (i : ℕ) → is_loose old.loose i ≡ false → (get_or c i 0 ≡ get_or old.sure i 0) ⊎ WasWritten old.loose i (get_or c i 0) → get_or c i 0 ≡ get_or old.sure i 0
    is_sure i shut (inl sure) = sure
    is_sure i shut (inr was) = absurd (true≢false (sym (loose_there old.loose i (get_or c i 0) was) ∙ shut))

    touched_image : IsImage old c
    touched_image = record {
      bytes = image.bytes;
      no_shorter = omega (arith, image.no_shorter, ap length touched.sure);
      no_longer = omega (arith, image.no_longer, touched.no_longer (length old.seen) (omega arith) (omega (arith, within, piece_long old.seen at n within)));
      sure = λ i lt shut. is_sure i shut (each i lt);
      each = λ bytewise i lt. each i lt;
    }

  failed_seen : (new : Medium) → WriteFailed old at bytes new → new.seen ≡ old.seen
  failed_seen new failed =
      let long = piece_long old.seen at n within in
      same_number_lists _ _ (omega (arith, failed.no_shorter, failed.no_longer, within, long))
      (λ i lt. grind (
        arith,
        cases_lt i at,
        cases_lt i (at + n),
        get_or-take at new.seen i 0,
        get_or-take at old.seen i 0,
        get_or-drop (at + length bytes) new.seen (i - (at + length bytes)) 0,
        get_or-drop (at + length bytes) old.seen (i - (at + length bytes)) 0,
        failed.before,
        failed.after,
        failed.mixed on i,
        piece_read old.seen at n within i,
        long,
      ) steps 100000)

  pub write_image : {E : Type 0} (r : Result (Unit {0}) E) (new : Medium) → OnOk r (new ≡ written old at bytes) → OnErr r ((new ≡ old) ⊎ WriteFailed old at bytes new) → (c : List ℕ) → IsImage new c → IsImage old c
  write_image r new is fails c image = ⊎_elim (λ same. subst (λ m. IsImage m c) same image) (λ touched. touched_image new touched c image) (write_touches r old new at bytes is fails)

  pub write_seen : {E : Type 0} (r : Result (Unit {0}) E) (new : Medium) → OnOk r (new ≡ written old at bytes) → OnErr r ((new ≡ old) ⊎ WriteFailed old at bytes new) → new.seen ≡ old.seen
  write_seen (Ok done) new is fails = ap (λ (m : Medium). m.seen) is ∙ same_overwritten old.seen at n within
  write_seen (Err fault) new is fails = ⊎_elim (λ same. ap (λ (m : Medium). m.seen) same) (failed_seen new) fails

-- the first n bytes and those of the write after them
pub rewritten_more : (start old : Medium) (at n : ℕ) → at + n ≤ length old.seen → IsRewrittenTo start at old → IsRewrittenTo start (at + n) (written old at (slice_range old.seen at (at + n)))
rewritten_more start old at n within so = record {
  bytewise = so.bytewise;
  sure = so.sure;
  seen = same_overwritten old.seen at n within ∙ so.seen;
  loose = λ i lt.
      let long = piece_long old.seen at n within in
      ⊎_elim
      (λ below. loose_outside at (slice_range old.seen at (at + n)) old.loose i (inl below) ∙ so.loose i below)
      (λ le. loose_inside at (slice_range old.seen at (at + n)) old.loose i le (omega (arith, long)))
      (cases_lt i at);
}

-- a write, and a sync, change neither kind of medium, and a sync no byte
write_bytewise : {E : Type 0} (r : Result (Unit {0}) E) (old new : Medium) (at : ℕ) (bytes : List ℕ) → OnOk r (new ≡ written old at bytes) → OnErr r ((new ≡ old) ⊎ WriteFailed old at bytes new)
    → new.bytewise ≡ old.bytewise
write_bytewise (Ok done) old new at write is fails = ap (λ (m : Medium). m.bytewise) is
write_bytewise (Err fault) old new at write is fails = ⊎_elim (λ same. ap (λ (m : Medium). m.bytewise) same) (λ failed. failed.bytewise) fails

sync_bytewise : {E : Type 0} (r : Result (Unit {0}) E) (old new : Medium) → OnOk r (new ≡ synced old) → OnErr r (new ≡ old) → new.bytewise ≡ old.bytewise
sync_bytewise (Ok done) old new is fails = ap (λ (m : Medium). m.bytewise) is
sync_bytewise (Err fault) old new is fails = ap (λ (m : Medium). m.bytewise) fails

sync_seen : {E : Type 0} (r : Result (Unit {0}) E) (old new : Medium) → OnOk r (new ≡ synced old) → OnErr r (new ≡ old) → new.seen ≡ old.seen
sync_seen (Ok done) old new is fails = ap (λ (m : Medium). m.seen) is
sync_seen (Err fault) old new is fails = ap (λ (m : Medium). m.seen) fails

-- what was written anew is the same once it is durable
rewritten_synced : (old : Medium) (n : ℕ) (new : Medium) → IsRewrittenTo old n new → synced new ≡ synced old
rewritten_synced old n new so = λ i. record { bytewise = so.bytewise i; sure = so.seen i; seen = so.seen i; loose = [] }

-- a call that keeps what is read, and the images
pub call_keeps : (P : Type 0) (old new : Device) (fault : Type 0) → (IsTrue old.honest → IsTimely old) → IsCall old new fault → (IsTrue old.honest → new.medium.bytewise ≡ old.medium.bytewise)
    → (IsTrue old.honest → P → new.medium.seen ≡ old.medium.seen) → (IsTrue old.honest → P → (c : List ℕ) → IsImage new.medium c → IsImage old.medium c) → KeepsImages P old new
call_keeps P old new fault timely call bytewise seen images = record {
  honest = call.honest;
  bytewise = bytewise;
  later = λ honest. (call.time honest).later;
  seen = seen;
  images = images;
  time = λ honest holds. one_call old new (IsImage old.medium) (timely honest) (call.time honest) (λ c image. image) (images honest holds);
  faults = call.later;
}

-- one that leaves the medium as it is
pub same_keeps : (P : Type 0) (old new : Device) (fault : Type 0) → (IsTrue old.honest → IsTimely old) → IsCall old new fault → (IsTrue old.honest → new.medium ≡ old.medium) → KeepsImages P old new
same_keeps P old new fault timely call same =
    call_keeps P old new fault timely call (λ honest. ap (λ (m : Medium). m.bytewise) (same honest)) (λ honest holds. ap (λ (m : Medium). m.seen) (same honest))
    (λ honest holds c image. subst (λ (m : Medium). IsImage m c) (same honest) image)

-- reads
pub reads_keep : (P : Type 0) (old new : Device) → OnlyReads old new → KeepsImages P old new
reads_keep P old new reads = record {
  honest = reads.honest;
  bytewise = λ honest. ap (λ (m : Medium). m.bytewise) (reads.medium honest);
  later = λ honest. (reads.time honest).later;
  seen = λ honest holds. ap (λ (m : Medium). m.seen) (reads.medium honest);
  images = λ honest holds c image. subst (λ (m : Medium). IsImage m c) (reads.medium honest) image;
  time = λ honest holds. reads.time honest;
  faults = reads.faults;
}

-- calls after calls
pub keeps_then : (P Q : Type 0) (old mid new : Device) → (IsTrue old.honest → P → Q) → KeepsImages P old mid → KeepsImages Q mid new → KeepsImages P old new
keeps_then P Q old mid new more first second = record {
  honest = second.honest ∙ first.honest;
  bytewise = λ honest. second.bytewise (still honest) ∙ first.bytewise honest;
  later = λ honest. omega (arith, first.later honest, second.later (still honest));
  seen = λ honest holds. second.seen (still honest) (more honest holds) ∙ first.seen honest holds;
  images = λ honest holds c image. first.images honest holds c (second.images (still honest) (more honest holds) c image);
  time = λ honest holds.
      leaves_then old mid new (IsImage old.medium) (first.time honest holds)
      (leaves_more mid new (IsImage mid.medium) (IsImage old.medium) (first.images honest holds) (second.time (still honest) (more honest holds)));
  faults = omega (arith, first.faults, second.faults);
}
  where
    still : IsTrue old.honest → IsTrue mid.honest
    still honest = subst IsTrue (sym first.honest) honest

-- nothing was called
pub none_keeps : (P : Type 0) (old : Device) → (IsTrue old.honest → IsTimely old) → KeepsImages P old old
none_keeps P old timely = record {
  honest = refl;
  bytewise = λ honest. refl;
  later = λ honest. omega arith;
  seen = λ honest holds. refl;
  images = λ honest holds c image. image;
  time = λ honest holds. quiet old (IsImage old.medium) (timely honest) (λ c image. image);
  faults = omega arith;
}

-- where all bytes are loose on a medium that isn't bytewise, a crash may leave any
pub any_image : (old new : Medium) (n : ℕ) → IsRewrittenTo old n new → n ≡ length old.seen → old.bytewise ≡ false → length old.sure ≤ length old.seen → (c : List ℕ) → AreBytes c → length c ≡ length old.seen → IsImage new c
any_image old new n so all off short c bytes long = record {
  bytes = bytes;
  no_shorter = omega (arith, ap length so.sure, short, long);
  no_longer = omega (arith, ap length so.seen, long);
  sure = λ i lt shut. absurd (true≢false (sym (so.loose i (omega (arith, lt, ap length so.sure, short, all))) ∙ shut));
  each = λ on i lt. absurd (true≢false (sym on ∙ so.bytewise ∙ off));
}

-- a write of the bytes that are read there, done or failed
module _ {E : Type 0} (r : Result (Unit {0}) E) (old new : Device) (at n : ℕ) (bytes : List ℕ) (timely : IsTrue old.honest → IsTimely old) (call : IsCall old new (IsErr r))
    (is : IsTrue old.honest → OnOk r (new.medium ≡ written old.medium at bytes))
    (fails : IsTrue old.honest → OnErr r ((new.medium ≡ old.medium) ⊎ WriteFailed old.medium at bytes new.medium))
    (within : IsTrue old.honest → at + n ≤ length old.medium.seen) (are : IsTrue old.honest → bytes ≡ slice_range old.medium.seen at (at + n)) where
  abbrev there : List ℕ
  there = slice_range old.medium.seen at (at + n)

  is_there : IsTrue old.honest → OnOk r (new.medium ≡ written old.medium at there)
  is_there honest = subst (λ b. OnOk r (new.medium ≡ written old.medium at b)) (are honest) (is honest)

  fails_there : IsTrue old.honest → OnErr r ((new.medium ≡ old.medium) ⊎ WriteFailed old.medium at there new.medium)
  fails_there honest = subst (λ b. OnErr r ((new.medium ≡ old.medium) ⊎ WriteFailed old.medium at b new.medium)) (are honest) (fails honest)

  pub write_keeps : KeepsImages (old.medium.bytewise ≡ true) old new
  write_keeps =
      call_keeps (old.medium.bytewise ≡ true) old new (IsErr r) timely call
      (λ honest. write_bytewise r old.medium new.medium at there (is_there honest) (fails_there honest))
      (λ honest on. write_seen old.medium at n (within honest) (timely honest).consistent on r new.medium (is_there honest) (fails_there honest))
      (λ honest on. write_image old.medium at n (within honest) (timely honest).consistent on r new.medium (is_there honest) (fails_there honest))

  pub write_more : IsTrue old.honest → OnOk r ((start : Medium) → IsRewrittenTo start at old.medium → IsRewrittenTo start (at + n) new.medium)
  write_more honest = on_ok r _ _ (λ done start so. subst (IsRewrittenTo start (at + n)) (sym done) (rewritten_more start old.medium at n (within honest) so)) (is_there honest)

-- a sync, done or failed
module _ {E : Type 0} (r : Result (Unit {0}) E) (old new : Device) (timely : IsTrue old.honest → IsTimely old) (call : IsCall old new (IsErr r))
    (is : IsTrue old.honest → OnOk r (new.medium ≡ synced old.medium)) (bytes : IsTrue old.honest → OnOk r (AreBytes new.medium.seen)) (fails : IsTrue old.honest → OnErr r (new.medium ≡ old.medium)) where
  pub sync_keeps : (P : Type 0) → KeepsImages P old new
  sync_keeps P =
      call_keeps P old new (IsErr r) timely call
      (λ honest. sync_bytewise r old.medium new.medium (is honest) (fails honest))
      (λ honest holds. sync_seen r old.medium new.medium (is honest) (fails honest))
      (λ honest holds c image. sync_image r old.medium new.medium (timely honest).consistent (is honest) (bytes honest) (fails honest) c image)

  -- after all bytes were written
  module _ (start : Device) (n : ℕ) (start_timely : IsTrue start.honest → IsTimely start) (keeps : KeepsImages (start.medium.bytewise ≡ true) start old)
      (so : IsTrue start.honest → IsRewrittenTo start.medium n old.medium) (honest : IsTrue start.honest) where
    still : IsTrue old.honest
    still = subst IsTrue (sym keeps.honest) honest

    pub rewritten_same : OnOk r (new.medium ≡ synced start.medium)
    rewritten_same = on_ok r _ _ (λ done. done ∙ rewritten_synced start.medium n old.medium (so honest)) (is still)

    pub rewritten_any : n ≡ length start.medium.seen → start.medium.bytewise ≡ false → LeavesAny start new
    rewritten_any all off m c le are long =
        let past : m ≤ old.moment = omega (arith, le, keeps.later honest) in
        let left = (timely still).counts_now m c past (any_image start.medium old.medium n (so honest) all off (start_timely honest).consistent.no_shorter c are long) in
        (call.time still).keeps m c past left

-- what was any after the first calls was so since before them
pub any_before : (P : Type 0) (old mid new : Device) → IsTrue old.honest → KeepsImages P old mid → length mid.medium.seen ≡ length old.medium.seen → LeavesAny mid new → LeavesAny old new
any_before P old mid new honest keeps same left m c le are long = left m c (omega (arith, le, keeps.later honest)) are (long ∙ sym same)

-- a read, and the write of what was read
module _ {E : Type 0} (r : Result (Unit {0}) E) (F : Type 0) (old mid new : Device) (at n : ℕ) (bytes : List ℕ) (timely : IsTrue old.honest → IsTimely old) (read : IsCall old mid F)
    (same : IsTrue old.honest → mid.medium ≡ old.medium) (within : IsTrue old.honest → at + n ≤ length old.medium.seen) (are : IsTrue old.honest → bytes ≡ slice_range old.medium.seen at (at + n))
    (mid_timely : IsTrue mid.honest → IsTimely mid) (call : IsCall mid new (IsErr r)) (is : IsTrue mid.honest → OnOk r (new.medium ≡ written mid.medium at bytes))
    (fails : IsTrue mid.honest → OnErr r ((new.medium ≡ mid.medium) ⊎ WriteFailed mid.medium at bytes new.medium)) where
  begun : IsTrue mid.honest → IsTrue old.honest
  begun honest = subst IsTrue read.honest honest

  mid_within : IsTrue mid.honest → at + n ≤ length mid.medium.seen
  mid_within honest = subst (λ (m : Medium). at + n ≤ length m.seen) (sym (same (begun honest))) (within (begun honest))

  mid_are : IsTrue mid.honest → bytes ≡ slice_range mid.medium.seen at (at + n)
  mid_are honest = subst (λ (m : Medium). bytes ≡ slice_range m.seen at (at + n)) (sym (same (begun honest))) (are (begun honest))

  pub piece_keeps : KeepsImages (old.medium.bytewise ≡ true) old new
  piece_keeps =
      keeps_then (old.medium.bytewise ≡ true) (mid.medium.bytewise ≡ true) old mid new
      (λ honest on. ap (λ (m : Medium). m.bytewise) (same honest) ∙ on)
      (same_keeps (old.medium.bytewise ≡ true) old mid F timely read same)
      (write_keeps r mid new at n bytes mid_timely call is fails mid_within mid_are)

  pub piece_more : IsTrue old.honest → OnOk r ((start : Medium) → IsRewrittenTo start at old.medium → IsRewrittenTo start (at + n) new.medium)
  piece_more honest =
      subst (λ (m : Medium). OnOk r ((start : Medium) → IsRewrittenTo start at m → IsRewrittenTo start (at + n) new.medium)) (same honest)
      (write_more r mid new at n bytes mid_timely call is fails mid_within mid_are (subst IsTrue (sym read.honest) honest))
