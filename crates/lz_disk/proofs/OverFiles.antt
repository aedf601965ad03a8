-- How a disk over a file goes on where the file is called or a write waits.
use Rattle.std.proofs.Common.{◌≡◌, ◌⊎◌, inl, inr, ⊎_elim, IsTrue, ℕ, ◌+◌, ◌-◌, ◌≤◌, ◌<◌, Bool, true, false, ◌||◌, List, [], ◌∷◌, ◌++◌, length, take, drop, refl}
use Rattle.std.proofs.{Common.{sym, ◌∙◌, ap, subst, arith, length-append}, lemmas.List.{take-append-drop, get_or_append_left, get_or-append_right}}
use Rattle.std.{proofs.lemmas.Bool.{cases_lt, Decides.{nat_tests}}, specs.Prelude.{slice_index, Result, Ok, Err, OnOk, OnErr, IsErr}}
use Rattle.lz_disk.specs.{Images.{Medium, IsImage, WasWritten, WriteFailed, overwritten, written, synced}, Devices.{Device, Elapses, IsCall, IsTimely}}
use Rattle.lz_disk.specs.{declared.DeviceFault.{DeviceFault}, Gathers.{Waiting, Joined}}
use Rattle.lz_disk.specs.{FileDisks.{IsOver, IsPart, KeepsFile, device_over, medium_over, was_written}, Timely.{longer}}
use Rattle.lz_disk.{specs.TimelyOver.{file_image, is_loose_below, timely as timely_over, wider}, proofs.GatheredWrites.{joined}}

-- a write of no bytes
nothing : (t : List ℕ) (at : ℕ) → overwritten t at [] ≡ t
nothing t at = let same : at + 0 ≡ at = omega arith in ap (λ (n : ℕ). take at t ++ drop n t) same ∙ take-append-drop at t

pub nothing_waits : (t : List ℕ) (at : ℕ) (bytes : List ℕ) → bytes ≡ [] → overwritten t at bytes ≡ t
nothing_waits t at bytes none = ap (overwritten t at) none ∙ nothing t at

nothing_written : (at : ℕ) (bytes : List ℕ) (writes : List (ℕ × List ℕ)) (i b : ℕ) → bytes ≡ [] → was_written ((at, bytes) ∷ writes) i b ≡ was_written writes i b
nothing_written at bytes writes i b none = let size : length bytes ≡ 0 = ap length none in grind (arith, nat_tests)

-- where no write waits, each image of the disk is one of the file
pub disk_image : (file : Medium) (waiting : Waiting) (unsynced : List (ℕ × List ℕ)) → IsOver file waiting unsynced → waiting.bytes ≡ []
    → (c : List ℕ) → IsImage (medium_over file waiting unsynced) c → IsImage file c
disk_image file waiting unsynced over none c image =
    let size : length (overwritten file.seen waiting.at waiting.bytes) ≡ length file.seen = ap length (nothing_waits file.seen waiting.at waiting.bytes none) in
    let empty : length waiting.bytes ≡ 0 = ap length none in
    let below : (i b : ℕ) → WasWritten unsynced i b → WasWritten file.loose i b =
    λ i b was. ⊎_elim (λ here. absurd (omega (arith, here.0, here.1, empty))) (λ rest. rest) (is_loose_below file waiting unsynced over i b was) in
    wider unsynced file.loose below file.bytewise file.sure _ file.seen (omega (arith, size)) c image

-- the writes that wait were made
pub made_keeps : (file : Medium) (waiting : Waiting) (unsynced : List (ℕ × List ℕ)) → IsOver file waiting unsynced
    → IsOver (written file waiting.at waiting.bytes) (record { at = waiting.at; bytes = [] }) unsynced
made_keeps file waiting unsynced over = (
  omega (arith, over.0, longer file.seen waiting.at waiting.bytes),
  λ i b. over.1 i b ∙ sym (nothing_written waiting.at [] ((waiting.at, waiting.bytes) ∷ file.loose) i b refl),
)

pub made_medium : (file : Medium) (waiting : Waiting) (unsynced : List (ℕ × List ℕ))
    → medium_over (written file waiting.at waiting.bytes) (record { at = waiting.at; bytes = [] }) unsynced ≡ medium_over file waiting unsynced
made_medium file waiting unsynced = grind (arith, nothing)

-- that failed, and they wait on
twice : (x y : Bool) → (x || y) ≡ (x || (x || y))
twice true y = refl
twice false y = refl

pub failed_keeps : (file new : Medium) (waiting : Waiting) (unsynced : List (ℕ × List ℕ)) → IsOver file waiting unsynced
    → WriteFailed file waiting.at waiting.bytes new → IsOver new waiting unsynced
failed_keeps file new waiting unsynced over failed = grind arith

pub failed_medium : (file new : Medium) (waiting : Waiting) (unsynced : List (ℕ × List ℕ)) → WriteFailed file waiting.at waiting.bytes new
    → medium_over new waiting unsynced ≡ medium_over file waiting unsynced
failed_medium file new waiting unsynced failed = rw (failed.bytewise, failed.sure, failed.before, failed.after) refl

-- a write joined those that wait
joined_written : (before : ℕ) (xs ys : List ℕ) (writes : List (ℕ × List ℕ)) (i b : ℕ)
    → was_written ((before + length xs, ys) ∷ (before, xs) ∷ writes) i b ≡ was_written ((before, xs ++ ys) ∷ writes) i b
joined_written before xs ys writes i b =
    let size : length (xs ++ ys) ≡ length xs + length ys = length-append xs ys in
    ⊎_elim
    (λ low. grind (arith, nat_tests))
    (λ le. ⊎_elim
    (λ lt.
    let here : slice_index (xs ++ ys) (i - before) ≡ slice_index xs (i - before) = get_or_append_left xs ys 0 (i - before) (omega arith) in
    grind (arith, nat_tests))
    (λ past.
    let here : slice_index (xs ++ ys) (i - before) ≡ slice_index ys (i - (before + length xs)) =
    get_or-append_right xs ys (length xs) (i - before) 0 refl (omega arith) ∙ ap (λ (n : ℕ). slice_index ys n) (omega arith) in
    grind (arith, nat_tests))
    (cases_lt i (before + length xs)))
    (cases_lt i before)

module _ (file : Medium) (old new : Waiting) (unsynced : List (ℕ × List ℕ)) (at : ℕ) (bytes : List ℕ) (over : IsOver file old unsynced)
    (place : at ≤ length (overwritten file.seen old.at old.bytes)) (join : Joined at bytes old new) where
  same_start : overwritten file.seen old.at old.bytes ≡ overwritten file.seen new.at old.bytes
  same_start = grind (arith, nothing_waits)

  begins : new.at ≤ length file.seen
  begins = grind (arith, nothing_waits)

  moved : (i b : ℕ) → was_written ((old.at, old.bytes) ∷ file.loose) i b ≡ was_written ((new.at, old.bytes) ∷ file.loose) i b
  moved i b = grind (arith, nothing_written)

  pub joined_keeps : IsOver file new ((at, bytes) ∷ unsynced)
  joined_keeps = grind (arith, begins, joined_written)

  pub joined_medium : medium_over file new ((at, bytes) ∷ unsynced) ≡ written (medium_over file old unsynced) at bytes
  joined_medium = grind (arith, joined, begins, same_start)

  pub joined_image : (c : List ℕ) → IsImage (medium_over file old unsynced) c → IsImage (medium_over file new ((at, bytes) ∷ unsynced)) c
  joined_image c image =
      subst (λ (m : Medium). IsImage m c) (sym joined_medium)
      (wider unsynced ((at, bytes) ∷ unsynced) (λ i b was. inr was) file.bytewise file.sure _ _ (longer (overwritten file.seen old.at old.bytes) at bytes) c image)

-- a write was made, or failed, where none waits
module _ (file new : Medium) (waiting : Waiting) (unsynced : List (ℕ × List ℕ)) (none : waiting.bytes ≡ []) where
  pub unchanged : new ≡ file → take (length new.loose - length file.loose) new.loose ++ unsynced ≡ unsynced
  unchanged same = grind arith

  module _ (at : ℕ) (bytes : List ℕ) (loose : new.loose ≡ (at, bytes) ∷ file.loose) where
    pub one_more : take (length new.loose - length file.loose) new.loose ++ unsynced ≡ (at, bytes) ∷ unsynced
    one_more = grind arith

    pub through_keeps : IsOver file waiting unsynced → length file.seen ≤ length new.seen → IsOver new waiting ((at, bytes) ∷ unsynced)
    through_keeps over longer = grind (arith, nothing_written)

  pub through_medium : (at : ℕ) (bytes : List ℕ) → new ≡ written file at bytes
      → medium_over new waiting ((at, bytes) ∷ unsynced) ≡ written (medium_over file waiting unsynced) at bytes
  through_medium at bytes is = grind (arith, nothing_waits)

  pub through_failed : (at : ℕ) (bytes : List ℕ) → WriteFailed file at bytes new
      → WriteFailed (medium_over file waiting unsynced) at bytes (medium_over new waiting ((at, bytes) ∷ unsynced))
  through_failed at bytes failed = grind (arith, nothing_waits)

  pub synced_keeps : IsOver file waiting unsynced → new ≡ synced file → IsOver new waiting []
  synced_keeps over is = subst (λ (m : Medium). IsOver m waiting []) (sym is) (over.0, λ i b. sym (nothing_written waiting.at waiting.bytes [] i b none))

-- a call of the file, as a part of one of the disk
module _ (file new : Device) (waiting waiting' : Waiting) (unsynced unsynced' : List (ℕ × List ℕ)) (calls : ℕ) {fault : Type 0}
    (timely : IsTrue file.honest → IsTimely file) (call : IsCall file new fault) (keeps : KeepsFile new waiting' unsynced')
    (stays : IsTrue file.honest → (c : List ℕ) → IsImage (medium_over file.medium waiting unsynced) c
    → IsImage (medium_over new.medium waiting' unsynced') c ⊎ IsImage file.medium c) where
  time : IsTrue file.honest → Elapses (device_over file waiting unsynced calls) (device_over new waiting' unsynced' calls)
  time honest =
      let over : IsOver new.medium waiting' unsynced' = keeps (subst IsTrue (sym call.honest) honest) in
      let on = call.time honest in
      record {
        later = on.later;
        nothing_else = λ t c le left. ⊎_elim (λ below. ⊎_elim (λ past. inl (inl past)) (λ now. inr (file_image new.medium waiting' unsynced' over c now)) (on.nothing_else t c le below)) inr left;
        keeps = λ t c le left. ⊎_elim
            (λ below. inl (on.keeps t c le below))
            (λ here. ⊎_elim inr (λ below. inl (on.keeps t c le ((timely honest).counts_now t c le below))) (stays honest c here))
            left;
      }

  pub part : IsPart (device_over file waiting unsynced calls) (device_over new waiting' unsynced' calls) fault
  part = record { honest = call.honest; calls = refl; later = call.later; cause = call.cause; time = time }

-- no call of the file
pub still : (file : Device) (waiting waiting' : Waiting) (unsynced unsynced' : List (ℕ × List ℕ)) (calls : ℕ)
    → (IsTrue file.honest → (c : List ℕ) → IsImage (medium_over file.medium waiting unsynced) c → IsImage (medium_over file.medium waiting' unsynced') c)
    → IsPart (device_over file waiting unsynced calls) (device_over file waiting' unsynced' calls) ⊥
still file waiting waiting' unsynced unsynced' calls stays = grind (arith, time)

-- one part after another that leaves the medium
pub part_then : (a b c : Device) {fault last : Type 0} → (IsTrue a.honest → IsTimely a) → (IsTrue a.honest → b.medium ≡ a.medium)
    → IsPart a b fault → IsPart b c last → IsPart a c last
part_then a b c timely same first second = record {
  honest = second.honest ∙ first.honest;
  calls = second.calls ∙ first.calls;
  later = omega (arith, first.later, second.later);
  cause = λ failed. (let grew : b.faults < c.faults = second.cause failed in omega (arith, first.later, grew));
  time = λ honest.
      let one = first.time honest in
      let two = second.time (subst IsTrue (sym first.honest) honest) in
      record {
        later = omega (arith, one.later, two.later);
        nothing_else = λ t x le left.
            ⊎_elim (λ past. ⊎_elim inl (λ now. inl ((timely honest).counts_now t x le (subst (λ (m : Medium). IsImage m x) (same honest) now))) (one.nothing_else t x le past)) inr
            (two.nothing_else t x (omega (arith, le, one.later)) left);
        keeps = λ t x le left. two.keeps t x (omega (arith, le, one.later)) (one.keeps t x le left);
      };
}

-- the whole call, which is counted at its beginning
pub whole : (file : Device) (waiting : Waiting) (unsynced : List (ℕ × List ℕ)) (calls : ℕ) (new : Device) {fault : Type 0}
    → IsPart (device_over file waiting unsynced (calls + 1)) new fault → IsCall (device_over file waiting unsynced calls) new fault
whole file waiting unsynced calls new done = grind (arith, time)

-- the disk hands the writes over that wait
module _ (file new : Device) (waiting : Waiting) (unsynced : List (ℕ × List ℕ)) (calls : ℕ) {fault : Type 0}
    (timely : IsTrue file.honest → IsTimely file) (keeps : KeepsFile file waiting unsynced) (call : IsCall file new fault) where
  was : IsTrue new.honest → IsTrue file.honest
  was honest = subst IsTrue call.honest honest

  abbrev cleared : Waiting
  cleared = record { at = waiting.at; bytes = [] }

  module _ (made : IsTrue file.honest → new.medium ≡ written file.medium waiting.at waiting.bytes) where
    pub handed_keeps : KeepsFile new cleared unsynced
    handed_keeps honest = subst (λ (m : Medium). IsOver m cleared unsynced) (sym (made (was honest))) (made_keeps file.medium waiting unsynced (keeps (was honest)))

    pub handed_medium : IsTrue file.honest → medium_over new.medium cleared unsynced ≡ medium_over file.medium waiting unsynced
    handed_medium honest = ap (λ (m : Medium). medium_over m cleared unsynced) (made honest) ∙ made_medium file.medium waiting unsynced

    pub handed_part : IsPart (device_over file waiting unsynced calls) (device_over new cleared unsynced calls) fault
    handed_part = part file new waiting cleared unsynced unsynced calls timely call handed_keeps (λ honest c image. inl (subst (λ (m : Medium). IsImage m c) (sym (handed_medium honest)) image))

  module _ (failed : IsTrue file.honest → (new.medium ≡ file.medium) ⊎ WriteFailed file.medium waiting.at waiting.bytes new.medium) where
    pub waits_keeps : KeepsFile new waiting unsynced
    waits_keeps honest = ⊎_elim
        (λ same. subst (λ (m : Medium). IsOver m waiting unsynced) (sym same) (keeps (was honest)))
        (λ partly. failed_keeps file.medium new.medium waiting unsynced (keeps (was honest)) partly)
        (failed (was honest))

    pub waits_medium : IsTrue file.honest → medium_over new.medium waiting unsynced ≡ medium_over file.medium waiting unsynced
    waits_medium honest = ⊎_elim (λ same. ap (λ (m : Medium). medium_over m waiting unsynced) same) (failed_medium file.medium new.medium waiting unsynced) (failed honest)

    pub waits_part : IsPart (device_over file waiting unsynced calls) (device_over new waiting unsynced calls) fault
    waits_part = part file new waiting waiting unsynced unsynced calls timely call waits_keeps (λ honest c image. inl (subst (λ (m : Medium). IsImage m c) (sym (waits_medium honest)) image))

-- a write waits with those before it
module _ (file : Device) (old new : Waiting) (unsynced : List (ℕ × List ℕ)) (at : ℕ) (bytes : List ℕ) (keeps : KeepsFile file old unsynced)
    (place : IsTrue file.honest → at ≤ length (overwritten file.medium.seen old.at old.bytes)) (join : Joined at bytes old new) where
  pub gathered_keeps : KeepsFile file new ((at, bytes) ∷ unsynced)
  gathered_keeps honest = joined_keeps file.medium old new unsynced at bytes (keeps honest) (place honest) join

  pub gathered_medium : IsTrue file.honest → medium_over file.medium new ((at, bytes) ∷ unsynced) ≡ written (medium_over file.medium old unsynced) at bytes
  gathered_medium honest = joined_medium file.medium old new unsynced at bytes (keeps honest) (place honest) join

  pub gathered_part : (calls : ℕ) → IsPart (device_over file old unsynced calls) (device_over file new ((at, bytes) ∷ unsynced) calls) ⊥
  gathered_part calls = still file old new unsynced ((at, bytes) ∷ unsynced) calls (λ honest. joined_image file.medium old new unsynced at bytes (keeps honest) (place honest) join)

-- a write is made where none waits
became : (result : Result (Unit {0}) DeviceFault) {A B : Type 0} → OnOk result A → OnErr result B → A ⊎ B
became (Ok done) a b = inl a
became (Err fault) a b = inr b

module _ (file new : Device) (waiting : Waiting) (unsynced : List (ℕ × List ℕ)) (calls : ℕ) (timely : IsTrue file.honest → IsTimely file)
    (keeps : KeepsFile file waiting unsynced) (none : waiting.bytes ≡ []) (at : ℕ) (bytes : List ℕ) (result : Result (Unit {0}) DeviceFault) (call : IsCall file new (IsErr result))
    (done : IsTrue file.honest → OnOk result (new.medium ≡ written file.medium at bytes))
    (failed : IsTrue file.honest → OnErr result ((new.medium ≡ file.medium) ⊎ WriteFailed file.medium at bytes new.medium)) where
  abbrev pub after : List (ℕ × List ℕ)
  after = take (length new.medium.loose - length file.medium.loose) new.medium.loose ++ unsynced

  grown : (loose : new.medium.loose ≡ (at, bytes) ∷ file.medium.loose) → length file.medium.seen ≤ length new.medium.seen → IsOver file.medium waiting unsynced → IsOver new.medium waiting after
  grown loose longer over =
      subst (IsOver new.medium waiting) (sym (one_more file.medium new.medium waiting unsynced none at bytes loose)) (through_keeps file.medium new.medium waiting unsynced none at bytes loose over longer)

  pub through_over : KeepsFile new waiting after
  through_over honest' =
      let honest : IsTrue file.honest = subst IsTrue call.honest honest' in
      let over = keeps honest in
      ⊎_elim
      (λ is.
      let far : length file.medium.seen ≤ length (overwritten file.medium.seen at bytes) = longer file.medium.seen at bytes in
      grown (ap (λ (m : Medium). m.loose) is) (subst (λ (m : Medium). length file.medium.seen ≤ length m.seen) (sym is) far) over)
      (λ not. ⊎_elim
      (λ same. subst (IsOver new.medium waiting) (sym (unchanged file.medium new.medium waiting unsynced none same)) (subst (λ (m : Medium). IsOver m waiting unsynced) (sym same) over))
      (λ partly. grown partly.loose partly.no_shorter over)
      not)
      (became result (done honest) (failed honest))

  pub through_part : IsPart (device_over file waiting unsynced calls) (device_over new waiting after calls) (IsErr result)
  through_part = part file new waiting waiting unsynced after calls timely call through_over (λ honest c image. inr (disk_image file.medium waiting unsynced (keeps honest) none c image))

  pub through_written : IsTrue file.honest → OnOk result (medium_over new.medium waiting after ≡ written (medium_over file.medium waiting unsynced) at bytes)
  through_written honest = on result (done honest)
    where
      on : (r : Result (Unit {0}) DeviceFault) → OnOk r (new.medium ≡ written file.medium at bytes) → OnOk r (medium_over new.medium waiting after ≡ written (medium_over file.medium waiting unsynced) at bytes)
      on (Ok x) is =
          ap (medium_over new.medium waiting) (one_more file.medium new.medium waiting unsynced none at bytes (ap (λ (m : Medium). m.loose) is))
          ∙ through_medium file.medium new.medium waiting unsynced none at bytes is
      on (Err fault) is = tt

  pub through_faulted : IsTrue file.honest
      → OnErr result ((medium_over new.medium waiting after ≡ medium_over file.medium waiting unsynced) ⊎ WriteFailed (medium_over file.medium waiting unsynced) at bytes (medium_over new.medium waiting after))
  through_faulted honest = on result (failed honest)
    where
      on : (r : Result (Unit {0}) DeviceFault) → OnErr r ((new.medium ≡ file.medium) ⊎ WriteFailed file.medium at bytes new.medium)
          → OnErr r ((medium_over new.medium waiting after ≡ medium_over file.medium waiting unsynced) ⊎ WriteFailed (medium_over file.medium waiting unsynced) at bytes (medium_over new.medium waiting after))
      on (Ok x) not = tt
      on (Err fault) not = ⊎_elim
          (λ same. inl (ap (medium_over new.medium waiting) (unchanged file.medium new.medium waiting unsynced none same) ∙ ap (λ (m : Medium). medium_over m waiting unsynced) same))
          (λ partly.
          let faulted = through_failed file.medium new.medium waiting unsynced none at bytes partly in
          inr (subst (λ (l : List (ℕ × List ℕ)). WriteFailed (medium_over file.medium waiting unsynced) at bytes (medium_over new.medium waiting l)) (sym (one_more file.medium new.medium waiting unsynced none at bytes partly.loose)) faulted))
          not

-- the file is synced where no write waits
module _ (file new : Device) (waiting : Waiting) (unsynced : List (ℕ × List ℕ)) (calls : ℕ) {fault : Type 0} (timely : IsTrue file.honest → IsTimely file)
    (keeps : KeepsFile file waiting unsynced) (none : waiting.bytes ≡ []) (call : IsCall file new fault) (is : IsTrue file.honest → new.medium ≡ synced file.medium) where
  pub durable_keeps : KeepsFile new waiting []
  durable_keeps honest' = let honest : IsTrue file.honest = subst IsTrue call.honest honest' in synced_keeps file.medium new.medium waiting unsynced none (keeps honest) (is honest)

  pub durable_part : IsPart (device_over file waiting unsynced calls) (device_over new waiting [] calls) fault
  durable_part = part file new waiting waiting unsynced [] calls timely call durable_keeps (λ honest c image. inr (disk_image file.medium waiting unsynced (keeps honest) none c image))

-- a call of the disk: the writes that wait are handed over, and then the file is called, or a write waits
module _ (file : Device) (waiting : Waiting) (unsynced : List (ℕ × List ℕ)) (calls : ℕ) (mid new : Device) {fault last : Type 0}
    (timely : IsTrue file.honest → IsTimely file) (keeps : KeepsFile file waiting unsynced)
    (same : IsTrue file.honest → mid.medium ≡ medium_over file.medium waiting unsynced)
    (first : IsPart (device_over file waiting unsynced (calls + 1)) mid fault) (second : IsPart mid new last) where
  pub call_then : IsCall (device_over file waiting unsynced calls) new last
  call_then =
      whole file waiting unsynced calls new
      (part_then (device_over file waiting unsynced (calls + 1)) mid new (λ honest. timely_over file waiting unsynced (calls + 1) (timely honest) (keeps honest)) same first second)
