-- The law of devices, for a disk over a file: what is read agrees with what is durable, and each image of the file is one of the disk.
use Rattle.std.specs.Prelude.{◌≡◌, ◌⊎◌, ℕ, ◌+◌, ◌-◌, ◌≤◌, ◌<◌, Bool, true, false, List, [], ◌∷◌, length, slice_index}
use Rattle.std.proofs.{Common.{inl, inr, ⊎_elim, refl, sym, ◌∙◌, arith}, lemmas.Bool.{false≢true, Decides.{nat_tests}}}
use Rattle.lz_disk.specs.{Images.{Medium, IsImage, IsConsistent, WasWritten, is_loose, overwritten}, Devices.{Device, IsTimely}, Gathers.{Waiting}}
use Rattle.lz_disk.specs.{FileDisks.{IsOver, device_over, medium_over, was_written}, Timely.{longer, written_consistent}}

pub tells : (writes : List (ℕ × List ℕ)) (i b : ℕ) → was_written writes i b ≡ true → WasWritten writes i b
tells [] i b is = absurd (false≢true is)
tells ((at, bytes) ∷ writes) i b is =
    let here : ((at ≤ i) × (i < at + length bytes) × (slice_index bytes (i - at) ≡ b)) ⊎ (was_written writes i b ≡ true) = grind (arith, nat_tests) in
    ⊎_elim inl (λ rest. inr (tells writes i b rest)) here

pub shows : (writes : List (ℕ × List ℕ)) (i b : ℕ) → WasWritten writes i b → was_written writes i b ≡ true
shows [] i b was = absurd was
shows ((at, bytes) ∷ writes) i b (inl (low, high, is)) = grind (arith, nat_tests)
shows ((at, bytes) ∷ writes) i b (inr was) = let rest : was_written writes i b ≡ true = shows writes i b was in grind (arith, nat_tests)

-- a position that isn't loose has no byte that was written
pub unwritten : (writes : List (ℕ × List ℕ)) (i b : ℕ) → is_loose writes i ≡ false → WasWritten writes i b → ⊥
unwritten [] i b shut was = was
unwritten ((at, bytes) ∷ writes) i b shut (inl (low, high, is)) = grind (arith, nat_tests)
unwritten ((at, bytes) ∷ writes) i b shut (inr was) = let rest : is_loose writes i ≡ false = grind (arith, nat_tests) in unwritten writes i b rest was

-- and one that has none isn't loose
pub untouched : (writes : List (ℕ × List ℕ)) (i : ℕ) → ((b : ℕ) → WasWritten writes i b → ⊥) → is_loose writes i ≡ false
untouched [] i none = refl
untouched ((at, bytes) ∷ writes) i none =
    let rest : is_loose writes i ≡ false = untouched writes i (λ b was. none b (inr was)) in
    let out : ((at ≤ i) × (i < at + length bytes)) → ⊥ = λ within. none (slice_index bytes (i - at)) (inl (within.0, within.1, refl)) in
    grind (arith, nat_tests)

module _ (loose loose' : List (ℕ × List ℕ)) (more : (i b : ℕ) → WasWritten loose i b → WasWritten loose' i b) where
  still_shut : (i : ℕ) → is_loose loose' i ≡ false → is_loose loose i ≡ false
  still_shut i shut = untouched loose i (λ b was. unwritten loose' i b shut (more i b was))

  -- where the end as read lies further and more is loose, there are more images
  pub wider : (bytewise : Bool) (sure seen seen' : List ℕ) → length seen ≤ length seen' → (c : List ℕ)
      → IsImage (record { bytewise = bytewise; sure = sure; seen = seen; loose = loose }) c → IsImage (record { bytewise = bytewise; sure = sure; seen = seen'; loose = loose' }) c
  wider bytewise sure seen seen' far c image = record {
    bytes = image.bytes;
    no_shorter = image.no_shorter;
    no_longer = omega (arith, image.no_longer, far);
    sure = λ i lt shut. image.sure i lt (still_shut i shut);
    each = λ on i lt. ⊎_elim inl (λ was. inr (more i (slice_index c i) was)) (image.each on i lt);
  }

  pub looser : (bytewise : Bool) (sure seen : List ℕ)
      → IsConsistent (record { bytewise = bytewise; sure = sure; seen = seen; loose = loose }) → IsConsistent (record { bytewise = bytewise; sure = sure; seen = seen; loose = loose' })
  looser bytewise sure seen held = record {
    no_shorter = held.no_shorter;
    same = λ i lt shut. held.same i lt (still_shut i shut);
    each = λ on i lt. ⊎_elim inl (λ was. inr (more i (slice_index seen i) was)) (held.each on i lt);
  }

module _ (file : Medium) (waiting : Waiting) (unsynced : List (ℕ × List ℕ)) (over : IsOver file waiting unsynced) where
  -- what is loose in the file or waits was written since the last sync
  pub is_unsynced : (i b : ℕ) → WasWritten ((waiting.at, waiting.bytes) ∷ file.loose) i b → WasWritten unsynced i b
  is_unsynced i b was = tells unsynced i b (over.1 i b ∙ shows ((waiting.at, waiting.bytes) ∷ file.loose) i b was)

  pub is_loose_below : (i b : ℕ) → WasWritten unsynced i b → WasWritten ((waiting.at, waiting.bytes) ∷ file.loose) i b
  is_loose_below i b was = tells ((waiting.at, waiting.bytes) ∷ file.loose) i b (sym (over.1 i b) ∙ shows unsynced i b was)

  pub file_image : (c : List ℕ) → IsImage file c → IsImage (medium_over file waiting unsynced) c
  file_image c image = wider file.loose unsynced (λ i b was. is_unsynced i b (inr was)) file.bytewise file.sure file.seen _ (longer file.seen waiting.at waiting.bytes) c image

  consistent : IsConsistent file → IsConsistent (medium_over file waiting unsynced)
  consistent held = looser _ unsynced is_unsynced file.bytewise file.sure (overwritten file.seen waiting.at waiting.bytes) (written_consistent file waiting.at waiting.bytes held)

pub timely : (file : Device) (waiting : Waiting) (unsynced : List (ℕ × List ℕ)) (calls : ℕ) → IsTimely file → IsOver file.medium waiting unsynced
    → IsTimely (device_over file waiting unsynced calls)
timely file waiting unsynced calls held over = record {
  counts_now = λ t c le image. inr image;
  only_now = λ c left. ⊎_elim (λ past. file_image file.medium waiting unsynced over c (held.only_now c past)) (λ now. now) left;
  consistent = consistent file.medium waiting unsynced over held.consistent;
}
