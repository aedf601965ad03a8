-- The law of devices, for a front: each image of the file shows one of the front, and each image of the front is shown of one of the file.
use Rattle.lz_disk.proofs.Overwrites as over
use Rattle.std.specs.Prelude.{◌≡◌, ◌⊎◌, nat_le, nat_lt, bytes_eq, ℕ, zero, suc, ◌+◌, ◌-◌, ◌≤◌, ◌<◌, true, List, [], ◌∷◌, length, take, drop, get_or, slice_range}
use Rattle.std.proofs.{Common.{inl, inr, ⊎_elim, refl, sym, ◌∙◌, ap, subst, arith, length-append}, lemmas.Bool.{cases_Bool, cases_lt, Decides.{nat_tests}}}
use Rattle.std.proofs.lemmas.{List.{get_or-take, get_or-drop, get_or_append_left, get_or-append_right, get_or_past, length-take, length-drop}, List.Edits.{length-between, get_or-between}, Grind.{same_number_lists}, Slice.Eq.{bytes_eq-Decides}}
use Rattle.std.specs.List.{list_all}
use Rattle.byteorder.specs.{Endian.{big_bytes}}
use Rattle.lz_slot.proofs.Whole.{bytes_fit}
use Rattle.lz_slot.specs.{Bytes.{header_body, magic, open_byte}, declared.format.Format.TheVariants.{Four}}
use Rattle.lz_disk.specs.{Images.{AreBytes, IsConsistent, IsImage, Medium, WasWritten, overwritten}, Devices.{Device, IsTimely}}
use Rattle.lz_growth.specs.{Growths.{IsRaisable, growing_head, room_for, shown}, Fronts.{IsFronted, device_behind, front, grows, left_of}}

-- bytes that are tested to be some
pub tested : (l : List ℕ) → list_all (λ b. nat_lt b 256) l ≡ true → AreBytes l
tested [] is i = omega arith
tested (b ∷ l) is zero = grind (arith, nat_tests)
tested (b ∷ l) is (suc i) = let rest : list_all (λ b. nat_lt b 256) l ≡ true = grind (arith, nat_tests) in tested l rest i

-- the head that is shown
abbrev pub shown_head : ℕ → List ℕ
shown_head N = open_byte ∷ header_body Four N

-- Reads of what is shown.
module _ (N : ℕ) (t : List ℕ) where
  pub shown_low : (i : ℕ) → i < 16 → get_or (shown N t) i 0 ≡ get_or (shown_head N) i 0
  shown_low i low = get_or_append_left (shown_head N) (slice_range t 16 (room_for N)) 0 i low

  pub shown_slot : (i : ℕ) → 16 ≤ i → i < room_for N → get_or (shown N t) i 0 ≡ get_or t i 0
  shown_slot i low high =
      let there : 16 + (i - 16) ≡ i = omega arith in
      get_or-append_right (shown_head N) (slice_range t 16 (room_for N)) 16 i 0 refl low
      ∙ get_or-between t 16 (room_for N) (i - 16) 0 (omega arith)
      ∙ ap (λ (n : ℕ). get_or t n 0) there

  pub shown_length : room_for N ≤ length t → length (shown N t) ≡ room_for N
  shown_length long = omega (arith, length-append (shown_head N) (slice_range t 16 (room_for N)), length-between t 16 (room_for N) long)

  shown_past : (i : ℕ) → room_for N ≤ i → get_or (shown N t) i 0 ≡ 0
  shown_past i high =
      get_or_past (shown N t) i 0 (omega (arith, high, length-append (shown_head N) (slice_range t 16 (room_for N)), length-take (room_for N - 16) (drop 16 t)))

abbrev letters : List ℕ
letters = open_byte ∷ magic Four

head_bytes : (N : ℕ) → AreBytes (shown_head N)
head_bytes N i = ⊎_elim
    (λ low. subst (λ (b : ℕ). b < 256) (sym (get_or_append_left letters (big_bytes 8 N) 0 i low)) (tested letters refl i))
    (λ high. subst (λ (b : ℕ). b < 256) (sym (get_or-append_right letters (big_bytes 8 N) 8 i 0 refl high)) (bytes_fit N (i - 8)))
    (cases_lt i 8)

pub shown_bytes : (N : ℕ) (t : List ℕ) → AreBytes t → AreBytes (shown N t)
shown_bytes N t bytes i = ⊎_elim
    (λ low. subst (λ (b : ℕ). b < 256) (sym (shown_low N t i low)) (head_bytes N i))
    (λ past. ⊎_elim
    (λ high. subst (λ (b : ℕ). b < 256) (sym (shown_slot N t i past high)) (bytes i))
    (λ high. subst (λ (b : ℕ). b < 256) (sym (shown_past N t i high)) (omega arith))
    (cases_lt i (room_for N)))
    (cases_lt i 16)

-- Where two texts have one byte in the slots, they show one.
module _ (N : ℕ) (s t : List ℕ) (i : ℕ) (high : i < room_for N) where
  pub same_shown : (16 ≤ i → get_or t i 0 ≡ get_or s i 0) → get_or (shown N t) i 0 ≡ get_or (shown N s) i 0
  same_shown same = ⊎_elim
      (λ low. shown_low N t i low ∙ sym (shown_low N s i low))
      (λ past. shown_slot N t i past high ∙ same past ∙ sym (shown_slot N s i past high))
      (cases_lt i 16)

  each_shown : (loose : List (ℕ × List ℕ)) → (get_or t i 0 ≡ get_or s i 0) ⊎ WasWritten loose i (get_or t i 0)
      → (get_or (shown N t) i 0 ≡ get_or (shown N s) i 0) ⊎ WasWritten loose i (get_or (shown N t) i 0)
  each_shown loose may = ⊎_elim
      (λ low. inl (same_shown (λ past. absurd (omega (arith, low, past)))))
      (λ past. ⊎_elim
      (λ same. inl (same_shown (λ past. same)))
      (λ was. inr (subst (WasWritten loose i) (sym (shown_slot N t i past high)) was))
      may)
      (cases_lt i 16)

module _ (N : ℕ) (disk : Medium) (is : IsFronted N disk) where
  sure_size : length (shown N disk.sure) ≡ room_for N
  sure_size = shown_length N disk.sure is.sure_long

  seen_size : length (shown N disk.seen) ≡ room_for N
  seen_size = shown_length N disk.seen is.seen_long

  pub front_image : (t : List ℕ) → IsImage disk t → IsImage (front N disk) (shown N t)
  front_image t image =
      let size : length (shown N t) ≡ room_for N = shown_length N t (omega (arith, is.sure_long, image.no_shorter)) in
      record {
        bytes = shown_bytes N t image.bytes;
        no_shorter = omega (arith, size, sure_size);
        no_longer = omega (arith, size, seen_size);
        sure = λ i lt shut. same_shown N disk.sure t i (omega (arith, lt, sure_size)) (λ past. image.sure i (omega (arith, lt, sure_size, is.sure_long)) shut);
        each = λ on i lt. each_shown N disk.sure t i (omega (arith, lt, sure_size)) disk.loose (image.each on i (omega (arith, lt, sure_size, is.sure_long)));
      }

  pub front_consistent : IsConsistent disk → IsConsistent (front N disk)
  front_consistent held = record {
    no_shorter = omega (arith, sure_size, seen_size);
    same = λ i lt shut. same_shown N disk.sure disk.seen i (omega (arith, lt, sure_size)) (λ past. held.same i (omega (arith, lt, sure_size, is.sure_long)) shut);
    each = λ on i lt. each_shown N disk.sure disk.seen i (omega (arith, lt, sure_size)) disk.loose (held.each on i (omega (arith, lt, sure_size, is.sure_long)));
  }

  -- An image of the front is shown of the durable text with the image's slots.
  module _ (held : IsConsistent disk) (c : List ℕ) (image : IsImage (front N disk) c) where
    abbrev whole : List ℕ
    whole = overwritten disk.sure 16 (drop 16 c)

    size : length c ≡ room_for N
    size = omega (arith, image.no_shorter, image.no_longer, sure_size, seen_size)

    head : 16 ≤ length disk.sure
    head = omega (arith, is.sure_long)

    slots : 16 + length (drop 16 c) ≡ room_for N
    slots = omega (arith, size, length-drop 16 c)

    whole_size : length whole ≡ length disk.sure
    whole_size = over.size disk.sure 16 (drop 16 c) head (omega (arith, slots, is.sure_long))

    inside : (i : ℕ) → 16 ≤ i → i < room_for N → get_or whole i 0 ≡ get_or c i 0
    inside i past high =
        let there : 16 + (i - 16) ≡ i = omega arith in
        over.inside disk.sure 16 (drop 16 c) head i past (omega (arith, slots, high)) ∙ get_or-drop 16 c (i - 16) 0 ∙ ap (λ (n : ℕ). get_or c n 0) there

    outside : (i : ℕ) → (i < 16) ⊎ (room_for N ≤ i) → get_or whole i 0 ≡ get_or disk.sure i 0
    outside i out = ⊎_elim (over.below disk.sure 16 (drop 16 c) head i) (λ high. over.above disk.sure 16 (drop 16 c) head i (omega (arith, slots, high))) out

    -- by the place of a byte
    placed : (P : ℕ → ℕ → Type 0) (i : ℕ) → P i (get_or disk.sure i 0) → (16 ≤ i → i < room_for N → P i (get_or c i 0)) → P i (get_or whole i 0)
    placed P i there here = ⊎_elim
        (λ low. subst (P i) (sym (outside i (inl low))) there)
        (λ past. ⊎_elim
        (λ high. subst (P i) (sym (inside i past high)) (here past high))
        (λ high. subst (P i) (sym (outside i (inr high))) there)
        (cases_lt i (room_for N)))
        (cases_lt i 16)

    sure_slot : (i : ℕ) → 16 ≤ i → i < room_for N → get_or (shown N disk.sure) i 0 ≡ get_or disk.sure i 0
    sure_slot i past high = shown_slot N disk.sure i past high

    whole_image : IsImage disk whole
    whole_image = record {
      bytes = λ i. placed (λ n b. b < 256) i (is.bytes i) (λ past high. image.bytes i);
      no_shorter = omega (arith, whole_size);
      no_longer = omega (arith, whole_size, held.no_shorter);
      sure = λ i lt shut. placed (λ n b. b ≡ get_or disk.sure n 0) i refl (λ past high. image.sure i (omega (arith, high, sure_size)) shut ∙ sure_slot i past high);
      each = λ on i lt. placed (λ n b. (b ≡ get_or disk.sure n 0) ⊎ WasWritten disk.loose n b) i (inl refl)
          (λ past high. ⊎_elim (λ same. inl (same ∙ sure_slot i past high)) inr (image.each on i (omega (arith, high, sure_size))));
    }

    -- the head is durable, so the image has the one that is shown
    whole_byte : (i : ℕ) → i < room_for N → get_or (shown N whole) i 0 ≡ get_or c i 0
    whole_byte i high = ⊎_elim
        (λ low. shown_low N whole i low ∙ sym (shown_low N disk.sure i low) ∙ sym (image.sure i (omega (arith, high, sure_size)) (is.tight i low)))
        (λ past. shown_slot N whole i past high ∙ inside i past high)
        (cases_lt i 16)

    whole_shown : shown N whole ≡ c
    whole_shown =
        let long : length (shown N whole) ≡ room_for N = shown_length N whole (omega (arith, whole_size, is.sure_long)) in
        same_number_lists (shown N whole) c (omega (arith, long, size)) (λ i lt. whole_byte i (omega (arith, lt, long)))

    pub shown_of : (t : List ℕ) × IsImage disk t × (shown N t ≡ c)
    shown_of = (whole, whole_image, whole_shown)

-- a file that grows shows its slots, and no other text does
pub left_there : (N : ℕ) (t : List ℕ) → IsRaisable t N → left_of N t ≡ shown N t
left_there N t is =
    let long : nat_le (room_for N) (length t) ≡ true = grind (arith, nat_tests, is.long) in
    let head : bytes_eq (take 16 t) (growing_head N) ≡ true = (bytes_eq-Decides (take 16 t) (growing_head N)).1 is.head in
    rw (long, head) refl

pub left_grows : (N : ℕ) (t : List ℕ) → (left_of N t ≡ [] → ⊥) → IsRaisable t N
left_grows N t some = elim (cases_Bool (grows N t)) [
  | inl is ↦ record { long = grind (arith, nat_tests); head = (bytes_eq-Decides (take 16 t) (growing_head N)).0 (grind (arith, nat_tests)) }
  | inr other ↦ absurd (some (rw other refl))
]

-- An image of the file has the head that is read.
module _ (N : ℕ) (disk : Medium) (t : List ℕ) (is : IsFronted N disk) (held : IsConsistent disk) (image : IsImage disk t) where
  head_byte : (i : ℕ) → i < 16 → get_or (take 16 t) i 0 ≡ get_or (growing_head N) i 0
  head_byte i low =
      let sure : i < length disk.sure = omega (arith, low, is.sure_long) in
      get_or-take 16 t i 0 low
      ∙ image.sure i sure (is.tight i low)
      ∙ sym (held.same i sure (is.tight i low))
      ∙ sym (get_or-take 16 disk.seen i 0 low)
      ∙ ap (λ (l : List ℕ). get_or l i 0) is.head

  pub image_grows : IsRaisable t N
  image_grows =
      let size : length (take 16 t) ≡ 16 = omega (arith, length-take 16 t, image.no_shorter, is.sure_long) in
      record {
        long = omega (arith, image.no_shorter, is.sure_long);
        head = same_number_lists (take 16 t) (growing_head N) size (λ i lt. head_byte i (omega (arith, lt, size)));
      }

pub left_image : (N : ℕ) (disk : Medium) → IsFronted N disk → IsConsistent disk → (t c : List ℕ) → left_of N t ≡ c → IsImage disk t → IsImage (front N disk) c
left_image N disk is held t c shows image = subst (IsImage (front N disk)) (sym (left_there N t (image_grows N disk t is held image)) ∙ shows) (front_image N disk is t image)

pub timely : (disk : Device) (N refused : ℕ) → IsTimely disk → IsFronted N disk.medium → IsTimely (device_behind disk N refused)
timely disk N refused time is = record {
  counts_now = λ t c le image.
      let from = shown_of N disk.medium is time.consistent c image in
      (from.0, time.counts_now t from.0 le from.1, left_there N from.0 (image_grows N disk.medium from.0 is time.consistent from.1) ∙ from.2);
  only_now = λ c left. left_image N disk.medium is time.consistent left.0 c left.2 (time.only_now left.0 left.1);
  consistent = front_consistent N disk.medium is time.consistent;
}
