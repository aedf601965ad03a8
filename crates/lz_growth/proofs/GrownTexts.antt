-- Texts of files that grow, which hold the same set.
use Rattle.std.proofs.Common.{◌≡◌, ⊎_elim, ℕ, ◌+◌, ◌*◌, ◌-◌, ◌≤◌, ◌<◌, List, ◌∷◌, ◌++◌, length, take, get_or, replicate, refl, sym, ◌∙◌, ap, subst, arith}
use Rattle.std.proofs.lemmas.{Bool.{cases_lt}, List.{length-take, get_or-take, get_or-append_right, get_or-replicate, length-replicate, Edits.{length-between, get_or-between}}, Grind.{same_number_lists}}
use Rattle.std.{proofs.Common.{length-append}, specs.Prelude.{slice_range}}
use Rattle.lz_slot.specs.{Limits.{most_slots}, Sets.{Keys}, Bytes.{Holds, format_of, header_body, open_byte, slot_at, slot_bytes, slot_read}}
use Rattle.lz_slot.specs.declared.{format.Format.TheVariants.{Four}, slot.SlotRead.TheVariants.{Closed, Member, BadKey}}
use Rattle.lz_vault.proofs.{MakingTexts.{zeros_closed}, Slots.{part_alike}}
use Rattle.lz_growth.specs.{Growths.{HoldsGrowing, growing_head, room_for, shown}, Raises.{BeginsAs}}

-- what is shown of a text, byte by byte
module _ (N : ℕ) (t : List ℕ) (long : room_for N ≤ length t) where
  slots_long : length (slice_range t 16 (room_for N)) ≡ 16 * N
  slots_long = omega (arith, length-between t 16 (room_for N) long)

  head_long : length (open_byte ∷ header_body Four N) ≡ 16
  head_long = refl

  pub shown_long : length (shown N t) ≡ room_for N
  shown_long = omega (arith, length-append (open_byte ∷ header_body Four N) (slice_range t 16 (room_for N)), head_long, slots_long)

  pub shown_at : (k : ℕ) → 16 ≤ k → k < room_for N → get_or (shown N t) k 0 ≡ get_or t k 0
  shown_at k behind within =
      let there : 16 + (k - 16) ≡ k = omega arith in
      get_or-append_right (open_byte ∷ header_body Four N) (slice_range t 16 (room_for N)) 16 k 0 refl behind
      ∙ get_or-between t 16 (room_for N) (k - 16) 0 (omega arith)
      ∙ ap (λ (i : ℕ). get_or t i 0) there

pub shown_named : (N : ℕ) (t : List ℕ) → format_of (shown N t) ≡ Four
shown_named N t = refl

pub shown_head : (N : ℕ) (t : List ℕ) → take 16 (shown N t) ≡ open_byte ∷ header_body Four N
shown_head N t = refl

-- a text that begins with all of the slots of another one
module _ (N : ℕ) (old c : List ℕ) (begins : BeginsAs old (room_for N) c) (long : room_for N ≤ length old) where
  pub same_head : take 16 c ≡ take 16 old
  same_head =
      same_number_lists _ _ (omega (arith, length-take 16 c, length-take 16 old, begins.long)) (λ k lt.
      let small : k < 16 = omega (arith, length-take 16 c) in
      get_or-take 16 c k 0 small ∙ begins.same k (omega arith) ∙ sym (get_or-take 16 old k 0 small))

  pub same_slots : slice_range c 16 (room_for N) ≡ slice_range old 16 (room_for N)
  same_slots = part_alike c old 16 (room_for N) begins.long long (λ i behind within. begins.same i within)

  pub holds_still : (S : Keys) → HoldsGrowing old N S → HoldsGrowing c N S
  holds_still S holds = record {
    long = begins.long;
    head = same_head ∙ holds.head;
    slots = subst (λ (l : List ℕ). Holds ((open_byte ∷ header_body Four N) ++ l) N S) (sym same_slots) holds.slots;
  }

-- a text with the same slots, and then others of zeros
module _ (from to : ℕ) (old c : List ℕ) (more : from < to) (was : room_for from ≤ length old) (long : room_for to ≤ length c)
    (same : (i : ℕ) → 16 ≤ i → i < room_for from → get_or c i 0 ≡ get_or old i 0) (zeros : (i : ℕ) → room_for from ≤ i → i < room_for to → get_or c i 0 ≡ 0) where
  old_bytes : (i : ℕ) → i < from → slot_bytes (shown to c) i ≡ slot_bytes (shown from old) i
  old_bytes i lt =
      part_alike (shown to c) (shown from old) (16 + 16 * i) (32 + 16 * i) (omega (arith, shown_long to c long)) (omega (arith, shown_long from old was)) (λ k low high.
      shown_at to c long k (omega arith) (omega arith) ∙ same k (omega arith) (omega arith) ∙ sym (shown_at from old was k (omega arith) (omega arith)))

  old_slot : (i : ℕ) → i < from → slot_at (shown to c) i ≡ slot_at (shown from old) i
  old_slot i lt = ap (slot_read Four) (old_bytes i lt)

  new_bytes : (i : ℕ) → from ≤ i → i < to → slot_bytes (shown to c) i ≡ replicate 16 0
  new_bytes i le lt =
      let whole = length-between (shown to c) (16 + 16 * i) (32 + 16 * i) (omega (arith, shown_long to c long)) in
      same_number_lists (slot_bytes (shown to c) i) (replicate 16 0) (omega (arith, whole, length-replicate {A = ℕ} 16 0)) (λ k below.
      let small : k < 16 = omega (arith, whole) in
      get_or-between (shown to c) (16 + 16 * i) (32 + 16 * i) k 0 (omega arith)
      ∙ shown_at to c long (16 + 16 * i + k) (omega arith) (omega arith)
      ∙ zeros (16 + 16 * i + k) (omega arith) (omega arith)
      ∙ sym (get_or-replicate 16 k 0 0 small))

  new_slot : (i : ℕ) → from ≤ i → i < to → slot_at (shown to c) i ≡ Closed
  new_slot i le lt = ap (slot_read Four) (new_bytes i le lt) ∙ zeros_closed Four

  module _ (S : Keys) (holds : Holds (shown from old) from S) (few : to ≤ most_slots) where
    -- a slot that holds a key is one of the old ones
    key_low : (i k : ℕ) → i < to → slot_at (shown to c) i ≡ Member k → (i < from) × (slot_at (shown from old) i ≡ Member k)
    key_low i k lt is = ⊎_elim
        (λ low. (low, sym (old_slot i low) ∙ is))
        (λ le. absurd (let both : Closed ≡ Member k = sym (new_slot i le lt) ∙ is in cc))
        (cases_lt i from)

    more_hold : Holds (shown to c) to S
    more_hold = record {
      count = (omega arith, few);
      size = shown_long to c long;
      head = shown_head to c;
      no_bad_key = λ i lt bad. ⊎_elim
          (λ low. holds.no_bad_key i low (sym (old_slot i low) ∙ bad))
          (λ le. absurd (let both : Closed ≡ BadKey = sym (new_slot i le lt) ∙ bad in cc))
          (cases_lt i from);
      no_key_twice = λ i j k lt lt' one two.
          let a = key_low i k lt one in
          let b = key_low j k lt' two in
          holds.no_key_twice i j k a.0 b.0 a.1 b.1;
      set = λ k. (
        λ has. let at = (holds.set k).0 has in (at.0, omega (arith, at.1), old_slot at.0 at.1 ∙ at.2),
        λ (i, lt, is). let at = key_low i k lt is in (holds.set k).1 (i, at.0, at.1),
      );
    }

    pub holds_more : take 16 c ≡ growing_head to → HoldsGrowing c to S
    holds_more head = record { long = long; head = head; slots = more_hold }
