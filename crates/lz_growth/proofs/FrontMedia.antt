-- What a write within the slots and a sync of the file are for its front.
use Rattle.lz_disk.proofs.Overwrites as over
use Rattle.std.proofs.Common.{◌≡◌, ◌≢◌, inl, inr, ⊎_elim, ℕ, zero, suc, ◌+◌, ◌-◌, ◌≤◌, ◌<◌, List, ◌∷◌, ◌++◌, length, get_or, take, drop, true, sym, refl, ◌∙◌, ap, subst, arith}
use Rattle.std.proofs.lemmas.{Bool.{cases_lt, cases_eq}, List.Edits.{length-between, get_or-between}, List.{get_or-take, get_or-drop, length-take, length-drop, take-append-le, take-take}, Grind.{same_number_lists}}
use Rattle.std.specs.Prelude.{slice_range}
use Rattle.lz_disk.specs.{Images.{AreBytes, Medium, Mixes, is_loose, WriteFailed, overwritten, synced, written}, Timely.{longer}}
use Rattle.lz_disk.proofs.Writes.{loose_outside}
use Rattle.lz_growth.specs.{Growths.{growing_head, room_for, shown}, Fronts.{IsFronted, front}}
use Rattle.lz_growth.specs.TimelyFronts.{same_shown, shown_head, shown_bytes, shown_length, shown_low, shown_slot}

-- a sync
pub synced_fronted : (N : ℕ) (disk : Medium) → IsFronted N disk → AreBytes disk.seen → IsFronted N (synced disk)
synced_fronted N disk is bytes = record { sure_long = is.seen_long; seen_long = is.seen_long; tight = λ i low. refl; bytes = bytes; head = is.head }

-- a write within the slots
module _ (N : ℕ) (old : Medium) (at : ℕ) (bytes : List ℕ) (is : IsFronted N old) (low : 16 ≤ at) (high : at + length bytes ≤ room_for N) where
  within : at ≤ length old.seen
  within = omega (arith, high, is.seen_long)

  -- done
  pub written_fronted : IsFronted N (written old at bytes)
  written_fronted = record {
    sure_long = is.sure_long;
    seen_long = omega (arith, is.seen_long, longer old.seen at bytes);
    tight = λ i lt. loose_outside at bytes old.loose i (inl (omega (arith, lt, low))) ∙ is.tight i lt;
    bytes = is.bytes;
    head = take-append-le 16 (take at old.seen) (bytes ++ drop (at + length bytes) old.seen) (omega (arith, low, within, length-take at old.seen)) ∙ take-take 16 at old.seen low ∙ is.head;
  }

  shown_size : length (shown N old.seen) ≡ room_for N
  shown_size = shown_length N old.seen is.seen_long

  starts : at ≤ length (shown N old.seen)
  starts = omega (arith, high, shown_size)

  slot_written : (i : ℕ) → 16 ≤ i → i < room_for N → get_or (overwritten old.seen at bytes) i 0 ≡ get_or (overwritten (shown N old.seen) at bytes) i 0
  slot_written i past lt = ⊎_elim
      (λ before. over.below old.seen at bytes within i before ∙ sym (shown_slot N old.seen i past lt) ∙ sym (over.below (shown N old.seen) at bytes starts i before))
      (λ from. ⊎_elim
      (λ inside. over.inside old.seen at bytes within i from inside ∙ sym (over.inside (shown N old.seen) at bytes starts i from inside))
      (λ after. over.above old.seen at bytes within i after ∙ sym (shown_slot N old.seen i past lt) ∙ sym (over.above (shown N old.seen) at bytes starts i after))
      (cases_lt i (at + length bytes)))
      (cases_lt i at)

  byte_written : (i : ℕ) → i < room_for N → get_or (shown N (overwritten old.seen at bytes)) i 0 ≡ get_or (overwritten (shown N old.seen) at bytes) i 0
  byte_written i lt = ⊎_elim
      (λ head. shown_low N (overwritten old.seen at bytes) i head ∙ sym (shown_low N old.seen i head) ∙ sym (over.below (shown N old.seen) at bytes starts i (omega (arith, head, low))))
      (λ past. shown_slot N (overwritten old.seen at bytes) i past lt ∙ slot_written i past lt)
      (cases_lt i 16)

  shown_written : shown N (overwritten old.seen at bytes) ≡ overwritten (shown N old.seen) at bytes
  shown_written =
      let new : length (shown N (overwritten old.seen at bytes)) ≡ room_for N = shown_length N (overwritten old.seen at bytes) (omega (arith, is.seen_long, longer old.seen at bytes)) in
      let same : length (overwritten (shown N old.seen) at bytes) ≡ room_for N = over.size (shown N old.seen) at bytes starts (omega (arith, high, shown_size)) ∙ shown_size in
      same_number_lists (shown N (overwritten old.seen at bytes)) (overwritten (shown N old.seen) at bytes) (omega (arith, new, same)) (λ i lt. byte_written i (omega (arith, lt, new)))

  pub front_written : front N (written old at bytes) ≡ written (front N old) at bytes
  front_written = ap (λ (t : List ℕ). record { bytewise = old.bytewise; sure = shown N old.sure; seen = t; loose = (at, bytes) ∷ old.loose }) shown_written

  -- failed
  module _ (new : Medium) (failed : WriteFailed old at bytes new) where
    new_long : room_for N ≤ length new.seen
    new_long = omega (arith, is.seen_long, failed.no_shorter)

    pub failed_fronted : IsFronted N new
    failed_fronted = record {
      sure_long = omega (arith, is.sure_long, ap length failed.sure);
      seen_long = new_long;
      tight = λ i lt. ap (λ l. is_loose l i) failed.loose ∙ loose_outside at bytes old.loose i (inl (omega (arith, lt, low))) ∙ is.tight i lt;
      bytes = subst AreBytes (sym failed.sure) is.bytes;
      head = sym (take-take 16 at new.seen low) ∙ ap (take 16) failed.before ∙ take-take 16 at old.seen low ∙ is.head;
    }

    new_size : length (shown N new.seen) ≡ room_for N
    new_size = shown_length N new.seen new_long

    byte_before : (i : ℕ) → i < at → get_or new.seen i 0 ≡ get_or old.seen i 0
    byte_before i lt = sym (get_or-take at new.seen i 0 lt) ∙ ap (λ (t : List ℕ). get_or t i 0) failed.before ∙ get_or-take at old.seen i 0 lt

    byte_after : (i : ℕ) → at + length bytes ≤ i → get_or new.seen i 0 ≡ get_or old.seen i 0
    byte_after i le =
        let there : (at + length bytes) + (i - (at + length bytes)) ≡ i = omega arith in
        ap (λ (n : ℕ). get_or new.seen n 0) (sym there)
        ∙ sym (get_or-drop (at + length bytes) new.seen (i - (at + length bytes)) 0)
        ∙ ap (λ (t : List ℕ). get_or t (i - (at + length bytes)) 0) failed.after
        ∙ get_or-drop (at + length bytes) old.seen (i - (at + length bytes)) 0
        ∙ ap (λ (n : ℕ). get_or old.seen n 0) there

    before : take at (shown N new.seen) ≡ take at (shown N old.seen)
    before = same_number_lists (take at (shown N new.seen)) (take at (shown N old.seen)) (omega (arith, length-take at (shown N new.seen), length-take at (shown N old.seen), new_size, shown_size))
        (λ i lt.
        let first : i < at = omega (arith, lt, length-take at (shown N new.seen)) in
        get_or-take at (shown N new.seen) i 0 first
        ∙ same_shown N old.seen new.seen i (omega (arith, first, high)) (λ past. byte_before i first)
        ∙ sym (get_or-take at (shown N old.seen) i 0 first))

    abbrev end : ℕ
    end = at + length bytes

    after : drop end (shown N new.seen) ≡ drop end (shown N old.seen)
    after = same_number_lists (drop end (shown N new.seen)) (drop end (shown N old.seen)) (omega (arith, length-drop end (shown N new.seen), length-drop end (shown N old.seen), new_size, shown_size))
        (λ i lt.
        get_or-drop end (shown N new.seen) i 0
        ∙ same_shown N old.seen new.seen (end + i) (omega (arith, lt, length-drop end (shown N new.seen), new_size)) (λ past. byte_after (end + i) (omega arith))
        ∙ sym (get_or-drop end (shown N old.seen) i 0))

    mixed : old.bytewise ≡ true → Mixes at bytes (shown N new.seen) (shown N old.seen)
    mixed on i from inside lt =
        let past : 16 ≤ i = omega (arith, low, from) in
        let slot : i < room_for N = omega (arith, inside, high) in
        ⊎_elim
        (λ same. inl (same_shown N old.seen new.seen i slot (λ past. same)))
        (λ put. inr (shown_slot N new.seen i past slot ∙ put))
        (failed.mixed on i from inside (omega (arith, slot, is.seen_long)))

    pub front_failed : WriteFailed (front N old) at bytes (front N new)
    front_failed = record {
      bytewise = failed.bytewise;
      sure = ap (shown N) failed.sure;
      loose = failed.loose;
      bytes = shown_bytes N new.seen failed.bytes;
      before = before;
      after = after;
      no_shorter = omega (arith, new_size, shown_size);
      no_longer = omega (arith, new_size, shown_size);
      mixed = mixed;
    }

-- the head that is shown differs by one letter
same_letters : (N i : ℕ) → i ≢ 7 → get_or (growing_head N) i 0 ≡ get_or (shown_head N) i 0
same_letters N zero other = refl
same_letters N (suc zero) other = refl
same_letters N (suc (suc zero)) other = refl
same_letters N (suc (suc (suc zero))) other = refl
same_letters N (suc (suc (suc (suc zero)))) other = refl
same_letters N (suc (suc (suc (suc (suc zero))))) other = refl
same_letters N (suc (suc (suc (suc (suc (suc zero)))))) other = refl
same_letters N (suc (suc (suc (suc (suc (suc (suc zero))))))) other = absurd (other refl)
same_letters N (suc (suc (suc (suc (suc (suc (suc (suc i)))))))) other = refl

module _ (N : ℕ) (disk : Medium) (is : IsFronted N disk) where
  seen_byte : (i : ℕ) → i ≢ 7 → i < room_for N → get_or disk.seen i 0 ≡ get_or (shown N disk.seen) i 0
  seen_byte i other lt = ⊎_elim
      (λ low. sym (get_or-take 16 disk.seen i 0 low) ∙ ap (λ (t : List ℕ). get_or t i 0) is.head ∙ same_letters N i other ∙ sym (shown_low N disk.seen i low))
      (λ past. sym (shown_slot N disk.seen i past lt))
      (cases_lt i 16)

  -- what was read, once the letter is put
  module _ (at n : ℕ) (fits : at + n ≤ room_for N) (old new : List ℕ) (read : old ≡ slice_range disk.seen at (at + n)) (long : length new ≡ length old)
      (letter : (i : ℕ) → i < length old → at + i ≡ 7 → get_or new i 0 ≡ 0x34) (others : (i : ℕ) → at + i ≢ 7 → get_or new i 0 ≡ get_or old i 0) where
    old_size : length old ≡ n
    old_size = ap length read ∙ length-between disk.seen at (at + n) (omega (arith, fits, is.seen_long)) ∙ omega arith

    byte_read : (i : ℕ) → i < n → get_or new i 0 ≡ get_or (shown N disk.seen) (at + i) 0
    byte_read i lt = ⊎_elim
        (λ here. letter i (omega (arith, lt, old_size)) here ∙ sym (shown_low N disk.seen (at + i) (omega (arith, here)) ∙ ap (λ (k : ℕ). get_or (shown_head N) k 0) here))
        (λ other. others i other ∙ ap (λ (t : List ℕ). get_or t i 0) read ∙ get_or-between disk.seen at (at + n) i 0 (omega arith) ∙ seen_byte (at + i) other (omega (arith, lt, fits)))
        (cases_eq (at + i) 7)

    pub shown_read : new ≡ slice_range (shown N disk.seen) at (at + n)
    shown_read =
        let size : length (slice_range (shown N disk.seen) at (at + n)) ≡ n = length-between (shown N disk.seen) at (at + n) (omega (arith, fits, shown_length N disk.seen is.seen_long)) ∙ omega arith in
        same_number_lists new (slice_range (shown N disk.seen) at (at + n)) (omega (arith, long, old_size, size))
        (λ i lt. byte_read i (omega (arith, lt, long, old_size)) ∙ sym (get_or-between (shown N disk.seen) at (at + n) i 0 (omega (arith, lt, long, old_size))))
