-- The text of which the last write of a raise makes another one.
use Rattle.std.proofs.Common.{◌≡◌, ◌⊎◌, inl, inr, ◌+◌, ◌≤◌, ◌<◌, ℕ, List, length, take, get_or, set, replicate, refl, sym, ◌∙◌, subst, arith}
use Rattle.std.proofs.{Common.{◌*◌, ◌-◌}, lemmas.{List.{length-replicate, get_or-replicate, Edits.{length-between, get_or-between}}, Grind.{same_number_lists}}}
use Rattle.std.specs.Prelude.{slice_range, Bool}
use Rattle.byteorder.specs.Endian.{big_bytes}
use Rattle.lz_slot.specs.Sets.{Keys}
use Rattle.lz_disk.specs.Images.{Medium, at_rest}
use Rattle.lz_vault.proofs.Slots.{part_alike}
use Rattle.lz_growth.specs.{Growths.{HoldsGrowing, IsRaise, IsRaised, IsRaisedOrNot, growing_head, room_for}, Raises.{IsCleared}}
use Rattle.lz_growth.proofs.{GrownTexts.{holds_more}, OneByte.{with_byte, byte_long, byte_other, head_changed}}

module _ (from to : ℕ) (raise : IsRaise from to) (seen : List ℕ) (head : take 16 seen ≡ growing_head from) (cleared : IsCleared from to seen)
    (i v : ℕ) (place : i < 8) (changed : set (big_bytes 8 from) i v ≡ big_bytes 8 to) where
  pub inside : 8 + i < length seen
  inside = omega (arith, cleared.long, raise.some, raise.more)

  long : length (with_byte seen (8 + i) v) ≡ length seen
  long = byte_long seen (8 + i) v inside

  behind : (k : ℕ) → 16 ≤ k → get_or (with_byte seen (8 + i) v) k 0 ≡ get_or seen k 0
  behind k le = byte_other seen (8 + i) v inside k (omega arith)

  pub raised_holds : (S : Keys) → HoldsGrowing seen from S → HoldsGrowing (with_byte seen (8 + i) v) to S
  raised_holds S holds =
      holds_more from to seen (with_byte seen (8 + i) v) raise.more holds.long (omega (arith, long, cleared.long)) (λ k low high. behind k low) (λ k low high. behind k (omega arith) ∙ cleared.zeros k low high)
      S holds.slots raise.few (head_changed from to seen i v head place changed)

  -- a crash leaves the one text or the other
  pub raised_or_not : (c : List ℕ) → (c ≡ seen) ⊎ (c ≡ with_byte seen (8 + i) v) → IsRaisedOrNot from to seen c
  raised_or_not c (inl same) S holds = inl (subst (λ (t : List ℕ). HoldsGrowing t from S) (sym same) holds)
  raised_or_not c (inr made) S holds = inr (subst (λ (t : List ℕ). HoldsGrowing t to S) (sym made) (raised_holds S holds))

  zeros : slice_range (with_byte seen (8 + i) v) (room_for from) (room_for to) ≡ replicate (16 * (to - from)) 0
  zeros =
      let part = length-between (with_byte seen (8 + i) v) (room_for from) (room_for to) (omega (arith, long, cleared.long)) in
      let size : room_for to - room_for from ≡ 16 * (to - from) = omega (arith, raise.more) in
      same_number_lists _ _ (part ∙ size ∙ sym (length-replicate (16 * (to - from)) 0)) (λ k lt.
      let small : k < 16 * (to - from) = omega (arith, part, size) in
      get_or-between (with_byte seen (8 + i) v) (room_for from) (room_for to) k 0 (omega (arith, raise.more))
      ∙ behind (room_for from + k) (omega arith) ∙ cleared.zeros (room_for from + k) (omega arith) (omega (arith, raise.more))
      ∙ sym (get_or-replicate (16 * (to - from)) k 0 0 small))

  pub raised_is : (bytewise : Bool) (disk : Medium) → disk ≡ at_rest bytewise (with_byte seen (8 + i) v) → IsRaised seen from to disk
  raised_is bytewise disk is = subst (IsRaised seen from to) (sym is) (record {
    sure = refl;
    holds = raised_holds;
    slots = part_alike (with_byte seen (8 + i) v) seen 16 (room_for from) (omega (arith, long, cleared.long, raise.more)) (omega (arith, cleared.long, raise.more)) (λ k low high. behind k low);
    zeros = zeros;
  })
