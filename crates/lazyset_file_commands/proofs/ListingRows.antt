-- Worked rows: what a making from a list of keys doesn't leave.
use Rattle.std.proofs.Common.{◌≡◌, inl, inr, ⊎_elim, ℕ, ◌+◌, ◌*◌, List, [], ◌∷◌, ◌++◌, codes, length, Some, sym, ◌∙◌, subst, arith}
use mathlib.Core.Bool.{true≢false}
use Rattle.lz_slot.specs.{Bytes.{Holds, IsMade, format_of}, Sets.{members}, declared.format.Format.{Format, TheVariants.{Two, Three}}}
use Rattle.lz_disk.specs.{Devices.{Device}, Images.{IsImage}}
use Rattle.lz_vault.specs.Makes.{IsUnmadeOrHolds}
use Rattle.lz_machine.proofs.Open.FirstPoint.{one_set}
use Rattle.lazyset_file_commands.{specs.{Listings.{LeavesListed}, Lists.{keys as of_keys}}, proofs.ListRows.{not_ended_lists_none, one_key_above}}
use Rattle.lazyset_file_commands.proofs.{OneList.{one_list}, Listed.{spelled_keys}}

-- A crash since the making began might have left the text, and couldn't have before. Its gate is open.
module _ (n : ℕ) (before after : Device) (t : List ℕ) (since : after.left_since before.moment t) (never : ¬ IsImage before.medium t) (made : IsMade t) where
  -- where the input lists 7, it is a file of format 2 with so many slots and this key
  holds_seven : LeavesListed Two (of_keys Two) n (Some (codes "7" ++ 10 ∷ [])) before after → Holds t n (members (7 ∷ [])) × (format_of t ≡ Two)
  holds_seven (inl only) = absurd (never (only.each t since))
  holds_seven (inr (keys, lists, only)) =
      let same = one_list (of_keys Two) (codes "7" ++ 10 ∷ []) keys (7 ∷ []) (spelled_keys Two _ keys lists) (spelled_keys Two _ (7 ∷ []) one_key_above) in
      ⊎_elim
      (λ was. absurd (never was))
      (λ file. ⊎_elim (λ unmade. absurd (unmade made)) (λ is. is) (subst (λ (ks : List ℕ). IsUnmadeOrHolds Two n (members ks) t) same file))
      (only.each t since)

  -- so it doesn't lack the key, or hold another one
  lacks_the_key : Holds t n (members []) → LeavesListed Two (of_keys Two) n (Some (codes "7" ++ 10 ∷ [])) before after → ⊥
  lacks_the_key none left = true≢false (one_set t n (members (7 ∷ [])) (members []) (holds_seven left).0 none 7)

  holds_another : Holds t n (members (7 ∷ 8 ∷ [])) → LeavesListed Two (of_keys Two) n (Some (codes "7" ++ 10 ∷ [])) before after → ⊥
  holds_another more left = true≢false (one_set t n (members (7 ∷ 8 ∷ [])) (members (7 ∷ [])) more (holds_seven left).0 8)

  -- it isn't of another format or size
  another_format : format_of t ≡ Three → LeavesListed Two (of_keys Two) n (Some (codes "7" ++ 10 ∷ [])) before after → ⊥
  another_format other left = let is : ◌≡◌ {A = Format} Two Three = sym (holds_seven left).1 ∙ other in absurd cc

  one_slot_more : length t ≡ 32 + 16 * n → LeavesListed Two (of_keys Two) n (Some (codes "7" ++ 10 ∷ [])) before after → ⊥
  one_slot_more long left = let size = (holds_seven left).0.size in omega (arith, long, size)

-- where the input is no list, nothing else is left than before, whether its gate is open or not
of_no_list : (n : ℕ) (before after : Device) (t : List ℕ) → after.left_since before.moment t → ¬ IsImage before.medium t → LeavesListed Two (of_keys Two) n (Some (codes "7" ++ 10 ∷ codes "8")) before after → ⊥
of_no_list n before after t since never (inl only) = never (only.each t since)
of_no_list n before after t since never (inr (keys, lists, only)) = not_ended_lists_none keys lists
