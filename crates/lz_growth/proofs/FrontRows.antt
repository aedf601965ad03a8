-- Worked rows: what files that grow show and hold, and what they must not.
use Rattle.std.proofs.{Common.{◌≡◌, ℕ, zero, suc, ◌+◌, ◌≤◌, ◌<◌, true, List, [], ◌∷◌, ◌++◌, length, get_or, take, replicate, refl, sym, ◌∙◌, ap, subst, arith, length-append, Ok}, lemmas.Bool.{false≢true, true≢false}}
use Rattle.std.proofs.lemmas.{List.{get_or_append_left, take-append-le}, Grind.{same_number_lists}}
use Rattle.lz_slot.specs.{Sets.{Keys, members}, Bytes.{Holds, format_of, header_body, header_read, open_byte, slot_at}, Whole.{whole_slot}}
use Rattle.lz_slot.specs.declared.{format.Format.{Format, TheVariants.{One, Two, Three, Four}}, slot.SlotRead.{SlotRead, TheVariants.{Closed, Member, BadKey}}}
use Rattle.lz_disk.specs.Images.{Medium, at_rest, written}
use Rattle.lz_growth.specs.{Growths.{HoldsGrowing, growing_head, room_for, shown}, Fronts.{IsFronted, left_of}, TimelyFronts.{same_shown, shown_length, tested}}

-- a file of one slot, closed
abbrev empty_file : List ℕ
empty_file = growing_head 1 ++ replicate 16 0

closed : (i : ℕ) → i < 1 → slot_at (shown 1 empty_file) i ≡ Closed
closed zero lt = refl
closed (suc i) lt = absurd (omega arith)

holds_nothing : HoldsGrowing empty_file 1 (members [])
holds_nothing = record {
  long = omega arith;
  head = refl;
  slots = record {
    count = (omega arith, omega arith);
    size = refl;
    head = refl;
    no_bad_key = λ i lt is. let e : ◌≡◌ {A = SlotRead} Closed BadKey = sym (closed i lt) ∙ is in absurd cc;
    no_key_twice = λ i j k low_i low_j is_i is_j. omega arith;
    set = λ k. (λ is. absurd (false≢true is), λ found. let e : ◌≡◌ {A = SlotRead} Closed (Member k) = sym (closed found.0 found.1) ∙ found.2 in absurd cc);
  };
}

-- its head is shown as format 4's, which has the number of slots, and what comes after the slots isn't shown
shows_a_key : shown 1 (growing_head 1 ++ whole_slot 7 ++ (165 ∷ 15 ∷ 30 ∷ [])) ≡ (open_byte ∷ header_body Four 1) ++ whole_slot 7
shows_a_key = refl

shows_its_number : header_read (shown 1 empty_file) 32 ≡ Ok 1
shows_its_number = refl

-- nor is the second of two slots where there is one
hides_the_second : shown 1 (growing_head 2 ++ whole_slot 7 ++ whole_slot 8) ≡ (open_byte ∷ header_body Four 1) ++ whole_slot 7
hides_the_second = refl

-- What lies after the slots changes nothing.
module _ (N : ℕ) (t more : List ℕ) (long : room_for N ≤ length t) where
  still_shown : shown N (t ++ more) ≡ shown N t
  still_shown =
      let size : length (shown N (t ++ more)) ≡ room_for N = shown_length N (t ++ more) (omega (arith, long, length-append t more)) in
      same_number_lists (shown N (t ++ more)) (shown N t) (omega (arith, size, shown_length N t long))
      (λ i lt. same_shown N t (t ++ more) i (omega (arith, lt, size)) (λ past. get_or_append_left t more 0 i (omega (arith, lt, size, long))))

  same_head : take 16 (t ++ more) ≡ take 16 t
  same_head = take-append-le 16 t more (omega (arith, long))

  still_holds : (S : Keys) → HoldsGrowing t N S → HoldsGrowing (t ++ more) N S
  still_holds S holds = record {
    long = omega (arith, long, length-append t more);
    head = same_head ∙ holds.head;
    slots = subst (λ (c : List ℕ). Holds c N S) (sym still_shown) holds.slots;
  }

  holds_no_more : (S : Keys) → HoldsGrowing (t ++ more) N S → HoldsGrowing t N S
  holds_no_more S holds = record { long = long; head = sym same_head ∙ holds.head; slots = subst (λ (c : List ℕ). Holds c N S) still_shown holds.slots }

-- a text that is shorter than its slots by a byte holds nothing
too_short : (t : List ℕ) (N : ℕ) (S : Keys) → length t + 1 ≡ room_for N → HoldsGrowing t N S → ⊥
too_short t N S short holds = omega (arith, short, holds.long)

-- a file of another format holds nothing as one that grows, and the other way round
not_named : (F : Format) (N M : ℕ) → open_byte ∷ header_body F M ≡ growing_head N → ⊥
not_named One N M is = let e : ◌≡◌ {A = ℕ} 0x31 0x35 = ap (λ (l : List ℕ). get_or l 7 0) is in omega (arith, e)
not_named Two N M is = let e : ◌≡◌ {A = ℕ} 0x32 0x35 = ap (λ (l : List ℕ). get_or l 7 0) is in omega (arith, e)
not_named Three N M is = let e : ◌≡◌ {A = ℕ} 0x33 0x35 = ap (λ (l : List ℕ). get_or l 7 0) is in omega (arith, e)
not_named Four N M is = let e : ◌≡◌ {A = ℕ} 0x34 0x35 = ap (λ (l : List ℕ). get_or l 7 0) is in omega (arith, e)

never_both : (t : List ℕ) (N M : ℕ) (S T : Keys) → Holds t M T → HoldsGrowing t N S → ⊥
never_both t N M S T other grows = not_named (format_of t) N M (sym other.head ∙ grows.head)

not_what_is_shown : (N M : ℕ) (S T : Keys) (t : List ℕ) → HoldsGrowing t N S → HoldsGrowing (shown N t) M T → ⊥
not_what_is_shown N M S T t grows again = never_both (shown N t) M N T S grows.slots again

-- a front needs its slots durable, and a head on which no write is under way
not_of_a_short_file : (N : ℕ) (disk : Medium) → length disk.sure + 1 ≡ room_for N → IsFronted N disk → ⊥
not_of_a_short_file N disk short is = omega (arith, short, is.sure_long)

not_with_a_loose_head : (N : ℕ) (disk : Medium) → IsFronted N (written disk 7 (0x35 ∷ [])) → ⊥
not_with_a_loose_head N disk is = true≢false (is.tight 7 (omega arith))

of_the_empty_file : IsFronted 1 (at_rest true empty_file)
of_the_empty_file = record { sure_long = omega arith; seen_long = omega arith; tight = λ i low. refl; bytes = tested empty_file refl; head = refl }

not_with_two_slots : IsFronted 2 (at_rest true empty_file) → ⊥
not_with_two_slots is = omega (arith, is.sure_long)

not_of_a_file_of_format_4 : (N M : ℕ) (t : List ℕ) (T : Keys) → Holds t M T → IsFronted N (at_rest true t) → ⊥
not_of_a_file_of_format_4 N M t T holds is = not_named (format_of t) N M (sym holds.head ∙ is.head)

-- what a crash leaves of a front: what a file that grows shows, and nothing of a cut one, of one of another format or of other slots
left_of_all : left_of 1 (empty_file ++ (1 ∷ 2 ∷ 3 ∷ [])) ≡ shown 1 empty_file
left_of_all = refl

left_of_a_cut_file : left_of 1 (take 31 empty_file) ≡ []
left_of_a_cut_file = refl

left_of_format_4 : left_of 1 (shown 1 empty_file) ≡ []
left_of_format_4 = refl

left_of_two_slots : left_of 1 (growing_head 2 ++ replicate 32 0) ≡ []
left_of_two_slots = refl
