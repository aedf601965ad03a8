-- What a crash leaves that puts one byte at each loose position.
use Rattle.lz_disk.proofs.Overwrites as over
use Rattle.std.proofs.Common.{◌≡◌, ◌⊎◌, inl, inr, ⊎_elim, ℕ, zero, suc, ◌+◌, ◌-◌, ◌≤◌, ◌<◌, min, Bool, true, false, List, [], ◌∷◌, ◌++◌, length, get_or, take}
use Rattle.std.proofs.{Common.{drop, replicate, if◌then◌else◌, sym, refl, ◌∙◌, ap, subst, arith}, lemmas.Bool.{cases_Bool, cases_lt}}
use Rattle.std.proofs.lemmas.{List.{get_or-replicate, length-replicate, take_more, drop-drop}, Grind.{same_number_lists}}
use borrow.Rule.Slice.PartMut.{put_mid}
use Rattle.lz_disk.specs.{Images.{Medium, IsImage, IsConsistent, AreBytes, is_loose, overwritten}, Picks.{with_loose, with_first, left_by}}
use Rattle.lz_disk.specs.{Records.{after, after_record}, declared.memory.{Pick.{Pick, TheVariants.{Old, New, Byte, Part, Mask, Nth}}, Record.{Record}}}
use Rattle.lz_disk.{specs.declared.memory.Record.TheVariants.{Synced}, proofs.{Writes.{loose_outside, loose_inside}, GrownRecords.{after_push}}}
use Rattle.lz_disk.proofs.PickImages.{mask_not_shorter, mask_not_longer, mask_either, length-with_nth, nth_at, nth_either, nth_sure}

abbrev chosen : List (ℕ × List ℕ) → ℕ → ℕ → ℕ → ℕ
chosen ranges h i b = if is_loose ranges i then h else b

pub length-with_loose : (ranges : List (ℕ × List ℕ)) (h i : ℕ) (t : List ℕ) → length (with_loose ranges h i t) ≡ length t
length-with_loose ranges h i [] = refl
length-with_loose ranges h i (b ∷ t) = ap suc (length-with_loose ranges h (i + 1) t)

read_from : (ranges : List (ℕ × List ℕ)) (h i : ℕ) (t : List ℕ) (k : ℕ) → k < length t → get_or (with_loose ranges h i t) k 0 ≡ chosen ranges h (i + k) (get_or t k 0)
read_from ranges h i [] k lt = absurd (omega arith)
read_from ranges h i (b ∷ t) zero lt = let here : i ≡ i + 0 = omega arith in ap (λ (n : ℕ). chosen ranges h n b) here
read_from ranges h i (b ∷ t) (suc k) lt =
    let on : (i + 1) + k ≡ i + suc k = omega arith in
    read_from ranges h (i + 1) t k (omega arith) ∙ ap (λ (n : ℕ). chosen ranges h n (get_or t k 0)) on

pub read : (ranges : List (ℕ × List ℕ)) (h : ℕ) (t : List ℕ) (k : ℕ) → k < length t → get_or (with_loose ranges h 0 t) k 0 ≡ chosen ranges h k (get_or t k 0)
read ranges h t k lt = let here : 0 + k ≡ k = omega arith in read_from ranges h 0 t k lt ∙ ap (λ (n : ℕ). chosen ranges h n (get_or t k 0)) here

pub none_loose : (h i : ℕ) (t : List ℕ) → with_loose [] h i t ≡ t
none_loose h i [] = refl
none_loose h i (b ∷ t) = ap (λ (l : List ℕ). b ∷ l) (none_loose h (i + 1) t)

-- the durable text with the first loose bytes as read
module _ (ranges : List (ℕ × List ℕ)) where
  first_not_shorter : (n i : ℕ) (sure seen : List ℕ) → length sure ≤ length (with_first ranges n i sure seen)
  first_not_shorter n i sure [] = omega arith
  first_not_shorter zero i sure (b ∷ seen) = omega arith
  first_not_shorter (suc n) i [] (b ∷ seen) = omega arith
  first_not_shorter (suc n) i (a ∷ sure) (b ∷ seen) = grind (arith, first_not_shorter n (i + 1) sure seen, first_not_shorter (suc n) (i + 1) sure seen) steps 100000

  first_not_longer : (n i : ℕ) (sure seen : List ℕ) → length sure ≤ length seen → length (with_first ranges n i sure seen) ≤ length seen
  first_not_longer n i sure [] le = omega arith
  first_not_longer zero i sure (b ∷ seen) le = omega arith
  first_not_longer (suc n) i [] (b ∷ seen) le = omega (arith, first_not_longer n (i + 1) [] seen (omega arith))
  first_not_longer (suc n) i (a ∷ sure) (b ∷ seen) le = grind (arith, first_not_longer n (i + 1) sure seen (omega arith), first_not_longer (suc n) (i + 1) sure seen (omega arith)) steps 100000

  first_sure : (n i : ℕ) (sure seen : List ℕ) (k : ℕ) → k < length sure → is_loose ranges (i + k) ≡ false → get_or (with_first ranges n i sure seen) k 0 ≡ get_or sure k 0
  first_sure n i sure [] k lt shut = refl
  first_sure zero i sure (b ∷ seen) k lt shut = refl
  first_sure (suc n) i [] (b ∷ seen) k lt shut = absurd (omega arith)
  first_sure (suc n) i (a ∷ sure) (b ∷ seen) zero lt shut = grind arith
  first_sure (suc n) i (a ∷ sure) (b ∷ seen) (suc k) lt shut =
      let there : (i + 1) + k ≡ i + suc k = omega arith in
      let rest : is_loose ranges ((i + 1) + k) ≡ false = ap (is_loose ranges) there ∙ shut in
      grind (arith, first_sure n (i + 1) sure seen k (omega arith) rest, first_sure (suc n) (i + 1) sure seen k (omega arith) rest) steps 100000

  -- each byte of it is a durable one or one as read
  first_either : (n i : ℕ) (sure seen : List ℕ) (k : ℕ) → k < length sure → (get_or (with_first ranges n i sure seen) k 0 ≡ get_or sure k 0) ⊎ (get_or (with_first ranges n i sure seen) k 0 ≡ get_or seen k 0)
  first_either n i sure [] k lt = inl refl
  first_either zero i sure (b ∷ seen) k lt = inl refl
  first_either (suc n) i [] (b ∷ seen) k lt = absurd (omega arith)
  first_either (suc n) i (a ∷ sure) (b ∷ seen) zero lt = grind (arith, get_or)
  first_either (suc n) i (a ∷ sure) (b ∷ seen) (suc k) lt = grind (arith, first_either n (i + 1) sure seen k (omega arith), first_either (suc n) (i + 1) sure seen k (omega arith)) steps 100000

-- the durable text, and that with one byte at each loose position of a disk that isn't bytewise
sure_image : (disk : Medium) → IsConsistent disk → AreBytes disk.sure → IsImage disk disk.sure
sure_image disk held bytes = record { bytes = bytes; no_shorter = omega arith; no_longer = held.no_shorter; sure = λ i lt shut. refl; each = λ on i lt. inl refl }

byte_image : (h : ℕ) (disk : Medium) → disk.bytewise ≡ false → IsConsistent disk → AreBytes (with_loose disk.loose h 0 disk.seen) → IsImage disk (with_loose disk.loose h 0 disk.seen)
byte_image h disk off held bytes = grind (arith, length-with_loose, read, get_or)

pub left_is_image : (pick : Pick) (disk : Medium) → IsConsistent disk → AreBytes (left_by pick disk) → IsImage disk (left_by pick disk)
left_is_image Old disk held bytes = sure_image disk held bytes
left_is_image New disk held bytes = record { bytes = bytes; no_shorter = held.no_shorter; no_longer = omega arith; sure = held.same; each = held.each }
left_is_image (Byte h) disk held bytes =
    let left : Bool → List ℕ = λ b. if b then disk.sure else with_loose disk.loose h 0 disk.seen in
    elim (cases_Bool disk.bytewise) [
      | inl on ↦ subst (IsImage disk) (sym (ap left on)) (sure_image disk held (subst AreBytes (ap left on) bytes))
      | inr off ↦ subst (IsImage disk) (sym (ap left off)) (byte_image h disk off held (subst AreBytes (ap left off) bytes))
    ]
left_is_image (Part n) disk held bytes = grind (arith, first_not_shorter, first_not_longer, first_sure, first_either)
left_is_image (Mask mask) disk held bytes = grind (arith, mask_not_shorter, mask_not_longer, mask_either)
left_is_image (Nth n) disk held bytes = grind (arith, length-with_nth, get_or, nth_at, nth_sure, nth_either)

either : (b : Bool) (h : ℕ) → (if b then h else h) ≡ h
either true h = refl
either false h = refl

-- the byte stands in the range from at on, as far as the text goes
pub range_filled : (ranges : List (ℕ × List ℕ)) (bytes : List ℕ) (h at n low high : ℕ) (text : List ℕ) → length bytes ≡ n → low ≡ min at (length text) → high ≡ min (at + n) (length text) → low ≤ high
    → with_loose ranges h 0 (overwritten text low (replicate (high - low) h)) ≡ with_loose ((at, bytes) ∷ ranges) h 0 text
range_filled ranges bytes h at n low high text is_n is_low is_high order =
    let outside : (k : ℕ) → (k < at) ⊎ (at + n ≤ k) → (k < at) ⊎ (at + length bytes ≤ k) = λ k. ⊎_elim inl (λ le. inr (omega (arith, le, is_n))) in
    let part = replicate (high - low) h in
    let next = overwritten text low part in
    let count : length part ≡ high - low = length-replicate (high - low) h in
    let within : low ≤ length text = omega arith in
    let size : length next ≡ length text = over.size text low part within (omega (arith, count)) in
    let same_part : (k : ℕ) → k < length text → get_or next k 0 ≡ get_or text k 0 → (k < at) ⊎ (at + n ≤ k) → chosen ranges h k (get_or next k 0) ≡ chosen ((at, bytes) ∷ ranges) h k (get_or text k 0) =
    λ k lt keeps out. ap (chosen ranges h k) keeps ∙ ap (λ (b : Bool). if b then h else get_or text k 0) (sym (loose_outside at bytes ranges k (outside k out))) in
    let inner : (k : ℕ) → k < length text → low ≤ k → k < high → chosen ranges h k (get_or next k 0) ≡ chosen ((at, bytes) ∷ ranges) h k (get_or text k 0) =
    λ k lt above below. ap (chosen ranges h k) (over.inside text low part within k above (omega (arith, count)) ∙ get_or-replicate (high - low) (k - low) h 0 (omega arith))
    ∙ either (is_loose ranges k) h ∙ ap (λ (b : Bool). if b then h else get_or text k 0) (sym (loose_inside at bytes ranges k (omega arith) (omega (arith, is_n)))) in
    let at_each : (k : ℕ) → k < length text → chosen ranges h k (get_or next k 0) ≡ chosen ((at, bytes) ∷ ranges) h k (get_or text k 0) =
    λ k lt. ⊎_elim
    (λ below. same_part k lt (over.below text low part within k below) (inl (omega arith)))
    (λ above. ⊎_elim (inner k lt above) (λ past. same_part k lt (over.above text low part within k (omega (arith, count))) (inr (omega arith))) (cases_lt k high))
    (cases_lt k low) in
    same_number_lists _ _ (length-with_loose ranges h 0 next ∙ size ∙ sym (length-with_loose ((at, bytes) ∷ ranges) h 0 text))
    (λ k lt. let here : k < length text = omega (arith, lt, length-with_loose ranges h 0 next, size) in
    read ranges h next k (omega (arith, here, size)) ∙ at_each k here ∙ sym (read ((at, bytes) ∷ ranges) h text k here))

-- the same of the text with a part of it filled
pub part_filled : (ranges : List (ℕ × List ℕ)) (bytes : List ℕ) (h at n low high : ℕ) (text part : List ℕ) → length bytes ≡ n → low ≡ min at (length text) → high ≡ min (at + n) (length text) → part ≡ replicate (high - low) h
    → with_loose ranges h 0 (put_mid low (high - low) text part) ≡ with_loose ((at, bytes) ∷ ranges) h 0 text
part_filled ranges bytes h at n low high text part is_n is_low is_high is_part =
    let rest : drop (high - low) (drop low text) ≡ drop (low + length (replicate (high - low) h)) text =
    drop-drop (high - low) low text ∙ ap (λ (k : ℕ). drop (low + k) text) (sym (length-replicate (high - low) h)) in
    let same : put_mid low (high - low) text part ≡ overwritten text low (replicate (high - low) h) =
    ap (λ (p : List ℕ). put_mid low (high - low) text p) is_part ∙ ap (λ (r : List ℕ). take low text ++ (replicate (high - low) h ++ r)) rest in
    ap (λ (t : List ℕ). with_loose ranges h 0 t) same ∙ range_filled ranges bytes h at n low high text is_n is_low is_high (omega arith)

-- the changes from there on are looked at: what the others make loose is still to be filled
pub record IsFilling (changes : List Record) (byte left : ℕ) (old text : List ℕ) : Type 0 where
  pub within : left ≤ length changes
  pub same : (b : Bool) (start : List ℕ) → with_loose (after b start (take left changes)).loose byte 0 text ≡ with_loose (after b start changes).loose byte 0 old

pub last_change : (changes : List Record) (left i : ℕ) (r : Record) → left ≡ i + 1 → left ≤ length changes → r ≡ get_or changes i r → (b : Bool) (start : List ℕ) → after b start (take left changes) ≡ after_record (after b start (take i changes)) r
last_change changes left i r on within is b start =
    ap (λ (l : List Record). after b start l) (ap (λ (k : ℕ). take k changes) on ∙ take_more changes i r (omega arith) ∙ ap (λ (q : Record). take i changes ++ q ∷ []) (sym is))
    ∙ after_push b start (take i changes) r

pub filling_on : (changes : List Record) (byte left i : ℕ) (old text text' : List ℕ) (r : Record) (at : ℕ) (bytes : List ℕ) → left ≡ i + 1 → r ≡ get_or changes i r
    → ((disk : Medium) → (after_record disk r).loose ≡ (at, bytes) ∷ disk.loose)
    → ((ranges : List (ℕ × List ℕ)) → with_loose ranges byte 0 text' ≡ with_loose ((at, bytes) ∷ ranges) byte 0 text)
    → IsFilling changes byte left old text → IsFilling changes byte i old text'
filling_on changes byte left i old text text' r at bytes on is loosens filled held = record {
  within = omega (arith, on, held.within);
  same = λ b start. grind (arith, filled (after b start (take i changes)).loose, last_change changes left i r on held.within is b start, loosens (after b start (take i changes)), held.same b start) steps 100000;
}

pub filling_meets_sync : (changes : List Record) (byte left i : ℕ) (old text : List ℕ) (r : Record) → left ≡ i + 1 → r ≡ get_or changes i r → r ≡ Synced
    → IsFilling changes byte left old text → (b : Bool) (start : List ℕ) → text ≡ with_loose (after b start changes).loose byte 0 old
filling_meets_sync changes byte left i old text r on is sync held b start =
    grind (arith, none_loose byte 0 text, last_change changes left i r on held.within is b start, sync, held.same b start) steps 100000

pub filling_ends : (changes : List Record) (byte left : ℕ) (old text : List ℕ) → left ≤ 0 → IsFilling changes byte left old text → (b : Bool) (start : List ℕ) → text ≡ with_loose (after b start changes).loose byte 0 old
filling_ends changes byte left old text none held b start = grind (arith, none_loose)
