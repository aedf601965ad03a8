-- What a reader gave, piece by piece.
use Rattle.std.proofs.Common.{◌≡◌, ◌≢◌, ℕ, ◌+◌, ◌*◌, ◌/◌, ◌-◌, ◌<◌, ◌≤◌, List, [], ◌∷◌, ◌++◌, length, take, drop, refl, sym, ◌∙◌, ap, subst, arith, le_refl}
use Rattle.std.proofs.Common.{append_assoc, length-append, Option, Some, None, Ok, Err, true, false, nat_lt, slice_range, Vec, Global}
use Rattle.std.proofs.lemmas.{List.{length-take-le, take-append-le, drop-append-le, take-append-drop}, Slice.{take-put_mid_below}, Bool.Decides.{nat_tests}}
use Rattle.std.{proofs.{Math.Seq.{drop-append-add, take-append-add}, KnownBytes.{Consumes-trans}}, specs.Io.KnownBytes.{Consumes, IsAtEnd, Keeps}}
use borrow.Rule.Slice.PartMut.{put_mid}
use Rattle.lz_slot.specs.{Bytes.{header_body, header_read, of_size, open_byte, slot_at, slot_bytes}, declared.{format.Format.{Format}, header.Header.{Header}}}
use Rattle.lz_slot.specs.declared.{header.HeaderFault.{HeaderFault, TheVariants.{NotMade, WrongLength}}, slot.SlotRead.{SlotRead}}
use Rattle.lz_slot.proofs.Files.HeadBytes.{format_alike, head_alone}
use Rattle.lz_judge.specs.declared.{finding.{Finding.{Finding}, Survey.TheVariants.{Found, Refused}}, scan.Scan.{Scan}}
use Rattle.lz_judge.specs.{Scans.{BeginsWith, EndsWithin, GivesPiece, HadMore, IsPieceAt, Scanned}, Surveys.{AreFindings, IsSurveyed, OfText}}
use Rattle.lz_judge.proofs.Surveys.SoundFile.{refused_surveyed, sound_holds}

-- more bytes of a buffer were read
take_filled : (a k n : ℕ) (xs ys : List ℕ) → a ≤ length xs → n ≤ length ys → take (a + n) (put_mid a k xs ys) ≡ take a xs ++ take n ys
take_filled a k n xs ys within fits = grind (arith, length-take-le, take-append-add, take-append-le)

pub fill_more : (before middle after : Option (List ℕ)) (a k n : ℕ) (xs ys : List ℕ) → a ≤ length xs → n ≤ length ys → Consumes before middle (take a xs) → Consumes middle after (take n ys)
    → Consumes before after (take (a + n) (put_mid a k xs ys))
fill_more before middle after a k n xs ys within fits one more =
    subst (Consumes before after) (sym (take_filled a k n xs ys within fits)) (Consumes-trans before middle after (take a xs) (take n ys) one more)

pub fill_kept : (before middle after : Option (List ℕ)) (a k : ℕ) (xs ys : List ℕ) → a ≤ length xs → Consumes before middle (take a xs) → Keeps middle after
    → Consumes before after (take a (put_mid a k xs ys))
fill_kept before middle after a k xs ys within one kept = grind (arith, take-put_mid_below, le_refl)

-- what holds of the text that was read, whatever follows it, holds of the whole
pub of_text : (P : List ℕ → Type 0) (input after : Option (List ℕ)) (text : List ℕ) → Consumes input after text → ((rest : List ℕ) → (IsAtEnd after → rest ≡ []) → P (text ++ rest)) → OfText P input
of_text P None after text given holds = (text ++ [], tt, holds [] (λ ended. refl))
of_text P (Some bytes) None text given holds = absurd given
of_text P (Some bytes) (Some rest) text given holds = (text ++ rest, sym given, holds rest (λ ended. ended))

-- the bytes of a slot of a piece
pub slot_in_piece : (t : List ℕ) (n i : ℕ) (piece : List ℕ) → IsPieceAt t n piece → 16 * i + 16 ≤ length piece → slot_bytes t (n + i) ≡ slice_range piece (16 * i) (16 * i + 16)
slot_in_piece t n i piece at low =
    let after = piece ++ at.rest in
    let size : (32 + 16 * (n + i)) - (16 + 16 * (n + i)) ≡ 16 = omega arith in
    let same : (16 * i + 16) - 16 * i ≡ 16 = omega arith in
    let from : 16 + 16 * (n + i) ≡ length at.front + 16 * i = omega (arith, at.size) in
    let whole : t ≡ at.front ++ after = at.whole ∙ append_assoc at.front piece at.rest in
    let there : drop (16 + 16 * (n + i)) t ≡ drop (16 * i) piece ++ at.rest =
    ap (λ (m : ℕ). drop m t) from ∙ ap (drop (length at.front + 16 * i)) whole ∙ drop-append-add at.front after (16 * i) ∙ drop-append-le (16 * i) piece at.rest (omega arith) in
    ap (λ (m : ℕ). take m (drop (16 + 16 * (n + i)) t)) size
    ∙ ap (take 16) there
    ∙ take-append-le 16 (drop (16 * i) piece) at.rest (enough (16 * i) piece low)
    ∙ ap (λ (m : ℕ). take m (drop (16 * i) piece)) (sym same)
  where
    enough : (m : ℕ) (xs : List ℕ) → m + 16 ≤ length xs → 16 ≤ length (drop m xs)
    enough m xs long = let count = length-append (take m xs) (drop m xs) in let front = length-take-le m xs (omega arith) in let parts = ap length (take-append-drop m xs) in omega (arith, count, front, parts)

-- the head of a text is that of each longer one
same_head : (text longer : List ℕ) (size : ℕ) → take 16 text ≡ take 16 longer → header_read longer size ≡ header_read text size
same_head text longer size front = head_alone longer size ∙ ap (λ (l : List ℕ). header_read l size) (sym front) ∙ sym (head_alone text size)

begins_longer : (header : Header) (text rest : List ℕ) → BeginsWith header text → BeginsWith header (text ++ rest)
begins_longer header text rest begins = record {
  long = omega (arith, begins.long, length-append text rest);
  bytes = front ∙ begins.bytes;
  format = begins.format ∙ format_alike text (text ++ rest) (sym front);
  slots = λ size long. same_head text (text ++ rest) size (sym front) ∙ begins.slots size long;
}
  where
    front : take 16 (text ++ rest) ≡ take 16 text
    front = take-append-le 16 text rest begins.long

-- a head in a file of its length, or of another
right_size : (size slots : ℕ) → size ≡ 16 + 16 * slots → of_size size (Ok slots) ≡ Ok slots
right_size size slots same = grind (arith, nat_tests)

wrong_size : (size slots : ℕ) → size ≢ 16 + 16 * slots → of_size size (Ok slots) ≡ Err WrongLength
wrong_size size slots other = grind (arith, nat_tests)

wrong_length : (header : Header) (t : List ℕ) → BeginsWith header t → length t ≢ 16 + 16 * header.slots → IsSurveyed t (Refused WrongLength)
wrong_length header t begins other = refused_surveyed t WrongLength (begins.slots (length t) begins.long ∙ wrong_size (length t) header.slots other)

-- a file that is shorter than a head, and one whose head has a fault
not_made : (t : List ℕ) (size : ℕ) → size < 16 → header_read t size ≡ Err NotMade
not_made t size short = let few : nat_lt size 16 ≡ true = grind (arith, nat_tests) in rw few refl

pub read_part : (input after : Option (List ℕ)) (part : List ℕ) → length part < 16 → IsAtEnd after → Consumes input after part → OfText (λ t. IsSurveyed t (Refused NotMade)) input
read_part input after part short end given =
    of_text (λ t. IsSurveyed t (Refused NotMade)) input after part given
    (λ rest ended.
    let none = ap length (ended end) in
    refused_surveyed (part ++ rest) NotMade (not_made (part ++ rest) (length (part ++ rest)) (omega (arith, none, length-append part rest, short))))

pub read_fault : (input after : Option (List ℕ)) (head : List ℕ) (fault : HeaderFault) → length head ≡ 16 → ((size : ℕ) → 16 ≤ size → header_read head size ≡ Err fault) → Consumes input after head
    → OfText (λ t. IsSurveyed t (Refused fault)) input
read_fault input after head fault size is given =
    of_text (λ t. IsSurveyed t (Refused fault)) input after head given
    (λ rest ended.
    let front : take 16 (head ++ rest) ≡ take 16 head = take-append-le 16 head rest (omega (arith, size)) in
    let long : 16 ≤ length (head ++ rest) = omega (arith, size, length-append head rest) in
    refused_surveyed (head ++ rest) fault (same_head head (head ++ rest) (length (head ++ rest)) (sym front) ∙ is (length (head ++ rest)) long))

-- The reader gave a head that says this and n slots, and what they say was taken.
pub record HasRead (header : Header) (input now : Option (List ℕ)) (n : ℕ) (scan : Scan) : Type 0 where
  pub text : List ℕ
  pub begins : BeginsWith header text
  pub size : length text ≡ 16 + 16 * n
  pub given : Consumes input now text
  pub scanned : (rest : List ℕ) → Scanned (slot_at (text ++ rest)) n scan

pub read_none : (header : Header) (input now : Option (List ℕ)) (head : List ℕ) (scan : Scan) → BeginsWith header head → length head ≡ 16 → Consumes input now head → ((says : ℕ → SlotRead) → Scanned says 0 scan)
    → HasRead header input now 0 scan
read_none header input now head scan begins size given none = record { text = head; begins = begins; size = size; given = given; scanned = λ rest. none (slot_at (head ++ rest)) }

module _ (header : Header) (input now after : Option (List ℕ)) (n : ℕ) (old : Scan) (read : HasRead header input now n old) where
  -- one piece more
  pub read_more : (m : ℕ) (piece : List ℕ) (new : Scan) → length piece ≡ 16 * m → GivesPiece header.format n piece old new now after → HasRead header input after (n + m) new
  read_more m piece new size gives = record {
    text = read.text ++ piece;
    begins = begins_longer header read.text piece read.begins;
    size = omega (arith, length-append read.text piece, read.size, size);
    given = Consumes-trans input now after read.text piece read.given gives.given;
    scanned = λ rest.
        let t = (read.text ++ piece) ++ rest in
        let whole : read.text ++ (piece ++ rest) ≡ t = sym (append_assoc read.text piece rest) in
        let format = (begins_longer header (read.text ++ piece) rest (begins_longer header read.text piece read.begins)).format in
        let before = subst (λ (l : List ℕ). Scanned (slot_at l) n old) whole (read.scanned (piece ++ rest)) in
        let count : n + length piece / 16 ≡ n + m = omega (arith, size) in
        subst (λ (k : ℕ). Scanned (slot_at t) k new) count (gives.taken t format (record { front = read.text; rest = rest; whole = refl; size = read.size }) before);
  }

  -- the file is shorter
  pub read_short : (m size : ℕ) → size ≡ 16 * m → n + m ≤ header.slots → EndsWithin size now after → OfText (λ t. IsSurveyed t (Refused WrongLength)) input
  read_short m size is within ends =
      of_text (λ t. IsSurveyed t (Refused WrongLength)) input after (read.text ++ ends.part) (Consumes-trans input now after read.text ends.part read.given ends.given)
      (λ rest ended.
      let none = ap length (ended ends.ended) in
      let count = length-append (read.text ++ ends.part) rest in
      wrong_length header ((read.text ++ ends.part) ++ rest) (begins_longer header (read.text ++ ends.part) rest (begins_longer header read.text ends.part read.begins))
      (λ same. omega (arith, same, none, count, length-append read.text ends.part, read.size, ends.short, is, within)))

  -- the file is longer
  pub read_longer : n ≡ header.slots → HadMore true now after → OfText (λ t. IsSurveyed t (Refused WrongLength)) input
  read_longer all (byte, given) =
      of_text (λ t. IsSurveyed t (Refused WrongLength)) input after (read.text ++ byte ∷ []) (Consumes-trans input now after read.text (byte ∷ []) read.given given)
      (λ rest ended.
      let count = length-append (read.text ++ byte ∷ []) rest in
      wrong_length header ((read.text ++ byte ∷ []) ++ rest) (begins_longer header (read.text ++ byte ∷ []) rest (begins_longer header read.text (byte ∷ []) read.begins))
      (λ same. omega (arith, same, count, length-append read.text (byte ∷ []), read.size, all)))

  -- it has its length
  pub read_whole : n ≡ header.slots → HadMore false now after → (findings : Vec Finding Global) → ((says : ℕ → SlotRead) (slots : ℕ) → Scanned says slots old → AreFindings says slots findings.items)
      → OfText (λ t. IsSurveyed t (Found header findings)) input
  read_whole all end findings finds =
      of_text (λ t. IsSurveyed t (Found header findings)) input now read.text read.given
      (λ rest ended.
      let t = read.text ++ rest in
      let none = ap length (ended end) in
      let begins = begins_longer header read.text rest read.begins in
      let size : length t ≡ 16 + 16 * header.slots = omega (arith, none, length-append read.text rest, read.size, all) in
      let head : header_read t (length t) ≡ Ok header.slots = begins.slots (length t) begins.long ∙ right_size (length t) header.slots size in
      let found = subst (λ (k : ℕ). AreFindings (slot_at t) k findings.items) all (finds (slot_at t) n (read.scanned rest)) in
      let bytes = begins.bytes ∙ ap (λ (F : Format). open_byte ∷ header_body F header.slots) begins.format in
      record { told = (head, begins.format, found); good = sound_holds t header.slots findings.items bytes head found })
