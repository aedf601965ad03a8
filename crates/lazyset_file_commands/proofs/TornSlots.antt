-- The torn slots of a file, piece by piece.
use Rattle.std.proofs.Common.{◌≡◌, ◌⊎◌, ℕ, zero, suc, ◌+◌, ◌*◌, ◌/◌, ◌≤◌, true, false, List, ◌++◌, length, take, refl, sym, ◌∙◌, ap, subst, arith, append_assoc}
use Rattle.std.proofs.{Common.{length-append, take_all, Option, Ok, Err, slice_range}, lemmas.{List.{take-append-le}, Bool.Decides.{nat_tests}}}
use Rattle.std.{proofs.KnownBytes.{Consumes-trans}, specs.Io.KnownBytes.{Consumes}}
use Rattle.lz_slot.specs.{Bytes.{format_of, gated_read, header_read, of_size, slot_at, slot_bytes, slot_read}, declared.format.Format.{Format}}
use Rattle.lz_slot.specs.declared.{format.Format.TheVariants.{One, Two, Three, Four}, header.HeaderFault.{HeaderFault}, slot.SlotRead.{SlotRead}}
use Rattle.lz_slot.proofs.Files.HeadBytes.{format_alone, head_alone}
use Rattle.lz_judge.{specs.{Scans.{IsPieceAt}, Surveys.{OfText}}, proofs.Surveys.PieceReads.{of_text, slot_in_piece}}
use Rattle.lazyset_file_commands.specs.Torn.{CountsTorn, HasTorn, is_torn, torn_below}

-- one slot more
pub torn_more : (says : ℕ → SlotRead) (n next : ℕ) → next ≡ suc n → is_torn (says n) ≡ true → torn_below says next ≡ torn_below says n + 1
torn_more says n next after is = rw after (rw is refl)

pub torn_same : (says : ℕ → SlotRead) (n next : ℕ) → next ≡ suc n → is_torn (says n) ≡ false → torn_below says next ≡ torn_below says n
torn_same says n next after is = rw after (rw is (omega arith))

-- a slot of a piece of format 4
pub says_in_piece : (t : List ℕ) (n i : ℕ) (piece : List ℕ) → format_of t ≡ Four → IsPieceAt t n piece → 16 * i + 16 ≤ length piece → slot_at t (n + i) ≡ slot_read Four (slice_range piece (16 * i) (16 * i + 16))
says_in_piece t n i piece four at low = grind (arith, slot_in_piece)

-- no slot of another format is torn
none_gated : (F : Format) (bytes : List ℕ) → is_torn (gated_read F bytes) ≡ false
none_gated F bytes = grind (arith, nat_tests)

none_torn : (says : ℕ → SlotRead) → ((i : ℕ) → is_torn (says i) ≡ false) → (n : ℕ) → torn_below says n ≡ 0
none_torn says none zero = refl
none_torn says none (suc n) = let here : is_torn (says n) ≡ false = none n in let before = none_torn says none n in rw here (omega (arith, before))

-- The reader gave a head and n slots, of which so many are torn.
pub record HasCounted (head : List ℕ) (input now : Option (List ℕ)) (n count : ℕ) : Type 0 where
  pub text : List ℕ
  pub begins : take 16 text ≡ head
  pub size : length text ≡ 16 + 16 * n
  pub given : Consumes input now text
  pub torn : (rest : List ℕ) → torn_below (slot_at (text ++ rest)) n ≡ count

-- the head of a text is that of each longer one
begins_longer : (text rest head : List ℕ) → 16 ≤ length text → take 16 text ≡ head → take 16 (text ++ rest) ≡ head
begins_longer text rest head long begins = take-append-le 16 text rest long ∙ begins

begins_with : (head : List ℕ) → length head ≡ 16 → take 16 head ≡ head
begins_with head size = take_all 16 head (omega (arith, size))

-- at first
pub counted_none : (head : List ℕ) (input now : Option (List ℕ)) → length head ≡ 16 → Consumes input now head → HasCounted head input now 0 0
counted_none head input now size given = record { text = head; begins = begins_with head size; size = size; given = given; torn = λ rest. refl }

-- one piece more
pub counted_more : (head : List ℕ) (input now after : Option (List ℕ)) (n m count more : ℕ) (piece : List ℕ) → format_of head ≡ Four → length piece ≡ 16 * m → Consumes now after piece
    → ((t : List ℕ) (first : ℕ) → format_of t ≡ Four → IsPieceAt t first piece → torn_below (slot_at t) (first + length piece / 16) ≡ torn_below (slot_at t) first + more)
    → HasCounted head input now n count → HasCounted head input after (n + m) (count + more)
counted_more head input now after n m count more piece four size given torn read = record {
  text = read.text ++ piece;
  begins = begins_longer read.text piece head long read.begins;
  size = omega (arith, length-append read.text piece, read.size, size);
  given = Consumes-trans input now after read.text piece read.given given;
  torn = λ rest.
      let t = (read.text ++ piece) ++ rest in
      let whole : read.text ++ (piece ++ rest) ≡ t = sym (append_assoc read.text piece rest) in
      let front : take 16 t ≡ head = ap (take 16) (sym whole) ∙ begins_longer read.text (piece ++ rest) head long read.begins in
      let here : format_of t ≡ Four = sym (format_alone t) ∙ ap format_of front ∙ four in
      let before : torn_below (slot_at t) n ≡ count = ap (λ (l : List ℕ). torn_below (slot_at l) n) (sym whole) ∙ read.torn (piece ++ rest) in
      let slots : length piece / 16 ≡ m = omega (arith, size) in
      let here = torn t n here (record { front = read.text; rest = rest; whole = refl; size = read.size }) in
      ap (λ (k : ℕ). torn_below (slot_at t) (n + k)) (sym slots) ∙ here ∙ ap (λ (k : ℕ). k + more) before;
}
  where
    long : 16 ≤ length read.text
    long = omega (arith, read.size)

-- at the end
pub counted_all : (head : List ℕ) (input now : Option (List ℕ)) (n slots count : ℕ) → n ≡ slots → HasCounted head input now n count → OfText (CountsTorn head slots count) input
counted_all head input now n slots count all read =
    of_text (CountsTorn head slots count) input now read.text read.given
    (λ rest ended.
    record {
      begins = begins_longer read.text rest head (omega (arith, read.size)) read.begins;
      torn = sym (read.torn rest) ∙ ap (torn_below (slot_at (read.text ++ rest))) all;
    })

-- a head that says this
head_says : (head t : List ℕ) → take 16 t ≡ head → header_read head (length t) ≡ header_read t (length t)
head_says head t begins = ap (λ (l : List ℕ). header_read l (length t)) (sym begins) ∙ sym (head_alone t (length t))

has_slots : (t : List ℕ) (N : ℕ) → header_read t (length t) ≡ Ok N → 16 ≤ length t
has_slots t N is = grind (arith, nat_tests)

-- a head whose slots aren't looked at
module _ (head : List ℕ) (input now : Option (List ℕ)) (size : length head ≡ 16) (given : Consumes input now head) where
  pub refused_has : (fault : HeaderFault) → ((size : ℕ) → 16 ≤ size → header_read head size ≡ of_size size (Err fault)) → OfText (λ t. HasTorn t 0) input
  refused_has fault says =
      of_text (λ t. HasTorn t 0) input now head given
      (λ rest ended N is.
      let t = head ++ rest in
      let begins : take 16 t ≡ head = begins_longer head rest head (omega (arith, size)) (begins_with head size) in
      let never = sym (says (length t) (has_slots t N is)) ∙ head_says head t begins ∙ is in
      absurd (let other : Err fault ≡ Ok N = never in cc))

  pub gated_has : (F : Format) → F ≡ format_of head → (F ≡ One) ⊎ ((F ≡ Two) ⊎ (F ≡ Three)) → OfText (λ t. HasTorn t 0) input
  gated_has F is other =
      of_text (λ t. HasTorn t 0) input now head given
      (λ rest ended N told.
      let t = head ++ rest in
      let begins : take 16 t ≡ head = begins_longer head rest head (omega (arith, size)) (begins_with head size) in
      let same : format_of t ≡ F = sym (format_alone t) ∙ ap format_of begins ∙ sym is in
      sym (none_torn (slot_at t) (λ i. none_at (format_of t) (slot_bytes t i) (subst IsGated (sym same) other)) N))
    where
      IsGated : Format → Type 0
      IsGated F = (F ≡ One) ⊎ ((F ≡ Two) ⊎ (F ≡ Three))

      none_at : (F : Format) (bytes : List ℕ) → IsGated F → is_torn (slot_read F bytes) ≡ false
      none_at One bytes is = none_gated One bytes
      none_at Two bytes is = none_gated Two bytes
      none_at Three bytes is = none_gated Three bytes
      none_at Four bytes is = absurd (grind arith)
