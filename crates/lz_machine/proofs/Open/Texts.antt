-- A text of these slots: what a device that keeps to nothing may have told, where an open found them.
use Rattle.std.proofs.lemmas.Bool.{cases_lt, Decides.{nat_tests}}
use Rattle.std.proofs.lemmas.List.{get_or_append_left, get_or-append_right, get_or-replicate, get_or_past, length-replicate}
use Rattle.std.proofs.lemmas.{List.Edits.{length-between, get_or-between}, Option.{slice_get_within, get_or_from_slice_get}, Grind.{same_number_lists}}
use Rattle.std.proofs.Common.{◌≡◌, ℕ, zero, suc, ◌+◌, ◌*◌, ◌-◌, ◌<◌, ◌≤◌, List, [], ◌∷◌, ◌++◌, length, take, get_or, refl, sym, ap, ◌∙◌, subst, arith}
use Rattle.std.{proofs.Common.{length-append}, specs.{Int.{byte_at, bytes_high_first}, Prelude.{Some, replicate, slice_get}}}
use Rattle.lz_disk.specs.Images.{AreBytes}
use Rattle.lz_slot.specs.{Limits.{largest_key}, Rooms.{largest_of, number_of}, declared.format.Format.{Format, TheVariants.{Four}}}
use Rattle.lz_slot.specs.Bytes.{open_byte, magic, format_byte, format_of, header_body, member_bytes, slot_body, slot_bytes, slot_read, slot_at}
use Rattle.lz_slot.{specs.Whole.{spelled}, proofs.Files.ExactBytes.{key_of_format, slot_reads_back}}
use Rattle.lz_vault.specs.{declared.vault.Stage.{Stage, TheVariants.{Closed, Torn, Open}}, Stages.{Cell, IsSteady, AreSteady}, Opens.{IsCellOf, AreTornIn}}
use Rattle.lz_vault.specs.Members.{no_cell}

abbrev slot_text : Format → Cell → List ℕ
slot_text F cell = elim cell.stage [ Open ↦ member_bytes F cell.key | Torn ↦ 15 ∷ replicate 15 0 | _ ↦ replicate 16 0 ]

abbrev body_text : Format → List Cell → List ℕ
body_text F [] = []
body_text F (cell ∷ cells) = slot_text F cell ++ body_text F cells

-- a text of a format and of as many slots, with a member where one is open
abbrev pub text_of : Format → List Cell → List ℕ
text_of F cells = (open_byte ∷ header_body F (length cells)) ++ body_text F cells

slot_size : (F : Format) (stage : Stage) (k : ℕ) → length (slot_text F (record { stage = stage; key = k })) ≡ 16
slot_size F stage k = grind (arith, nat_tests)

body_size : (F : Format) (cells : List Cell) → length (body_text F cells) ≡ 16 * length cells
body_size F [] = refl
body_size F (cell ∷ cells) = length-append (slot_text F cell) (body_text F cells) ∙ omega (arith, slot_size F cell.stage cell.key, body_size F cells)

head_size : (F : Format) (n : ℕ) → length (open_byte ∷ header_body F n) ≡ 16
head_size F n = refl

pub text_size : (F : Format) (cells : List Cell) → length (text_of F cells) ≡ 16 + 16 * length cells
text_size F cells = length-append (open_byte ∷ header_body F (length cells)) (body_text F cells) ∙ omega (arith, head_size F (length cells), body_size F cells)

pub text_head : (F : Format) (cells : List Cell) → take 16 (text_of F cells) ≡ open_byte ∷ header_body F (length cells)
text_head F cells = grind arith

body_at : (F : Format) (cells : List Cell) (i j : ℕ) → i < length cells → j < 16 → get_or (body_text F cells) (16 * i + j) 0 ≡ get_or (slot_text F (get_or cells i no_cell)) j 0
body_at F [] i j low lt = absurd (omega (arith, low))
body_at F (cell ∷ cells) zero j low lt = grind (arith, get_or, get_or_append_left, slot_size)
body_at F (cell ∷ cells) (suc i) j low lt = grind (arith, get_or-append_right, slot_size, get_or, body_at F cells i j (omega (arith, low)) lt)

text_slot : (F : Format) (cells : List Cell) (i : ℕ) → i < length cells → slot_bytes (text_of F cells) i ≡ slot_text F (get_or cells i no_cell)
text_slot F cells i low =
    let size = text_size F cells in
    let mine : Cell = get_or cells i no_cell in
    let long : length (slot_bytes (text_of F cells) i) ≡ 16 = length-between (text_of F cells) (16 + 16 * i) (32 + 16 * i) (omega (arith, size, low)) ∙ omega arith in
    same_number_lists (slot_bytes (text_of F cells) i) (slot_text F mine) (long ∙ sym (slot_size F mine.stage mine.key)) (λ j lt.
    let small : j < 16 = omega (arith, lt, long) in
    let back : 16 + 16 * i + j - 16 ≡ 16 * i + j = omega arith in
    get_or-between (text_of F cells) (16 + 16 * i) (32 + 16 * i) j 0 (omega (arith, small))
    ∙ get_or-append_right (open_byte ∷ header_body F (length cells)) (body_text F cells) 16 (16 + 16 * i + j) 0 (head_size F (length cells)) (omega arith)
    ∙ ap (λ (n : ℕ). get_or (body_text F cells) n 0) back ∙ body_at F cells i j low small)

slot_says : (F : Format) (stage : Stage) (k : ℕ) → k ≤ largest_of F → IsSteady stage → (stage ≡ Torn → F ≡ Four) → IsCellOf (slot_read F (slot_text F (record { stage = stage; key = k }))) (record { stage = stage; key = k })
slot_says F Open k fits steady torn = subst (λ r. IsCellOf r (record { stage = Open; key = k })) (sym (slot_reads_back F k fits)) (refl, refl)
slot_says Four Closed k fits steady torn = refl
slot_says F Closed k fits steady torn = refl
slot_says Four Torn k fits steady torn = refl
slot_says F Torn k fits steady torn = let four = torn refl in absurd cc
slot_says F _ k fits steady torn = absurd steady

-- the text names its format
pub text_format : (F : Format) (cells : List Cell) → format_of (text_of F cells) ≡ F
text_format F cells = grind (arith, nat_tests)

-- the text says of each slot what its cell does
pub text_says : (F : Format) (cells : List Cell) → ((i : ℕ) (cell : Cell) → slice_get cells i ≡ Some cell → cell.key ≤ largest_of F) → AreSteady cells → AreTornIn F cells
    → (i : ℕ) (cell : Cell) → slice_get cells i ≡ Some cell → IsCellOf (slot_at (text_of F cells) i) cell
text_says F cells keys steady torn i cell there =
    let low = slice_get_within cells i cell there in
    let is : get_or cells i no_cell ≡ cell = get_or_from_slice_get cells i cell no_cell there in
    subst (λ (G : Format). IsCellOf (slot_read G (slot_bytes (text_of F cells) i)) cell) (sym (text_format F cells))
    (subst (λ bytes. IsCellOf (slot_read F bytes) cell) (sym (text_slot F cells i low ∙ ap (slot_text F) is)) (slot_says F cell.stage cell.key (keys i cell there) (steady i cell there) (torn i cell there)))

-- the bytes of these texts are bytes
small_append : (xs ys : List ℕ) → AreBytes xs → AreBytes ys → AreBytes (xs ++ ys)
small_append xs ys left right i = grind (arith, get_or_append_left, get_or-append_right, cases_lt)

zeros_small : (n : ℕ) → AreBytes (replicate n 0)
zeros_small n i = grind (arith, get_or-replicate, get_or_past, length-replicate, cases_lt)

-- each byte of a number is below 256
byte_small : (k x : ℕ) → byte_at k x < 256
byte_small k x = grind (arith, nat_tests)

-- so the bytes of a number are bytes
pub high_small : (n x i : ℕ) → get_or (bytes_high_first n x) i 0 < 256
high_small zero x i = grind arith
high_small (suc n) x zero = byte_small n x
high_small (suc n) x (suc i) = high_small n x i

letter_small : (F : Format) → format_byte F < 256
letter_small F = grind (arith, nat_tests)

magic_small : (F : Format) → AreBytes (magic F)
magic_small F h = grind (arith, nat_tests, letter_small)

first_small : (b : ℕ) (xs : List ℕ) → b < 256 → AreBytes xs → AreBytes (b ∷ xs)
first_small b xs low all h = grind (arith, nat_tests)

-- and those of a key's body, since its room is one
key_small : (k : ℕ) → k ≤ largest_key → AreBytes (slot_body k)
key_small k fits zero = omega (arith, fits)
key_small k fits (suc i) = small_append (replicate 6 0) (bytes_high_first 8 (number_of k)) (zeros_small 6) (high_small 8 (number_of k)) i

-- and those of a slot that spells a key
spelled_small : (bytes : List ℕ) → AreBytes bytes → AreBytes (spelled bytes)
spelled_small [] all i = omega arith
spelled_small (b ∷ bytes) all zero = let low = all 0 in omega (arith, low)
spelled_small (b ∷ bytes) all (suc zero) = omega arith
spelled_small (b ∷ bytes) all (suc (suc i)) = spelled_small bytes (λ j. all (suc j)) i

slot_small : (F : Format) (stage : Stage) (k : ℕ) → k ≤ largest_key → AreBytes (slot_text F (record { stage = stage; key = k }))
slot_small Four Open k fits = spelled_small (bytes_high_first 8 k) (high_small 8 k)
slot_small F Open k fits = first_small open_byte (slot_body k) (omega arith) (key_small k fits)
slot_small F Torn k fits = first_small 15 (replicate 15 0) (omega arith) (zeros_small 15)
slot_small F _ k fits = zeros_small 16

body_small : (F : Format) (cells : List Cell) → ((i : ℕ) (cell : Cell) → slice_get cells i ≡ Some cell → cell.key ≤ largest_key) → AreBytes (body_text F cells)
body_small F [] keys = λ i. omega arith
body_small F (cell ∷ cells) keys = small_append (slot_text F cell) (body_text F cells) (slot_small F cell.stage cell.key (keys 0 cell refl)) (body_small F cells (λ i x there. keys (suc i) x there))

pub text_bytes : (F : Format) (cells : List Cell) → ((i : ℕ) (cell : Cell) → slice_get cells i ≡ Some cell → cell.key ≤ largest_of F) → AreBytes (text_of F cells)
text_bytes F cells keys = small_append (open_byte ∷ header_body F (length cells)) (body_text F cells)
    (first_small open_byte (header_body F (length cells)) (omega arith) (small_append (magic F) (bytes_high_first 8 (length cells)) (magic_small F) (high_small 8 (length cells))))
    (body_small F cells (λ i cell there. key_of_format F cell.key (keys i cell there)))
