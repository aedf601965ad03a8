-- Keys and the texts that spell them.
use Rattle.std.proofs.Common.{◌≡◌, ℕ, ◌+◌, ◌-◌, ◌≤◌, ◌==◌, length-append, List, [], ◌∷◌, ◌++◌, length, take, drop, decimal, true, false, nat_eq, Option, Some}
use Rattle.std.proofs.{Common.{None, Result, Ok, Err, inl, inr, arith, refl, sym, ap, ◌∙◌}, lemmas.Bool.{cond_both, false_from_ne_true, false≢true}}
use Rattle.std.{proofs.lemmas.{Bool.Decides.{nat_tests}, List.{take_rest}, Fmt.{length-decimal-le, digits_decimal}}, specs.List.{list_all}}
use Rattle.memchr.specs.Find.{IsFirstByte, is_byte}
use Rattle.lz_slot.specs.{Limits.{largest_key, largest_number, last_room}, Rooms.{rank, room_of, number_of}, Numerals.{is_digit, largest_read, number_in}}
use Rattle.lz_slot.specs.Texts.{fault_behind, fault_in, fault_of_parts, key_behind, key_in, key_of_number, key_of_parts, key_read, key_text, parted}
use Rattle.lz_slot.specs.{Texts.{text_with_room, Spells, KeysReadBack, KeysAreRefused, WrittenKeysAreSpelled}, declared.spelling.KeyFault.{KeyFault}}
use Rattle.lz_slot.specs.declared.spelling.KeyFault.TheVariants.{TooLarge}
use Rattle.lz_slot.proofs.Texts.Cuts.{AreParts, Lacks, lacks_all, lacks_more, parted_at, parted_clear, parted_none, parted_whole}
use Rattle.lz_slot.proofs.Texts.Numerals.{decimal_number, decimal_read, number_told_of, tested}

-- the parts of a text that memchr found
pub with_colon : (text : List ℕ) (e : ℕ) (r : Result ℕ KeyFault) → IsFirstByte (is_byte 58) text (Some e)
    → r ≡ key_behind (number_in 0 last_room (take e text)) (take (length text - (e + 1)) (drop (e + 1) text)) → r ≡ key_read text
with_colon text e r first is = grind (arith, take_rest, parted_at)

pub without_colon : (text : List ℕ) → IsFirstByte (is_byte 58) text None → key_in 0 text ≡ key_read text
without_colon text none = ap (key_of_parts text) (sym (parted_none 58 text (lacks_all 58 text none)))

-- a byte that is no digit doesn't stand in a number
not_digit : (c b : ℕ) → is_digit c ≡ false → is_digit b ≡ true → nat_eq c b ≡ false
not_digit c b other digit = false_from_ne_true (nat_eq c b) (λ e. let same : c ≡ b = grind (arith, nat_tests) in false≢true (sym other ∙ ap is_digit same ∙ digit))

digits_lack : (c : ℕ) (t : List ℕ) → is_digit c ≡ false → list_all is_digit t ≡ true → Lacks c t
digits_lack c [] other h = refl
digits_lack c (b ∷ t) other h =
    let rest = digits_lack c t other (grind (arith, nat_tests)) in
    let here = not_digit c b other (grind (arith, nat_tests)) in
    rw here rest

pub decimal_lacks : (c n : ℕ) → is_digit c ≡ false → n ≤ largest_read → Lacks c (decimal n)
decimal_lacks c n other small = digits_lack c (decimal n) other (digits_decimal tested n (omega arith))

pub lacks_join : (c : ℕ) (t u : List ℕ) → Lacks c t → Lacks c u → Lacks c (t ++ u)
lacks_join c [] u p q = q
lacks_join c (b ∷ t) u p q = let both = lacks_more c b t p in rw (both.0) (lacks_join c t u both.1 q)

-- what is written of a key is digits and a colon
pub key_text_lacks : (c k : ℕ) → is_digit c ≡ false → nat_eq c 58 ≡ false → k ≤ largest_key → Lacks c (key_text k)
key_text_lacks c k other unlike small = grind (arith, cond_both, decimal, decimal_lacks, lacks_join)

-- a number's text is read as the key of its room
key_in_decimal : (room n : ℕ) → n ≤ largest_number → key_in room (decimal n) ≡ Ok (rank room n)
key_in_decimal room n small = grind (arith, decimal, decimal_number, cond_both, decimal_read)

same_key : (k : ℕ) → rank (room_of k) (number_of k) ≡ k
same_key k = omega arith

read_with_room : (k : ℕ) → k ≤ largest_key → key_read (text_with_room k) ≡ Ok k
read_with_room k small = grind (arith, parted_clear, decimal, decimal_lacks, decimal_read, key_in_decimal, same_key)

decimal_alone : (n : ℕ) → n ≤ largest_number → key_read (decimal n) ≡ Ok (rank 0 n)
decimal_alone n small = ap (key_of_parts (decimal n)) (parted_none 58 (decimal n) (decimal_lacks 58 n refl (omega arith))) ∙ key_in_decimal 0 n small

read_alone : (k : ℕ) → k ≤ largest_key → room_of k ≡ 0 → key_read (decimal (number_of k)) ≡ Ok k
read_alone k small first = decimal_alone (number_of k) (omega arith) ∙ ap (λ (n : ℕ). Ok n) (omega arith)

-- a number alone is a key of room 0
pub number_alone : (text : List ℕ) (n : ℕ) → number_in 0 largest_number text ≡ Some n → key_read text ≡ Ok (rank 0 n)
number_alone text n e = let told = number_told_of 0 largest_number n text e in ap key_read told.2 ∙ decimal_alone n told.1

pub spelled_read : (text : List ℕ) (k : ℕ) → k ≤ largest_key → Spells text k → key_read text ≡ Ok k
spelled_read text k small (inl with) = ap key_read with ∙ read_with_room k small
spelled_read text k small (inr (first, alone)) = ap key_read alone ∙ read_alone k small first

-- what a number in a room tells
numbered : (room k : ℕ) (text : List ℕ) (n : Option ℕ) → number_in 0 largest_number text ≡ n → key_of_number room n ≡ Ok k
    → (j : ℕ) × (j ≤ largest_number) × (text ≡ decimal j) × (k ≡ rank room j)
numbered room k text None e is = absurd (cc)
numbered room k text (Some j) e is = grind (arith, number_told_of)

key_in_told : (room k : ℕ) (text : List ℕ) → key_in room text ≡ Ok k → (j : ℕ) × (j ≤ largest_number) × (text ≡ decimal j) × (k ≡ rank room j)
key_in_told room k text = grind (arith, cond_both, decimal, numbered)

abbrev IsSpelled : List ℕ → ℕ → Type 0
IsSpelled text k = (k ≤ largest_key) × Spells text k

told_alone : (text : List ℕ) (k : ℕ) → key_in 0 text ≡ Ok k → IsSpelled text k
told_alone text k is =
    let (j, small, text_is, key_is) = key_in_told 0 k text is in
    let number : number_of k ≡ j = omega arith in
    (omega arith, inr (omega arith, text_is ∙ ap decimal (sym number)))

told_behind : (text front rest : List ℕ) (k : ℕ) (room : Option ℕ) → text ≡ front ++ 58 ∷ rest → number_in 0 last_room front ≡ room → key_behind room rest ≡ Ok k → IsSpelled text k
told_behind text front rest k None whole e is = absurd (cc)
told_behind text front rest k (Some r) whole e is =
    let (low, fits, front_is) = number_told_of 0 last_room r front e in
    let (j, small, rest_is, key_is) = key_in_told r k rest is in
    let room : room_of k ≡ r = omega arith in
    let number : number_of k ≡ j = omega arith in
    let text_is : text ≡ decimal r ++ 58 ∷ decimal j =
    whole ∙ ap (λ (t : List ℕ). t ++ 58 ∷ rest) front_is ∙ ap (λ (t : List ℕ). decimal r ++ 58 ∷ t) rest_is in
    (omega arith, inl (rw (room, number) text_is))

told_parts : (text : List ℕ) (k : ℕ) (p : Option (List ℕ × List ℕ)) → AreParts 58 text p → key_of_parts text p ≡ Ok k → IsSpelled text k
told_parts text k None whole is = told_alone text k is
told_parts text k (Some p) whole is = told_behind text p.0 p.1 k (number_in 0 last_room p.0) whole refl is

pub read_spelled : (text : List ℕ) (k : ℕ) → key_read text ≡ Ok k → (k ≤ largest_key) × Spells text k
read_spelled text k is = told_parts text k (parted 58 text) (parted_whole 58 text) is

pub keys_read_back : KeysReadBack
keys_read_back text k = (λ is. read_spelled text k is, λ (small, spells). spelled_read text k small spells)

fault_of_number : (room : ℕ) (n : Option ℕ) (fault : KeyFault) → key_of_number room n ≡ Err fault → TooLarge ≡ fault
fault_of_number room None fault is = cc
fault_of_number room (Some n) fault is = absurd (cc)

refused_in : (room : ℕ) (text : List ℕ) (fault : KeyFault) → key_in room text ≡ Err fault → fault_in text ≡ fault
refused_in room text fault = grind (arith, cond_both, fault_of_number)

refused_behind : (room : Option ℕ) (text : List ℕ) (fault : KeyFault) → key_behind room text ≡ Err fault → fault_behind room text ≡ fault
refused_behind None text fault is = cc
refused_behind (Some room) text fault is = refused_in room text fault is

refused_parts : (text : List ℕ) (p : Option (List ℕ × List ℕ)) (fault : KeyFault) → key_of_parts text p ≡ Err fault → fault_of_parts text p ≡ fault
refused_parts text None fault is = refused_in 0 text fault is
refused_parts text (Some p) fault is = refused_behind (number_in 0 last_room p.0) p.1 fault is

pub keys_are_refused : KeysAreRefused
keys_are_refused text fault is = refused_parts text (parted 58 text) fault is

pub written_keys_are_spelled : WrittenKeysAreSpelled
written_keys_are_spelled k = cond_both (room_of k == 0) (decimal (number_of k)) (text_with_room k) (λ (t : List ℕ). Spells t k)
    (λ first. inr (grind (arith, nat_tests), refl)) (λ _. inl refl)

-- a spelling has at most 21 bytes
pub spelled_short : (text : List ℕ) (k : ℕ) → k ≤ largest_key → Spells text k → length text ≤ 21
spelled_short text k small (inl with) =
    let room : length (decimal (room_of k)) ≤ 2 = length-decimal-le 2 (room_of k) (omega arith) (omega arith) (omega arith) in
    let number : length (decimal (number_of k)) ≤ 18 = length-decimal-le 18 (number_of k) (omega arith) (omega arith) (omega arith) in
    rw with (omega (arith, length-append (decimal (room_of k)) (58 ∷ decimal (number_of k))))
spelled_short text k small (inr (first, alone)) = grind (arith, decimal, length-decimal-le)
