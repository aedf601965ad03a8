-- Lines of one or two digits, and frames of three arguments that have such lines.
use Rattle.std.proofs.Common.{◌≡◌, ℕ, suc, ◌+◌, ◌-◌, ◌*◌, ◌/◌, ◌%◌, ◌<◌, ◌≤◌, List, [], ◌∷◌, ◌++◌, length, take, drop, get_or, true, false, nat_lt, decimal}
use Rattle.std.proofs.{Common.{Some, Ok, refl, sym, ap, ◌∙◌, arith, append_assoc}, Math.Seq.{take-length}, lemmas.Bool.Decides.{nat_tests}}
use Rattle.std.{proofs.lemmas.Fmt.{decimal_digit}, specs.Prelude.{◌==◌, ◌&&◌}}
use Rattle.itoa.proofs.Decimal.{decimal_two}
use Rattle.lz_slot.proofs.Texts.{Numerals.{decimal_read}, Spellings.{decimal_lacks}}
use Rattle.lz_proto.specs.Lines.{carriage_return, line_feed}
use Rattle.lz_resp.specs.{Digits.{digit_of}, Limits.{most_frame}, Frames.{dollar, line_end}}
use Rattle.lz_resp.specs.{Reading.{Front, and_then, bulk_at, end_at, first_of, frame_at, line_at, argument_at, argument_of, arguments_at}, declared.fault.Fault.{Fault}}
use Rattle.lz_resp.{specs.declared.fault.Fault.TheVariants.{NoEnd}, proofs.{Fronts.{first_found}, LongerTexts.{given}, Spellings.{line_read}}}

short_line : (fault : Fault) (n : ℕ) (text rest : List ℕ) → n < 100 → text ≡ decimal n ++ line_end ++ rest → line_at fault text ≡ given (decimal n) rest
short_line fault n text rest low is = grind (arith, decimal, decimal_lacks, append_assoc, line_read)

short_bulk : (n : ℕ) (text rest : List ℕ) → n < 100 → text ≡ decimal n ++ line_end ++ rest → bulk_at text ≡ argument_of (Some n) rest
short_bulk n text rest low is = grind (arith, short_line, decimal_read)

-- the byte is the digit of the number
digit_is : (b n : ℕ) → digit_of b ≡ Some n → (b ≡ 48 + n) × (n ≤ 9)
digit_is b n is = (grind (arith, nat_tests), grind (arith, nat_tests))

-- the text begins with the line of a number of at most two digits
abbrev pub Begins : List ℕ → ℕ → List ℕ → Type 0
Begins text n rest = (text ≡ decimal n ++ line_end ++ rest) × (n < 100)

-- a line of one digit
pub line_of_one : (text : List ℕ) (n : ℕ) → 3 ≤ length text → digit_of (get_or text 0 0) ≡ Some n → get_or text 1 0 ≡ 13 → get_or text 2 0 ≡ 10 → Begins text n (take (length text - 3) (drop 3 text))
line_of_one (a ∷ b ∷ c ∷ rest) n long is cr lf =
    let so = digit_is a n is in
    let digits : a ∷ [] ≡ decimal n = ap (λ (x : ℕ). x ∷ []) so.0 ∙ sym (decimal_digit n (omega (arith, so.1))) in
    let tail : rest ≡ take (length (a ∷ b ∷ c ∷ rest) - 3) rest = sym (ap (λ (k : ℕ). take k rest) (omega arith) ∙ take-length rest) in
    let whole : a ∷ b ∷ c ∷ rest ≡ (a ∷ []) ++ line_end ++ rest = cc (cr, lf) in (
      whole ∙ ap (λ (d : List ℕ). d ++ line_end ++ rest) digits ∙ ap (λ (t : List ℕ). decimal n ++ line_end ++ t) tail,
      omega (arith, so.1),
    )
line_of_one _ n long is cr lf = absurd (omega (arith, long))

-- a line of two digits
pub line_of_two : (text : List ℕ) (m n : ℕ) → 4 ≤ length text → digit_of (get_or text 0 0) ≡ Some m → digit_of (get_or text 1 0) ≡ Some n → (m ≡ 0 → ⊥) → get_or text 2 0 ≡ 13
    → get_or text 3 0 ≡ 10 → Begins text (10 * m + n) (take (length text - 4) (drop 4 text))
line_of_two (a ∷ b ∷ c ∷ d ∷ rest) m n long is its some cr lf =
    let tens = digit_is a m is in
    let units = digit_is b n its in
    let first : a ≡ 48 + (10 * m + n) / 10 = omega (arith, tens.0, units.1) in
    let second : b ≡ 48 + (10 * m + n) % 10 = omega (arith, units.0, units.1) in
    let low : 10 * m + n < 100 = omega (arith, tens.1, units.1) in
    let digits : a ∷ b ∷ [] ≡ decimal (10 * m + n) = ap (λ (x : ℕ). x ∷ b ∷ []) first ∙ ap (λ (x : ℕ). (48 + (10 * m + n) / 10) ∷ x ∷ []) second ∙ sym (decimal_two (10 * m + n) (omega (arith, some)) low) in
    let tail : rest ≡ take (length (a ∷ b ∷ c ∷ d ∷ rest) - 4) rest = sym (ap (λ (k : ℕ). take k rest) (omega arith) ∙ take-length rest) in
    let whole : a ∷ b ∷ c ∷ d ∷ rest ≡ (a ∷ b ∷ []) ++ line_end ++ rest = cc (cr, lf) in
    (whole ∙ ap (λ (d : List ℕ). d ++ line_end ++ rest) digits ∙ ap (λ (t : List ℕ). decimal (10 * m + n) ++ line_end ++ t) tail, low)
line_of_two _ m n long is its some cr lf = absurd (omega (arith, long))

-- what follows CR and LF
ended_found : (ended : List ℕ) → 2 ≤ length ended → get_or ended 0 0 ≡ 13 → get_or ended 1 0 ≡ 10 → end_at NoEnd ended ≡ Ok (Some (tt, take (length ended - 2) (drop 2 ended)))
ended_found (a ∷ b ∷ rest) long cr lf =
    let test : (a == carriage_return) && (b == line_feed) ≡ true = grind (arith, nat_tests) in
    let tail : rest ≡ take (length (a ∷ b ∷ rest) - 2) rest = sym (ap (λ (k : ℕ). take k rest) (omega arith) ∙ take-length rest) in
    rw test (ap (λ (t : List ℕ). Ok (Some (tt, t))) tail)
ended_found _ long cr lf = absurd (omega (arith, long))

argument_cut : (n : ℕ) (front argument ended : List ℕ) → n ≤ length front → argument ≡ take n front → ended ≡ drop n front → 2 ≤ length ended → get_or ended 0 0 ≡ 13 → get_or ended 1 0 ≡ 10
    → argument_of (Some n) front ≡ Ok (Some (argument, take (length ended - 2) (drop 2 ended)))
argument_cut n front argument ended inside first back long cr lf =
    let enough : nat_lt (length front) n ≡ false = grind (arith, nat_tests) in
    rw enough
    (ap (λ (e : List ℕ). and_then (end_at NoEnd e) (λ _ rest. Ok (Some (take n front, rest)))) (sym back)
    ∙ ap (λ (r : Front (Unit {0})). and_then r (λ _ rest. Ok (Some (take n front, rest)))) (ended_found ended long cr lf)
    ∙ ap (λ (w : List ℕ). Ok (Some (w, take (length ended - 2) (drop 2 ended)))) (sym first))

-- an argument whose length has one or two digits
pub short_argument : (text : List ℕ) (n : ℕ) (front argument ended : List ℕ) → 1 ≤ length text → get_or text 0 0 ≡ 36 → Begins (take (length text - 1) (drop 1 text)) n front → n ≤ length front
    → argument ≡ take n front → ended ≡ drop n front → 2 ≤ length ended → get_or ended 0 0 ≡ 13 → get_or ended 1 0 ≡ 10 → argument_at text ≡ Ok (Some (argument, take (length ended - 2) (drop 2 ended)))
short_argument [] n front argument ended some mark line inside first back long cr lf = absurd (omega (arith, some))
short_argument (b ∷ t) n front argument ended some mark line inside first back long cr lf =
    let test : (b == dollar) ≡ true = grind (arith, nat_tests) in
    let tail : t ≡ take (length (b ∷ t) - 1) t = sym (ap (λ (k : ℕ). take k t) (omega arith) ∙ take-length t) in
    rw test (short_bulk n t front line.1 (tail ∙ line.0) ∙ argument_cut n front argument ended inside first back long cr lf)

one_more : (n : ℕ) (text rest after argument : List ℕ) (arguments : List (List ℕ)) → argument_at text ≡ Ok (Some (argument, rest)) → arguments_at n rest ≡ Ok (Some (arguments, after))
    → arguments_at (suc n) text ≡ Ok (Some (argument ∷ arguments, after))
one_more n text rest after argument arguments h k = grind arith

three_arguments : (a b c first second third rest : List ℕ) → argument_at a ≡ Ok (Some (first, b)) → argument_at b ≡ Ok (Some (second, c)) → argument_at c ≡ Ok (Some (third, rest))
    → arguments_at 3 a ≡ Ok (Some (first ∷ second ∷ third ∷ [], rest))
three_arguments a b c first second third rest h k l = one_more 2 a b rest first (second ∷ third ∷ []) h (one_more 1 b c rest second (third ∷ []) k (one_more 0 c rest rest third [] l refl))

frame_of_three : (text : List ℕ) (arguments : List (List ℕ)) (rest : List ℕ) → 4 ≤ length text → get_or text 0 0 ≡ 42 → get_or text 1 0 ≡ 51 → get_or text 2 0 ≡ 13 → get_or text 3 0 ≡ 10
    → arguments_at 3 (take (length text - 4) (drop 4 text)) ≡ Ok (Some (arguments, rest)) → frame_at text ≡ Ok (Some (arguments, rest))
frame_of_three (a ∷ b ∷ c ∷ d ∷ t) arguments rest long star three cr lf is =
    let whole : a ∷ b ∷ c ∷ d ∷ t ≡ 42 ∷ 51 ∷ 13 ∷ 10 ∷ t = cc (star, three, cr, lf) in
    let tail : t ≡ take (length (a ∷ b ∷ c ∷ d ∷ t) - 4) t = sym (ap (λ (k : ℕ). take k t) (omega arith) ∙ take-length t) in
    ap frame_at whole ∙ ap (arguments_at 3) tail ∙ is
frame_of_three _ arguments rest long star three cr lf is = absurd (omega (arith, long))

-- a frame of three arguments
pub three_found : (text window a b first second third rest : List ℕ) → window ≡ take most_frame text → 4 ≤ length window → get_or window 0 0 ≡ 42 → get_or window 1 0 ≡ 51 → get_or window 2 0 ≡ 13
    → get_or window 3 0 ≡ 10 → argument_at (take (length window - 4) (drop 4 window)) ≡ Ok (Some (first, a)) → argument_at a ≡ Ok (Some (second, b)) → argument_at b ≡ Ok (Some (third, rest))
    → first_of text ≡ Ok (Some (first ∷ second ∷ third ∷ [], drop (length window - length rest) text))
three_found text window a b first second third rest is long star three cr lf h k l =
    first_found text window (first ∷ second ∷ third ∷ []) rest is
    (frame_of_three window (first ∷ second ∷ third ∷ []) rest long star three cr lf (three_arguments (take (length window - 4) (drop 4 window)) a b first second third rest h k l))
