-- What is read is a frame, and each frame is read.
use Rattle.std.proofs.Common.{◌≡◌, ℕ, ◌-◌, ◌≤◌, inl, inr, List, [], ◌∷◌, ◌++◌, length, take, drop, true, false, nat_eq, nat_lt, nat_le, decimal, codes, Option}
use Rattle.std.proofs.Common.{Some, None, Ok, Err, refl, sym, ap, subst, ◌∙◌, arith, append_assoc, length-append}
use Rattle.std.proofs.{Math.Seq.{drop-append_seam, take-append_seam}, lemmas.{List.{length-take, take-append-drop}, Bool.{cond_both}}}
use Rattle.std.{proofs.lemmas.{Bool.Decides.{nat_tests, Decides-eqb}, Slice.Eq.{starts_is}}, specs.Prelude.{◌==◌, option_map, if◌then◌else◌}}
use Rattle.std.specs.List.{flat_map, list_all, list_any, starts_with}
use Rattle.lz_slot.{specs.{Numerals.{is_number, largest_read, number_in}, Texts.{parted}}, proofs.Texts.Cuts.{AreParts, Lacks, parted_clear, parted_whole}}
use Rattle.lz_slot.proofs.Texts.{Numerals.{decimal_number, decimal_read, number_told_of}, Spellings.{decimal_lacks}}
use Rattle.lz_resp.specs.Limits.{most_frame, most_argument, most_arguments}
use Rattle.lz_resp.specs.{Frames.{IsFrame, IsInline, array, bulk, dollar, fits, is_quote, less_than_none, line_end, star, arguments_of}, Reading.{Front, and_then}}
use Rattle.lz_resp.specs.Reading.{array_at, array_of, bulk_at, count_of, end_at, first_by, first_of, frame_at, inline_at, inline_of, line_at, line_of, argument_at}
use Rattle.lz_resp.specs.{Reading.{argument_of, arguments_at}, Pieces.{FaultsHaveNoFrame, FramesAreRead, FramesAreSpelled}, declared.fault.Fault.{Fault}}
use Rattle.lz_resp.{specs.declared.fault.Fault.TheVariants.{Count, Length, NoBulk, NoEnd, Quotes, TooLong}, proofs.Many.{AreMany, many_read, many_spelled}}
use Rattle.lz_resp.proofs.LongerTexts.{first_fault, first_told, given, same_read, take_more, then_value}

-- a line that lacks CR is read up to its end
pub line_read : (fault : Fault) (line tail : List ℕ) → Lacks 13 line → line_at fault (line ++ 13 ∷ 10 ∷ tail) ≡ given line tail
line_read fault line tail lacks = ap (line_of fault) (parted_clear 13 line (10 ∷ tail) lacks)

ended_line : (line tail more : List ℕ) → ((line ++ line_end) ++ tail) ++ more ≡ line ++ 13 ∷ 10 ∷ (tail ++ more)
ended_line line tail more = append_assoc (line ++ line_end) tail more ∙ append_assoc line line_end (tail ++ more)

-- an argument's text is read as the argument
pub argument_read : (argument more : List ℕ) → length argument ≤ most_argument → argument_at (bulk argument ++ more) ≡ given argument more
argument_read argument more short =
    let digits = decimal (length argument) in
    let lacks : Lacks 13 digits = decimal_lacks 13 (length argument) refl (omega (arith, short)) in
    let tail = argument ++ 13 ∷ 10 ∷ more in
    let regroup : (((digits ++ line_end) ++ argument) ++ line_end) ++ more ≡ digits ++ 13 ∷ 10 ∷ tail =
    append_assoc ((digits ++ line_end) ++ argument) line_end more ∙ append_assoc (digits ++ line_end) argument (13 ∷ 10 ∷ more) ∙ append_assoc digits line_end tail in
    let long : nat_lt (length tail) (length argument) ≡ false = grind (arith, nat_tests, length-append argument (13 ∷ 10 ∷ more)) in
    ap bulk_at regroup ∙ ap (λ (r : Front (List ℕ)). and_then r (λ digits rest. argument_of (number_in 0 most_argument digits) rest)) (line_read Length digits tail lacks)
    ∙ ap (λ (n : Option ℕ). argument_of n tail) (decimal_read 0 most_argument (length argument) (omega arith) (omega arith) short)
    ∙ rw (long, drop-append_seam argument (13 ∷ 10 ∷ more), take-append_seam argument (13 ∷ 10 ∷ more)) refl

arguments_read : (arguments : List (List ℕ)) (more : List ℕ) → list_all (λ argument. nat_le (length argument) most_argument) arguments ≡ true → arguments_at (length arguments) (flat_map bulk arguments ++ more) ≡ given arguments more
arguments_read = many_read bulk (λ argument. nat_le (length argument) most_argument) argument_at arguments_at (λ text. refl) (λ n text. refl) (λ argument rest short. argument_read argument rest (grind (arith, nat_tests)))

no_minus : (t : List ℕ) → is_number t ≡ true → starts_with nat_eq t (codes "-") ≡ false
no_minus [] h = absurd (cc)
no_minus (b ∷ t) h = grind (arith, nat_tests)

count_read : (n : ℕ) → n ≤ most_arguments → count_of (decimal n) ≡ Some n
count_read n few = grind (arith, nat_eq, decimal, codes, no_minus, decimal_number, decimal_read)

fits_told : (arguments : List (List ℕ)) → fits arguments ≡ true → (length arguments ≤ most_arguments) × (list_all (λ argument. nat_le (length argument) most_argument) arguments ≡ true)
fits_told arguments h = (grind (arith, nat_tests), grind (arith, nat_tests))

array_read : (arguments : List (List ℕ)) (more : List ℕ) → fits arguments ≡ true → frame_at (array arguments ++ more) ≡ given arguments more
array_read arguments more fit = grind (arith, fits_told, fit, decimal, decimal_lacks, ended_line, line_read, count_read, arguments_read)

none_read : (n : ℕ) (more : List ℕ) → 1 ≤ n → n ≤ largest_read → frame_at (less_than_none n ++ more) ≡ given [] more
none_read n more some small =
    let digits = decimal n in
    let lacks : Lacks 13 (45 ∷ digits) = decimal_lacks 13 n refl small in
    ap (λ (t : List ℕ). array_at (45 ∷ t)) (append_assoc digits line_end more)
    ∙ ap (λ (r : Front (List ℕ)). and_then r (λ digits rest. array_of (count_of digits) rest)) (line_read Count (45 ∷ digits) more lacks)
    ∙ ap (λ (r : Option ℕ). array_of (option_map (λ _. 0) r) more) (decimal_read 1 largest_read n (omega arith) some small)

other_first : (b : ℕ) (t : List ℕ) → starts_with nat_eq (b ∷ t) (codes "*") ≡ false → (b == star) ≡ false
other_first b t h = grind (arith, nat_tests)

line_frame : (line tail : List ℕ) → starts_with nat_eq line (codes "*") ≡ false → frame_at (line ++ 10 ∷ tail) ≡ inline_at (line ++ 10 ∷ tail)
line_frame [] tail other = refl
line_frame (b ∷ line) tail other = rw (other_first b line other) refl

inline_read : (text more : List ℕ) (arguments : List (List ℕ)) → IsInline text arguments → fits arguments ≡ true → frame_at (text ++ more) ≡ given arguments more
inline_read text more arguments i fit = grind (arith, append_assoc, fit, line_frame, parted_clear)

frame_read : (text more : List ℕ) (arguments : List (List ℕ)) → IsFrame text arguments → fits arguments ≡ true → frame_at (text ++ more) ≡ given arguments more
frame_read text more arguments (inl is) fit = ap (λ (t : List ℕ). frame_at (t ++ more)) is ∙ array_read arguments more fit
frame_read text more arguments (inr (inl (none, (n, some, small, is)))) fit = grind (arith, none_read)
frame_read text more arguments (inr (inr i)) fit = inline_read text more arguments i fit

pub frames_are_read : FramesAreRead
unfolding first_of
frames_are_read text rest arguments is within =
    let some = take (most_frame - length text) rest in
    let window : take most_frame (text ++ rest) ≡ text ++ some = take_more most_frame text rest within.1 in
    let count : length (text ++ some) - length some ≡ length text = omega (arith, length-append text some) in
    ap (λ (w : List ℕ). first_by (text ++ rest) (frame_at w)) window ∙ ap (first_by (text ++ rest)) (frame_read text some arguments is within.0)
    ∙ ap (λ (t : List ℕ). given arguments t)
    (ap (λ (w : List ℕ). drop (length w - length some) (text ++ rest)) window ∙ ap (λ (k : ℕ). drop k (text ++ rest)) count ∙ drop-append_seam text rest)

-- where CR and LF are read they stand
end_spelled : (fault : Fault) (text : List ℕ) (x : Unit {0}) (rest : List ℕ) → end_at fault text ≡ Ok (Some (x, rest)) → text ≡ 13 ∷ 10 ∷ rest
end_spelled fault [] x rest h = absurd (cc)
end_spelled fault (b ∷ []) x rest h = grind (arith, cond_both)
end_spelled fault (b ∷ c ∷ t) x rest h = grind (arith, cond_both, nat_tests, same_read tt x t rest) steps 100000

line_parts : (fault : Fault) (text line rest : List ℕ) (q : Option (List ℕ × List ℕ)) → AreParts 13 text q → line_of fault q ≡ Ok (Some (line, rest)) → text ≡ line ++ 13 ∷ 10 ∷ rest
line_parts fault text line rest None is h = absurd (cc)
line_parts fault text line rest (Some p) is h = grind (arith, then_value, end_spelled, same_read)

pub line_spelled : (fault : Fault) (text line rest : List ℕ) → line_at fault text ≡ Ok (Some (line, rest)) → text ≡ line ++ 13 ∷ 10 ∷ rest
line_spelled fault text line rest h = line_parts fault text line rest (parted 13 text) (parted_whole 13 text) h

pub record CutOff (n : ℕ) (text argument rest : List ℕ) : Type 0 where
  pub whole : text ≡ argument ++ 13 ∷ 10 ∷ rest
  pub long : length argument ≡ n

cut_spelled : (n : ℕ) (text argument rest : List ℕ) → argument_of (Some n) text ≡ Ok (Some (argument, rest)) → CutOff n text argument rest
cut_spelled n text argument rest h =
    cond_both (nat_lt (length text) n) (Ok None) (and_then (end_at NoEnd (drop n text)) (λ _ after. Ok (Some (take n text, after)))) (λ r. r ≡ Ok (Some (argument, rest)) → CutOff n text argument rest)
    (λ _ h. absurd (cc))
    (λ enough h.
    let t = then_value (end_at NoEnd (drop n text)) (λ _ after. Ok (Some (take n text, after))) argument rest h in
    let ended = end_spelled NoEnd (drop n text) t.x t.rest t.first in
    let same = same_read (take n text) argument t.rest rest t.second in
    let inside : n ≤ length text = grind (arith, nat_tests) in
    record {
      whole = sym (take-append-drop n text) ∙ ap (λ (t : List ℕ). take n text ++ t) ended ∙ cc (same.0, same.1);
      long = ap length (sym same.0) ∙ omega (arith, length-take n text, inside);
    }) h

pub record IsBulk (text argument rest : List ℕ) : Type 0 where
  pub whole : text ≡ bulk argument ++ rest
  pub short : length argument ≤ most_argument

bulk_by : (digits text mid argument rest : List ℕ) (n : Option ℕ) → number_in 0 most_argument digits ≡ n → text ≡ digits ++ 13 ∷ 10 ∷ mid → argument_of n mid ≡ Ok (Some (argument, rest)) → IsBulk (36 ∷ text) argument rest
bulk_by digits text mid argument rest None is spelled h = absurd (cc)
bulk_by digits text mid argument rest (Some n) is spelled h =
    let number = number_told_of 0 most_argument n digits is in
    let cut = cut_spelled n mid argument rest h in
    let length_is : digits ≡ decimal (length argument) = number.2 ∙ ap decimal (sym cut.long) in
    let regroup : (((decimal (length argument) ++ line_end) ++ argument) ++ line_end) ++ rest ≡ decimal (length argument) ++ 13 ∷ 10 ∷ (argument ++ 13 ∷ 10 ∷ rest) =
    append_assoc ((decimal (length argument) ++ line_end) ++ argument) line_end rest ∙ append_assoc (decimal (length argument) ++ line_end) argument (13 ∷ 10 ∷ rest)
    ∙ append_assoc (decimal (length argument)) line_end (argument ++ 13 ∷ 10 ∷ rest) in
    record {
      whole = ap (λ (t : List ℕ). 36 ∷ t) (spelled ∙ ap (λ (t : List ℕ). digits ++ 13 ∷ 10 ∷ t) cut.whole ∙ ap (λ (t : List ℕ). t ++ 13 ∷ 10 ∷ (argument ++ 13 ∷ 10 ∷ rest)) length_is ∙ sym regroup);
      short = omega (arith, number.1, cut.long);
    }

pub argument_spelled : (text argument rest : List ℕ) → argument_at text ≡ Ok (Some (argument, rest)) → IsBulk text argument rest
argument_spelled [] argument rest h = absurd (cc)
argument_spelled (b ∷ text) argument rest h =
    cond_both (b == dollar) (bulk_at text) (Err (NoBulk b)) (λ r. r ≡ Ok (Some (argument, rest)) → IsBulk (b ∷ text) argument rest)
    (λ yes h.
    let first : b ≡ 36 = grind (arith, nat_tests) in
    let t = then_value (line_at Length text) (λ digits rest. argument_of (number_in 0 most_argument digits) rest) argument rest h in
    subst (λ (x : ℕ). IsBulk (x ∷ text) argument rest) (sym first)
    (bulk_by t.x text t.rest argument rest (number_in 0 most_argument t.x) refl (line_spelled Length text t.x t.rest t.first) t.second))
    (λ _ h. absurd (cc)) h

arguments_spelled : (n : ℕ) (text : List ℕ) (arguments : List (List ℕ)) (rest : List ℕ) → arguments_at n text ≡ Ok (Some (arguments, rest)) → AreMany bulk (λ argument. nat_le (length argument) most_argument) n text arguments rest
arguments_spelled = many_spelled bulk (λ argument. nat_le (length argument) most_argument) argument_at arguments_at (λ text. refl) (λ n text. refl) (λ text argument rest h.
    let its = argument_spelled text argument rest h in
    (grind (arith, nat_tests, its.short), its.whole))

-- a frame within its limits stands at the front of a text
pub record Stands (text : List ℕ) (arguments : List (List ℕ)) (rest : List ℕ) : Type 0 where
  pub frame : List ℕ
  pub whole : text ≡ frame ++ rest
  pub its : IsFrame frame arguments
  pub fit : fits arguments ≡ true

fits_tells : (arguments : List (List ℕ)) → length arguments ≤ most_arguments → list_all (λ argument. nat_le (length argument) most_argument) arguments ≡ true → fits arguments ≡ true
fits_tells arguments few short = let count : nat_le (length arguments) most_arguments ≡ true = grind (arith, nat_tests, few) in rw count short

array_stands : (digits text mid : List ℕ) (arguments : List (List ℕ)) (rest : List ℕ) (n : ℕ) → number_in 0 most_arguments digits ≡ Some n → text ≡ digits ++ 13 ∷ 10 ∷ mid
    → arguments_at n mid ≡ Ok (Some (arguments, rest)) → Stands (42 ∷ text) arguments rest
array_stands digits text mid arguments rest n is spelled h =
    let number = number_told_of 0 most_arguments n digits is in
    let bulks = arguments_spelled n mid arguments rest h in
    let length_is : digits ≡ decimal (length arguments) = number.2 ∙ ap decimal (sym bulks.count) in
    record {
      frame = array arguments;
      whole = ap (λ (t : List ℕ). 42 ∷ t) (spelled ∙ ap (λ (t : List ℕ). digits ++ 13 ∷ 10 ∷ t) bulks.whole
          ∙ ap (λ (t : List ℕ). t ++ 13 ∷ 10 ∷ (flat_map bulk arguments ++ rest)) length_is ∙ sym (ended_line (decimal (length arguments)) (flat_map bulk arguments) rest));
      its = inl refl;
      fit = fits_tells arguments (omega (arith, number.1, bulks.count)) bulks.each;
    }

none_stands : (digits text mid : List ℕ) (arguments : List (List ℕ)) (rest : List ℕ) (m : ℕ) → number_in 1 largest_read (drop 1 digits) ≡ Some m → digits ≡ 45 ∷ drop 1 digits
    → text ≡ digits ++ 13 ∷ 10 ∷ mid → arguments_at 0 mid ≡ Ok (Some (arguments, rest)) → Stands (42 ∷ text) arguments rest
none_stands digits text mid arguments rest m is minus spelled h =
    let number = number_told_of 1 largest_read m (drop 1 digits) is in
    let same = same_read [] arguments mid rest h in
    record {
      frame = less_than_none m;
      whole = ap (λ (t : List ℕ). 42 ∷ t) (spelled ∙ ap (λ (t : List ℕ). t ++ 13 ∷ 10 ∷ mid) (minus ∙ ap (λ (t : List ℕ). 45 ∷ t) number.2)
          ∙ ap (λ (t : List ℕ). 45 ∷ (decimal m ++ 13 ∷ 10 ∷ t)) same.1 ∙ ap (λ (t : List ℕ). 45 ∷ t) (sym (append_assoc (decimal m) line_end rest)));
      its = inr (inl (sym same.0, (m, number.0, number.1, refl)));
      fit = ap fits (sym same.0);
    }

begins_with : (text argument : List ℕ) → starts_with nat_eq text argument ≡ true → text ≡ argument ++ drop (length argument) text
begins_with text argument h = (starts_is Decides-eqb text argument (starts_with nat_eq text argument) refl).0 h

none_by : (digits text mid : List ℕ) (arguments : List (List ℕ)) (rest : List ℕ) (m : Option ℕ) → number_in 1 largest_read (drop 1 digits) ≡ m → digits ≡ 45 ∷ drop 1 digits
    → text ≡ digits ++ 13 ∷ 10 ∷ mid → array_of (option_map (λ _. 0) m) mid ≡ Ok (Some (arguments, rest)) → Stands (42 ∷ text) arguments rest
none_by digits text mid arguments rest None is minus spelled h = absurd (cc)
none_by digits text mid arguments rest (Some m) is minus spelled h = none_stands digits text mid arguments rest m is minus spelled h

array_by : (digits text mid : List ℕ) (arguments : List (List ℕ)) (rest : List ℕ) (n : Option ℕ) → number_in 0 most_arguments digits ≡ n → text ≡ digits ++ 13 ∷ 10 ∷ mid
    → array_of n mid ≡ Ok (Some (arguments, rest)) → Stands (42 ∷ text) arguments rest
array_by digits text mid arguments rest None is spelled h = absurd (cc)
array_by digits text mid arguments rest (Some n) is spelled h = array_stands digits text mid arguments rest n is spelled h

count_by : (digits text mid : List ℕ) (arguments : List (List ℕ)) (rest : List ℕ) → text ≡ digits ++ 13 ∷ 10 ∷ mid → array_of (count_of digits) mid ≡ Ok (Some (arguments, rest)) → Stands (42 ∷ text) arguments rest
count_by digits text mid arguments rest spelled h =
    cond_both (starts_with nat_eq digits (codes "-")) (option_map (λ _. 0) (number_in 1 largest_read (drop 1 digits))) (number_in 0 most_arguments digits)
    (λ n. array_of n mid ≡ Ok (Some (arguments, rest)) → Stands (42 ∷ text) arguments rest)
    (λ minus h. none_by digits text mid arguments rest (number_in 1 largest_read (drop 1 digits)) refl (begins_with digits (codes "-") minus) spelled h)
    (λ _ h. array_by digits text mid arguments rest (number_in 0 most_arguments digits) refl spelled h) h

array_spelled : (text : List ℕ) (arguments : List (List ℕ)) (rest : List ℕ) → array_at text ≡ Ok (Some (arguments, rest)) → Stands (42 ∷ text) arguments rest
array_spelled text arguments rest h =
    let t = then_value (line_at Count text) (λ digits rest. array_of (count_of digits) rest) arguments rest h in
    count_by t.x text t.rest arguments rest (line_spelled Count text t.x t.rest t.first) t.second

-- the part before the first of a byte lacks it
parts_lack : (c : ℕ) (text : List ℕ) (p : List ℕ × List ℕ) → parted c text ≡ Some p → Lacks c p.0
parts_lack c [] p h = absurd (cc)
parts_lack c (b ∷ t) p h =
    cond_both (nat_eq c b) (Some ([], t)) (option_map (λ p. (b ∷ p.0, p.1)) (parted c t)) (λ r. r ≡ Some p → Lacks c p.0)
    (λ yes h. subst (λ (x : List ℕ × List ℕ). Lacks c x.0) (let same : ([], t) ≡ p = cc in same) refl)
    (λ other h. lack_further c b (parted c t) (λ q e. parts_lack c t q e) other p h) h
  where
    lack_further : (c b : ℕ) (q : Option (List ℕ × List ℕ)) → ((p : List ℕ × List ℕ) → q ≡ Some p → Lacks c p.0) → nat_eq c b ≡ false → (p : List ℕ × List ℕ)
        → option_map (λ p. (b ∷ p.0, p.1)) q ≡ Some p → Lacks c p.0
    lack_further c b None from other p h = absurd (cc)
    lack_further c b (Some q) from other p h = subst (λ (x : List ℕ × List ℕ). Lacks c x.0) (let same : (b ∷ q.0, q.1) ≡ p = cc in same) (rw other (from q refl))

no_star : (b : ℕ) (t line after : List ℕ) → (b == star) ≡ false → b ∷ t ≡ line ++ 10 ∷ after → starts_with nat_eq line (codes "*") ≡ false
no_star b t [] after other is = refl
no_star b t (c ∷ line) after other is = let same : b ≡ c = cc in grind (arith, nat_tests)

inline_told : (b : ℕ) (t : List ℕ) (arguments : List (List ℕ)) (rest : List ℕ) (p : List ℕ × List ℕ) → (b == star) ≡ false → b ∷ t ≡ p.0 ++ 10 ∷ p.1 → Lacks 10 p.0
    → inline_of (Some p) ≡ Ok (Some (arguments, rest)) → Stands (b ∷ t) arguments rest
inline_told b t arguments rest p other is lacks h =
    cond_both (list_any is_quote p.0) (Err Quotes) (if fits (arguments_of p.0) then Ok (Some (arguments_of p.0, p.1)) else Err TooLong) (λ r. r ≡ Ok (Some (arguments, rest)) → Stands (b ∷ t) arguments rest)
    (λ _ h. absurd (cc))
    (λ plain h. cond_both (fits (arguments_of p.0)) (Ok (Some (arguments_of p.0, p.1))) (Err TooLong) (λ r. r ≡ Ok (Some (arguments, rest)) → Stands (b ∷ t) arguments rest)
    (λ fit h.
    let same = same_read (arguments_of p.0) arguments p.1 rest h in
    record {
      frame = p.0 ++ 10 ∷ [];
      whole = is ∙ ap (λ (t : List ℕ). p.0 ++ 10 ∷ t) same.1 ∙ sym (append_assoc p.0 (10 ∷ []) rest);
      its = inr (inr (record { line = p.0; whole = refl; one = lacks; other = no_star b t p.0 p.1 other is; plain = plain; its = sym same.0 }));
      fit = ap fits (sym same.0) ∙ fit;
    }) (λ _ h. absurd (cc)) h) h

inline_by : (b : ℕ) (t : List ℕ) (arguments : List (List ℕ)) (rest : List ℕ) (q : Option (List ℕ × List ℕ)) → (b == star) ≡ false → parted 10 (b ∷ t) ≡ q → AreParts 10 (b ∷ t) q
    → inline_of q ≡ Ok (Some (arguments, rest)) → Stands (b ∷ t) arguments rest
inline_by b t arguments rest None other from is h = absurd (cc)
inline_by b t arguments rest (Some p) other from is h = inline_told b t arguments rest p other is (parts_lack 10 (b ∷ t) p from) h

frame_spelled : (text : List ℕ) (arguments : List (List ℕ)) (rest : List ℕ) → frame_at text ≡ Ok (Some (arguments, rest)) → Stands text arguments rest
frame_spelled [] arguments rest h = absurd (cc)
frame_spelled (b ∷ t) arguments rest h =
    cond_both (b == star) (array_at t) (inline_at (b ∷ t)) (λ r. r ≡ Ok (Some (arguments, rest)) → Stands (b ∷ t) arguments rest)
    (λ yes h. let first : b ≡ 42 = grind (arith, nat_tests) in subst (λ (x : ℕ). Stands (x ∷ t) arguments rest) (sym first) (array_spelled t arguments rest h))
    (λ other h. inline_by b t arguments rest (parted 10 (b ∷ t)) other refl (parted_whole 10 (b ∷ t)) h) h

pub frames_are_spelled : FramesAreSpelled
unfolding first_of
frames_are_spelled text rest arguments h =
    let told = first_told text arguments rest (frame_at (take most_frame text)) h in
    let s = frame_spelled (take most_frame text) arguments told.0 told.1 in
    let count : length (take most_frame text) - length told.0 ≡ length s.frame = omega (arith, ap length s.whole, length-append s.frame told.0) in
    let whole : text ≡ s.frame ++ (told.0 ++ drop most_frame text) =
    sym (take-append-drop most_frame text) ∙ ap (λ (t : List ℕ). t ++ drop most_frame text) s.whole ∙ append_assoc s.frame told.0 (drop most_frame text) in
    let after : rest ≡ told.0 ++ drop most_frame text =
    told.2 ∙ ap (λ (k : ℕ). drop k text) count ∙ ap (λ (t : List ℕ). drop (length s.frame) t) whole ∙ drop-append_seam s.frame (told.0 ++ drop most_frame text) in
    (s.frame, whole ∙ ap (λ (t : List ℕ). s.frame ++ t) (sym after), s.its, (s.fit, omega (arith, ap length s.whole, length-append s.frame told.0, length-take most_frame text)))

pub faults_have_no_frame : FaultsHaveNoFrame
faults_have_no_frame text rest frame others arguments fault h same is within =
    let wrong : first_of (text ++ rest) ≡ Err fault = first_fault text rest fault h in
    let right : first_of (text ++ rest) ≡ Ok (Some (arguments, others)) = ap first_of same ∙ frames_are_read frame others arguments is within in
    let both : Ok (Some (arguments, others)) ≡ Err fault = sym right ∙ wrong in
    absurd (cc)
