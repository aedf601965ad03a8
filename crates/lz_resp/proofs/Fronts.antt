-- What readers of slices find.
use Rattle.std.proofs.Common.{◌≡◌, ℕ, suc, ◌+◌, ◌-◌, ◌<◌, ◌≤◌, List, [], ◌∷◌, ◌++◌, length, take, drop, get_or, true, false, nat_lt, Some, None, Ok, Err, refl}
use Rattle.std.{proofs.{Common.{sym, ap, ◌∙◌, arith, append_assoc}, lemmas.{List.{drop_more}, Bool.{eqb-true, Decides.{nat_tests}}}}, specs.List.{list_any}}
use Rattle.memchr.specs.Find.{IsFirstByte, is_byte}
use Rattle.lz_slot.proofs.Texts.Cuts.{lacks_all, parted_at, parted_none}
use Rattle.lz_resp.specs.{Frames.{fits, is_quote, arguments_of}, Limits.{most_frame}}
use Rattle.lz_resp.specs.Reading.{Front, StopsBy, and_then, end_at, first_by, first_of, frame_at, inline_at, inline_of, line_at, line_of, argument_at, arguments_at}
use Rattle.lz_resp.specs.declared.fault.{Fault.{Fault, TheVariants.{Quotes, TooLong}}, Stop.{Stop, TheVariants.{Memory, Faulty}}}

-- a text that has no CR has no line
pub line_none : (fault : Fault) (text : List ℕ) → IsFirstByte (is_byte 13) text None → Ok None ≡ line_at fault text
line_none fault text none = ap (line_of fault) (sym (parted_none 13 text (lacks_all 13 text none)))

-- the line that ends at the first CR, if an end stands there
pub line_found : (fault : Fault) (text line ended : List ℕ) (e : ℕ) (r : Front (Unit {0})) → IsFirstByte (is_byte 13) text (Some e) → line ≡ take e text → ended ≡ drop e text → r ≡ end_at fault ended
    → and_then r (λ _ rest. Ok (Some (line, rest))) ≡ line_at fault text
line_found fault text line ended e r first front back is = grind (arith, get_or, eqb-true, drop_more, parted_at)

-- a text that has no LF has no line of arguments
pub arguments_none : (text : List ℕ) → IsFirstByte (is_byte 10) text None → inline_at text ≡ Ok None
arguments_none text none = ap inline_of (parted_none 10 text (lacks_all 10 text none))

line_first : (text line : List ℕ) (e : ℕ) → IsFirstByte (is_byte 10) text (Some e) → line ≡ take e text → inline_at text ≡ inline_of (Some (line, drop (e + 1) text))
line_first text line e first front = ap inline_of (parted_at 10 text e first) ∙ ap (λ (x : List ℕ). inline_of (Some (x, drop (e + 1) text))) (sym front)

pub arguments_quoted : (text line : List ℕ) (e : ℕ) → IsFirstByte (is_byte 10) text (Some e) → line ≡ take e text → list_any is_quote line ≡ true → inline_at text ≡ Err Quotes
arguments_quoted text line e first front quoted = line_first text line e first front ∙ rw quoted refl

pub arguments_unfit : (text line : List ℕ) (e : ℕ) → IsFirstByte (is_byte 10) text (Some e) → line ≡ take e text → list_any is_quote line ≡ false → fits (arguments_of line) ≡ false
    → inline_at text ≡ Err TooLong
arguments_unfit text line e first front plain unfit = line_first text line e first front ∙ rw (plain, unfit) refl

pub arguments_found : (text line rest : List ℕ) (arguments : List (List ℕ)) (e : ℕ) → IsFirstByte (is_byte 10) text (Some e) → line ≡ take e text → list_any is_quote line ≡ false → arguments ≡ arguments_of line
    → fits arguments ≡ true → rest ≡ drop (e + 1) text → inline_at text ≡ Ok (Some (arguments, rest))
arguments_found text line rest arguments e first front plain its fit back =
    let fits_so : fits (arguments_of line) ≡ true = ap fits (sym its) ∙ fit in
    line_first text line e first front ∙ rw (plain, fits_so) (cc (its, back))

-- arguments or numbers before those that were read
abbrev pub with_front : {A : Type 0} → List A → Front (List A) → Front (List A)
with_front front r = and_then r (λ items after. Ok (Some (front ++ items, after)))

pub front_more : {A : Type 0} (front : List A) (item : A) (r : Front (List A)) → with_front front (and_then r (λ items after. Ok (Some (item ∷ items, after)))) ≡ with_front (front ++ item ∷ []) r
front_more front item (Ok (Some p)) = ap (λ x. Ok (Some (x, p.1))) (sym (append_assoc front (item ∷ []) p.0))
front_more front item _ = refl

pub one_less : (n k : ℕ) → k < n → n - k ≡ suc (n - (k + 1))
one_less n k h = omega (arith, h)

pub arguments_next : (n k : ℕ) (front : List (List ℕ)) (argument text rest : List ℕ) → k < n → argument_at text ≡ Ok (Some (argument, rest))
    → with_front front (arguments_at (n - k) text) ≡ with_front (front ++ argument ∷ []) (arguments_at (n - (k + 1)) rest)
arguments_next n k front argument text rest low is = grind (arith, one_less, front_more)

pub arguments_wait : (n k : ℕ) (front : List (List ℕ)) (text : List ℕ) → k < n → argument_at text ≡ Ok None → with_front front (arguments_at (n - k) text) ≡ Ok None
arguments_wait n k front text low is = grind (arith, one_less)

pub arguments_fail : (n k : ℕ) (front : List (List ℕ)) (text : List ℕ) (f : Fault) → k < n → argument_at text ≡ Err f → with_front front (arguments_at (n - k) text) ≡ Err f
arguments_fail n k front text f low is = grind (arith, one_less)

-- what is found within the bytes that a frame may have
pub first_found : (text window : List ℕ) (arguments : List (List ℕ)) (after : List ℕ) → window ≡ take most_frame text → frame_at window ≡ Ok (Some (arguments, after))
    → first_of text ≡ Ok (Some (arguments, drop (length window - length after) text))
unfolding first_of
first_found text window arguments after is h =
    ap (first_by text) (ap frame_at (sym is) ∙ h) ∙ ap (λ (w : List ℕ). Ok (Some (arguments, drop (length w - length after) text))) (sym is)

pub first_long : (text window : List ℕ) → window ≡ take most_frame text → frame_at window ≡ Ok None → most_frame < length text → first_of text ≡ Err TooLong
unfolding first_of
first_long text window is h far = let test : nat_lt most_frame (length text) ≡ true = grind (arith, nat_tests, far) in ap (first_by text) (ap frame_at (sym is) ∙ h) ∙ rw test refl

pub first_none : (text window : List ℕ) → window ≡ take most_frame text → frame_at window ≡ Ok None → length text ≤ most_frame → first_of text ≡ Ok None
unfolding first_of
first_none text window is h near = let test : nat_lt most_frame (length text) ≡ false = grind (arith, nat_tests, near) in ap (first_by text) (ap frame_at (sym is) ∙ h) ∙ rw test refl

first_wrong : (text window : List ℕ) (f : Fault) → window ≡ take most_frame text → frame_at window ≡ Err f → first_of text ≡ Err f
unfolding first_of
first_wrong text window f is h = ap (first_by text) (ap frame_at (sym is) ∙ h)

pub first_stops : (text window : List ℕ) (stop : Stop) → window ≡ take most_frame text → StopsBy stop (frame_at window) → StopsBy stop (first_of text)
first_stops text window Memory is h = tt
first_stops text window (Faulty f) is h = first_wrong text window f is h
