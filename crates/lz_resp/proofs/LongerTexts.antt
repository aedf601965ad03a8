-- What was read of a text is read of it with more after it.
use Rattle.std.proofs.Common.{◌≡◌, ℕ, zero, suc, ◌-◌, ◌<◌, ◌≤◌, ◌⊎◌, inl, inr, List, [], ◌∷◌, ◌++◌, length, take, drop, true, false, nat_eq, nat_lt, Option}
use Rattle.std.proofs.{Common.{Some, None, Ok, Err, refl, sym, ap, subst, ◌∙◌, arith, length-append, length-drop}, Math.Seq.{take-append-add}}
use Rattle.std.proofs.lemmas.{List.{take-append-le, drop-append-le, take_all, length-take}, Bool.{cond_both, Decides.{nat_tests}}}
use Rattle.std.specs.Prelude.{◌==◌, option_map, if◌then◌else◌}
use Rattle.lz_slot.specs.{Numerals.{number_in}, Texts.{parted}}
use Rattle.lz_resp.specs.{Limits.{most_frame, most_argument}, Frames.{star, dollar}, Reading.{Front, and_then, array_at, array_of, bulk_at, count_of, end_at}}
use Rattle.lz_resp.specs.Reading.{first_by, first_of, frame_at, inline_at, inline_of, line_at, line_of, argument_at, argument_of, arguments_at}
use Rattle.lz_resp.specs.declared.fault.Fault.{Fault, TheVariants.{Count, Length, NoBulk, NoEnd, TooLong}}
use Rattle.lz_proto.specs.Lines.{carriage_return, line_feed}

pub record Stays {A : Type 0} (read : List ℕ → Front A) : Type 0 where
  pub value : (text more : List ℕ) (x : A) (rest : List ℕ) → read text ≡ Ok (Some (x, rest)) → (read (text ++ more) ≡ Ok (Some (x, rest ++ more))) × (length rest ≤ length text)
  pub fault : (text more : List ℕ) (f : Fault) → read text ≡ Err f → read (text ++ more) ≡ Err f

-- a value that was read, and what follows it
abbrev pub given : {A : Type 0} → A → List ℕ → Front A
given x rest = Ok (Some (x, rest))

abbrev pub nothing : {A : Type 0} → Front A
nothing = Ok None

-- values that were read alike are alike
value_in : {A : Type 0} → A → Front A → A
value_in x (Ok (Some p)) = p.0
value_in x _ = x

rest_in : {A : Type 0} → Front A → List ℕ
rest_in (Ok (Some p)) = p.1
rest_in _ = []

pub same_read : {A : Type 0} (x y : A) (s t : List ℕ) → given x s ≡ given y t → (x ≡ y) × (s ≡ t)
unfolding value_in rest_in
same_read x y s t e = (ap (value_in x) e, ap rest_in e)

pub record Then {A B : Type 0} (r : Front A) (next : A → List ℕ → Front B) (to : Front B) : Type 0 where
  pub x : A
  pub rest : List ℕ
  pub first : r ≡ Ok (Some (x, rest))
  pub second : next x rest ≡ to

pub then_value : {A B : Type 0} (r : Front A) (next : A → List ℕ → Front B) (y : B) (after : List ℕ) → and_then r next ≡ Ok (Some (y, after)) → Then r next (Ok (Some (y, after)))
then_value (Ok (Some p)) next y after h = record { x = p.0; rest = p.1; first = refl; second = h }
then_value _ next y after h = absurd (cc)

then_fault : {A B : Type 0} (r : Front A) (next : A → List ℕ → Front B) (f : Fault) → and_then r next ≡ Err f → (r ≡ Err f) ⊎ Then r next (Err f)
then_fault (Ok None) next f h = absurd (cc)
then_fault (Ok (Some p)) next f h = inr (record { x = p.0; rest = p.1; first = refl; second = h })
then_fault (Err g) next f h = inl (let same : g ≡ f = cc in ap (λ (k : Fault). Err k) same)

pub stays_then : {A B : Type 0} (read : List ℕ → Front A) (next : A → List ℕ → Front B) → Stays read → ((x : A) → Stays (next x)) → Stays (λ text. and_then (read text) next)
stays_then read next first second =
    record {
      value = λ text more y after h.
          let t = then_value (read text) next y after h in
          let a = first.value text more t.x t.rest t.first in
          let b = (second t.x).value t.rest more y after t.second in
          (ap (λ r. and_then r next) a.0 ∙ b.0, omega (arith, a.1, b.1));
      fault = λ text more f h. elim (then_fault (read text) next f h) [
        | inl e ↦ ap (λ r. and_then r next) (first.fault text more f e)
        | inr t ↦ ap (λ r. and_then r next) (first.value text more t.x t.rest t.first).0 ∙ (second t.x).fault t.rest more f t.second
      ];
    }

-- a value, and the text after it
pub stays_given : {A : Type 0} (x : A) → Stays (λ rest. Ok (Some (x, rest)))
stays_given x =
    record {
      value = λ text more y rest h. let same = same_read x y text rest h in (cc (same.0, ap (λ (t : List ℕ). t ++ more) same.1), omega (arith, ap length same.1));
      fault = λ text more f h. absurd (cc);
    }

abbrev pub wrong : {A : Type 0} → Fault → List ℕ → Front A
wrong g text = Err g

pub stays_wrong : {A : Type 0} (g : Fault) → Stays {A = A} (wrong g)
stays_wrong g = record { value = λ text more y rest h. absurd (cc); fault = λ text more f h. h }

end_value : (fault : Fault) (text more : List ℕ) (x : Unit {0}) (rest : List ℕ) → end_at fault text ≡ Ok (Some (x, rest)) → (end_at fault (text ++ more) ≡ Ok (Some (x, rest ++ more))) × (length rest ≤ length text)
end_value fault [] more x rest h = absurd (cc)
end_value fault (b ∷ []) more x rest h = grind (arith, cond_both)
end_value fault (b ∷ c ∷ t) more x rest h = grind (arith, cond_both, same_read)

end_fault : (fault : Fault) (text more : List ℕ) (f : Fault) → end_at fault text ≡ Err f → end_at fault (text ++ more) ≡ Err f
end_fault fault [] more f h = absurd (cc)
end_fault fault (b ∷ []) [] f h = h
end_fault fault (b ∷ []) (c ∷ t) f h = grind (arith, cond_both)
end_fault fault (b ∷ c ∷ t) more f h = grind (arith, cond_both)

stays_ended : (fault : Fault) (x : List ℕ) → Stays (λ text. and_then (end_at fault text) (λ _ after. Ok (Some (x, after))))
stays_ended fault x = stays_then (end_at fault) (λ _ after. Ok (Some (x, after))) (record { value = end_value fault; fault = end_fault fault }) (λ _. stays_given x)

-- a part before a byte stays
pub record Parts (c : ℕ) (text more : List ℕ) (p : List ℕ × List ℕ) : Type 0 where
  pub still : parted c (text ++ more) ≡ Some (p.0, p.1 ++ more)
  pub shorter : length p.1 < length text

parts_further : (c b : ℕ) (t more : List ℕ) (q : Option (List ℕ × List ℕ)) → parted c t ≡ q → ((p : List ℕ × List ℕ) → q ≡ Some p → Parts c t more p) → nat_eq c b ≡ false
    → (p : List ℕ × List ℕ) → option_map (λ p. (b ∷ p.0, p.1)) q ≡ Some p → Parts c (b ∷ t) more p
parts_further c b t more None is from other p h = absurd (cc)
parts_further c b t more (Some q) is from other p h =
    let so = from q refl in
    subst (Parts c (b ∷ t) more) (let same : (b ∷ q.0, q.1) ≡ p = cc in same)
    (record { still = rw (other, so.still) refl; shorter = omega (arith, so.shorter) })

pub parts_stay : (c : ℕ) (text more : List ℕ) (p : List ℕ × List ℕ) → parted c text ≡ Some p → Parts c text more p
parts_stay c [] more p h = absurd (cc)
parts_stay c (b ∷ t) more p h =
    cond_both (nat_eq c b) (Some ([], t)) (option_map (λ p. (b ∷ p.0, p.1)) (parted c t)) (λ r. r ≡ Some p → Parts c (b ∷ t) more p)
    (λ yes h. subst (Parts c (b ∷ t) more) (let same : ([], t) ≡ p = cc in same) (record { still = rw yes refl; shorter = omega arith }))
    (λ other h. parts_further c b t more (parted c t) refl (λ q e. parts_stay c t more q e) other p h) h

line_value : (fault : Fault) (text more : List ℕ) (x rest : List ℕ) (q : Option (List ℕ × List ℕ)) → parted carriage_return text ≡ q → line_of fault q ≡ Ok (Some (x, rest))
    → (line_at fault (text ++ more) ≡ Ok (Some (x, rest ++ more))) × (length rest ≤ length text)
line_value fault text more x rest None is h = absurd (cc)
line_value fault text more x rest (Some p) is h =
    let parts = parts_stay carriage_return text more p is in
    let so = (stays_ended fault p.0).value (carriage_return ∷ p.1) more x rest h in
    (ap (line_of fault) parts.still ∙ so.0, omega (arith, so.1, parts.shorter))

line_fault : (fault : Fault) (text more : List ℕ) (f : Fault) (q : Option (List ℕ × List ℕ)) → parted carriage_return text ≡ q → line_of fault q ≡ Err f → line_at fault (text ++ more) ≡ Err f
line_fault fault text more f None is h = absurd (cc)
line_fault fault text more f (Some p) is h = ap (line_of fault) (parts_stay carriage_return text more p is).still ∙ (stays_ended fault p.0).fault (carriage_return ∷ p.1) more f h

pub stays_line : (fault : Fault) → Stays (line_at fault)
stays_line fault = record { value = λ text more x rest h. line_value fault text more x rest (parted carriage_return text) refl h; fault = λ text more f h. line_fault fault text more f (parted carriage_return text) refl h }

stays_cut : (n : ℕ) (text more : List ℕ) → n ≤ length text → (take n (text ++ more) ≡ take n text) × (drop n (text ++ more) ≡ drop n text ++ more)
stays_cut n text more inside = (take-append-le n text more inside, drop-append-le n text more inside)

long_enough : (n : ℕ) (text more : List ℕ) → nat_lt (length text) n ≡ false → (n ≤ length text) × (nat_lt (length (text ++ more)) n ≡ false)
long_enough n text more h = (grind (arith, nat_tests), grind (arith, nat_tests, length-append text more))

argument_value : (n : ℕ) (text more x rest : List ℕ) → argument_of (Some n) text ≡ Ok (Some (x, rest)) → (argument_of (Some n) (text ++ more) ≡ Ok (Some (x, rest ++ more))) × (length rest ≤ length text)
argument_value n text more x rest =
    cond_both (nat_lt (length text) n) (Ok None) (and_then (end_at NoEnd (drop n text)) (λ _ after. Ok (Some (take n text, after))))
    (λ r. r ≡ Ok (Some (x, rest)) → (argument_of (Some n) (text ++ more) ≡ Ok (Some (x, rest ++ more))) × (length rest ≤ length text))
    (λ _ h. absurd (cc))
    (λ enough_left h.
    let enough = long_enough n text more enough_left in
    let cut = stays_cut n text more enough.0 in
    let so = (stays_ended NoEnd (take n text)).value (drop n text) more x rest h in
    (rw (enough.1, cut.0, cut.1) so.0, omega (arith, so.1, length-drop n text)))

argument_fault : (n : ℕ) (text more : List ℕ) (f : Fault) → argument_of (Some n) text ≡ Err f → argument_of (Some n) (text ++ more) ≡ Err f
argument_fault n text more f =
    cond_both (nat_lt (length text) n) (Ok None) (and_then (end_at NoEnd (drop n text)) (λ _ after. Ok (Some (take n text, after))))
    (λ r. r ≡ Err f → argument_of (Some n) (text ++ more) ≡ Err f)
    (λ _ h. absurd (cc))
    (λ enough_left h.
    let enough = long_enough n text more enough_left in
    let cut = stays_cut n text more enough.0 in
    rw (enough.1, cut.0, cut.1) ((stays_ended NoEnd (take n text)).fault (drop n text) more f h))

stays_argument_of : (n : Option ℕ) → Stays (argument_of n)
stays_argument_of None = stays_wrong Length
stays_argument_of (Some n) = record { value = argument_value n; fault = argument_fault n }

stays_bulk : Stays bulk_at
stays_bulk = stays_then (line_at Length) (λ digits rest. argument_of (number_in 0 most_argument digits) rest) (stays_line Length) (λ digits. stays_argument_of (number_in 0 most_argument digits))

-- what is read after a first byte of one kind
module _ {A : Type 0} (c : ℕ) (other : ℕ → Fault) (read whole : List ℕ → Front A) (none : whole [] ≡ Ok None) (some : (b : ℕ) (t : List ℕ) → whole (b ∷ t) ≡ (if b == c then read t else Err (other b))) (stays : Stays read) where
  after_value : (text more : List ℕ) (x : A) (rest : List ℕ) → whole text ≡ Ok (Some (x, rest)) → (whole (text ++ more) ≡ Ok (Some (x, rest ++ more))) × (length rest ≤ length text)
  after_value [] more x rest h = absurd (let both = sym none ∙ h in cc)
  after_value (b ∷ t) more x rest h =
      cond_both (b == c) (read t) (Err (other b)) (λ r. r ≡ Ok (Some (x, rest)) → (whole (b ∷ (t ++ more)) ≡ Ok (Some (x, rest ++ more))) × (length rest ≤ length (b ∷ t)))
      (λ yes h. let so = stays.value t more x rest h in (some b (t ++ more) ∙ rw yes so.0, omega (arith, so.1))) (λ _ h. absurd (cc)) (sym (some b t) ∙ h)

  after_fault : (text more : List ℕ) (f : Fault) → whole text ≡ Err f → whole (text ++ more) ≡ Err f
  after_fault [] more f h = absurd (let both = sym none ∙ h in cc)
  after_fault (b ∷ t) more f h =
      cond_both (b == c) (read t) (Err (other b)) (λ r. r ≡ Err f → whole (b ∷ (t ++ more)) ≡ Err f)
      (λ yes h. some b (t ++ more) ∙ rw yes (stays.fault t more f h)) (λ not h. some b (t ++ more) ∙ rw not h) (sym (some b t) ∙ h)

  pub stays_after : Stays whole
  stays_after = record { value = after_value; fault = after_fault }

pub stays_argument : Stays argument_at
stays_argument = stays_after dollar NoBulk bulk_at argument_at refl (λ b t. refl) stays_bulk

pub stays_arguments : (n : ℕ) → Stays (arguments_at n)
stays_arguments zero = stays_given []
stays_arguments (suc n) =
    stays_then argument_at (λ argument rest. and_then (arguments_at n rest) (λ arguments after. Ok (Some (argument ∷ arguments, after)))) stays_argument
    (λ argument. stays_then (arguments_at n) (λ arguments after. Ok (Some (argument ∷ arguments, after))) (stays_arguments n) (λ arguments. stays_given (argument ∷ arguments)))

stays_array_of : (n : Option ℕ) → Stays (array_of n)
stays_array_of None = stays_wrong Count
stays_array_of (Some n) = stays_arguments n

pub stays_array : Stays array_at
stays_array = stays_then (line_at Count) (λ digits rest. array_of (count_of digits) rest) (stays_line Count) (λ digits. stays_array_of (count_of digits))

-- a line's arguments, or why there are none, don't change with what follows the line
line_arguments : (line rest more : List ℕ) (x : List (List ℕ)) (after : List ℕ) → inline_of (Some (line, rest)) ≡ Ok (Some (x, after))
    → (inline_of (Some (line, rest ++ more)) ≡ Ok (Some (x, after ++ more))) × (rest ≡ after)
line_arguments line rest more x after = grind (arith, cond_both, same_read)

line_wrong : (line rest more : List ℕ) (f : Fault) → inline_of (Some (line, rest)) ≡ Err f → inline_of (Some (line, rest ++ more)) ≡ Err f
line_wrong line rest more f = grind (arith, cond_both)

inline_value : (text more : List ℕ) (x : List (List ℕ)) (rest : List ℕ) (q : Option (List ℕ × List ℕ)) → parted line_feed text ≡ q → inline_of q ≡ Ok (Some (x, rest))
    → (inline_at (text ++ more) ≡ Ok (Some (x, rest ++ more))) × (length rest < length text)
inline_value text more x rest None is h = absurd (cc)
inline_value text more x rest (Some p) is h =
    let parts = parts_stay line_feed text more p is in
    let so = line_arguments p.0 p.1 more x rest h in
    (ap inline_of parts.still ∙ so.0, omega (arith, parts.shorter, ap length so.1))

inline_fault : (text more : List ℕ) (f : Fault) (q : Option (List ℕ × List ℕ)) → parted line_feed text ≡ q → inline_of q ≡ Err f → inline_at (text ++ more) ≡ Err f
inline_fault text more f None is h = absurd (cc)
inline_fault text more f (Some p) is h = ap inline_of (parts_stay line_feed text more p is).still ∙ line_wrong p.0 p.1 more f h

pub frame_value : (text more : List ℕ) (x : List (List ℕ)) (rest : List ℕ) → frame_at text ≡ Ok (Some (x, rest)) → (frame_at (text ++ more) ≡ Ok (Some (x, rest ++ more))) × (length rest < length text)
frame_value [] more x rest h = absurd (cc)
frame_value (b ∷ t) more x rest h =
    cond_both (b == star) (array_at t) (inline_at (b ∷ t)) (λ r. r ≡ Ok (Some (x, rest)) → (frame_at (b ∷ (t ++ more)) ≡ Ok (Some (x, rest ++ more))) × (length rest < length (b ∷ t)))
    (λ yes h. let so = stays_array.value t more x rest h in (rw yes so.0, omega (arith, so.1)))
    (λ other h. let so = inline_value (b ∷ t) more x rest (parted line_feed (b ∷ t)) refl h in (rw other so.0, so.1)) h

frame_fault : (text more : List ℕ) (f : Fault) → frame_at text ≡ Err f → frame_at (text ++ more) ≡ Err f
frame_fault [] more f h = absurd (cc)
frame_fault (b ∷ t) more f h =
    cond_both (b == star) (array_at t) (inline_at (b ∷ t)) (λ r. r ≡ Err f → frame_at (b ∷ (t ++ more)) ≡ Err f)
    (λ yes h. rw yes (stays_array.fault t more f h)) (λ other h. rw other (inline_fault (b ∷ t) more f (parted line_feed (b ∷ t)) refl h)) h

-- the bytes that a frame may have, with more after a text: the text and some of what follows, or the same
pub take_more : (n : ℕ) (text more : List ℕ) → length text ≤ n → take n (text ++ more) ≡ text ++ take (n - length text) more
take_more n text more small = ap (λ (k : ℕ). take k (text ++ more)) (omega arith) ∙ take-append-add text more (n - length text)

short_or_long : (text : List ℕ) → (length text ≤ most_frame) ⊎ (most_frame < length text)
short_or_long text = cond_both (nat_lt most_frame (length text)) true false (λ _. (length text ≤ most_frame) ⊎ (most_frame < length text)) (λ far. inr (grind (arith, nat_tests))) (λ near. inl (grind (arith, nat_tests)))

pub record FirstStays (text more : List ℕ) (arguments : List (List ℕ)) (rest : List ℕ) : Type 0 where
  pub still : first_of (text ++ more) ≡ Ok (Some (arguments, rest ++ more))
  pub shorter : length rest < length text

-- what the reader of a window found
pub first_told : (text : List ℕ) (arguments : List (List ℕ)) (rest : List ℕ) (r : Front (List (List ℕ))) → first_by text r ≡ Ok (Some (arguments, rest))
    → (after : List ℕ) × (r ≡ Ok (Some (arguments, after))) × (rest ≡ drop (length (take most_frame text) - length after) text)
first_told text arguments rest (Ok None) h =
    cond_both (nat_lt most_frame (length text)) (Err TooLong) (Ok None)
    (λ r. r ≡ given arguments rest → (after : List ℕ) × (nothing ≡ given arguments after) × (rest ≡ drop (length (take most_frame text) - length after) text))
    (λ _ h. absurd (cc)) (λ _ h. absurd (cc)) h
first_told text arguments rest (Ok (Some p)) h = grind (arith, same_read)
first_told text arguments rest (Err f) h = absurd (cc)

first_short : (text more : List ℕ) (arguments : List (List ℕ)) (after : List ℕ) → length text ≤ most_frame → frame_at text ≡ Ok (Some (arguments, after))
    → FirstStays text more arguments (drop (length text - length after) text)
unfolding first_of
first_short text more arguments after small h =
    let some = take (most_frame - length text) more in
    let so = frame_value text some arguments after h in
    let window : take most_frame (text ++ more) ≡ text ++ some = take_more most_frame text more small in
    let count : length (text ++ some) - length (after ++ some) ≡ length text - length after = omega (arith, length-append text some, length-append after some, so.1) in
    record {
      still = ap (λ w. first_by (text ++ more) (frame_at w)) window ∙ ap (first_by (text ++ more)) so.0
          ∙ ap (λ (t : List ℕ). Ok (Some (arguments, t))) (ap (λ (w : List ℕ). drop (length w - length (after ++ some)) (text ++ more)) window ∙ ap (λ (k : ℕ). drop k (text ++ more)) count
          ∙ drop-append-le (length text - length after) text more (omega arith));
      shorter = omega (arith, length-drop (length text - length after) text, so.1);
    }

first_long : (text more : List ℕ) (arguments : List (List ℕ)) (after : List ℕ) → most_frame < length text → frame_at (take most_frame text) ≡ Ok (Some (arguments, after))
    → FirstStays text more arguments (drop (length (take most_frame text) - length after) text)
unfolding first_of
first_long text more arguments after far h =
    let window : take most_frame (text ++ more) ≡ take most_frame text = take-append-le most_frame text more (omega arith) in
    let shorter = (frame_value (take most_frame text) [] arguments after h).1 in
    record {
      still = ap (λ w. first_by (text ++ more) (frame_at w)) window ∙ ap (first_by (text ++ more)) h
          ∙ ap (λ (t : List ℕ). Ok (Some (arguments, t))) (ap (λ (w : List ℕ). drop (length w - length after) (text ++ more)) window
          ∙ drop-append-le (length (take most_frame text) - length after) text more (omega (arith, length-take most_frame text)));
      shorter = omega (arith, length-drop (length (take most_frame text) - length after) text, length-take most_frame text, shorter);
    }

-- the first frame of a text is that of a longer text
pub first_value : (text more : List ℕ) (arguments : List (List ℕ)) (rest : List ℕ) → first_of text ≡ Ok (Some (arguments, rest)) → FirstStays text more arguments rest
unfolding first_of
first_value text more arguments rest h =
    let told = first_told text arguments rest (frame_at (take most_frame text)) h in
    subst (FirstStays text more arguments) (sym told.2) (elim (short_or_long text) [
      | inl small ↦
          let whole : take most_frame text ≡ text = take_all most_frame text small in
          subst (λ (w : List ℕ). FirstStays text more arguments (drop (length w - length told.0) text)) (sym whole)
          (first_short text more arguments told.0 small (ap frame_at (sym whole) ∙ told.1))
      | inr far ↦ first_long text more arguments told.0 far told.1
    ])

-- a fault of a window is the text's, or the text is too long for its first frame
fault_told : (text : List ℕ) (f : Fault) (r : Front (List (List ℕ))) → first_by text r ≡ Err f → (r ≡ Err f) ⊎ ((most_frame < length text) × (r ≡ Ok None) × (TooLong ≡ f))
fault_told text f (Ok None) h = grind (arith, cond_both, nat_tests) steps 100000
fault_told text f (Ok (Some p)) h = absurd (cc)
fault_told text f (Err g) h = inl (let same : g ≡ f = cc in ap (λ (k : Fault). Err k) same)

far_off : (text more : List ℕ) → most_frame < length text → (take most_frame (text ++ more) ≡ take most_frame text) × (nat_lt most_frame (length (text ++ more)) ≡ true)
far_off text more far = (take-append-le most_frame text more (omega arith), grind (arith, nat_tests, length-append text more))

fault_long : (text more : List ℕ) (f : Fault) → most_frame < length text → frame_at (take most_frame text) ≡ Ok None → TooLong ≡ f → first_of (text ++ more) ≡ Err f
unfolding first_of
fault_long text more f far none is =
    let off = far_off text more far in
    ap (λ w. first_by (text ++ more) (frame_at w)) off.0 ∙ ap (first_by (text ++ more)) none ∙ rw (off.1) (ap (λ (k : Fault). Err k) is)

fault_in : (text more : List ℕ) (f : Fault) → frame_at (take most_frame text) ≡ Err f → first_of (text ++ more) ≡ Err f
unfolding first_of
fault_in text more f h = elim (short_or_long text) [
  | inl small ↦
      let whole : take most_frame text ≡ text = take_all most_frame text small in
      ap (λ w. first_by (text ++ more) (frame_at w)) (take_more most_frame text more small)
      ∙ ap (first_by (text ++ more)) (frame_fault text (take (most_frame - length text) more) f (ap frame_at (sym whole) ∙ h))
  | inr far ↦ ap (λ w. first_by (text ++ more) (frame_at w)) (far_off text more far).0 ∙ ap (first_by (text ++ more)) h
]

-- a fault is a longer text's
pub first_fault : (text more : List ℕ) (f : Fault) → first_of text ≡ Err f → first_of (text ++ more) ≡ Err f
unfolding first_of
first_fault text more f h = elim (fault_told text f (frame_at (take most_frame text)) h) [
  | inl e ↦ fault_in text more f e
  | inr t ↦ fault_long text more f t.0 t.1 t.2
]

short_by : (text : List ℕ) (r : Front (List (List ℕ))) → first_by text r ≡ Ok None → length text ≤ most_frame
short_by text (Ok None) h = grind (arith, cond_both, nat_tests) steps 100000
short_by text _ h = absurd (cc)

-- a text that waits is no longer than a frame
pub short_waits : (text : List ℕ) → first_of text ≡ Ok None → length text ≤ most_frame
unfolding first_of
short_waits text h = short_by text (frame_at (take most_frame text)) h
