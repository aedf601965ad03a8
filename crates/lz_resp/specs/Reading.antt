-- What stands at the front of a text: a value and the text after it; nothing yet, where the text may go on; or a fault, however it goes on.
use Rattle.std.specs.Prelude.{◌≡◌, ℕ, zero, suc, ◌-◌, ◌==◌, ◌&&◌, nat_lt, if◌then◌else◌, List, [], ◌∷◌, length, take, drop, codes, nat_eq, Option, None, Some}
use Rattle.std.specs.{Prelude.{option_map, Result, Ok, Err}, List.{list_any, starts_with}}
use Rattle.lz_slot.specs.{Numerals.{largest_read, number_in}, Texts.{parted}}
use Rattle.lz_resp.specs.{Limits.{most_frame, most_argument, most_arguments}, Frames.{star, dollar, is_quote, arguments_of, fits}, declared.fault.Fault.{Fault}}
use Rattle.lz_resp.specs.declared.fault.{Fault.TheVariants.{Count, Length, NoBulk, NoEnd, Quotes, TooLong}, Stop.{Stop, TheVariants.{Memory, Faulty}}}
use Rattle.lz_proto.specs.Lines.{line_feed, carriage_return}

abbrev pub Front : Type 0 → Type 0
Front A = Result (Option (A × List ℕ)) Fault

-- what follows a value that was read
abbrev pub and_then : {A B : Type 0} → Front A → (A → List ℕ → Front B) → Front B
and_then (Ok None) next = Ok None
and_then (Ok (Some p)) next = next p.0 p.1
and_then (Err fault) next = Err fault

-- CR and LF
abbrev pub end_at : Fault → List ℕ → Front (Unit {0})
end_at fault [] = Ok None
end_at fault (b ∷ []) = if b == carriage_return then Ok None else Err fault
end_at fault (b ∷ c ∷ rest) = if (b == carriage_return) && (c == line_feed) then Ok (Some (tt, rest)) else Err fault

abbrev pub line_of : Fault → Option (List ℕ × List ℕ) → Front (List ℕ)
line_of fault None = Ok None
line_of fault (Some p) = and_then (end_at fault (carriage_return ∷ p.1)) (λ _ rest. Ok (Some (p.0, rest)))

-- a line: what stands before CR and LF
abbrev pub line_at : Fault → List ℕ → Front (List ℕ)
line_at fault text = line_of fault (parted carriage_return text)

abbrev pub argument_of : Option ℕ → List ℕ → Front (List ℕ)
argument_of None text = Err Length
argument_of (Some n) text =
    if nat_lt (length text) n then Ok None
    else and_then (end_at NoEnd (drop n text)) (λ _ rest. Ok (Some (take n text, rest)))

-- what follows a dollar
abbrev pub bulk_at : List ℕ → Front (List ℕ)
bulk_at text = and_then (line_at Length text) (λ digits rest. argument_of (number_in 0 most_argument digits) rest)

-- a bulk string
abbrev pub argument_at : List ℕ → Front (List ℕ)
argument_at [] = Ok None
argument_at (b ∷ text) = if b == dollar then bulk_at text else Err (NoBulk b)

-- so many bulk strings
abbrev pub arguments_at : ℕ → List ℕ → Front (List (List ℕ))
arguments_at zero text = Ok (Some ([], text))
arguments_at (suc n) text = and_then (argument_at text) (λ argument rest. and_then (arguments_at n rest) (λ arguments after. Ok (Some (argument ∷ arguments, after))))

-- the number of arguments that digits tell: none where a minus stands before them
abbrev pub count_of : List ℕ → Option ℕ
count_of digits =
    if starts_with nat_eq digits (codes "-") then option_map (λ _. 0) (number_in 1 largest_read (drop 1 digits))
    else number_in 0 most_arguments digits

abbrev pub array_of : Option ℕ → List ℕ → Front (List (List ℕ))
array_of None text = Err Count
array_of (Some n) text = arguments_at n text

-- what follows a star
abbrev pub array_at : List ℕ → Front (List (List ℕ))
array_at text = and_then (line_at Count text) (λ digits rest. array_of (count_of digits) rest)

-- the arguments of a line, unless they are quoted, too many or too long
abbrev pub inline_of : Option (List ℕ × List ℕ) → Front (List (List ℕ))
inline_of None = Ok None
inline_of (Some p) =
    if list_any is_quote p.0 then Err Quotes
    else (if fits (arguments_of p.0) then Ok (Some (arguments_of p.0, p.1)) else Err TooLong)

abbrev pub inline_at : List ℕ → Front (List (List ℕ))
inline_at text = inline_of (parted line_feed text)

-- an array after a star, else a line
abbrev pub frame_at : List ℕ → Front (List (List ℕ))
frame_at [] = Ok None
frame_at (b ∷ text) = if b == star then array_at text else inline_at (b ∷ text)

-- what stands at the front of a text by the bytes that a frame may have
abbrev pub first_by : List ℕ → Front (List (List ℕ)) → Front (List (List ℕ))
first_by text (Ok None) = if nat_lt most_frame (length text) then Err TooLong else Ok None
first_by text (Ok (Some p)) = Ok (Some (p.0, drop (length (take most_frame text) - length p.1) text))
first_by text (Err fault) = Err fault

-- the first frame of a text
unfoldable pub first_of : List ℕ → Front (List (List ℕ))
first_of text = first_by text (frame_at (take most_frame text))

-- what a reader returned, seen by `view`
abbrev pub seen : {X A : Type 0} → (X → A × List ℕ) → Result (Option X) Fault → Front A
seen view (Ok None) = Ok None
seen view (Ok (Some x)) = Ok (Some (view x))
seen view (Err fault) = Err fault

-- the fault is the text's, where memory didn't run out
abbrev pub StopsBy : {A : Type 0} → Stop → Front A → Type 0
StopsBy Memory front = Unit {0}
StopsBy (Faulty fault) front = front ≡ Err fault

-- the same of a reader for which memory may run out
abbrev pub Gives : {X A : Type 0} → (X → A × List ℕ) → Result (Option X) Stop → Front A → Type 0
Gives view (Ok None) front = front ≡ Ok None
Gives view (Ok (Some x)) front = front ≡ Ok (Some (view x))
Gives view (Err stop) front = StopsBy stop front
