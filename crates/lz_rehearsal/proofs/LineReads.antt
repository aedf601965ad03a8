-- What the tests of a line find is what the line is.
use Rattle.std.proofs.{Common.{◌≡◌, ℕ, ◌-◌, List, length, take, drop, codes, Option, true, false, nat_eq, nat_lt, refl, sym, ap, ◌∙◌}, lemmas.List.{take_rest}}
use Rattle.std.specs.List.{starts_with}
use Rattle.lz_rehearsal.specs.{declared.line.Line.{Line, TheVariants.{Trip, Stop, Open, Show}}, Limits.{most_length}}
use Rattle.lz_rehearsal.specs.Scripts.{bare, call_read, crash_read, finish_read, line_read, turn_read, until_read}

abbrev Begins : List ℕ → List ℕ → Type 0
Begins text word = starts_with nat_eq text word ≡ true

abbrev Differs : List ℕ → List ℕ → Type 0
Differs text word = starts_with nat_eq text word ≡ false

pub call_line : (text : List ℕ) (r : Option Line) → nat_lt most_length (length text) ≡ false → Begins text (codes "call ")
    → r ≡ call_read (take (length text - 5) (drop 5 text)) → r ≡ line_read text
call_line text r short is found = found ∙ ap call_read (take_rest text 5) ∙ sym (rw (short, is) refl)

pub turn_line : (text : List ℕ) (r : Option Line) → nat_lt most_length (length text) ≡ false → Differs text (codes "call ") → Begins text (codes "turn ")
    → r ≡ turn_read (take (length text - 5) (drop 5 text)) → r ≡ line_read text
turn_line text r short no_call is found = found ∙ ap turn_read (take_rest text 5) ∙ sym (rw (short, no_call, is) refl)

pub until_line : (text : List ℕ) (r : Option Line) → nat_lt most_length (length text) ≡ false → Differs text (codes "call ") → Differs text (codes "turn ") → Begins text (codes "until ")
    → r ≡ until_read (take (length text - 6) (drop 6 text)) → r ≡ line_read text
until_line text r short no_call no_turn is found = found ∙ ap until_read (take_rest text 6) ∙ sym (rw (short, no_call, no_turn, is) refl)

pub finish_line : (text : List ℕ) (r : Option Line) → nat_lt most_length (length text) ≡ false → Differs text (codes "call ") → Differs text (codes "turn ") → Differs text (codes "until ") → Begins text (codes "finish ")
    → r ≡ finish_read (take (length text - 7) (drop 7 text)) → r ≡ line_read text
finish_line text r short no_call no_turn no_until is found = found ∙ ap finish_read (take_rest text 7) ∙ sym (rw (short, no_call, no_turn, no_until, is) refl)

pub trip_line : (text : List ℕ) (r : Option Line) → nat_lt most_length (length text) ≡ false → Differs text (codes "call ") → Differs text (codes "turn ") → Differs text (codes "until ") → Differs text (codes "finish ") → Begins text (codes "trip")
    → r ≡ bare Trip (take (length text - 4) (drop 4 text)) → r ≡ line_read text
trip_line text r short no_call no_turn no_until no_finish is found = found ∙ ap (bare Trip) (take_rest text 4) ∙ sym (rw (short, no_call, no_turn, no_until, no_finish, is) refl)

pub stop_line : (text : List ℕ) (r : Option Line) → nat_lt most_length (length text) ≡ false → Differs text (codes "call ") → Differs text (codes "turn ") → Differs text (codes "until ") → Differs text (codes "finish ") → Differs text (codes "trip") → Begins text (codes "stop")
    → r ≡ bare Stop (take (length text - 4) (drop 4 text)) → r ≡ line_read text
stop_line text r short no_call no_turn no_until no_finish no_trip is found = found ∙ ap (bare Stop) (take_rest text 4) ∙ sym (rw (short, no_call, no_turn, no_until, no_finish, no_trip, is) refl)

pub crash_line : (text : List ℕ) (r : Option Line) → nat_lt most_length (length text) ≡ false → Differs text (codes "call ") → Differs text (codes "turn ")
    → Differs text (codes "until ") → Differs text (codes "finish ") → Differs text (codes "trip") → Differs text (codes "stop") → Begins text (codes "crash ")
    → r ≡ crash_read (take (length text - 6) (drop 6 text)) → r ≡ line_read text
crash_line text r short no_call no_turn no_until no_finish no_trip no_stop is found = found ∙ ap crash_read (take_rest text 6) ∙ sym (rw (short, no_call, no_turn, no_until, no_finish, no_trip, no_stop, is) refl)

pub open_line : (text : List ℕ) (r : Option Line) → nat_lt most_length (length text) ≡ false → Differs text (codes "call ") → Differs text (codes "turn ") → Differs text
    (codes "until ") → Differs text (codes "finish ") → Differs text (codes "trip") → Differs text (codes "stop") → Differs text (codes "crash ") → Begins text
    (codes "open")
    → r ≡ bare Open (take (length text - 4) (drop 4 text)) → r ≡ line_read text
open_line text r short no_call no_turn no_until no_finish no_trip no_stop no_crash is found = found ∙ ap (bare Open) (take_rest text 4) ∙ sym (rw (short, no_call, no_turn, no_until, no_finish, no_trip, no_stop, no_crash, is) refl)

pub show_line : (text : List ℕ) (r : Option Line) → nat_lt most_length (length text) ≡ false → Differs text (codes "call ") → Differs text (codes "turn ") → Differs text
    (codes "until ") → Differs text (codes "finish ") → Differs text (codes "trip") → Differs text (codes "stop") → Differs text (codes "crash ") → Differs text
    (codes "open") → Begins text (codes "show")
    → r ≡ bare Show (take (length text - 4) (drop 4 text)) → r ≡ line_read text
show_line text r short no_call no_turn no_until no_finish no_trip no_stop no_crash no_open is found = found ∙ ap (bare Show) (take_rest text 4) ∙ sym (rw (short, no_call, no_turn, no_until, no_finish, no_trip, no_stop, no_crash, no_open, is) refl)
