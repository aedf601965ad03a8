-- What the lines of a script ask for. A text is a list of bytes.
use Rattle.lz_machine.specs.declared.kind.Kind.TheVariants as kind
use Rattle.std.specs.Prelude.{◌≡◌, ◌≢◌, ◌⊎◌, ℕ, suc, ◌+◌, ◌-◌, ◌*◌, ◌≤◌, false, ◌&&◌, nat_le, nat_lt, nat_eq, if◌then◌else◌, Result, Ok, Err, Option, None}
use Rattle.std.specs.{Prelude.{Some, option_map, List, [], ◌∷◌, ◌++◌, length, drop, codes}, List.{starts_with}, Cmp.Lexicographic.{pointwise}}
use Rattle.lz_slot.specs.{declared.{command.Command.{Command, TheVariants.{Add, Remove, Has}}, spelling.KeyFault.{KeyFault}}, Limits.{most_actors}}
use Rattle.lz_slot.specs.{Numerals.{number_in}, Texts.{key_read, parted}}
use Rattle.lz_disk.specs.declared.memory.Pick.{Pick, TheVariants.{Old, New, Byte, Part}}
use Rattle.lz_proto.specs.Lines.{has_line_feed, line_feed}
use Rattle.lz_machine.specs.declared.kind.Kind.{Kind}
use Rattle.lz_rehearsal.specs.{Limits.{most_kept, most_length, most_lines, most_turns}, declared.line.Line.{Line}}
use Rattle.lz_rehearsal.specs.declared.line.Line.TheVariants.{Call, Turn, Until, Finish, Trip, Stop, Crash, Open, Show}

abbrev pub space : ℕ
space = 32

abbrev pub actor_before : Option (List ℕ × List ℕ) → Option (ℕ × List ℕ)
actor_before None = None
actor_before (Some p) = option_map (λ a. (a, p.1)) (number_in 1 most_actors p.0)

-- the actor that a text begins with, and what follows the space after it
abbrev pub actor_read : List ℕ → Option (ℕ × List ℕ)
actor_read text = actor_before (parted space text)

-- what an actor and the rest of a text come to
abbrev pub with_actor : (ℕ → List ℕ → Option Line) → Option (ℕ × List ℕ) → Option Line
with_actor reads None = None
with_actor reads (Some p) = reads p.0 p.1

abbrev pub keyed : (ℕ → Command) → Result ℕ KeyFault → Option Command
keyed command (Ok k) = Some (command k)
keyed command (Err fault) = None

-- a command's word and its key
abbrev pub command_read : List ℕ → Option Command
command_read text =
    if starts_with nat_eq text (codes "add ") then keyed (λ k. Add k) (key_read (drop 4 text))
    else if starts_with nat_eq text (codes "remove ") then keyed (λ k. Remove k) (key_read (drop 7 text))
    else if starts_with nat_eq text (codes "has ") then keyed (λ k. Has k) (key_read (drop 4 text))
    else None

-- the name of a kind of event
abbrev pub kind_name : Kind → List ℕ
kind_name kind.Invoke = codes "Invoke"
kind_name kind.Pin = codes "Pin"
kind_name kind.Hop = codes "Hop"
kind_name kind.Reserve = codes "Reserve"
kind_name kind.WriteKey = codes "WriteKey"
kind_name kind.Claim = codes "Claim"
kind_name kind.Check = codes "Check"
kind_name kind.WriteOpen = codes "WriteOpen"
kind_name kind.Link = codes "Link"
kind_name kind.WriteClose = codes "WriteClose"
kind_name kind.Mark = codes "Mark"
kind_name kind.Release = codes "Release"
kind_name kind.Sync = codes "Sync"
kind_name kind.Settle = codes "Settle"
kind_name kind.Unlink = codes "Unlink"
kind_name kind.Retire = codes "Retire"
kind_name kind.SeePin = codes "SeePin"
kind_name kind.Answer = codes "Answer"
kind_name kind.Halt = codes "Halt"

abbrev pub all_kinds : List Kind
all_kinds =
    kind.Invoke ∷ kind.Pin ∷ kind.Hop ∷ kind.Reserve ∷ kind.WriteKey ∷ kind.Claim ∷ kind.Check ∷ kind.WriteOpen ∷ kind.Link ∷ kind.WriteClose
    ∷ kind.Mark ∷ kind.Release ∷ kind.Sync ∷ kind.Settle ∷ kind.Unlink ∷ kind.Retire ∷ kind.SeePin ∷ kind.Answer ∷ kind.Halt ∷ []

abbrev pub first_named : List ℕ → List Kind → Option Kind
first_named text [] = None
first_named text (k ∷ ks) = if pointwise nat_eq text (kind_name k) then Some k else first_named text ks

-- the kind of event with this name
abbrev pub kind_read : List ℕ → Option Kind
kind_read text = first_named text all_kinds

-- the value of a small hexadecimal digit
abbrev pub hex_digit : ℕ → Option ℕ
hex_digit b =
    if nat_le 48 b && nat_le b 57 then Some (b - 48)
    else if nat_le 97 b && nat_le b 102 then Some (b - 97 + 10)
    else None

abbrev pub two_digits : Option ℕ → Option ℕ → Option ℕ
two_digits None ones = None
two_digits (Some sixteens) ones = option_map (λ digit. 16 * sixteens + digit) ones

-- a byte by its two hexadecimal digits
abbrev pub byte_read : List ℕ → Option ℕ
byte_read [] = None
byte_read (high ∷ []) = None
byte_read (high ∷ low ∷ []) = two_digits (hex_digit high) (hex_digit low)
byte_read (high ∷ low ∷ more ∷ t) = None

-- what a crash is to leave
abbrev pub pick_read : List ℕ → Option Pick
pick_read text =
    if pointwise nat_eq text (codes "old") then Some Old
    else if pointwise nat_eq text (codes "new") then Some New
    else if starts_with nat_eq text (codes "part ") then option_map (λ n. Part n) (number_in 0 most_kept (drop 5 text))
    else option_map (λ b. Byte b) (byte_read text)

abbrev pub call_read : List ℕ → Option Line
call_read text = with_actor (λ a rest. option_map (λ c. Call a c) (command_read rest)) (actor_read text)

abbrev pub turn_read : List ℕ → Option Line
turn_read text = with_actor (λ a rest. option_map (λ n. Turn a n) (number_in 1 most_turns rest)) (actor_read text)

abbrev pub until_read : List ℕ → Option Line
until_read text = with_actor (λ a rest. option_map (λ k. Until a k) (kind_read rest)) (actor_read text)

abbrev pub finish_read : List ℕ → Option Line
finish_read text = option_map (λ a. Finish a) (number_in 1 most_actors text)

abbrev pub crash_read : List ℕ → Option Line
crash_read text = option_map (λ pick. Crash pick) (pick_read text)

-- a line that is its word alone
abbrev pub bare : Line → List ℕ → Option Line
bare line [] = Some line
bare line (b ∷ t) = None

-- what a line without its line feed asks for, if it is one
abbrev pub line_read : List ℕ → Option Line
line_read text =
    if nat_lt most_length (length text) then None
    else if starts_with nat_eq text (codes "call ") then call_read (drop 5 text)
    else if starts_with nat_eq text (codes "turn ") then turn_read (drop 5 text)
    else if starts_with nat_eq text (codes "until ") then until_read (drop 6 text)
    else if starts_with nat_eq text (codes "finish ") then finish_read (drop 7 text)
    else if starts_with nat_eq text (codes "trip") then bare Trip (drop 4 text)
    else if starts_with nat_eq text (codes "stop") then bare Stop (drop 4 text)
    else if starts_with nat_eq text (codes "crash ") then crash_read (drop 6 text)
    else if starts_with nat_eq text (codes "open") then bare Open (drop 4 text)
    else if starts_with nat_eq text (codes "show") then bare Show (drop 4 text)
    else None

-- The text is whole lines that ask for these things.
pub data Reads : List ℕ → List Line → Type 0 where
  nothing : Reads [] []
  more : (t : List ℕ) (line : Line) (rest : List ℕ) (lines : List Line)
      → has_line_feed t ≡ false → line_read t ≡ Some line → Reads rest lines → Reads (t ++ line_feed ∷ rest) (line ∷ lines)

-- the text begins with no line of a script
abbrev pub HasNoLine : List ℕ → Type 0
HasNoLine text = (t rest : List ℕ) → has_line_feed t ≡ false → text ≡ t ++ line_feed ∷ rest → line_read t ≡ None

-- The text doesn't read: this is the number of the first line that doesn't. Bytes after the last line feed are such a
-- line, and so is each line past the most.
pub record FailsAt (text : List ℕ) (number : ℕ) : Type 0 where
  pub lines : List Line
  pub front : List ℕ
  pub rest : List ℕ
  pub whole : text ≡ front ++ rest
  pub reads : Reads front lines
  pub place : suc (length lines) ≡ number
  pub few : length lines ≤ most_lines
  pub some : rest ≢ []
  pub fault : (length lines ≡ most_lines) ⊎ HasNoLine rest

-- The text is a script of these lines.
pub record IsScript (text : List ℕ) (lines : List Line) : Type 0 where
  pub reads : Reads text lines
  pub few : length lines ≤ most_lines
