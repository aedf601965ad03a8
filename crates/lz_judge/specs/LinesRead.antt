-- What a line of a history says, by its words.
use Rattle.lz_slot.specs.declared.history.HistoryEvent.TheVariants as mark
use Rattle.std.specs.Prelude.{ℕ, ◌+◌, ◌==◌, Bool, true, false, nat_le, nat_eq, if◌then◌else◌, List, [], ◌∷◌, codes, Option, None, Some, option_map}
use Rattle.std.specs.{Prelude.{option_and_then, Result, Ok, Err}, List.{slice_split}, Cmp.Lexicographic.{pointwise}}
use denote.Ref.{Bor}
use Rattle.lz_slot.specs.{Limits.{most_actors}, Numerals.{largest_read, number_in}, Texts.{key_read}, declared.spelling.KeyFault.{KeyFault}}
use Rattle.lz_slot.specs.declared.{command.Command.{Command, TheVariants.{Add, Remove, Has}}, history.{Cut.TheVariants.{Halted, Device}, Refusal.{Refusal}}}
use Rattle.lz_slot.specs.declared.history.Refusal.TheVariants.{Full, Worn, OldFile}
use Rattle.lz_judge.specs.{declared.line.Line.{Line, TheVariants.{Seen, Placed, Other}}, Limits.{largest_place, most_faults}}

-- the words of a text, parted by one space each
abbrev pub words_of : List ℕ → List (List ℕ)
words_of text = slice_split (λ b. b == 32) text

-- the words after a space, or none where there is no space
abbrev pub words_behind : Option (Bor (List ℕ)) → List (List ℕ)
words_behind None = []
words_behind (Some text) = words_of text.now

-- the word is this one
abbrev pub is_word : List ℕ → List ℕ → Bool
is_word word text = pointwise nat_eq word text

-- what is read of the first word, and the words after it
abbrev pub take_word : {A : Type 0} → (List ℕ → Option A) → List (List ℕ) → Option (A × List (List ℕ))
take_word read [] = None
take_word read (word ∷ words) = option_map (λ a. (a, words)) (read word)

-- what is read of the first word, and the words after it, go on to a reading
abbrev pub with_word : {A B : Type 0} → (List ℕ → Option A) → List (List ℕ) → (A → List (List ℕ) → Option B) → Option B
with_word read words go = option_and_then (λ taken. go taken.0 taken.1) (take_word read words)

-- the line, where no word is left
abbrev pub at_end : Line → List (List ℕ) → Option Line
at_end line [] = Some line
at_end line (word ∷ words) = None

-- a call's number
abbrev pub call_number : List ℕ → Option ℕ
call_number = number_in 1 largest_read

-- an actor
abbrev pub actor_number : List ℕ → Option ℕ
actor_number = number_in 1 most_actors

abbrev pub key_told : Result ℕ KeyFault → Option ℕ
key_told (Ok k) = Some k
key_told (Err fault) = None

-- the key that a word spells
abbrev pub key_named : List ℕ → Option ℕ
key_named word = key_told (key_read word)

-- the command of this name on a key
abbrev pub command_named : List ℕ → ℕ → Option Command
command_named name key =
    if is_word name (codes "add") then Some (Add key)
    else if is_word name (codes "remove") then Some (Remove key)
    else if is_word name (codes "has") then Some (Has key)
    else None

-- the command that the first two words are, and the words after them
abbrev pub take_command : List (List ℕ) → Option (Command × List (List ℕ))
take_command words = with_word (λ name. Some name) words (λ name words. with_word key_named words (λ key words. option_map (λ c. (c, words)) (command_named name key)))

-- yes or no
abbrev pub answer_read : List ℕ → Option Bool
answer_read word = if is_word word (codes "yes") then Some true else if is_word word (codes "no") then Some false else None

-- full, worn or oldfile
abbrev pub refusal_read : List ℕ → Option Refusal
refusal_read word =
    if is_word word (codes "full") then Some Full
    else if is_word word (codes "worn") then Some Worn
    else if is_word word (codes "oldfile") then Some OldFile
    else None

-- the key, where it is not below the least one
abbrev pub not_below : ℕ → ℕ → Option ℕ
not_below least key = if nat_le least key then Some key else None

-- the key that a word spells, where it is not below the least one
abbrev pub key_from : ℕ → List ℕ → Option ℕ
key_from least word = option_and_then (not_below least) (key_named word)

-- keys from the least one on, each above the one before it
abbrev pub keys_from : ℕ → List (List ℕ) → Option (List ℕ)
keys_from least [] = Some []
keys_from least (word ∷ words) = option_and_then (λ key. option_map (λ keys. key ∷ keys) (keys_from (key + 1) words)) (key_from least word)

-- `open fault N`
abbrev pub fault_read : List (List ℕ) → Option Line
fault_read words = with_word (number_in 1 most_faults) words (λ fault words. at_end (Seen (mark.OpenFailed fault)) words)

-- `open` and keys
abbrev pub found_read : List (List ℕ) → Option Line
found_read words = option_map (λ keys. Seen (mark.Opened keys)) (keys_from 0 words)

-- `open` and keys, or `open fault N`
abbrev pub open_read : List (List ℕ) → Option Line
open_read [] = found_read []
open_read (word ∷ words) = if is_word word (codes "fault") then fault_read words else found_read (word ∷ words)

-- `show` and keys
abbrev pub show_read : List (List ℕ) → Option Line
show_read words = option_map (λ keys. Other) (keys_from 0 words)

-- What a line of this kind says by its fields. Each kind is one row: its word, what reads each of its fields, and what the line says.
abbrev pub fields_read : List ℕ → List (List ℕ) → Option Line
fields_read kind words =
    if is_word kind (codes "call") then
    with_word call_number words (λ i words. with_word actor_number words (λ a words. option_and_then (λ taken. at_end (Seen (mark.Call i a taken.0)) taken.1) (take_command words)))
    else if is_word kind (codes "answer") then with_word call_number words (λ i words. with_word answer_read words (λ answer. at_end (Seen (mark.Answer i answer))))
    else if is_word kind (codes "refused") then with_word call_number words (λ i words. with_word refusal_read words (λ why. at_end (Seen (mark.Refused i why))))
    else if is_word kind (codes "halted") then with_word call_number words (λ i. at_end (Seen (mark.Cut i Halted)))
    else if is_word kind (codes "device") then with_word call_number words (λ i. at_end (Seen (mark.Cut i Device)))
    else if is_word kind (codes "stop") then at_end (Seen mark.Stop) words
    else if is_word kind (codes "crash") then at_end (Seen mark.Crash) words
    else if is_word kind (codes "busy") then with_word actor_number words (λ a. at_end Other)
    else if is_word kind (codes "point") then
    with_word call_number words (λ i words. with_word (number_in 0 largest_place) words (λ place. at_end (Placed (record { call = i; place = place }))))
    else None

-- what a line of this kind says with the words after
abbrev pub kind_read : List ℕ → List (List ℕ) → Option Line
kind_read kind words = if is_word kind (codes "open") then open_read words else if is_word kind (codes "show") then show_read words else fields_read kind words

-- what a line says
abbrev pub line_read : List ℕ → Option Line
line_read line = with_word (λ kind. Some kind) (words_of line) kind_read
