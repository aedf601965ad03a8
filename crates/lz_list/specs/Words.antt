-- The words that threads share.
use Rattle.std.specs.Prelude.{ℕ, suc, ◌+◌, ◌*◌, ◌/◌, ◌%◌, ◌^◌, Bool, true, false, ◌==◌, List, slice_index, slice_set, Option, Some, None}
use Rattle.lz_slot.specs.Counted.{of_pass, set_of_pass}
use Rattle.lz_list.specs.declared.{place.Place.{Place, TheVariants.{Bucket, Node}}, word.Word.{Word, TheVariants.{Head, Link, Key, Pin, Halt}}}
use Rattle.lz_list.specs.declared.flags.Flags.{Flags}

pub record Words : Type 0 where
  pub heads : List ℕ
  pub links : List ℕ
  pub keys : List ℕ
  pub pins : List ℕ
  pub halt : ℕ

abbrev pub get : Words → Word → ℕ
get w (Head b) = slice_index w.heads b
get w (Link s) = slice_index w.links s
get w (Key s) = slice_index w.keys s
get w (Pin p) = of_pass w.pins p 0
get w Halt = w.halt

abbrev pub set : Words → Word → ℕ → Words
set w (Head b) x = record w { heads = slice_set w.heads b x }
set w (Link s) x = record w { links = slice_set w.links s x }
set w (Key s) x = record w { keys = slice_set w.keys s x }
set w (Pin p) x = record w { pins = set_of_pass w.pins p x }
set w Halt x = record w { halt = x }

-- The number of a place within its bucket: 0 for the head, one more than the slot for a node. A next link is the number of
-- the node that it leads to, and 0 at the end.
abbrev pub place_number : Place → ℕ
place_number (Bucket b) = 0
place_number (Node s) = suc s

abbrev pub link_to : Option ℕ → ℕ
link_to None = 0
link_to (Some s) = suc s

abbrev pub bit_of : Bool → ℕ
bit_of true = 1
bit_of false = 0

-- a link word with this next link and these flags
abbrev pub link_with : ℕ → Flags → ℕ
link_with next flags = next + 2 ^ 32 * bit_of flags.mark + 2 ^ 33 * bit_of flags.add_settled + 2 ^ 34 * bit_of flags.remove_settled

-- the next link and the flags of a link word; a head word is a next link
abbrev pub next_of : ℕ → ℕ
next_of word = word % 2 ^ 32

abbrev pub flags_of : ℕ → Flags
flags_of word =
    record {
      mark = word / 2 ^ 32 % 2 == 1;
      add_settled = word / 2 ^ 33 % 2 == 1;
      remove_settled = word / 2 ^ 34 % 2 == 1;
    }

-- a slot's flags become others, and its next link stays
abbrev pub change_flags : (Flags → Flags) → Words → ℕ → Words
change_flags change w s = set w (Link s) (link_with (next_of (get w (Link s))) (change (flags_of (get w (Link s)))))

-- the word that holds the next link of a place
abbrev pub word_of : Place → Word
word_of (Bucket b) = Head b
word_of (Node s) = Link s

-- the next link of a place
abbrev pub next_at : Words → Place → ℕ
next_at w place = next_of (get w (word_of place))

-- the place's next link is changed, and its flags stay
abbrev pub redirect : Words → Place → ℕ → Words
redirect w (Bucket b) next = set w (Head b) next
redirect w (Node s) next = set w (Link s) (link_with next (flags_of (get w (Link s))))

abbrev pub same_place : Place → Place → Bool
same_place (Bucket b) (Bucket c) = b == c
same_place (Node s) (Node t) = s == t
same_place _ _ = false

-- the mark of a place; a head has none
abbrev pub is_marked_at : Words → Place → Bool
is_marked_at w (Bucket b) = false
is_marked_at w (Node s) = (flags_of (get w (Link s))).mark

-- flags with the mark, and with one change settled: settling a removal sets both
abbrev pub marked_flags : Flags → Flags
marked_flags f = record { mark = true; add_settled = f.add_settled; remove_settled = f.remove_settled }

abbrev pub added_flags : Flags → Flags
added_flags f = record { mark = f.mark; add_settled = true; remove_settled = f.remove_settled }

abbrev pub removed_flags : Flags → Flags
removed_flags f = record { mark = f.mark; add_settled = true; remove_settled = true }
