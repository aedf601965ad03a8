-- A word that all passes share has a place on the board.
use Rattle.lz_list.specs.{declared.{word.Word.{Word, TheVariants.{Head, Link, Key, Pin, Halt}}, layout.Sizes.{Sizes}}, Addresses.{HasPlace}}
use Rattle.lz_board.specs.Notes.{IsShared}

pub shared_placed : (z : Sizes) (w : Word) → IsShared z w → HasPlace z w
shared_placed z (Head b) h = h
shared_placed z (Link s) h = h
shared_placed z (Key s) h = h
shared_placed z (Pin p) h = absurd h
shared_placed z Halt h = tt
