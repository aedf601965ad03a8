-- Worked texts of keys and marks.
use Rattle.std.specs.{Prelude.{◌≡◌, [], ◌∷◌, refl, codes, Ok, Err, None, Some}, Fmt.{digits}}
use Rattle.lz_slot.specs.{Numerals.{number_in}, Texts.{key_read, key_text}, MarkTexts.{mark_text}}
use Rattle.lz_slot.specs.declared.{spelling.KeyFault.TheVariants.{NoRoom, NoNumber, TooLarge}, command.Command.TheVariants.{Add}}
use Rattle.lz_slot.specs.declared.history.{Refusal.TheVariants.{OldFile}, HistoryEvent.TheVariants.{Call, Refused, Opened}}

-- a key in room 0 is written without its room, and read in both spellings
room_0 : (key_text 17 ≡ codes "17") × (key_read (codes "17") ≡ Ok 17) × (key_read (codes "0:17") ≡ Ok 17)
unfolding digits
room_0 = (refl, refl, refl)

room_3 : (key_text 3000000000000000017 ≡ codes "3:17") × (key_read (codes "3:17") ≡ Ok 3000000000000000017)
unfolding digits
room_3 = (refl, refl)

last_of_all : (key_text 15999999999999999999 ≡ codes "15:999999999999999999") × (key_read (codes "15:999999999999999999") ≡ Ok 15999999999999999999)
unfolding digits
last_of_all = (refl, refl)

-- what stands before the first colon is a room, and this is tested before the number
no_room : (key_read (codes "16:1") ≡ Err NoRoom) × (key_read (codes ":5") ≡ Err NoRoom) × (key_read (codes "05:1") ≡ Err NoRoom) × (key_read (codes "16:x") ≡ Err NoRoom)
no_room = (refl, refl, refl, refl)

no_number : (key_read (codes "1:2:3") ≡ Err NoNumber) × (key_read (codes "1:") ≡ Err NoNumber) × (key_read (codes "1:007") ≡ Err NoNumber) × (key_read [] ≡ Err NoNumber)
no_number = (refl, refl, refl, refl)

too_large : (key_read (codes "1:1000000000000000000") ≡ Err TooLarge) × (key_read (codes "1000000000000000000") ≡ Err TooLarge)
too_large = (refl, refl)

-- a number has no room, no sign and no zero in front
numbers : (number_in 1 64 (codes "64") ≡ Some 64) × (number_in 1 64 (codes "65") ≡ None) × (number_in 1 64 (codes "0") ≡ None) × (number_in 0 64 (codes "0:1") ≡ None)
    × (number_in 1 64 (codes "01") ≡ None) × (number_in 1 64 (codes "+1") ≡ None) × (number_in 0 64 [] ≡ None)
numbers = (refl, refl, refl, refl, refl, refl, refl)

mark_lines : (mark_text (Call 1 2 (Add 1000000000000000000)) ≡ codes "call 1 2 add 1:0") × (mark_text (Refused 7 OldFile) ≡ codes "refused 7 oldfile")
    × (mark_text (Opened (8 ∷ 1000000000000000009 ∷ [])) ≡ codes "open 8 1:9") × (mark_text (Opened []) ≡ codes "open")
unfolding digits
mark_lines = (refl, refl, refl, refl)
