-- Worked lines.
use Rattle.std.{proofs.Common.{◌≡◌, inl, inr, [], ◌∷◌, ◌++◌, ◌+◌, refl, codes, replicate, arith}, specs.Fmt.{digits}}
use Rattle.lz_proto.specs.declared.{request.Request.TheVariants.{Add, Has}, fault.Bad.{Bad}}
use Rattle.lz_proto.specs.declared.{fault.Bad.TheVariants.{TooLong, NoCommand, NoNumber, KeyTooLarge, NoEnd, BadRoom}, item.Item.TheVariants.{Asks, Faulty}}
use Rattle.lz_proto.specs.{declared.reply.Reply.TheVariants.{Yes, No, Halted, OldFile}, Lines.{bad_number, fault_of, IsRequest}}
use Rattle.lz_proto.specs.Sessions.{bad_text, session_text}

add_largest : IsRequest (codes "add 999999999999999999\r") (Add 999999999999999999)
unfolding digits
add_largest = (omega arith, (codes "999999999999999999", inr (refl, refl), refl))

-- both spellings of a key in room 0, and one in room 3
both_spellings : IsRequest (codes "has 17") (Has 17) × IsRequest (codes "has 0:17") (Has 17) × IsRequest (codes "has 3:17") (Has 3000000000000000017)
unfolding digits
both_spellings =
    ((omega arith, (codes "17", inr (refl, refl), refl)), (omega arith, (codes "0:17", inl refl, refl)), (omega arith, (codes "3:17", inl refl, refl)))

-- what stands before the first colon is a room, and this is tested before the number
no_room : (fault_of (codes "add 16:1") ≡ BadRoom) × (fault_of (codes "add :5") ≡ BadRoom) × (fault_of (codes "add 05:1") ≡ BadRoom) × (fault_of (codes "add 16:x") ≡ BadRoom)
no_room = (refl, refl, refl, refl)

room_and_no_number : (fault_of (codes "add 1:2:3") ≡ NoNumber) × (fault_of (codes "add 1:") ≡ NoNumber) × (fault_of (codes "add 1:007") ≡ NoNumber)
room_and_no_number = (refl, refl, refl)

too_large_in_a_room : fault_of (codes "add 15:1000000000000000000") ≡ KeyTooLarge
too_large_in_a_room = refl

word_before_room : fault_of (codes "put 16:1") ≡ NoCommand
word_before_room = refl

too_large : fault_of (codes "add 1000000000000000000") ≡ KeyTooLarge
too_large = refl

leading_zeros : fault_of (codes "add 007") ≡ NoNumber
leading_zeros = refl

too_long : fault_of (replicate 65 97) ≡ TooLong
too_long = refl

two_spaces : fault_of (codes "add  5") ≡ NoNumber
two_spaces = refl

capital : fault_of (codes "Add 5") ≡ NoCommand
capital = refl

empty_line : fault_of [] ≡ NoCommand
empty_line = refl

bare_word : fault_of (codes "has") ≡ NoCommand
bare_word = refl

word_and_space : fault_of (codes "has ") ≡ NoNumber
word_and_space = refl

two_numbers : fault_of (codes "add 1 2") ≡ NoNumber
two_numbers = refl

old_file : session_text (Asks (Add 1) ∷ Asks (Has 1) ∷ []) (OldFile ∷ No ∷ []) ≡ codes "oldfile\nno\n"
old_file = refl

up_to_halted : session_text (Asks (Add 1) ∷ Faulty NoNumber ∷ Asks (Has 1) ∷ Asks (Has 2) ∷ []) (Yes ∷ Halted ∷ []) ≡ codes "yes\nbad 3\nhalted\n"
up_to_halted = refl

sixty_digits : fault_of (codes "has " ++ replicate 60 49 ++ 13 ∷ []) ≡ KeyTooLarge
sixty_digits = refl

digit_too_many : fault_of (codes "has " ++ replicate 61 49 ++ 13 ∷ []) ≡ TooLong
digit_too_many = refl

bad_numbered : (bad : Bad) → bad_text bad ≡ codes "bad " ++ (48 + bad_number bad) ∷ codes "\n"
bad_numbered TooLong = refl
bad_numbered NoCommand = refl
bad_numbered NoNumber = refl
bad_numbered KeyTooLarge = refl
bad_numbered NoEnd = refl
bad_numbered BadRoom = refl
