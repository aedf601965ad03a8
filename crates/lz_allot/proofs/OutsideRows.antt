-- Worked rows: whether a pass was outside since a slot was last unlinked. Pin words that are even are outside.
use Rattle.std.proofs.{Common.{◌≡◌, true, false, [], ◌∷◌, refl, arith}, lemmas.Bool.{false≢true}}
use Rattle.lz_allot.specs.Uses.{AllFree, Pins, Unlinking, was_outside}

-- pass 1 was seen outside after slot 0 was unlinked
seen_since : was_outside 0 1 (Pins (2 ∷ []) ∷ Unlinking 0 ∷ Pins (1 ∷ []) ∷ []) ≡ true
seen_since = refl

-- and still was, now that it is inside again
inside_again : was_outside 0 1 (Pins (3 ∷ []) ∷ Pins (2 ∷ []) ∷ Unlinking 0 ∷ Pins (1 ∷ []) ∷ []) ≡ true
inside_again = refl

-- it was outside only before the slot was unlinked
seen_before : was_outside 0 1 (Pins (3 ∷ []) ∷ Unlinking 0 ∷ Pins (2 ∷ []) ∷ []) ≡ false
seen_before = refl

not_seen_before : was_outside 0 1 (Unlinking 0 ∷ Pins (2 ∷ []) ∷ []) ≡ true → ⊥
not_seen_before h = false≢true h

-- the slot was unlinked a second time between the two looks
unlinked_again : was_outside 0 1 (Pins (3 ∷ []) ∷ Unlinking 0 ∷ Pins (2 ∷ []) ∷ Unlinking 0 ∷ Pins (1 ∷ []) ∷ []) ≡ true → ⊥
unlinked_again h = false≢true h

-- only another slot was unlinked between them
other_unlinked : was_outside 0 1 (Pins (3 ∷ []) ∷ Unlinking 1 ∷ Pins (2 ∷ []) ∷ []) ≡ true
other_unlinked = refl

-- a pass that was inside all the while, or of which nothing is shown
all_inside : was_outside 0 1 (Pins (1 ∷ []) ∷ Pins (1 ∷ []) ∷ Unlinking 0 ∷ []) ≡ false
all_inside = refl

nothing_shown : was_outside 0 1 [] ≡ false
nothing_shown = refl

-- of two passes the second is inside, so that slot 0 isn't free of both
one_of_two : (was_outside 0 1 (Pins (2 ∷ 3 ∷ []) ∷ Unlinking 0 ∷ []) ≡ true) × (was_outside 0 2 (Pins (2 ∷ 3 ∷ []) ∷ Unlinking 0 ∷ []) ≡ false)
one_of_two = (refl, refl)

not_all_free : AllFree 2 0 (Pins (2 ∷ 3 ∷ []) ∷ Unlinking 0 ∷ []) → ⊥
not_all_free h = false≢true (h 2 (omega arith) (omega arith))
