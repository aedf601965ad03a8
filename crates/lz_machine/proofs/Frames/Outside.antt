-- Actors that answer without a pin, and the pin words after an Answer.
use Rattle.std.proofs.{Common.{◌≡◌, ◌≢◌, ℕ, ◌≤◌, ◌%◌, ◌==◌, ◌&&◌, ◌||◌, not, Bool, true, false, length, ap, ◌∙◌, arith}, lemmas.Bool.Decides.{nat_tests}}
use mathlib.Core.Bool.{false≢true}
use Rattle.lz_slot.{specs.Counted.{of_pass}, proofs.Counted.{of_pass_same, of_pass_other}}
use Rattle.lz_allot.specs.Uses.{is_outside}
use Rattle.lz_machine.specs.{declared.{actor.Actor.{Actor}, event.Event.TheVariants.{Answer}, caller.Progress.{Progress}}, Yards.{Yard}}
use Rattle.lz_machine.specs.{Table.{last_pin, pin_of, stays_out, pin_answered, words_after}, CallersSound.{IsSide, is_before_pin, side_of}}

pub even_of : (pin : ℕ) → (pin % 2 == 0) ≡ true → pin % 2 ≡ 0
even_of pin is = grind (arith, nat_tests)

pub outside_even : (pin : ℕ) → pin % 2 ≡ 0 → is_outside pin ≡ true
outside_even pin even = ap (λ (q : ℕ). q == 0) even

-- the side of a call's pass
pub side_even : (pin : ℕ) (at : Progress) → IsSide pin at → pin % 2 ≡ side_of (is_before_pin at)
side_even pin at side = grind (arith, nat_tests)

pub inside_side : (pin : ℕ) (at : Progress) → is_before_pin at ≡ false → pin % 2 ≡ 1 → IsSide pin at
inside_side pin at inside odd = grind (arith, nat_tests, false≢true)

or_true : (b : Bool) → (b || true) ≡ true
or_true b = grind (arith, nat_tests)

-- such an actor is outside
pub out_even : (actor : Actor) (pin : ℕ) → stays_out actor pin ≡ true → pin % 2 ≡ 0
out_even actor pin is = grind arith

-- the last pin
pub worn_out : (actor : Actor) (pin : ℕ) → pin ≡ last_pin → stays_out actor pin ≡ true
worn_out actor pin last = ap (λ (q : ℕ). (q == last_pin) || (is_outside q && actor.refused)) last

-- a refused call
pub refused_out : (actor : Actor) (pin : ℕ) → pin % 2 ≡ 0 → actor.refused ≡ true → stays_out actor pin ≡ true
refused_out actor pin even refused = grind (arith, outside_even, or_true)

-- its Answer has what it needs
pub out_needs : (actor : Actor) (pin : ℕ) → stays_out actor pin ≡ true → (not (is_outside pin) || stays_out actor pin) ≡ true
out_needs actor pin is = ap (λ (b : Bool). not (is_outside pin) || b) is ∙ or_true (not (is_outside pin))

-- after its Answer a pass is outside
pub answered_even : (actor : Actor) (pin : ℕ) → (not (is_outside pin) || stays_out actor pin) ≡ true → pin_answered actor pin % 2 ≡ 0
answered_even actor pin may = grind arith

-- the pin words after an Answer
module _ (y : Yard) (actor : Actor) (a : ℕ) where
  pub answered_pin : 1 ≤ a → a ≤ length y.words.pins → of_pass (words_after y actor a Answer).pins a 0 ≡ pin_answered actor (pin_of y a)
  answered_pin low high = grind (arith, nat_tests, of_pass_same)

  pub answered_other : (b : ℕ) → b ≢ a → of_pass (words_after y actor a Answer).pins b 0 ≡ of_pass y.words.pins b 0
  answered_other b other = grind (arith, nat_tests, of_pass_other)
