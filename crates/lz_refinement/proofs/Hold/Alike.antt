-- Yards that are the same but for pin words.
use Rattle.std.proofs.{Common.{arith, ◌≡◌, ℕ, refl, subst}, lemmas.Bool.Decides.{nat_tests}}
use Rattle.lz_refinement.{proofs.Vocabulary.{Yard, pin_of, SameButPins}, specs.NotedRuns.{SameButAllPins}}

pub alike_is : {x y : Yard} → x ≡ y → SameButAllPins x y
alike_is {x} is = subst (SameButAllPins x) is record { shape = refl; heads = refl; links = refl; keys = refl; halt = refl; locks = refl; vault = refl; uses = refl; actors = refl }

pub alike_then : {x y z : Yard} → SameButAllPins x y → SameButAllPins y z → SameButAllPins x z
alike_then one other = grind (arith, nat_tests)

pub with_own_pin : {x y : Yard} (a : ℕ) → SameButAllPins x y → pin_of x a ≡ pin_of y a → SameButPins a x y
with_own_pin a same pin = grind (arith, nat_tests)
