-- A flaw that is told is of the first kind of which one is true.
use Rattle.std.proofs.Common.{◌≡◌, ⊎_elim, ◌↔◌, ℕ, ◌≤◌, Bool, sym, ◌∙◌, arith, Some, None, map, BTreeMap}
use Rattle.lz_slot.specs.Histories.{IsRefused, count_of}
use Rattle.lz_judge.specs.{Records.{IsMade, IsPoint, Record}, Flaws.{IsFirstKind, IsFlaw, flaw_turn}, declared.flaw.Flaw.{Flaw}}
use Rattle.lz_judge.specs.{declared.flaw.Flaw.TheVariants.{Unlisted, NeverCalled, Misordered, ListedTwice, RefusedListed}, Readings.{IsAt}, Plays.{IsKnown}}
use Rattle.lz_judge.specs.Verdicts.{AreCalled, AreListed}

-- each point is that of a call
abbrev pub AreMade : Record → Type 0
AreMade h = (i p : ℕ) → IsPoint h.points i p → IsMade h.marks i

-- no call has two points
abbrev pub AreSingle : Record → Type 0
AreSingle h = (i : ℕ) → count_of i (map (λ point. point.call) h.points) ≤ 1

-- no refused call has a point
abbrev pub AreUnrefused : Record → Type 0
AreUnrefused h = (i p : ℕ) → IsRefused h.marks i → IsPoint h.points i p → ⊥

-- the first kind of all
pub first_stranger : (h : Record) (i : ℕ) → IsFirstKind h (NeverCalled i)
first_stranger h i (NeverCalled j) is = omega arith
first_stranger h i _ is = omega arith

-- after the strangers
pub first_twin : (h : Record) (i : ℕ) → AreMade h → IsFirstKind h (ListedTwice i)
first_twin h i made (NeverCalled j) ((p, is), unmade) = absurd (unmade (made j p is))
first_twin h i made _ is = omega arith

-- and after the calls with two points
pub first_refused : (h : Record) (i : ℕ) → AreMade h → AreSingle h → IsFirstKind h (RefusedListed i)
first_refused h i made once (ListedTwice j) twice = let single = once j in absurd (omega (arith, single, twice))
first_refused h i made once flaw is = let before = first_twin h i made flaw is in omega (arith, before)

-- and after the refused calls
pub first_unlisted : (h : Record) (i : ℕ) → AreMade h → AreSingle h → AreUnrefused h → IsFirstKind h (Unlisted i)
first_unlisted h i made once unrefused (RefusedListed j) (refused, (p, is)) = absurd (unrefused j p refused is)
first_unlisted h i made once unrefused flaw is = let before = first_refused h i made once flaw is in omega (arith, before)

-- what is known once the points are in order but for their places
module _ (h : Record) (places : BTreeMap ℕ ℕ) (listed : AreListed h.marks h.points places) (called : AreCalled h.marks h.points) (same : (i p : ℕ) → IsAt places i p ↔ IsPoint h.points i p) where
  unrefused : AreUnrefused h
  unrefused i p refused is = let e : None ≡ Some p = sym (listed.refused i refused) ∙ listed.placed i p is in cc

  -- a flaw after those of the points' calls
  pub behind_points : (flaw : Flaw) → IsFlaw h flaw → 5 ≤ flaw_turn flaw
  behind_points (Unlisted j) ((b, told), never) = let (p, is) = listed.answered j b told in absurd (never p ((same j p).0 is))
  behind_points flaw is = let before = first_unlisted h 0 called.made called.once unrefused flaw is in omega (arith, before)

  -- and after those of their order
  pub behind_order : (answers : BTreeMap ℕ Bool) → IsKnown places answers h.marks → (flaw : Flaw) → IsFlaw h flaw → 6 ≤ flaw_turn flaw
  behind_order answers known (Misordered j) (i, p, q, is, is', (before, why)) = absurd (⊎_elim
      (λ equal. known.apart i j p q ((same i p).1 is) ((same j q).1 is') before equal)
      (λ (order, le). ⊎_elim
      (λ answered. let lt = known.order i j p q ((same i p).1 is) ((same j q).1 is') answered in omega (arith, lt, le))
      (λ later. let lt = known.lives i j p q ((same i p).1 is) ((same j q).1 is') later in omega (arith, lt, le))
      order)
      why)
  behind_order answers known flaw is = let before = behind_points flaw is in omega (arith, before)
