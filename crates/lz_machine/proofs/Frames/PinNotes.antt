-- What is noted of a pass when it goes in: the trace as it was.
use Rattle.std.proofs.{Common.{◌≡◌, ◌≢◌, ℕ, ◌+◌, ◌≤◌, ◌%◌, ◌==◌, if◌then◌else◌, List, length, subst, arith}, lemmas.Bool.{cases_eq, Decides.{nat_tests}}}
use Rattle.lz_slot.{specs.Counted.{set_of_pass}, proofs.Counted.{of_pass_same, of_pass_other}}
use Rattle.lz_list.specs.Traces.{Trace}
use Rattle.lz_machine.specs.Yards.{IsInside, pin_in}

-- Of a pass that is inside now the note is that of before, and of one that has gone in it is the trace P.
abbrev pub IsNoted : List ℕ → List ℕ → Trace → (ℕ → Trace) → (ℕ → Trace) → Type 0
IsNoted pins new P begun noted = (b : ℕ) → IsInside (pin_in new b) → (IsInside (pin_in pins b) → noted b ≡ begun b) × (pin_in pins b % 2 ≡ 0 → noted b ≡ P)

-- the pins stay
pub noted_same : (pins new : List ℕ) (P : Trace) (begun : ℕ → Trace) → new ≡ pins → IsNoted pins new P begun begun
noted_same pins new P begun same b inside = grind arith

module _ (pins : List ℕ) (a : ℕ) (P : Trace) (begun : ℕ → Trace) where
  abbrev counted : List ℕ
  counted = set_of_pass pins a (pin_in pins a + 1)

  other_pin : (b : ℕ) → b ≢ a → IsInside (pin_in counted b) → IsInside (pin_in pins b)
  other_pin b other inside = subst IsInside (of_pass_other pins a b (pin_in pins a + 1) 0 other) inside

  -- the pass goes in
  pub noted_in : pin_in pins a % 2 ≡ 0 → IsNoted pins counted P begun (λ b. if b == a then P else begun b)
  noted_in even b inside = grind (arith, nat_tests, cases_eq, other_pin)

  -- the pass goes out
  pub noted_out : pin_in pins a % 2 ≡ 1 → 1 ≤ a → a ≤ length pins → IsNoted pins counted P begun begun
  noted_out odd low high b inside = grind (arith, cases_eq, of_pass_same, other_pin)
