-- What has been seen of the passes, where one actor is alone: which limbo slots a pass has left.
use Rattle.std.proofs.{lemmas.{Bool.{cases_eq, cases_lt, Decides.{nat_tests}}, List.{get_or_past}}, Common.{◌≡◌, ◌≢◌, ◌⊎◌, ⊎_elim, ℕ, zero, suc, ◌≤◌, ◌%◌}}
use Rattle.std.proofs.Common.{true, false, List, [], ◌∷◌, length, refl, sym, ap, ◌∙◌, subst, arith, length-set, get_or-set_same, get_or-set_other}
use Rattle.std.specs.{Prelude.{slice_set}, List.{list_all}}
use mathlib.Core.Bool.{false≢true}
use Rattle.lz_slot.specs.Counted.{of_pass, set_of_pass}
use Rattle.lz_allot.specs.declared.sight.Sight.{Sight, TheVariants.{Inside, Left}}
use Rattle.lz_allot.specs.Uses.{Use, Limbo, use_of, collect_at, collect, see_pin_at, see_pin, sight_after, has_left}
use Rattle.lz_machine.proofs.Frames.Uses.{use_map, limbo_same}

-- pass b has left each limbo slot
abbrev pub HasLeft : List Use → ℕ → Type 0
HasLeft uses b = (s : ℕ) (seen : List Sight) → use_of uses s ≡ Limbo seen → of_pass seen b Left ≡ Left

-- what was seen of pass p to be inside was an odd pin
abbrev pub IsSeenOdd : List Use → ℕ → Type 0
IsSeenOdd uses p = (s : ℕ) (seen : List Sight) (u : ℕ) → use_of uses s ≡ Limbo seen → of_pass seen p Left ≡ Inside u → u % 2 ≡ 1

-- one use of a list
pub set_cases : (uses : List Use) (r s : ℕ) (u : Use) → (use_of (slice_set uses r u) s ≡ u) ⊎ (use_of (slice_set uses r u) s ≡ use_of uses s)
set_cases uses r s u = grind (arith, nat_tests, cases_eq, cases_lt, get_or-set_same, get_or_past, length-set, get_or-set_other)

pub left_set : (uses : List Use) (r b : ℕ) (u : Use) → ((seen : List Sight) → u ≢ Limbo seen) → HasLeft uses b → HasLeft (slice_set uses r u) b
left_set uses r b u no_limbo left s seen is = grind (arith, set_cases)

collect_limbo : (u : Use) (seen : List Sight) → collect_at u ≡ Limbo seen → (u ≡ Limbo seen) × (list_all has_left seen ≡ false)
collect_limbo u seen is = grind arith

collected_limbo : (uses : List Use) (s : ℕ) (seen : List Sight) → use_of (collect uses) s ≡ Limbo seen → (use_of uses s ≡ Limbo seen) × (list_all has_left seen ≡ false)
collected_limbo uses s seen is = collect_limbo (use_of uses s) seen (sym (use_map collect_at uses s refl) ∙ is)

pub left_collect : (uses : List Use) (b : ℕ) → HasLeft uses b → HasLeft (collect uses) b
left_collect uses b left s seen is = left s seen (collected_limbo uses s seen is).0

-- one sight of a list
sight_cases : (seen : List Sight) (p b : ℕ) (x : Sight) → ((b ≡ p) × (of_pass (set_of_pass seen p x) b Left ≡ x)) ⊎ (of_pass (set_of_pass seen p x) b Left ≡ of_pass seen b Left)
sight_cases seen p b x = grind (arith, nat_tests, cases_eq, cases_lt, get_or-set_same, get_or_past, length-set, get_or-set_other)

-- what is looked at of a pass itself
own_sight : (seen : List Sight) (p : ℕ) (x : Sight) → (of_pass (set_of_pass seen p x) p Left ≡ x) ⊎ (of_pass (set_of_pass seen p x) p Left ≡ Left)
own_sight seen p x = grind (arith, nat_tests, cases_lt, get_or-set_same, get_or_past, length-set)

seen_limbo : (p v : ℕ) (u : Use) (seen : List Sight) → see_pin_at p v u ≡ Limbo seen → (old : List Sight) × (u ≡ Limbo old) × (seen ≡ set_of_pass old p (sight_after v (of_pass old p Left)))
seen_limbo p v u seen is = grind (arith, nat_tests, limbo_same)

-- a slot in limbo was so before a pin was seen
saw : (uses : List Use) (p v s : ℕ) (seen : List Sight) → use_of (see_pin p v uses) s ≡ Limbo seen → (old : List Sight) × (use_of uses s ≡ Limbo old) × (seen ≡ set_of_pass old p (sight_after v (of_pass old p Left)))
saw uses p v s seen is = seen_limbo p v (use_of uses s) seen (sym (use_map (see_pin_at p v) uses s refl) ∙ is)

-- a pass that has left stays so
pub left_seen : (uses : List Use) (p v b : ℕ) → HasLeft uses b → HasLeft (see_pin p v uses) b
left_seen uses p v b left s seen is =
    let was = saw uses p v s seen is in
    let before = left s was.0 was.1 in
    subst (λ (q : List Sight). of_pass q b Left ≡ Left) (sym was.2) (⊎_elim
    (λ own. own.1 ∙ ap (sight_after v) (subst (λ (q : ℕ). of_pass was.0 q Left ≡ Left) own.0 before))
    (λ same. same ∙ before)
    (sight_cases was.0 p b (sight_after v (of_pass was.0 p Left))))

-- and one that is seen outside has left
leaves : (v : ℕ) (x : Sight) → v % 2 ≡ 0 → ((u : ℕ) → x ≡ Inside u → u % 2 ≡ 1) → sight_after v x ≡ Left
leaves v x even odd = grind arith

pub seen_outside : (uses : List Use) (p v : ℕ) → v % 2 ≡ 0 → IsSeenOdd uses p → HasLeft (see_pin p v uses) p
seen_outside uses p v even odd s seen is =
    let was = saw uses p v s seen is in
    subst (λ (q : List Sight). of_pass q p Left ≡ Left) (sym was.2) (⊎_elim
    (λ own. own ∙ leaves v (of_pass was.0 p Left) even (λ u inside. odd s was.0 u was.1 inside))
    (λ left. left)
    (own_sight was.0 p (sight_after v (of_pass was.0 p Left))))

-- a slot that all passes have left
all_left : (seen : List Sight) → ((b : ℕ) → 1 ≤ b → b ≤ length seen → of_pass seen b Left ≡ Left) → list_all has_left seen ≡ true
all_left [] each = refl
all_left (x ∷ seen) each =
    let first : has_left x ≡ true = ap has_left (each 1 (omega arith) (omega arith)) in
    let rest = all_left seen (λ b low high. later b low high) in
    rw (first, rest) refl
  where
    later : (b : ℕ) → 1 ≤ b → b ≤ length seen → of_pass seen b Left ≡ Left
    later zero low high = absurd (omega (arith, low))
    later (suc i) low high = each (suc (suc i)) (omega arith) (omega (arith, high))

-- where all passes have left all limbo slots, none is left after a collecting
pub no_limbo : (uses : List Use) (passes s : ℕ) → ((s : ℕ) (seen : List Sight) → use_of uses s ≡ Limbo seen → length seen ≡ passes) → ((b : ℕ) → 1 ≤ b → b ≤ passes → HasLeft uses b) → (seen : List Sight) → use_of (collect uses) s ≢ Limbo seen
no_limbo uses passes s count left seen is =
    let was = collected_limbo uses s seen is in
    false≢true (sym was.1 ∙ all_left seen (λ b low high. left b low (omega (arith, high, count s seen was.0)) s seen was.0))
