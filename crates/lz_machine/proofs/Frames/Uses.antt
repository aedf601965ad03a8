-- How uses change when pins are seen, and when limbo slots that every pass has left become free: what is said of reuse stays.
use Rattle.std.proofs.lemmas.{Bool.{cases_Bool, cases_eq, cases_lt, Decides.{nat_tests}}, List.{get_or_past, length-map}}
use Rattle.std.proofs.Common.{◌≡◌, ◌⊎◌, inl, inr, ℕ, zero, suc, ◌≤◌, true, List, [], ◌∷◌, length, map, get_or, refl, sym, ◌∙◌, subst, arith}
use Rattle.std.specs.List.{list_all}
use mathlib.Core.Bool.{false≢true}
use Rattle.lz_slot.{specs.Counted.{of_pass, set_of_pass}, proofs.Counted.{of_pass_same, of_pass_other, length-set_of_pass}}
use Rattle.lz_allot.specs.declared.sight.Sight.{Sight, TheVariants.{Unseen, Inside, Left}}
use Rattle.lz_allot.specs.Uses.{Use, Free, Taken, Limbo, use_of, collect_at, collect, see_pin_at, see_pin, sight_after, has_left}
use Rattle.lz_list.specs.Traces.{Trace}
use Rattle.lz_machine.specs.{declared.actor.Actor.{Actor}, Yards.{Shape, IsInside, pin_in}, Limbo.{IsRightSight}, Sound.{ReuseSound}}
use Rattle.lz_machine.proofs.Frames.Limbo.{seen_see}

-- a change of each use that leaves taken slots
pub use_map : (f : Use → Use) (uses : List Use) (s : ℕ) → f Taken ≡ Taken → use_of (map f uses) s ≡ f (use_of uses s)
use_map f [] s taken = sym taken
use_map f (u ∷ uses) zero taken = refl
use_map f (u ∷ uses) (suc s) taken = use_map f uses s taken

-- a slot in limbo has one list of sights
pub limbo_same : {x y : List Sight} → Limbo x ≡ Limbo y → x ≡ y
limbo_same e = cc

-- a free slot is not in limbo
pub free_limbo : {x : List Sight} → Free ≡ Limbo x → ⊥
free_limbo e = absurd cc

-- how uses may change, where no slot is taken or given back: limbo slots may become free
pub record KeepsUses (old new : List Use) : Type 0 where
  pub count : length new ≡ length old
  pub taken : (s : ℕ) → use_of old s ≡ Taken → use_of new s ≡ Taken
  pub free : (s : ℕ) → use_of old s ≡ Free → use_of new s ≡ Free
  pub limbo : (s : ℕ) (sights : List Sight) → use_of old s ≡ Limbo sights → (use_of new s ≡ Free) ⊎ ((seen : List Sight) × (use_of new s ≡ Limbo seen))

-- a pass that is inside is one of the table's
pub inside_range : (pins : List ℕ) (a : ℕ) → IsInside (pin_in pins a) → (1 ≤ a) × (a ≤ length pins)
inside_range pins a inside = grind (arith, nat_tests, cases_lt, get_or_past)

-- pins are seen
module _ (p v : ℕ) where
  pub seen_keeps : (uses : List Use) → KeepsUses uses (see_pin p v uses)
  seen_keeps uses = grind (arith, nat_tests, length-map, use_map)

  -- a slot in limbo was so before
  see_at : (u : Use) (seen : List Sight) → see_pin_at p v u ≡ Limbo seen → (sights : List Sight) × (u ≡ Limbo sights) × (seen ≡ set_of_pass sights p (sight_after v (of_pass sights p Left)))
  see_at u seen is = grind (arith, nat_tests, limbo_same)

  see_free : (u : Use) → see_pin_at p v u ≡ Free → u ≡ Free
  see_free u is = grind (arith, nat_tests)

  pub seen_reuse : (shape : Shape) (pins : List ℕ) (uses : List Use) (actors : List Actor) (P : Trace) (begun : ℕ → Trace) → v ≡ pin_in pins p → 1 ≤ p → p ≤ shape.passes
      → ReuseSound shape pins uses actors P begun → ReuseSound shape pins (see_pin p v uses) actors P begun
  seen_reuse shape pins uses actors P begun value low high h = grind (arith, nat_tests, see_at, use_map, length-set_of_pass, cases_eq, of_pass_same, seen_see, of_pass_other, see_free)

-- slots that every pass has left become free
pub collect_keeps : (uses : List Use) → KeepsUses uses (collect uses)
collect_keeps uses = grind (arith, nat_tests, length-map, use_map, cases_Bool)

collected_limbo : (u : Use) (seen : List Sight) → collect_at u ≡ Limbo seen → u ≡ Limbo seen
collected_limbo u seen is = grind arith

pub collected_free : (u : Use) → collect_at u ≡ Free → (u ≡ Free) ⊎ ((sights : List Sight) × (u ≡ Limbo sights) × (list_all has_left sights ≡ true))
collected_free u is = grind arith

all_left : (sights : List Sight) (i : ℕ) → list_all has_left sights ≡ true → get_or sights i Left ≡ Left
all_left (Left ∷ sights) (suc i) all = all_left sights i all
all_left (Unseen ∷ sights) i all = absurd (false≢true all)
all_left (Inside u ∷ sights) i all = absurd (false≢true all)
all_left _ _ all = refl

pub left_of : (sights : List Sight) (a : ℕ) → list_all has_left sights ≡ true → of_pass sights a Left ≡ Left
left_of sights a all = grind (arith, nat_tests, all_left)

pub collect_reuse : (shape : Shape) (pins : List ℕ) (uses : List Use) (actors : List Actor) (P : Trace) (begun : ℕ → Trace) → ReuseSound shape pins uses actors P begun → ReuseSound shape pins (collect uses) actors P begun
collect_reuse shape pins uses actors P begun h = record {
  worn = h.worn;
  sights = λ s seen is. h.sights s seen (collected_limbo (use_of uses s) seen (sym (use_map collect_at uses s refl) ∙ is));
  seen = λ a s seen is. h.seen a s seen (collected_limbo (use_of uses s) seen (sym (use_map collect_at uses s refl) ∙ is));
  free = λ a s is inside. elim (collected_free (use_of uses s) (sym (use_map collect_at uses s refl) ∙ is)) [
    | inl free ↦ h.free a s free inside
    | inr left ↦ subst (λ (q : Sight). IsRightSight shape.buckets (pin_in pins a) (begun a) P s q) (left_of left.0 a left.2) (h.seen a s left.0 left.1) inside
  ];
  reserved = h.reserved;
}
