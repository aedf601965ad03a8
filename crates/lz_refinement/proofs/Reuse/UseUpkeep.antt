-- What the notes show of slots stays right as the uses of the slots change.
use Rattle.std.proofs.Common.{◌≡◌, ◌≢◌, ◌⊎◌, inl, inr, ⊎_elim, ℕ, zero, suc, ◌%◌, ◌≤◌, ◌==◌, Bool, true, false, List, [], ◌∷◌, ◌++◌, length, refl, sym, ap, ◌∙◌}
use Rattle.std.proofs.{Common.{subst, arith, le_refl, length-append, true≢false, eq-eqb, if◌then◌else◌, replicate, slice_set}, lemmas.Bool.{cases_eq}}
use Rattle.std.{proofs.lemmas.{Bool.Decides.{eqb_tells}, List.{length-replicate}}, specs.List.{list_all}}
use mathlib.Core.Bool.{false≢true}
use Rattle.lz_refinement.proofs.Vocabulary.{of_pass, set_of_pass, Sight, Use, Free, Limbo, use_of, has_left, collect_at, see_pin_at, sight_after, is_outside, Trace}
use Rattle.lz_refinement.{proofs.Vocabulary.{IsLoose, IsAway, Sizes, Note, as_list, trace_of, pin_after, Sighting}, specs.Reuse.{SightTold, UseTold}}
use Rattle.lz_slot.proofs.Counted.{of_pass_same, of_pass_other, length-set_of_pass}
use Rattle.lz_allot.specs.declared.sight.Sight.TheVariants.{Unseen, Inside, Left}
use Rattle.lz_machine.proofs.Frames.{Limbo.{away_new}, Uses.{left_of}}

-- the use of a slot after one was set
pub set_use : (uses : List Use) (s : ℕ) (u : Use) (t : ℕ) → ((t ≡ s) × (use_of (slice_set uses s u) t ≡ u)) ⊎ (use_of (slice_set uses s u) t ≡ use_of uses t)
set_use [] s u t = inr refl
set_use (v ∷ vs) zero u zero = inl (refl, refl)
set_use (v ∷ vs) zero u (suc t) = inr refl
set_use (v ∷ vs) (suc s) u zero = inr refl
set_use (v ∷ vs) (suc s) u (suc t) = ⊎_elim (λ here. inl (ap suc here.0, here.1)) (λ away. inr away) (set_use vs s u t)

-- no pass has been seen yet
unseen : (n q : ℕ) → 1 ≤ q → q ≤ n → of_pass (replicate n Unseen) q Left ≡ Unseen
unseen n zero low high = absurd (omega (arith, low))
unseen zero (suc i) low high = absurd (omega (arith, high))
unseen (suc n) (suc zero) low high = refl
unseen (suc n) (suc (suc i)) low high = unseen n (suc i) (omega arith) (omega (arith, high))

-- the notes before others show a shorter trace
shorter_rest : (opened : Trace) (more rest : List Note) → length (trace_of opened rest) ≤ length (trace_of opened (more ++ rest))
shorter_rest opened [] rest = le_refl (length (trace_of opened rest))
shorter_rest opened (m ∷ more) rest = let l = length-append (as_list m.published) (trace_of opened (more ++ rest)) in let s = shorter_rest opened more rest in omega (arith, l, s)

module _ (z : Sizes) (opened : Trace) (ms : List Note) (s : ℕ) where
  -- a slot in limbo that every pass has left is free
  pub collect_told : (u : Use) → UseTold z opened ms s u → UseTold z opened ms s (collect_at u)
  collect_told (Limbo sights) told = go (list_all has_left sights) refl
    where
      go : (b : Bool) → list_all has_left sights ≡ b → UseTold z opened ms s (if b then Free else Limbo sights)
      go true all = inr (λ q one most. subst (SightTold z opened ms q s) (left_of sights q all) (told.1 q one most))
      go false some = told
  collect_told _ told = told

  -- a slot that goes to limbo now
  pub retire_told : (n : ℕ) → n ≡ z.passes → UseTold z opened ms s (Limbo (replicate n Unseen))
  retire_told n is = (length-replicate n Unseen ∙ is, λ q one most. subst (SightTold z opened ms q s) (sym (unseen n q one (omega (arith, most, is)))) tt)

  -- The pin word of pass p was seen, as a note shows before which the trace was what it is now.
  module _ (p v : ℕ) (low : 1 ≤ p) (high : p ≤ z.passes) (x : Sighting opened ms p) (value : pin_after p (x.note ∷ x.rest) ≡ v) (at : trace_of opened x.rest ≡ trace_of opened ms) where
    away : IsLoose z.buckets s (trace_of opened ms) → IsAway z.buckets (trace_of opened x.rest) (trace_of opened ms) s
    away loose = subst (λ P. IsAway z.buckets P (trace_of opened ms) s) (sym at) (away_new z.buckets s (trace_of opened ms) loose)

    sight_told : IsLoose z.buckets s (trace_of opened ms) → (seen : Sight) → SightTold z opened ms p s seen → SightTold z opened ms p s (sight_after v seen)
    sight_told loose Unseen told = go (is_outside v) refl
      where
        go : (b : Bool) → is_outside v ≡ b → SightTold z opened ms p s (if b then Left else Inside v)
        go true out = record { sight = x; away = away loose; left = inl (ap (λ m. m % 2) value ∙ even (eqb_tells (v % 2) 0)) }
          where
            even : (((v % 2 == 0) ≡ true) × (v % 2 ≡ 0)) ⊎ (((v % 2 == 0) ≡ false) × (v % 2 ≢ 0)) → v % 2 ≡ 0
            even (inl is) = is.1
            even (inr is) = absurd (false≢true (sym is.0 ∙ out))
        go false inside = (x, value, away loose)
    sight_told loose (Inside u) told = go (v == u) refl
      where
        earlier : (e : Sighting opened ms p) → length (trace_of opened e.rest) ≤ length (trace_of opened ms)
        earlier e = subst (λ l. length (trace_of opened e.rest) ≤ length (trace_of opened l)) (sym e.within.1)
            (let a = shorter_rest opened (e.within.0) (e.note ∷ e.rest) in let b = shorter_rest opened (e.note ∷ []) e.rest in omega (arith, a, b))

        go : (b : Bool) → (v == u) ≡ b → SightTold z opened ms p s (if b then Inside u else Left)
        go true same = told
        go false other = record {
          sight = told.0;
          away = told.2;
          left = inr (x, (λ same. true≢false (sym (eq-eqb v u (sym value ∙ same ∙ told.1)) ∙ other)), subst (λ P. length (trace_of opened told.0.rest) ≤ length P) (sym at) (earlier told.0));
        }
    sight_told loose Left told = told

    pub see_told : (u : Use) → ((sights : List Sight) → u ≡ Limbo sights → IsLoose z.buckets s (trace_of opened ms)) → UseTold z opened ms s u → UseTold z opened ms s (see_pin_at p v u)
    see_told (Limbo sights) loose told = let count = told.0 in (
      length-set_of_pass sights p (sight_after v (of_pass sights p Left)) ∙ told.0,
      λ q one most. ⊎_elim
          (λ (same : q ≡ p). subst (λ r. SightTold z opened ms r s (of_pass (set_of_pass sights p (sight_after v (of_pass sights p Left))) r Left)) (sym same)
          (subst (SightTold z opened ms p s) (sym (of_pass_same sights p (sight_after v (of_pass sights p Left)) Left low (omega (arith, high, count)))) (sight_told (loose sights refl) (of_pass sights p Left) (told.1 p low high))))
          (λ (away : q ≢ p). subst (SightTold z opened ms q s) (sym (of_pass_other sights p q (sight_after v (of_pass sights p Left)) Left away)) (told.1 q one most))
          (cases_eq q p),
    )
    see_told _ loose told = told
