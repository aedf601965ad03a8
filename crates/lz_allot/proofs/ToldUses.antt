-- The uses that the kinds, the queue and the rows tell.
use Rattle.lz_allot.specs.declared.kind.Kind.TheVariants as kind
use Rattle.std.proofs.Common.{◌≡◌, ◌≢◌, ◌⊎◌, ℕ, ◌<◌, ◌==◌, List, [], ◌∷◌, ◌++◌, length, get_or, set, refl, sym, ◌∙◌, ap, subst, arith, get_or-set_same}
use Rattle.std.proofs.{Common.{get_or-set_other, length-set, length-append}, lemmas.List.{ext_get_or, get_or_append_left, get_or_push}}
use Rattle.std.proofs.lemmas.{List.{FromFn.{length-map-range_with_len, get_or-map-range_with_len}, Sums.{position_or_len_is}}, Bool.{eq-eqb, ne_eqb}}
use Rattle.std.proofs.lemmas.Bool.Decides.{nat_tests}
use Rattle.lz_allot.specs.{declared.{kind.Kind.{Kind}, row.Row.{Row}}, Uses.{Use, Free, Taken, Limbo, use_of}}
use Rattle.lz_allot.specs.Allots.{IsQueue, kind_at, place_of, sights_at, use_told, uses_told}

-- a slot of this kind that isn't in limbo has this use
abbrev pub IsPlain : Kind → Use → Type 0
IsPlain kind.Free use_now = use_now ≡ Free
IsPlain kind.Taken use_now = use_now ≡ Taken
IsPlain kind.Limbo use_now = Unit {0}

-- The uses are as the kinds, the queue and the rows tell.
pub record Shows (kinds : List Kind) (queue : List ℕ) (rows : List Row) (uses : List Use) : Type 0 where
  pub size : length uses ≡ length kinds
  pub plain : (s : ℕ) → s < length kinds → IsPlain (kind_at kinds s) (use_of uses s)
  pub limbo : (i : ℕ) → i < length queue → use_of uses (get_or queue i 0) ≡ Limbo (sights_at i rows)

module _ (kinds : List Kind) (queue : List ℕ) (rows : List Row) where
  pub length_told : length (uses_told kinds queue rows) ≡ length kinds
  length_told = length-map-range_with_len (λ s. use_told queue rows s (kind_at kinds s)) 0 (length kinds)

  pub use_told_at : (s : ℕ) → s < length kinds → use_of (uses_told kinds queue rows) s ≡ use_told queue rows s (kind_at kinds s)
  use_told_at s low = get_or-map-range_with_len (λ s. use_told queue rows s (kind_at kinds s)) 0 (length kinds) s s Taken low (omega arith)

  module _ (is : IsQueue kinds queue) where
    -- each slot of the queue is found at its place
    pub place_is : (i : ℕ) → i < length queue → place_of queue (get_or queue i 0) ≡ i
    place_is i low =
        position_or_len_is (λ q. q == get_or queue i 0) queue i 0 (omega arith)
        (λ k less. ne_eqb (get_or queue k 0) (get_or queue i 0) (λ same. absurd (let e : k ≡ i = is.once k i (omega arith) low same in omega arith)))
        (λ lt. eq-eqb (get_or queue i 0) (get_or queue i 0) refl)

    -- a slot that isn't in limbo isn't in the queue
    pub not_queued : (s i : ℕ) → kind_at kinds s ≢ kind.Limbo → i < length queue → get_or queue i 0 ≢ s
    not_queued s i plain low same = plain (ap (kind_at kinds) (sym same) ∙ is.queued i low)

    plain_told : (s : ℕ) (k : Kind) → IsPlain k (use_told queue rows s k)
    plain_told s k = grind arith

    -- what is told is shown
    pub shows_told : Shows kinds queue rows (uses_told kinds queue rows)
    shows_told = record {
      size = length_told;
      plain = λ s low. subst (IsPlain (kind_at kinds s)) (sym (use_told_at s low)) (plain_told s (kind_at kinds s));
      limbo = λ i low.
          use_told_at (get_or queue i 0) (is.inside i low)
          ∙ ap (use_told queue rows (get_or queue i 0)) (is.queued i low)
          ∙ ap (λ (p : ℕ). Limbo (sights_at p rows)) (place_is i low);
    }

    -- and nothing else is
    pub told_is : (uses : List Use) → Shows kinds queue rows uses → uses_told kinds queue rows ≡ uses
    told_is uses shows =
        ext_get_or Taken (uses_told kinds queue rows) uses (length_told ∙ sym shows.size)
        (λ s lt. let low : s < length kinds = omega (arith, length_told) in use_told_at s low ∙ same s low (kind_at kinds s) refl (shows.plain s low))
      where
        same : (s : ℕ) → s < length kinds → (k : Kind) → kind_at kinds s ≡ k → IsPlain k (use_of uses s) → use_told queue rows s k ≡ use_of uses s
        same s low kind.Limbo here plain =
            let place = is.found s low here in
            ap (λ (p : ℕ). Limbo (sights_at p rows)) (ap (place_of queue) (sym place.2) ∙ place_is place.0 place.1)
            ∙ sym (shows.limbo place.0 place.1)
            ∙ ap (use_of uses) place.2
        same s low _ here plain = sym plain

-- A slot that isn't in limbo gets another use outside it.
module _ (kinds : List Kind) (queue : List ℕ) (rows : List Row) (uses : List Use) (is : IsQueue kinds queue) (shows : Shows kinds queue rows uses)
    (s : ℕ) (low : s < length kinds) (k : Kind) (was : kind_at kinds s ≢ kind.Limbo) where
  plain_set : (x : Use) → IsPlain k x → (t : ℕ) → t < length (set kinds s k) → IsPlain (kind_at (set kinds s k) t) (use_of (set uses s x) t)
  plain_set x fits t lt = grind (arith, get_or-set_same, get_or-set_other, length-set)

  module _ (now : k ≢ kind.Limbo) where
    pub queue_set : IsQueue (set kinds s k) queue
    queue_set = grind (arith, length-set, get_or-set_other, get_or-set_same)

    pub told_set : (x : Use) → IsPlain k x → uses_told (set kinds s k) queue rows ≡ set uses s x
    told_set x fits = grind (arith, told_is, queue_set, length-set, plain_set, get_or-set_other)

-- a place of a queue with one slot more is the last one, or an old one
push_place : (queue : List ℕ) (s i : ℕ) → i < length (queue ++ s ∷ [])
    → ((i < length queue) × (get_or (queue ++ s ∷ []) i 0 ≡ get_or queue i 0)) ⊎ ((i ≡ length queue) × (get_or (queue ++ s ∷ []) i 0 ≡ s))
push_place queue s i low = grind (arith, get_or_append_left, length-append, get_or_push)

-- A slot that isn't in limbo goes to its end.
module _ (kinds : List Kind) (queue : List ℕ) (rows : List Row) (uses : List Use) (is : IsQueue kinds queue) (shows : Shows kinds queue rows uses)
    (s : ℕ) (low : s < length kinds) (was : kind_at kinds s ≢ kind.Limbo) where
  pub queue_pushed : IsQueue (set kinds s kind.Limbo) (queue ++ s ∷ [])
  queue_pushed = grind (arith, length-set, get_or_append_left, length-append, get_or_push, get_or-set_other, get_or-set_same)

  pub told_pushed : (x : Use) → x ≡ Limbo (sights_at (length queue) rows) → uses_told (set kinds s kind.Limbo) (queue ++ s ∷ []) rows ≡ set uses s x
  told_pushed x fresh = told_is (set kinds s kind.Limbo) (queue ++ s ∷ []) rows queue_pushed (set uses s x) (record {
    size = length-set uses s x ∙ shows.size ∙ sym (length-set kinds s kind.Limbo);
    plain = plain_set kinds queue rows uses is shows s low kind.Limbo was x tt;
    limbo = grind (arith, nat_tests, get_or-set_other, not_queued, get_or-set_same, push_place);
  })
