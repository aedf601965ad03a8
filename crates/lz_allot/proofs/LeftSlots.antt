-- The slots that every pass has left are the first of the queue.
use Rattle.lz_allot.specs.declared.kind.Kind.TheVariants as kind
use Rattle.std.proofs.Common.{◌≡◌, ◌≢◌, ◌⊎◌, inl, inr, ⊎_elim, ℕ, zero, suc, ◌+◌, ◌-◌, ◌<◌, ◌≤◌, min, true, List, [], ◌∷◌, length, get_or, take, drop, refl}
use Rattle.std.proofs.Common.{sym, ◌∙◌, ap, subst, arith}
use Rattle.std.proofs.lemmas.List.{same_lists, get_or-map, length-map, get_or-drop, get_or-take, length-drop, length-take-le, Folds.{list_all-map, list_all_at}}
use Rattle.std.{proofs.lemmas.Bool.{cases_lt, and_from, Decides.{nat_tests}}, specs.List.{fold, list_all}}
use Rattle.lz_allot.specs.{declared.{kind.Kind.{Kind}, row.Row.{Row}, sight.Sight.{Sight}}, Rows.{first_row, row_freed, rows_freed, least_left}}
use Rattle.lz_allot.specs.Uses.{Use, Free, Taken, Limbo, use_of, has_left, collect_at, collect}
use Rattle.lz_allot.specs.Allots.{IsQueue, IsRow, kind_at, set_each, sight_at, sights_at, uses_told}
use Rattle.lz_allot.proofs.{FilledPlaces.{length-set_each, set_each_same, set_each_other}, ToldUses.{IsPlain, Shows, told_is, not_queued}}
use Rattle.lz_allot.proofs.SightChanges.{at_left}

-- The least of the numbers that the passes have left.
least_of : ℕ → List Row → ℕ
least_of n rows = fold (λ least r. min least r.left) n rows

least_first : (n : ℕ) (rows : List Row) → least_of n rows ≤ n
unfolding least_of
least_first n [] = omega arith
least_first n (row ∷ rows) = omega (arith, least_first (min n row.left) rows)

least_each : (n : ℕ) (rows : List Row) (p : ℕ) → p < length rows → least_of n rows ≤ (get_or rows p first_row).left
unfolding least_of
least_each n [] p low = absurd (omega arith)
least_each n (row ∷ rows) p low = grind (arith, nat_tests, least_each (min n row.left) rows, least_first, min)

least_reached : (n : ℕ) (rows : List Row) → (least_of n rows ≡ n) ⊎ ((p : ℕ) × (p < length rows) × ((get_or rows p first_row).left ≡ least_of n rows))
unfolding least_of
least_reached n [] = inl refl
least_reached n (row ∷ rows) =
    ⊎_elim
    (λ (first : least_of (min n row.left) rows ≡ min n row.left). ⊎_elim
    (λ (less : n < row.left). inl (omega (arith, first)))
    (λ (more : row.left ≤ n). inr (0, omega arith, omega (arith, first)))
    (cases_lt n row.left))
    (λ (later : (p : ℕ) × (p < length rows) × ((get_or rows p first_row).left ≡ least_of (min n row.left) rows)). inr (suc later.0, omega (arith, later.1), later.2))
    (least_reached (min n row.left) rows)

-- every pass has left so many slots, and one of them no more
pub record IsLeast (rows : List Row) (least : ℕ) : Type 0 where
  pub each : (p : ℕ) → p < length rows → least ≤ (get_or rows p first_row).left
  pub pass : ℕ
  pub low : pass < length rows
  pub reached : (get_or rows pass first_row).left ≡ least

pub least_is : (rows : List Row) → 1 ≤ length rows → IsLeast rows (least_left rows)
unfolding least_of
least_is [] some = absurd (omega arith)
least_is (row ∷ rows) some = record {
  each = each;
  pass = one.0;
  low = one.1;
  reached = one.2;
}
  where
    each : (p : ℕ) → p < length (row ∷ rows) → least_of row.left rows ≤ (get_or (row ∷ rows) p first_row).left
    each zero low = least_first row.left rows
    each (suc p) low = least_each row.left rows p (omega arith)

    one : (p : ℕ) × (p < length (row ∷ rows)) × ((get_or (row ∷ rows) p first_row).left ≡ least_of row.left rows)
    one = ⊎_elim
        (λ (first : least_of row.left rows ≡ row.left). (0, omega arith, sym first))
        (λ (later : (p : ℕ) × (p < length rows) × ((get_or rows p first_row).left ≡ least_of row.left rows)). (suc later.0, omega (arith, later.1), later.2))
        (least_reached row.left rows)

-- the sight of a row once slots left the queue before it
shifted : (k j : ℕ) (row : Row) → k ≤ row.left → row.left ≤ row.met → sight_at (k + j) row ≡ sight_at j (row_freed k row)
shifted k j row few order = grind arith

all_pass : (rows : List Row) (i : ℕ) → ((p : ℕ) → p < length rows → i < (get_or rows p first_row).left) → list_all has_left (sights_at i rows) ≡ true
all_pass [] i each = refl
all_pass (row ∷ rows) i each =
    and_from (has_left (sight_at i row)) (list_all has_left (sights_at i rows)) (ap has_left (at_left i row (each 0 (omega arith)))) (all_pass rows i (λ p low. each (suc p) (omega arith)))

freed_at : (sights : List Sight) → list_all has_left sights ≡ true → collect_at (Limbo sights) ≡ Free
freed_at sights all = rw all refl

module _ (kinds : List Kind) (queue : List ℕ) (rows : List Row) (uses : List Use) (is : IsQueue kinds queue) (shows : Shows kinds queue rows uses)
    (each : (p : ℕ) → p < length rows → IsRow (length queue) (get_or rows p first_row)) (k : ℕ) (least : IsLeast rows k) where
  pub few : k ≤ length queue
  few = let row = each least.pass least.low in omega (arith, least.reached, row.left, row.met)

  kind_first : (i : ℕ) → i < k → kind_at (set_each kinds (take k queue) kind.Free) (get_or queue i 0) ≡ kind.Free
  kind_first i low = grind (arith, get_or-take, set_each_same, length-take-le)

  kind_other : (s : ℕ) → ((i : ℕ) → i < k → get_or queue i 0 ≢ s) → kind_at (set_each kinds (take k queue) kind.Free) s ≡ kind_at kinds s
  kind_other s other = grind (arith, nat_tests, set_each_other, length-take-le, few, get_or-take)

  later_kind : (i : ℕ) → k ≤ i → i < length queue → kind_at (set_each kinds (take k queue) kind.Free) (get_or queue i 0) ≡ kind.Limbo
  later_kind i past low = grind (arith, kind_other)

  plain_kind : (s : ℕ) → kind_at kinds s ≢ kind.Limbo → kind_at (set_each kinds (take k queue) kind.Free) s ≡ kind_at kinds s
  plain_kind s plain = kind_other s (λ i low. not_queued kinds queue rows is s i plain (omega (arith, few)))

  -- a slot in limbo stands in the queue before the place up to which all have left, or after it
  where_is : (s : ℕ) → s < length kinds → kind_at kinds s ≡ kind.Limbo → ((i : ℕ) × (i < k) × (get_or queue i 0 ≡ s)) ⊎ ((i : ℕ) × (k ≤ i) × (i < length queue) × (get_or queue i 0 ≡ s))
  where_is s low limbo =
      let place = is.found s low limbo in
      ⊎_elim
      (λ (less : place.0 < k). inl (place.0, less, place.2))
      (λ (past : k ≤ place.0). inr (place.0, past, place.1, place.2))
      (cases_lt place.0 k)

  dropped_at : (j : ℕ) → get_or (drop k queue) j 0 ≡ get_or queue (k + j) 0
  dropped_at j = get_or-drop k queue j 0

  dropped_length : length (drop k queue) ≡ length queue - k
  dropped_length = length-drop k queue

  pub queue_dropped : IsQueue (set_each kinds (take k queue) kind.Free) (drop k queue)
  queue_dropped = record {
    inside = λ j lt. omega (arith, dropped_at j, dropped_length, is.inside (k + j) (omega (arith, dropped_length)), length-set_each kinds (take k queue) kind.Free);
    queued = λ j lt. ap (kind_at (set_each kinds (take k queue) kind.Free)) (dropped_at j) ∙ later_kind (k + j) (omega arith) (omega (arith, dropped_length));
    once = grind (arith, nat_tests, dropped_length, dropped_at);
    found = λ s lt limbo. found s (omega (arith, length-set_each kinds (take k queue) kind.Free)) (kind_at kinds s) refl limbo;
  }
    where
      found : (s : ℕ) → s < length kinds → (was : Kind) → kind_at kinds s ≡ was → kind_at (set_each kinds (take k queue) kind.Free) s ≡ kind.Limbo
          → (j : ℕ) × (j < length (drop k queue)) × (get_or (drop k queue) j 0 ≡ s)
      found s low kind.Limbo was limbo = ⊎_elim
          (λ (early : (i : ℕ) × (i < k) × (get_or queue i 0 ≡ s)).
          absurd (let e : kind_at (set_each kinds (take k queue) kind.Free) s ≡ kind.Free = ap (kind_at (set_each kinds (take k queue) kind.Free)) (sym early.2) ∙ kind_first early.0 early.1 in cc))
          (λ (late : (i : ℕ) × (k ≤ i) × (i < length queue) × (get_or queue i 0 ≡ s)).
          let there : k + (late.0 - k) ≡ late.0 = omega (arith, late.1) in
          (late.0 - k, omega (arith, late.1, late.2, dropped_length), dropped_at (late.0 - k) ∙ ap (λ (n : ℕ). get_or queue n 0) there ∙ late.3))
          (where_is s low was)
      found s low other was limbo = absurd (let e : kind_at (set_each kinds (take k queue) kind.Free) s ≡ other = plain_kind s (λ never. absurd (cc)) ∙ was in cc)

  pub rows_are_freed : (p : ℕ) → p < length (rows_freed k rows) → IsRow (length (drop k queue)) (get_or (rows_freed k rows) p first_row)
  rows_are_freed p lt =
      let low : p < length rows = omega (arith, length-map rows (row_freed k)) in
      let row = each p low in
      let least_here = least.each p low in
      subst (IsRow (length (drop k queue))) (sym (get_or-map (row_freed k) rows p first_row first_row low)) (record {
        left = omega (arith, row.left);
        met = omega (arith, row.met, dropped_length);
        is_inside = λ less. row.is_inside (omega (arith, less));
      })

  sights_dropped : (j : ℕ) → sights_at (k + j) rows ≡ sights_at j (rows_freed k rows)
  sights_dropped j =
      same_lists (sights_at (k + j) rows) (sights_at j (rows_freed k rows))
      (length-map rows (sight_at (k + j)) ∙ sym (length-map rows (row_freed k)) ∙ sym (length-map (rows_freed k rows) (sight_at j)))
      (λ p d lt.
      let low : p < length rows = omega (arith, length-map rows (sight_at (k + j))) in
      let row = each p low in
      get_or-map (sight_at (k + j)) rows p first_row d low
      ∙ shifted k j (get_or rows p first_row) (least.each p low) row.left
      ∙ ap (sight_at j) (sym (get_or-map (row_freed k) rows p first_row first_row low))
      ∙ sym (get_or-map (sight_at j) (rows_freed k rows) p first_row d (omega (arith, length-map rows (row_freed k)))))

  first_collected : (i : ℕ) → i < k → collect_at (Limbo (sights_at i rows)) ≡ Free
  first_collected i less = freed_at (sights_at i rows) (all_pass rows i (λ p low. omega (arith, least.each p low)))

  later_kept : (i : ℕ) → k ≤ i → collect_at (Limbo (sights_at i rows)) ≡ Limbo (sights_at i rows)
  later_kept i past = grind (arith, list_all-map, list_all_at)

  collected_at : (s : ℕ) → s < length kinds → use_of (collect uses) s ≡ collect_at (use_of uses s)
  collected_at s low = get_or-map collect_at uses s Taken Taken (omega (arith, shows.size))

  plain_collected : (s : ℕ) → s < length kinds → (was : Kind) → kind_at kinds s ≡ was → IsPlain was (use_of uses s)
      → IsPlain (kind_at (set_each kinds (take k queue) kind.Free) s) (use_of (collect uses) s)
  plain_collected s low was is plain = grind (arith, plain_kind, collected_at, kind_first, first_collected, later_kind, where_is)

  pub told_collected : uses_told (set_each kinds (take k queue) kind.Free) (drop k queue) (rows_freed k rows) ≡ collect uses
  told_collected = grind (arith, told_is, queue_dropped, length-map, length-set_each, plain_collected, dropped_length, dropped_at, collected_at, later_kept, sights_dropped)
