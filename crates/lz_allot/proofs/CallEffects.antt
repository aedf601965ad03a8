-- What the calls make of what is kept.
use Rattle.lz_allot.specs.declared.kind.Kind.TheVariants as kind
use Rattle.std.proofs.Common.{◌≡◌, ◌≢◌, ◌↔◌, IsTrue, ◌⊎◌, inl, inr, ⊎_elim, ℕ, zero, suc, ◌+◌, ◌-◌, ◌<◌, ◌≤◌, Bool, true, false, Some, List, [], ◌∷◌, ◌++◌}
use Rattle.std.proofs.Common.{length, get_or, set, map, take, drop, replicate, refl, sym, ◌∙◌, ap, subst, arith, length-set, length-append, ◌==◌, if◌then◌else◌}
use Rattle.std.proofs.lemmas.List.{map-set, length-map, length-replicate, get_or-replicate, get_or-map, set-get_or, length-drop, get_or_read}
use Rattle.std.proofs.lemmas.List.{FromFn.{length-map-range_with_len, get_or-map-range_with_len}, Quantifiers.{position-Some}}
use Rattle.std.{proofs.lemmas.Bool.{cases_Bool, eqb-true, eqb-false, or_left, or_right, or_from}, specs.List.{position, list_any, count_by}}
use Rattle.lz_slot.{specs.{Limits.{most_passes, most_slots}, Counted.{of_pass}}, proofs.Counted.{length-set_of_pass}}
use Rattle.lz_allot.specs.declared.{kind.Kind.{Kind}, row.Row.{Row}, sight.Sight.TheVariants.{Unseen}, counts.Counts.{Counts}}
use Rattle.lz_allot.specs.Rows.{first_row, row_seen, rows_seen, row_freed, rows_freed, least_left}
use Rattle.lz_allot.specs.Uses.{Use, Free, Taken, use_of, is_free, counts, lowest_free, take_slot, give_back, retire, see_pin, collect}
use Rattle.lz_allot.specs.Allots.{IsAllot, IsQueue, IsTakenAt, first_uses, is_free_kind, kind_at, set_each, use_told, uses_told}
use Rattle.lz_allot.proofs.FilledPlaces.{length-set_each, map-set_each, set_each_same, set_each_other}
use Rattle.lz_allot.proofs.ToldUses.{IsPlain, Shows, length_told, use_told_at, shows_told, told_is, queue_set, told_set, queue_pushed, told_pushed}
use Rattle.lz_allot.proofs.SightChanges.{rows_are_seen, told_seen, sights_fresh, rows_longer}
use Rattle.lz_allot.proofs.{LeftSlots.{IsLeast, least_is, few, queue_dropped, rows_are_freed, told_collected}, UseCounts.{position_map, counts_sum}}
use Rattle.lz_allot.proofs.UseCounts.{counts_reserved, counts_given_back, counts_retired, limbo_queued, free_told, free_counted, counts_collected, counts_seen}
use Rattle.lz_allot.proofs.UseCounts.{same_counts}

module _ (kinds : List Kind) (free : List Bool) (queue : List ℕ) (capacity : ℕ) (rows : List Row) (counted : Counts)
    (old : IsAllot kinds free queue capacity rows counted) where
  shown : Shows kinds queue rows (uses_told kinds queue rows)
  shown = shows_told kinds queue rows old.is_queue

  size : length (uses_told kinds queue rows) ≡ length kinds
  size = length_told kinds queue rows

  -- each slot counts once
  pub total : counted.free + counted.taken + counted.limbo ≡ length kinds
  total = rw old.sum (counts_sum (uses_told kinds queue rows) ∙ size)

  pub in_limbo : counted.limbo ≡ length queue
  in_limbo = ap (λ (c : Counts). c.limbo) old.sum ∙ limbo_queued kinds queue rows (uses_told kinds queue rows) old.is_queue shown

  pub limbo_is : (counts (uses_told kinds queue rows)).limbo ≡ length queue
  limbo_is = limbo_queued kinds queue rows (uses_told kinds queue rows) old.is_queue shown

  -- the lowest free slot is that of the tree
  pub lowest_is : position (λ b. b) free ≡ lowest_free (uses_told kinds queue rows)
  lowest_is =
      ap (λ (bs : List Bool). position (λ b. b) bs) (old.shows ∙ sym (free_told kinds queue rows (uses_told kinds queue rows) old.is_queue shown))
      ∙ position_map is_free (uses_told kinds queue rows)

  -- a slot is taken where its kind says so
  pub is_taken_kind : (s : ℕ) → s < length kinds → use_of (uses_told kinds queue rows) s ≡ Taken → kind_at kinds s ≡ kind.Taken
  is_taken_kind s low was = grind (arith, use_told_at)

  pub taken_told : (s : ℕ) → s < length kinds → kind_at kinds s ≡ kind.Taken → use_of (uses_told kinds queue rows) s ≡ Taken
  taken_told s low is = use_told_at kinds queue rows s low ∙ ap (use_told queue rows s) is

  -- what a kind that is read tells
  pub tells_taken : (s : ℕ) (k : Kind) (told : Bool) → s < length kinds → k ≡ get_or kinds s k → IsTrue told ↔ (k ≡ kind.Taken) → IsTrue told ↔ IsTakenAt (uses_told kinds queue rows) s
  tells_taken s k told low at tells = grind (arith, get_or_read, size, taken_told, is_taken_kind)

  -- The lowest free slot is taken.
  module _ (s : ℕ) (lowest : position (λ b. b) free ≡ Some s) where
    found : (s < length (uses_told kinds queue rows)) × (use_of (uses_told kinds queue rows) s ≡ Free)
    found = grind (arith, position-Some, lowest_is)

    pub reserved_low : s < length kinds
    reserved_low = omega (arith, found.0, size)

    was_free : kind_at kinds s ≢ kind.Limbo
    was_free limbo = grind (arith, reserved_low, use_told_at, found)

    pub some_free : 1 ≤ counted.free
    some_free = rw old.sum ((counts_reserved (uses_told kinds queue rows) s found.0 found.1).0)

    pub told_reserved : uses_told (set kinds s kind.Taken) queue rows ≡ take_slot (uses_told kinds queue rows) s
    told_reserved = told_set kinds queue rows (uses_told kinds queue rows) old.is_queue shown s reserved_low kind.Taken was_free (λ never. absurd (cc)) Taken refl

    pub allot_reserved : IsAllot (set kinds s kind.Taken) (set free s false) queue capacity rows (record { free = counted.free - 1; taken = counted.taken + 1; limbo = counted.limbo })
    allot_reserved = record {
      size = omega (arith, old.size, length-set kinds s kind.Taken);
      passes = old.passes;
      room = omega (arith, old.room, length-set kinds s kind.Taken);
      shows = ap (λ (bs : List Bool). set bs s false) old.shows ∙ sym (map-set is_free_kind kinds s kind.Taken);
      is_queue = queue_set kinds queue rows (uses_told kinds queue rows) old.is_queue shown s reserved_low kind.Taken was_free (λ never. absurd (cc));
      each = old.each;
      sum = rw (told_reserved, old.sum) (sym ((counts_reserved (uses_told kinds queue rows) s found.0 found.1).1));
    }

  -- A slot that was taken is given back or retired.
  module _ (s : ℕ) (taken : IsTakenAt (uses_told kinds queue rows) s) where
    pub taken_low : s < length kinds
    taken_low = omega (arith, taken.0, size)

    was_taken : kind_at kinds s ≢ kind.Limbo
    was_taken limbo = absurd (let e : kind_at kinds s ≡ kind.Taken = is_taken_kind s taken_low taken.1 in cc)

    pub some_taken : 1 ≤ counted.taken
    some_taken = rw old.sum ((counts_given_back (uses_told kinds queue rows) s taken.0 taken.1).0)

    pub told_given_back : uses_told (set kinds s kind.Free) queue rows ≡ give_back (uses_told kinds queue rows) s
    told_given_back = told_set kinds queue rows (uses_told kinds queue rows) old.is_queue shown s taken_low kind.Free was_taken (λ never. absurd (cc)) Free refl

    pub allot_given_back : IsAllot (set kinds s kind.Free) (set free s true) queue capacity rows (record { free = counted.free + 1; taken = counted.taken - 1; limbo = counted.limbo })
    allot_given_back = record {
      size = omega (arith, old.size, length-set kinds s kind.Free);
      passes = old.passes;
      room = omega (arith, old.room, length-set kinds s kind.Free);
      shows = ap (λ (bs : List Bool). set bs s true) old.shows ∙ sym (map-set is_free_kind kinds s kind.Free);
      is_queue = queue_set kinds queue rows (uses_told kinds queue rows) old.is_queue shown s taken_low kind.Free was_taken (λ never. absurd (cc));
      each = old.each;
      sum = rw (told_given_back, old.sum) (sym ((counts_given_back (uses_told kinds queue rows) s taken.0 taken.1).1));
    }

    -- the queue has room for one slot more
    pub has_room : length queue < capacity
    has_room = omega (arith, in_limbo, total, some_taken, old.room)

    pub told_retired : uses_told (set kinds s kind.Limbo) (queue ++ s ∷ []) rows ≡ retire (length rows) (uses_told kinds queue rows) s
    told_retired = grind (arith, told_pushed, shown, sights_fresh)

    same_free : free ≡ map is_free_kind (set kinds s kind.Limbo)
    same_free =
        let was : kind_at kinds s ≡ kind.Taken = is_taken_kind s taken_low taken.1 in
        let here : get_or (map is_free_kind kinds) s false ≡ false = get_or-map is_free_kind kinds s kind.Taken false taken_low ∙ ap is_free_kind was in
        old.shows
        ∙ sym (set-get_or (map is_free_kind kinds) s false)
        ∙ ap (set (map is_free_kind kinds) s) here
        ∙ sym (map-set is_free_kind kinds s kind.Limbo)

    pub allot_retired : IsAllot (set kinds s kind.Limbo) free (queue ++ s ∷ []) capacity rows (record { free = counted.free; taken = counted.taken - 1; limbo = counted.limbo + 1 })
    allot_retired = record {
      size = omega (arith, old.size, length-set kinds s kind.Limbo);
      passes = old.passes;
      room = omega (arith, old.room, length-set kinds s kind.Limbo);
      shows = same_free;
      is_queue = queue_pushed kinds queue rows (uses_told kinds queue rows) old.is_queue shown s taken_low was_taken;
      each = rows_longer rows (length queue) (length (queue ++ s ∷ [])) (omega (arith, length-append queue (s ∷ []))) old.each;
      sum = rw (told_retired, old.sum) (sym ((counts_retired (uses_told kinds queue rows) s taken.0 (replicate (length rows) Unseen) taken.1).1));
    }

  -- The pin of a pass is seen.
  module _ (pass pin : ℕ) (within : pass ≤ length rows) where
    pub told_pin : uses_told kinds queue (rows_seen pass pin (length queue) rows) ≡ see_pin pass pin (uses_told kinds queue rows)
    told_pin = told_seen pin (length queue) rows old.each kinds queue (uses_told kinds queue rows) old.is_queue shown refl pass within

    pub allot_seen : IsAllot kinds free queue capacity (rows_seen pass pin (length queue) rows) counted
    allot_seen = record {
      size = old.size;
      passes = omega (arith, old.passes, length-set_of_pass rows pass (row_seen pin (length queue) (of_pass rows pass first_row)));
      room = old.room;
      shows = old.shows;
      is_queue = old.is_queue;
      each = rows_are_seen pin (length queue) rows old.each pass within;
      sum = rw told_pin (old.sum ∙ sym (counts_seen pass pin (uses_told kinds queue rows)));
    }

  -- The first slots of the queue are freed.
  module _ (k : ℕ) (is : k ≡ least_left rows) where
    pub least : IsLeast rows k
    least = subst (IsLeast rows) (sym is) (least_is rows old.passes.0)

    pub least_few : k ≤ length queue
    least_few = few kinds queue rows (uses_told kinds queue rows) old.is_queue shown old.each k least

    pub told_freed : uses_told (set_each kinds (take k queue) kind.Free) (drop k queue) (rows_freed k rows) ≡ collect (uses_told kinds queue rows)
    told_freed = told_collected kinds queue rows (uses_told kinds queue rows) old.is_queue shown old.each k least

    pub limbo_freed : (counts (collect (uses_told kinds queue rows))).limbo + k ≡ (counts (uses_told kinds queue rows)).limbo
    limbo_freed =
        let freed_queue = queue_dropped kinds queue rows (uses_told kinds queue rows) old.is_queue shown old.each k least in
        let new : (counts (collect (uses_told kinds queue rows))).limbo ≡ length (drop k queue) =
        ap (λ (us : List Use). (counts us).limbo) (sym told_freed)
        ∙ limbo_queued (set_each kinds (take k queue) kind.Free) (drop k queue) (rows_freed k rows) _ freed_queue (shows_told (set_each kinds (take k queue) kind.Free) (drop k queue) (rows_freed k rows) freed_queue) in
        let was : (counts (uses_told kinds queue rows)).limbo ≡ length queue = limbo_queued kinds queue rows (uses_told kinds queue rows) old.is_queue shown in
        omega (arith, length-drop k queue, least_few)

    pub allot_freed : (free' : List Bool) → free' ≡ set_each free (take k queue) true
        → IsAllot (set_each kinds (take k queue) kind.Free) free' (drop k queue) capacity (rows_freed k rows) (record { free = counted.free + k; taken = counted.taken; limbo = counted.limbo - k })
    allot_freed free' shows = record {
      size = omega (arith, old.size, length-set_each kinds (take k queue) kind.Free);
      passes = omega (arith, old.passes, length-map rows (row_freed k));
      room = omega (arith, old.room, length-set_each kinds (take k queue) kind.Free);
      shows = shows ∙ ap (λ (bs : List Bool). set_each bs (take k queue) true) old.shows ∙ sym (map-set_each is_free_kind kinds (take k queue) kind.Free);
      is_queue = queue_dropped kinds queue rows (uses_told kinds queue rows) old.is_queue shown old.each k least;
      each = rows_are_freed kinds queue rows (uses_told kinds queue rows) old.is_queue shown old.each k least;
      sum = rw (told_freed, old.sum) (sym (counts_collected (uses_told kinds queue rows) k limbo_freed));
    }

  rows_kept : (xs : List Row) → rows_freed 0 xs ≡ xs
  rows_kept [] = refl
  rows_kept (x ∷ xs) = grind (arith, rows_kept xs)

  -- No slot is freed.
  module _ (none : 0 ≡ least_left rows) where
    pub rows_stay : rows ≡ rows_freed 0 rows
    rows_stay = sym (rows_kept rows)

    pub uses_stay : uses_told kinds queue rows ≡ collect (uses_told kinds queue rows)
    uses_stay = ap (uses_told kinds queue) rows_stay ∙ told_freed 0 none

  -- Where none waits, no pass has left any.
  pub none_left : length queue ≡ 0 → 0 ≡ least_left rows
  none_left empty = omega (arith, least_few (least_left rows) refl)

-- Slots of which some are taken from the first.
module _ (n passes : ℕ) (taken : List ℕ) where
  any_cases : (s : ℕ) (xs : List ℕ) → ((list_any (λ t. t == s) xs ≡ true) × ((i : ℕ) × (i < length xs) × (get_or xs i 0 ≡ s)))
      ⊎ ((list_any (λ t. t == s) xs ≡ false) × ((i : ℕ) → i < length xs → get_or xs i 0 ≢ s))
  any_cases s [] = inr (refl, λ i low. absurd (omega arith))
  any_cases s (x ∷ xs) = ⊎_elim
      (λ (same : (x == s) ≡ true). inl (or_left (x == s) (list_any (λ t. t == s) xs) same, (0, omega arith, eqb-true x s same)))
      (λ (other : (x == s) ≡ false). ⊎_elim
      (λ (later : (list_any (λ t. t == s) xs ≡ true) × ((i : ℕ) × (i < length xs) × (get_or xs i 0 ≡ s))).
      inl (or_right (x == s) (list_any (λ t. t == s) xs) later.0, (suc later.1.0, omega (arith, later.1.1), later.1.2)))
      (λ (none : (list_any (λ t. t == s) xs ≡ false) × ((i : ℕ) → i < length xs → get_or xs i 0 ≢ s)).
      inr (or_from (x == s) (list_any (λ t. t == s) xs) other none.0, apart (eqb-false x s other) none.1))
      (any_cases s xs))
      (cases_Bool (x == s))
    where
      apart : x ≢ s → ((i : ℕ) → i < length xs → get_or xs i 0 ≢ s) → (i : ℕ) → i < length (x ∷ xs) → get_or (x ∷ xs) i 0 ≢ s
      apart first others zero low = first
      apart first others (suc i) low = others i (omega arith)

  module _ (inside : (i : ℕ) → i < length taken → get_or taken i 0 < n) where
    pub first_length : length (set_each (replicate n kind.Free) taken kind.Taken) ≡ n
    first_length = length-set_each (replicate n kind.Free) taken kind.Taken ∙ length-replicate n kind.Free

    first_at : (s : ℕ) → s < n → kind_at (set_each (replicate n kind.Free) taken kind.Taken) s ≡ (if list_any (λ t. t == s) taken then kind.Taken else kind.Free)
    first_at s low = grind (arith, set_each_same, length-replicate, set_each_other, get_or-replicate, any_cases)

    no_queue : IsQueue (set_each (replicate n kind.Free) taken kind.Taken) []
    no_queue = grind (arith, first_at, first_length)

    first_plain : (s : ℕ) → s < n → (b : Bool) → IsPlain (if b then kind.Taken else kind.Free) (if b then Taken else Free)
    first_plain s low b = grind arith

    first_use : (s : ℕ) → s < n → use_of (first_uses n taken) s ≡ (if list_any (λ t. t == s) taken then Taken else Free)
    first_use s low = get_or-map-range_with_len (λ s. if list_any (λ t. t == s) taken then Taken else Free) 0 n s s Taken low (omega arith)

    pub told_first : (rows : List Row) → uses_told (set_each (replicate n kind.Free) taken kind.Taken) [] rows ≡ first_uses n taken
    told_first rows = told_is (set_each (replicate n kind.Free) taken kind.Taken) [] rows no_queue (first_uses n taken) (record {
      size = length-map-range_with_len (λ s. if list_any (λ t. t == s) taken then Taken else Free) 0 n ∙ sym first_length;
      plain = λ s lt. let low : s < n = omega (arith, first_length) in rw (first_at s low, first_use s low) (first_plain s low (list_any (λ t. t == s) taken));
      limbo = λ i low. absurd (omega arith);
    })

    first_counts : (rows : List Row) → counts (uses_told (set_each (replicate n kind.Free) taken kind.Taken) [] rows)
        ≡ record { free = count_by is_free_kind (set_each (replicate n kind.Free) taken kind.Taken); taken = n - count_by is_free_kind (set_each (replicate n kind.Free) taken kind.Taken); limbo = 0 }
    first_counts rows =
        let kinds = set_each (replicate n kind.Free) taken kind.Taken in
        let shows = shows_told kinds [] rows no_queue in
        let uses = uses_told kinds [] rows in
        let free : (counts uses).free ≡ count_by is_free_kind kinds = free_counted uses kinds (free_told kinds [] rows uses no_queue shows) in
        let limbo : (counts uses).limbo ≡ 0 = limbo_queued kinds [] rows uses no_queue shows in
        let sum = counts_sum uses in
        let size = length_told kinds [] rows in
        same_counts _ _ free (omega (arith, first_length)) limbo

    pub allot_first : 1 ≤ n → n ≤ most_slots → 1 ≤ passes → passes ≤ most_passes → (capacity : ℕ) → n ≤ capacity
        → IsAllot (set_each (replicate n kind.Free) taken kind.Taken) (map is_free_kind (set_each (replicate n kind.Free) taken kind.Taken)) [] capacity (replicate passes first_row)
        (record { free = count_by is_free_kind (set_each (replicate n kind.Free) taken kind.Taken); taken = n - count_by is_free_kind (set_each (replicate n kind.Free) taken kind.Taken); limbo = 0 })
    allot_first some few_slots pass few_passes capacity room = grind (arith, first_length, length-replicate, no_queue, get_or-replicate, first_counts)
