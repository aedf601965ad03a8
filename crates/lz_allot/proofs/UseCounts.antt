-- How many slots are free, taken and in limbo.
use Rattle.lz_allot.specs.declared.kind.Kind.TheVariants as kind
use Rattle.std.proofs.Common.{◌≡◌, ◌≢◌, ⊎_elim, ℕ, zero, suc, ◌+◌, ◌-◌, ◌<◌, ◌≤◌, Bool, true, false, not, cond, List, [], ◌∷◌, length, get_or, set, map, refl}
use Rattle.std.proofs.{Common.{sym, ◌∙◌, ap, arith, get_or-set_same, get_or-set_other, length-set}, lemmas.List.{ext_get_or, get_or-map, length-map}}
use Rattle.std.proofs.lemmas.{List.Sums.{sum_by-cons, sum_by-set}, Bool.{cases_eq, cases_Bool}, Grind.{common_steps, elements}}
use Rattle.std.specs.List.{count_by, position, prefix_len}
use Rattle.lz_allot.specs.declared.{kind.Kind.{Kind}, row.Row.{Row}, sight.Sight.{Sight}, counts.Counts.{Counts}}
use Rattle.lz_allot.specs.Uses.{Use, Free, Taken, Limbo, use_of, is_free, is_taken, is_limbo, collect, see_pin, counts}
use Rattle.lz_allot.{specs.Allots.{IsQueue, kind_at, is_free_kind}, proofs.ToldUses.{IsPlain, Shows}}

module _ {X : Type 0} (p : X → Bool) where
  -- one element more
  count_cons : (x : X) (xs : List X) → count_by p (x ∷ xs) ≡ cond (p x) 1 0 + count_by p xs
  count_cons x xs = sum_by-cons (λ x. cond (p x) 1 0) x xs

  -- one element is set
  count_set : (xs : List X) (i : ℕ) (y d : X) → i < length xs → count_by p (set xs i y) + cond (p (get_or xs i d)) 1 0 ≡ count_by p xs + cond (p y) 1 0
  count_set xs i y d low = sum_by-set (λ x. cond (p x) 1 0) xs i y d low

  count_none : (xs : List X) (d : X) → ((s : ℕ) → s < length xs → p (get_or xs s d) ≡ false) → count_by p xs ≡ 0
  count_none [] d none = refl
  count_none (x ∷ xs) d none =
      rw (none 0 (omega arith)) (omega (arith, count_none xs d (λ s low. none (suc s) (omega arith))))

  -- the elements that pass are counted by the list of their places
  pub count_places : (places : List ℕ) (xs : List X) (d y : X) → p y ≡ false
      → ((i : ℕ) → i < length places → get_or places i 0 < length xs)
      → ((i : ℕ) → i < length places → p (get_or xs (get_or places i 0) d) ≡ true)
      → ((i j : ℕ) → i < length places → j < length places → get_or places i 0 ≡ get_or places j 0 → i ≡ j)
      → ((s : ℕ) → s < length xs → p (get_or xs s d) ≡ true → (i : ℕ) × (i < length places) × (get_or places i 0 ≡ s))
      → count_by p xs ≡ length places
  count_places [] xs d y fails inside hit once found =
      count_none xs d (λ s low. ⊎_elim
      (λ (passes : p (get_or xs s d) ≡ true). absurd (let place = found s low passes in omega (arith, place.1)))
      (λ (none : p (get_or xs s d) ≡ false). none)
      (cases_Bool (p (get_or xs s d))))
  count_places (q ∷ places) xs d y fails inside hit once found =
      let low : q < length xs = inside 0 (omega arith) in
      let before = count_set xs q y d low in
      let here : p (get_or xs q d) ≡ true = hit 0 (omega arith) in
      let step : count_by p (set xs q y) + 1 ≡ count_by p xs + 0 = rw (here, fails) at before in
      let rest : count_by p (set xs q y) ≡ length places = count_places places (set xs q y) d y fails
      (λ i lt. omega (arith, inside (suc i) (omega arith), length-set xs q y))
      (λ i lt. ap p (get_or-set_other xs q (get_or places i 0) y d (apart i lt)) ∙ hit (suc i) (omega arith))
      (λ i j lt lt' same. let e : suc i ≡ suc j = once (suc i) (suc j) (omega arith) (omega arith) same in omega arith)
      (λ s lt passes. find s (omega (arith, length-set xs q y)) passes) in
      omega arith
    where
      apart : (i : ℕ) → i < length places → get_or places i 0 ≢ q
      apart i lt same = absurd (let e : suc i ≡ 0 = once (suc i) 0 (omega arith) (omega arith) same in omega arith)

      find : (s : ℕ) → s < length xs → p (get_or (set xs q y) s d) ≡ true → (i : ℕ) × (i < length places) × (get_or places i 0 ≡ s)
      find s lt passes = ⊎_elim
          (λ (same : s ≡ q). absurd (let e : true ≡ false = sym passes ∙ ap (λ (n : ℕ). p (get_or (set xs q y) n d)) same ∙ ap p (get_or-set_same xs q y d (inside 0 (omega arith))) ∙ fails in cc))
          (λ (other : s ≢ q). later (found s lt (ap p (sym (get_or-set_other xs q s y d other)) ∙ passes)) other)
          (cases_eq s q)
        where
          later : (i : ℕ) × (i < length (q ∷ places)) × (get_or (q ∷ places) i 0 ≡ s) → s ≢ q → (i : ℕ) × (i < length places) × (get_or places i 0 ≡ s)
          later (zero, low, at) other = absurd (other (sym at))
          later (suc i, low, at) other = (i, omega arith, at)

  -- elements are changed, and pass as before
  count_kept : (f : X → X) → ((x : X) → p (f x) ≡ p x) → (xs : List X) → count_by p (map f xs) ≡ count_by p xs
  count_kept f same xs = grind (arith, common_steps, elements)

  count_map : (xs : List X) → count_by (λ b. b) (map p xs) ≡ count_by p xs
  count_map xs = grind (arith, common_steps, elements)

  prefix_map : (xs : List X) → prefix_len (λ b. not b) (map p xs) ≡ prefix_len (λ x. not (p x)) xs
  prefix_map [] = refl
  prefix_map (x ∷ xs) = ap (λ (n : ℕ). cond (not (p x)) (1 + n) 0) (prefix_map xs)

  pub position_map : (xs : List X) → position (λ b. b) (map p xs) ≡ position p xs
  position_map xs = rw (prefix_map xs, length-map xs p) refl

-- each slot is free, taken or in limbo
pub counts_sum : (uses : List Use) → (counts uses).free + (counts uses).taken + (counts uses).limbo ≡ length uses
counts_sum [] = refl
counts_sum (Free ∷ uses) = omega (arith, counts_sum uses, count_cons is_free Free uses, count_cons is_taken Free uses, count_cons is_limbo Free uses)
counts_sum (Taken ∷ uses) = omega (arith, counts_sum uses, count_cons is_free Taken uses, count_cons is_taken Taken uses, count_cons is_limbo Taken uses)
counts_sum (Limbo sights ∷ uses) =
    omega (arith, counts_sum uses, count_cons is_free (Limbo sights) uses, count_cons is_taken (Limbo sights) uses, count_cons is_limbo (Limbo sights) uses)

pub same_counts : (one two : Counts) → one.free ≡ two.free → one.taken ≡ two.taken → one.limbo ≡ two.limbo → one ≡ two
same_counts one two free taken limbo = λ k. record { free = free k; taken = taken k; limbo = limbo k }

-- The counts once a slot's use has changed.
module _ (uses : List Use) (s : ℕ) (low : s < length uses) where
  pub counts_reserved : use_of uses s ≡ Free → (1 ≤ (counts uses).free) × (counts (set uses s Taken) ≡ record { free = (counts uses).free - 1; taken = (counts uses).taken + 1; limbo = (counts uses).limbo })
  counts_reserved was =
      let free : count_by is_free (set uses s Taken) + 1 ≡ count_by is_free uses + 0 = rw was at (count_set is_free uses s Taken Taken low) in
      let taken : count_by is_taken (set uses s Taken) + 0 ≡ count_by is_taken uses + 1 = rw was at (count_set is_taken uses s Taken Taken low) in
      let limbo : count_by is_limbo (set uses s Taken) + 0 ≡ count_by is_limbo uses + 0 = rw was at (count_set is_limbo uses s Taken Taken low) in
      (omega arith, same_counts _ _ (omega arith) (omega arith) (omega arith))

  pub counts_given_back : use_of uses s ≡ Taken → (1 ≤ (counts uses).taken) × (counts (set uses s Free) ≡ record { free = (counts uses).free + 1; taken = (counts uses).taken - 1; limbo = (counts uses).limbo })
  counts_given_back was =
      let free : count_by is_free (set uses s Free) + 0 ≡ count_by is_free uses + 1 = rw was at (count_set is_free uses s Free Taken low) in
      let taken : count_by is_taken (set uses s Free) + 1 ≡ count_by is_taken uses + 0 = rw was at (count_set is_taken uses s Free Taken low) in
      let limbo : count_by is_limbo (set uses s Free) + 0 ≡ count_by is_limbo uses + 0 = rw was at (count_set is_limbo uses s Free Taken low) in
      (omega arith, same_counts _ _ (omega arith) (omega arith) (omega arith))

  pub counts_retired : (sights : List Sight) → use_of uses s ≡ Taken → (1 ≤ (counts uses).taken) × (counts (set uses s (Limbo sights)) ≡ record { free = (counts uses).free; taken = (counts uses).taken - 1; limbo = (counts uses).limbo + 1 })
  counts_retired sights was =
      let free : count_by is_free (set uses s (Limbo sights)) + 0 ≡ count_by is_free uses + 0 = rw was at (count_set is_free uses s (Limbo sights) Taken low) in
      let taken : count_by is_taken (set uses s (Limbo sights)) + 1 ≡ count_by is_taken uses + 0 = rw was at (count_set is_taken uses s (Limbo sights) Taken low) in
      let limbo : count_by is_limbo (set uses s (Limbo sights)) + 0 ≡ count_by is_limbo uses + 1 = rw was at (count_set is_limbo uses s (Limbo sights) Taken low) in
      (omega arith, same_counts _ _ (omega arith) (omega arith) (omega arith))

-- the limbo slots are those of the queue
pub limbo_queued : (kinds : List Kind) (queue : List ℕ) (rows : List Row) (uses : List Use) → IsQueue kinds queue → Shows kinds queue rows uses → (counts uses).limbo ≡ length queue
limbo_queued kinds queue rows uses is shows =
    count_places is_limbo queue uses Taken Taken refl
    (λ i low. omega (arith, is.inside i low, shows.size))
    (λ i low. ap is_limbo (shows.limbo i low))
    is.once
    (λ s low limbo. let inside : s < length kinds = omega (arith, shows.size) in is.found s inside (in_limbo s (kind_at kinds s) refl (shows.plain s inside) limbo))
  where
    in_limbo : (s : ℕ) (k : Kind) → kind_at kinds s ≡ k → IsPlain k (use_of uses s) → is_limbo (use_of uses s) ≡ true → kind_at kinds s ≡ kind.Limbo
    in_limbo s kind.Limbo is plain limbo = is
    in_limbo s _ is plain limbo = absurd (let e : false ≡ true = sym (ap is_limbo plain) ∙ limbo in cc)

-- the free slots are those of that kind
pub free_told : (kinds : List Kind) (queue : List ℕ) (rows : List Row) (uses : List Use) → IsQueue kinds queue → Shows kinds queue rows uses → map is_free uses ≡ map is_free_kind kinds
free_told kinds queue rows uses is shows =
    ext_get_or false (map is_free uses) (map is_free_kind kinds) (length-map uses is_free ∙ shows.size ∙ sym (length-map kinds is_free_kind))
    (λ s lt.
    let low : s < length kinds = omega (arith, length-map uses is_free, shows.size) in
    get_or-map is_free uses s Taken false (omega (arith, shows.size)) ∙ same s (kind_at kinds s) refl (shows.plain s low) low ∙ sym (get_or-map is_free_kind kinds s kind.Taken false low))
  where
    same : (s : ℕ) (k : Kind) → kind_at kinds s ≡ k → IsPlain k (use_of uses s) → s < length kinds → is_free (use_of uses s) ≡ is_free_kind k
    same s kind.Limbo at plain low = let place = is.found s low at in ap (λ (n : ℕ). is_free (use_of uses n)) (sym place.2) ∙ ap is_free (shows.limbo place.0 place.1)
    same s _ at plain low = ap is_free plain

pub free_counted : (uses : List Use) (kinds : List Kind) → map is_free uses ≡ map is_free_kind kinds → (counts uses).free ≡ count_by is_free_kind kinds
free_counted uses kinds same = sym (count_map is_free uses) ∙ ap (λ (bs : List Bool). count_by (λ b. b) bs) same ∙ count_map is_free_kind kinds

-- no slot is taken or given back by a collecting
pub taken_collected : (uses : List Use) → (counts (collect uses)).taken ≡ (counts uses).taken
taken_collected uses = grind (arith, count_kept)

pub counts_collected : (uses : List Use) (freed : ℕ) → (counts (collect uses)).limbo + freed ≡ (counts uses).limbo
    → counts (collect uses) ≡ record { free = (counts uses).free + freed; taken = (counts uses).taken; limbo = (counts uses).limbo - freed }
counts_collected uses freed fewer = grind (arith, counts_sum, length-map, taken_collected)

-- a pin that is seen changes no slot's use but for its sights
pub counts_seen : (pass pin : ℕ) (uses : List Use) → counts (see_pin pass pin uses) ≡ counts uses
counts_seen pass pin uses = grind (arith, count_kept)
