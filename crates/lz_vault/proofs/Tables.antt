-- What a write to a slot, and a sync, leave of a table of slots.
use Rattle.std.proofs.lemmas.{Bool.{cases_eq, true≢false, Decides.{nat_tests}}, List.{get_or_append_left, get_or_push, length-map}}
use Rattle.std.proofs.lemmas.List.Sums.{count_by-le-length, sum_by-cons, sum_by-set}
use Rattle.std.proofs.{lemmas.Option.{slice_get_within, slice_get-get_or, get_or_from_slice_get, same_Some}, Common.{◌≡◌, ◌≢◌, inl, inr, ⊎_elim, ℕ, suc, ◌+◌}}
use Rattle.std.proofs.Common.{◌≤◌, ◌<◌, Bool, true, false, List, [], ◌∷◌, ◌++◌, length, sym, refl, ◌∙◌, ap, subst, arith, Some, get_or-set_same}
use Rattle.std.{proofs.Common.{get_or-set_other, length-set, length-append}, specs.Prelude.{cond, if◌then◌else◌, not, ◌&&◌, slice_get, slice_set, map}}
use Rattle.std.specs.List.{count_by}
use Rattle.lz_slot.specs.declared.format.Format.{Format, TheVariants.{One, Four}}
use Rattle.lz_vault.specs.{Members.{no_cell}, Opens.{is_open, open_count}}
use Rattle.lz_vault.specs.Stages.{AreSteady, Cell, IsFree, IsSteady, cell_synced, is_covered, stage_put, stage_synced}
use Rattle.lz_vault.specs.{Tables.{AreMoved, AreUnsynced, IsTable, is_listed_then, is_opening, is_uncovered}, declared.vault.Stage.{Stage}}
use Rattle.lz_vault.{specs.declared.vault.Stage.TheVariants.{Closed, Torn, KeyLoose, Keyed, Opening, Open, Closing}, proofs.Changes.{from_map, set_cases}}
use Rattle.lz_vault.proofs.Scanning.{push_cases}

-- of the stages
steady_covered : (stage : Stage) → IsSteady stage → is_covered stage ≡ true
steady_covered Closed steady = refl
steady_covered Torn steady = refl
steady_covered Open steady = refl
steady_covered _ steady = absurd steady

synced_covered : (stage : Stage) → is_covered (stage_synced stage) ≡ true
synced_covered Closed = refl
synced_covered _ = refl

covered_stays : (stage : Stage) → is_covered stage ≡ true → stage_synced stage ≡ stage
covered_stays KeyLoose covered = absurd (cc)
covered_stays Opening covered = absurd (cc)
covered_stays Closing covered = absurd (cc)
covered_stays _ covered = refl

-- the slots that a sync opens are those that were being opened
pub opened_synced : (stage : Stage) → ◌≡◌ {A = ℕ} (cond (is_open (stage_synced stage)) 1 0) (cond (is_open stage) 1 0 + cond (is_opening stage) 1 0)
opened_synced Closed = refl
opened_synced _ = refl

synced_again : (cell : Cell) → cell_synced (cell_synced cell) ≡ cell_synced cell
synced_again cell = ap (λ (s : Stage). record { stage = s; key = cell.key }) (covered_stays (stage_synced cell.stage) (synced_covered cell.stage))

-- where all are covered, none is listed
none_uncovered : (cells : List Cell) → ((s : ℕ) (cell : Cell) → slice_get cells s ≡ Some cell → is_covered cell.stage ≡ true) → count_by is_uncovered cells ≡ 0
none_uncovered [] covered = refl
none_uncovered (c ∷ cells) covered =
    let rest = none_uncovered cells (λ s. covered (suc s)) in
    let here : ◌≡◌ {A = ℕ} (cond (is_uncovered c) 1 0) 0 = ap (λ (b : Bool). cond (not b) 1 0) (covered 0 c refl) in
    omega (arith, sum_by-cons (λ (x : Cell). cond (is_uncovered x) 1 0) c cells, here, rest)

all_covered : (cells : List Cell) → ((s : ℕ) (cell : Cell) → slice_get cells s ≡ Some cell → is_covered cell.stage ≡ true) → AreUnsynced cells []
all_covered cells covered = grind (arith, nat_tests, true≢false, none_uncovered)

pub steady_unsynced : (cells : List Cell) → AreSteady cells → AreUnsynced cells []
steady_unsynced cells steady = all_covered cells (λ s cell there. steady_covered cell.stage (steady s cell there))

-- an element of a list of which one changed
set_same : {X : Type 0} (xs : List X) (s : ℕ) (new : X) → s < length xs → slice_get (slice_set xs s new) s ≡ Some new
set_same xs s new lt = slice_get-get_or (slice_set xs s new) s new (omega (arith, lt, length-set xs s new)) ∙ ap Some (get_or-set_same xs s new new lt)

set_other : {X : Type 0} (xs : List X) (s t : ℕ) (new x : X) → t ≢ s → slice_get xs t ≡ Some x → slice_get (slice_set xs s new) t ≡ Some x
set_other xs s t new x other there =
    let lt = slice_get_within xs t x there in
    slice_get-get_or (slice_set xs s new) t x (omega (arith, lt, length-set xs s new)) ∙ ap Some (get_or-set_other xs s t new x other ∙ get_or_from_slice_get xs t x x there)

-- and of one with one more
push_last : {X : Type 0} (xs : List X) (x : X) → slice_get (xs ++ x ∷ []) (length xs) ≡ Some x
push_last xs x = slice_get-get_or (xs ++ x ∷ []) (length xs) x (omega (arith, length-append xs (x ∷ []))) ∙ ap Some (get_or_push xs x x (length xs) refl)

push_before : {X : Type 0} (xs : List X) (new x : X) (i : ℕ) → slice_get xs i ≡ Some x → slice_get (xs ++ new ∷ []) i ≡ Some x
push_before xs new x i there =
    let lt = slice_get_within xs i x there in
    slice_get-get_or (xs ++ new ∷ []) i x (omega (arith, lt, length-append xs (new ∷ []))) ∙ ap Some (get_or_append_left xs (new ∷ []) x i lt ∙ get_or_from_slice_get xs i x x there)

-- a slot gets another cell
module _ (cells : List Cell) (s : ℕ) (old new : Cell) (there : slice_get cells s ≡ Some old) where
  abbrev cells' : List Cell
  cells' = slice_set cells s new

  low : s < length cells
  low = slice_get_within cells s old there

  pub counted : (p : Cell → Bool) → count_by p cells' + cond (p old) 1 0 ≡ count_by p cells + cond (p new) 1 0
  counted p = subst (λ (c : Cell). count_by p cells' + cond (p c) 1 0 ≡ count_by p cells + cond (p new) 1 0) (get_or_from_slice_get cells s old no_cell there) (sum_by-set (λ (c : Cell). cond (p c) 1 0) cells s new no_cell low)

  module _ (slots : List ℕ) (listed : AreUnsynced cells slots) where
    -- whose last write is durable, or not, as the one before
    kept : is_covered new.stage ≡ is_covered old.stage → AreUnsynced cells' slots
    kept same = record {
      each = λ i t at.
          let is = listed.each i t at in
          ⊎_elim
          (λ here. (new, ap (slice_get cells') here ∙ set_same cells s new low, same ∙ ap (λ (c : Cell). is_covered c.stage) (same_Some old is.0 (sym there ∙ ap (slice_get cells) (sym here) ∙ is.1)) ∙ is.2))
          (λ other. (is.0, set_other cells s t new is.0 other is.1, is.2))
          (cases_eq t s);
      all = λ t cell at loose. ⊎_elim
          (λ here.
          let found = listed.all s old there (sym same ∙ sym (ap (λ (c : Cell). is_covered c.stage) here.1) ∙ loose) in
          (found.0, found.1 ∙ ap Some (sym here.0)))
          (λ other. listed.all t cell other.1 loose)
          (set_cases cells s t new cell at);
      once =
          let by = counted is_uncovered in
          let even : ◌≡◌ {A = ℕ} (cond (is_uncovered new) 1 0) (cond (is_uncovered old) 1 0) = ap (λ (b : Bool). cond (not b) 1 0) same in
          omega (arith, by, even, listed.once);
    }

    -- whose last write isn't durable, as the one before was
    module _ (was : is_covered old.stage ≡ true) (is : is_covered new.stage ≡ false) where
      one_more : length slots + 1 ≡ count_by is_uncovered cells'
      one_more = grind (arith, counted)

      pub has_room : length slots < length cells
      has_room = omega (arith, one_more, count_by-le-length is_uncovered cells', length-set cells s new)

      pushed : AreUnsynced cells' (slots ++ s ∷ [])
      pushed = record {
        each = λ i t at. ⊎_elim
            (λ last. (new, ap (slice_get cells') last.1 ∙ set_same cells s new low, is))
            (λ before.
            let found = listed.each i t before in
            ⊎_elim
            (λ here. absurd (true≢false (sym was ∙ ap (λ (c : Cell). is_covered c.stage) (same_Some old found.0 (sym there ∙ ap (slice_get cells) (sym here) ∙ found.1)) ∙ found.2)))
            (λ other. (found.0, set_other cells s t new found.0 other found.1, found.2))
            (cases_eq t s))
            (push_cases slots s t i at);
        all = λ t cell at loose. ⊎_elim
            (λ here. (length slots, push_last slots s ∙ ap Some (sym here.0)))
            (λ other. let found = listed.all t cell other.1 loose in (found.0, push_before slots s t found.0 found.1))
            (set_cases cells s t new cell at);
        once = length-append slots (s ∷ []) ∙ one_more;
      }

    relisted : (b b' : Bool) → is_covered old.stage ≡ b → is_covered new.stage ≡ b' → (b ≡ false → b' ≡ false) → AreUnsynced cells' (if b && not b' then slots ++ s ∷ [] else slots)
    relisted true true was is stays = kept (is ∙ sym was)
    relisted true false was is stays = pushed was is
    relisted false true was is stays = absurd (true≢false (stays refl))
    relisted false false was is stays = kept (is ∙ sym was)

    room_for : (b b' : Bool) → is_covered old.stage ≡ b → is_covered new.stage ≡ b' → (b && not b') ≡ true → length slots < length cells
    room_for true false was is listed_then = has_room was is
    room_for true true was is listed_then = absurd (true≢false (sym listed_then))
    room_for false b' was is listed_then = absurd (true≢false (sym listed_then))

  -- there is room for it
  pub finds_room : (slots : List ℕ) (room opened : ℕ) → IsTable cells slots room opened → is_listed_then old.stage new.stage ≡ true → length slots < room
  finds_room slots room opened table comes = omega (arith, table.room, room_for slots table.listed (is_covered old.stage) (is_covered new.stage) refl refl comes)

  -- so the table is whole
  pub table_turned : (slots slots' : List ℕ) (room room' opened opened' : ℕ) → IsTable cells slots room opened → (is_covered old.stage ≡ false → is_covered new.stage ≡ false)
      → slots' ≡ (if is_listed_then old.stage new.stage then slots ++ s ∷ [] else slots) → room' ≡ room
      → opened' + cond (is_open old.stage) 1 0 ≡ opened + cond (is_open new.stage) 1 0 → IsTable cells' slots' room' opened'
  table_turned slots slots' room room' opened opened' table stays items capacity turned = grind (arith, length-set, relisted, counted)

-- an open slot counts
pub open_counts : (cells : List Cell) (s : ℕ) (cell : Cell) → slice_get cells s ≡ Some cell → is_open cell.stage ≡ true → 1 ≤ open_count cells
open_counts cells s cell there opened =
    let by = counted cells s cell no_cell there (λ (c : Cell). is_open c.stage) in
    let one : ◌≡◌ {A = ℕ} (cond (is_open cell.stage) 1 0) 1 = ap (λ (b : Bool). cond b 1 0) opened in
    omega (arith, by, one)

-- the stages at which a key may be put, and those to which it comes, aren't open, and none of them is covered that wasn't
pub put_stays : (format : Format) (stage : Stage) → IsFree stage → is_covered stage ≡ false → is_covered (stage_put format stage) ≡ false
put_stays One KeyLoose free loose = refl
put_stays _ KeyLoose free loose = refl
put_stays format Closed free loose = absurd (true≢false loose)
put_stays format Torn free loose = absurd (true≢false loose)
put_stays format Keyed free loose = absurd (true≢false loose)
put_stays format _ free loose = absurd free

pub put_shut : (format : Format) (stage : Stage) → is_open (stage_put format stage) ≡ false
put_shut Four Closed = refl
put_shut _ _ = refl

pub free_shut : (stage : Stage) → IsFree stage → is_open stage ≡ false
free_shut Opening free = absurd free
free_shut Open free = absurd free
free_shut Closing free = absurd free
free_shut _ free = refl

-- lists with the same elements
same_cells : (xs ys : List Cell) → length xs ≡ length ys → ((s : ℕ) (c : Cell) → slice_get ys s ≡ Some c → slice_get xs s ≡ Some c) → xs ≡ ys
same_cells [] [] size same = refl
same_cells [] (y ∷ ys) size same = absurd (omega (arith, size))
same_cells (x ∷ xs) [] size same = absurd (omega (arith, size))
same_cells (x ∷ xs) (y ∷ ys) size same =
    let first : x ≡ y = same_Some x y (same 0 y refl) in
    let rest = same_cells xs ys (omega (arith, size)) (λ s. same (suc s)) in
    (λ i. first i ∷ rest i)

module _ (before : List Cell) where
  -- one slot more
  pub moved_more : (after : List Cell) (slots : List ℕ) (s : ℕ) (c : Cell) → AreMoved before after slots → slice_get after s ≡ Some c → AreMoved before (slice_set after s (cell_synced c)) (slots ++ s ∷ [])
  moved_more after slots s c moved there = record {
    size = length-set after s (cell_synced c) ∙ moved.size;
    each = λ t cell at. ⊎_elim
        (λ here. inr (subst (λ (q : ℕ). slice_get after' q ≡ Some (cell_synced cell)) (sym here) (at_slot cell (ap (slice_get before) (sym here) ∙ at))))
        (λ other. ⊎_elim (λ same. inl (set_other after s t (cell_synced c) cell other same)) (λ on. inr (set_other after s t (cell_synced c) (cell_synced cell) other on)) (moved.each t cell at))
        (cases_eq t s);
    moved = λ i t cell listed at. ⊎_elim
        (λ here. subst (λ (q : ℕ). slice_get after' q ≡ Some (cell_synced cell)) (sym here) (at_slot cell (ap (slice_get before) (sym here) ∙ at)))
        (λ other. ⊎_elim
        (λ last. absurd (other last.1))
        (λ earlier. set_other after s t (cell_synced c) (cell_synced cell) other (moved.moved i t cell earlier at))
        (push_cases slots s t i listed))
        (cases_eq t s);
  }
    where
      after' : List Cell
      after' = slice_set after s (cell_synced c)

      at_slot : (cell : Cell) → slice_get before s ≡ Some cell → slice_get after' s ≡ Some (cell_synced cell)
      at_slot cell at = grind (arith, set_same, slice_get_within, same_Some, synced_again)

  -- once all that are listed moved on, all did
  pub moved_all : (after : List Cell) (slots : List ℕ) → AreUnsynced before slots → AreMoved before after slots → after ≡ map cell_synced before
  moved_all after slots listed moved = same_cells after (map cell_synced before) (moved.size ∙ sym (length-map before cell_synced)) (λ s c there.
      let was = from_map before s c there in
      let on : slice_get after s ≡ Some (cell_synced was.0) = ⊎_elim (λ same. same ∙ ap Some (covered_or s was.0 was.1 (is_covered was.0.stage) refl same)) (λ on. on) (moved.each s was.0 was.1) in
      on ∙ ap Some (sym was.2))
    where
      covered_or : (s : ℕ) (cell : Cell) → slice_get before s ≡ Some cell → (b : Bool) → is_covered cell.stage ≡ b → slice_get after s ≡ Some cell → cell ≡ cell_synced cell
      covered_or s cell there true covered same = ap (λ (st : Stage). record { stage = st; key = cell.key }) (sym (covered_stays cell.stage covered))
      covered_or s cell there false loose same =
          let found = listed.all s cell there loose in
          same_Some cell (cell_synced cell) (sym same ∙ moved.moved found.0 s cell found.1 there)

  pub table_synced : (slots : List ℕ) (room opened opened' : ℕ) → IsTable before slots room opened → opened' ≡ open_count (map cell_synced before) → IsTable (map cell_synced before) [] room opened'
  table_synced slots room opened opened' table is = record {
    few = omega (arith, table.few, length-map before cell_synced);
    room = omega (arith, table.room, length-map before cell_synced);
    listed = all_covered (map cell_synced before) (λ s cell there.
        let was = from_map before s cell there in
        ap (λ (c : Cell). is_covered c.stage) was.2 ∙ synced_covered was.0.stage);
    opened = is;
  }
