-- What the sights of the slots in limbo become when a pin is seen, and when the first slots leave the queue.
use Rattle.std.proofs.Common.{◌≡◌, ℕ, ◌-◌, ◌<◌, ◌≤◌, List, length, get_or, set, replicate, refl, sym, ◌∙◌, arith, length-set, get_or-set_same, get_or-set_other}
use Rattle.std.proofs.lemmas.{List.{ext_get_or, get_or-map, get_or-replicate, length-map, length-replicate, map-set}, Bool.{lt-ltb, le-ltb}}
use Rattle.lz_slot.specs.Counted.{of_pass, set_of_pass}
use Rattle.lz_allot.specs.{declared.{kind.Kind.{Kind}, row.Row.{Row}, sight.Sight.TheVariants.{Unseen, Left}}, Rows.{first_row, row_seen, rows_seen}}
use Rattle.lz_allot.{specs.{Uses.{Use, sight_after, see_pin}, Allots.{IsQueue, IsRow, sight_at, sights_at, uses_told}}, proofs.ToldUses.{Shows, told_is}}

-- The three sights of a row.
pub at_left : (i : ℕ) (row : Row) → i < row.left → sight_at i row ≡ Left
at_left i row less = rw (lt-ltb i row.left less) refl

pub at_unseen : (i : ℕ) (row : Row) → row.left ≤ i → row.met ≤ i → sight_at i row ≡ Unseen
at_unseen i row past beyond = rw (le-ltb i row.left past, le-ltb i row.met beyond) refl

-- the rows and the sights after the pin of a pass was seen
module _ (pin queued : ℕ) (rows : List Row) (each : (p : ℕ) → p < length rows → IsRow queued (get_or rows p first_row)) where
  pub rows_are_seen : (pass : ℕ) → pass ≤ length rows → (p : ℕ) → p < length (rows_seen pass pin queued rows) → IsRow queued (get_or (rows_seen pass pin queued rows) p first_row)
  rows_are_seen pass within p lt = grind (arith, get_or-set_same, get_or-set_other, length-set)

  pub sights_seen : (pass : ℕ) → pass ≤ length rows → (i : ℕ) → i < queued → sights_at i (rows_seen pass pin queued rows) ≡ set_of_pass (sights_at i rows) pass (sight_after pin (of_pass (sights_at i rows) pass Left))
  sights_seen pass within i low = grind (arith, map-set, get_or-map)

  -- the uses after the pin of a pass was seen
  module _ (kinds : List Kind) (queue : List ℕ) (uses : List Use) (is : IsQueue kinds queue) (shows : Shows kinds queue rows uses) (count : queued ≡ length queue) where
    pub told_seen : (pass : ℕ) → pass ≤ length rows → uses_told kinds queue (rows_seen pass pin queued rows) ≡ see_pin pass pin uses
    told_seen pass within = grind (arith, told_is, length-map, get_or-map, sights_seen)

-- of a pass that has met no more than the queue a slot that comes last is unseen
pub sights_fresh : (rows : List Row) (queued : ℕ) → ((p : ℕ) → p < length rows → IsRow queued (get_or rows p first_row)) → sights_at queued rows ≡ replicate (length rows) Unseen
sights_fresh rows queued each =
    ext_get_or Left (sights_at queued rows) (replicate (length rows) Unseen) (length-map rows (sight_at queued) ∙ sym (length-replicate (length rows) Unseen))
    (λ p lt.
    let low : p < length rows = omega (arith, length-map rows (sight_at queued)) in
    let is = each p low in
    get_or-map (sight_at queued) rows p first_row Left low
    ∙ at_unseen queued (get_or rows p first_row) (omega (arith, is.left, is.met)) is.met
    ∙ sym (get_or-replicate (length rows) p Unseen Left low))

-- rows whose queue is longer
pub rows_longer : (rows : List Row) (queued more : ℕ) → queued ≤ more → ((p : ℕ) → p < length rows → IsRow queued (get_or rows p first_row)) → (p : ℕ) → p < length rows → IsRow more (get_or rows p first_row)
rows_longer rows queued more le each p low = let is = each p low in record { left = is.left; met = omega (arith, is.met); is_inside = is.is_inside }

-- the rows by the place of a pass, which is one below its number
pub rows_seen_is : (pass pin queued : ℕ) (rows : List Row) → 1 ≤ pass → rows_seen pass pin queued rows ≡ set rows (pass - 1) (row_seen pin queued (get_or rows (pass - 1) first_row))
rows_seen_is pass pin queued rows some = grind arith
