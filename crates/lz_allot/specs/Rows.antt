-- What is known of each pass by the queue of the slots in limbo, which stand in the order of their retirement.
use Rattle.std.specs.Prelude.{ℕ, ◌-◌, ◌==◌, if◌then◌else◌, min, List, [], ◌∷◌, map, fold}
use Rattle.lz_slot.specs.Counted.{of_pass, set_of_pass}
use Rattle.lz_allot.specs.{declared.row.Row.{Row}, Uses.{is_outside}}

-- the row of a pass of which nothing was seen
abbrev pub first_row : Row
first_row = record { last = 0; met = 0; left = 0 }

-- The row of a pass after its pin was seen with this value, while so many slots were in limbo: an even value leaves all
-- of them, another value than the last one leaves those that were met, and all of them are met.
abbrev pub row_seen : ℕ → ℕ → Row → Row
row_seen pin queued row =
    record {
      last = pin;
      met = queued;
      left = if is_outside pin then queued else if pin == row.last then row.left else row.met;
    }

-- the rows after the pin of a pass was seen
abbrev pub rows_seen : ℕ → ℕ → ℕ → List Row → List Row
rows_seen pass pin queued rows = set_of_pass rows pass (row_seen pin queued (of_pass rows pass first_row))

-- how many of the first slots every pass has left
abbrev pub least_left : List Row → ℕ
least_left [] = 0
least_left (row ∷ rows) = fold (λ least r. min least r.left) row.left rows

-- the row of a pass after so many slots left the queue at its front
abbrev pub row_freed : ℕ → Row → Row
row_freed freed row = record { last = row.last; met = row.met - freed; left = row.left - freed }

-- and those of all passes
abbrev pub rows_freed : ℕ → List Row → List Row
rows_freed freed rows = map (row_freed freed) rows
