-- A key that is put into a closed slot of a file of format 4.
use Rattle.std.proofs.{Common.{◌≡◌, ℕ, ◌<◌, ◌∙◌, true, List, length, Some, refl, sym, ap, subst, arith, get_or, slice_get, slice_set, length-set}, lemmas.{Bool.{false≢true, Decides.{nat_tests}}, List.{get_or-set_same}, Option.{slice_get-get_or}}}
use Rattle.lz_slot.specs.declared.format.Format.{Format, TheVariants.{Four}}
use Rattle.lz_vault.specs.{Stages.{Cell, IsAt, IsFree, is_closed, stage_put}, declared.vault.Stage.{Stage, TheVariants.{Closed, Keyed}}}

closed_is : (stage : Stage) → is_closed stage ≡ true → stage ≡ Closed
closed_is stage is = grind (arith, nat_tests, false≢true)

module _ (cells : List Cell) (slot : ℕ) (within : slot < length cells) (stage : Stage) (closed : is_closed stage ≡ true) (stage_is : (cell : Cell) → slice_get cells slot ≡ Some cell → stage ≡ cell.stage) where
  abbrev cell : Cell
  cell = get_or cells slot (record { stage = Closed; key = 0 })

  there : slice_get cells slot ≡ Some cell
  there = slice_get-get_or cells slot (record { stage = Closed; key = 0 }) within

  cell_closed : cell.stage ≡ Closed
  cell_closed = sym (stage_is cell there) ∙ closed_is stage closed

  pub is_free : IsAt cells slot (λ cell. IsFree cell.stage)
  is_free = (cell, there, subst IsFree (sym cell_closed) tt)

  module _ (format : Format) (four : format ≡ Four) (key : ℕ) (after : List Cell)
      (put_into : (cell : Cell) → slice_get cells slot ≡ Some cell → after ≡ slice_set cells slot (record { stage = stage_put format cell.stage; key = key })) where
    abbrev put : Cell
    put = record { stage = stage_put format cell.stage; key = key }

    put_there : slice_get (slice_set cells slot put) slot ≡ Some put
    put_there = slice_get-get_or (slice_set cells slot put) slot put (omega (arith, within, length-set cells slot put)) ∙ ap Some (get_or-set_same cells slot put put within)

    put_keyed : stage_put format cell.stage ≡ Keyed
    put_keyed = ap (λ (f : Format). stage_put f cell.stage) four ∙ ap (stage_put Four) cell_closed

    pub is_keyed : IsAt after slot (λ cell. (cell.stage ≡ Keyed) × (cell.key ≡ key))
    is_keyed = (put, ap (λ (l : List Cell). slice_get l slot) (put_into cell there) ∙ put_there, (put_keyed, refl))
