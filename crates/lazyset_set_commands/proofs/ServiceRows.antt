-- Worked rows: how no service of a set ends whose passes were served.
use Rattle.std.{proofs.Common.{◌≡◌, ⊎_elim, All, ℕ, zero, suc, ◌<◌, false, List, [], ◌∷◌, length, refl, sym, ◌∙◌, subst, lit≤, lit<, arith}, specs.List.{Any}}
use Rattle.lz_slot.specs.declared.{command.Command.TheVariants.{Add, Has}, history.{Cut.{Cut as WhyCut}, HistoryEvent.TheVariants.{Call, Answer, Cut}}}
use Rattle.lz_disk.specs.Devices.{Device}
use Rattle.lz_vault.specs.Vaults.{last_sync}
use Rattle.lz_board.specs.{declared.view.{Note.{Note}, Part.{Part}}, Notes.{shape_of_sizes}, Seats.{BoardId}}
use Rattle.lz_refinement.specs.Marks.{NoneIsCut, marks_in}
use Rattle.lazyset_file_commands.specs.declared.status.Status.{Status, TheVariants.{Done, Failed, CommandLine, Refused, Damaged}}
use Rattle.lazyset_set_commands.specs.Services.{AreAllPasses, AreUnused, ServedPasses}

-- where each of the parts is that of one pass, another isn't among them
missing : (k other : ℕ) (parts : List Part) → All (λ (h : Part). h.number ≡ other) parts → ¬ (k ≡ other) → Any (λ (h : Part). h.number ≡ k) parts → ⊥
missing k other parts each unlike (i, h, low, at, is) = unlike (sym is ∙ subst (λ (p : Part). p.number ≡ other) at (each i h low))

module _ (b : BoardId) (first disk : Device) (two : b.sizes.passes ≡ 2) where
  -- two passes end, not one or three
  one_is_lost : (status : Status) (h : ServedPasses b first status disk) → length h.ended ≡ 1 → ⊥
  one_is_lost status h one = let count = h.count in omega (arith, count, one, two)

  one_too_many : (status : Status) (h : ServedPasses b first status disk) → length h.ended ≡ 3 → ⊥
  one_too_many status h three = let count = h.count in omega (arith, count, three, two)

  -- it isn't done where both that ended are the first pass, or both the second
  second_is_missing : (h : ServedPasses b first Done disk) → All (λ (p : Part). p.number ≡ 1) h.ended → ⊥
  second_is_missing h each = missing 2 1 h.ended each (λ is. omega (arith, is)) ((h.whole refl).0 2 (lit≤ tt) (omega (arith, two)))

  first_is_missing : (h : ServedPasses b first Done disk) → All (λ (p : Part). p.number ≡ 2) h.ended → ⊥
  first_is_missing h each = missing 1 2 h.ended each (λ is. omega (arith, is)) ((h.whole refl).0 1 (lit≤ tt) (omega (arith, two)))

  -- nor where a call was cut off, by the halt or since the device failed in it, though others were answered
  call_is_cut : (why : WhyCut) (h : ServedPasses b first Done disk) → marks_in (shape_of_sizes b.sizes) h.left.notes ≡ Answer 2 false ∷ Cut 1 why ∷ Call 2 2 (Has 9) ∷ Call 1 1 (Add 12) ∷ [] → ⊥
  call_is_cut why h is = subst NoneIsCut is (h.whole refl).1

  -- it hasn't failed where both passes are there, one of them has made a call, the device has a sync left and didn't fail
  fails_for_nothing : (h : ServedPasses b first Failed disk) (one other : Part) (step : Note) → h.ended ≡ one ∷ other ∷ [] → one.number ≡ 1 → other.number ≡ 2 → other.steps ≡ step ∷ []
      → h.left.left.yard.vault.syncs < last_sync → disk.faults ≡ first.faults → ⊥
  fails_for_nothing h one other step ended first_one second some early same =
      ⊎_elim
      (λ lacks. lacks (subst (AreAllPasses b) (sym ended) both))
      (⊎_elim (λ unused. used (subst AreUnused ended unused)) (⊎_elim (λ late. omega (arith, late, early)) (λ failed. omega (arith, failed, same))))
      (h.failed refl)
    where
      both : AreAllPasses b (one ∷ other ∷ [])
      both zero low high = absurd (omega (arith, low))
      both (suc zero) low high = (0, one, lit< tt, refl, first_one)
      both (suc (suc zero)) low high = (1, other, lit< tt, refl, second)
      both (suc (suc (suc k))) low high = absurd (omega (arith, high, two))

      used : AreUnused (one ∷ other ∷ []) → ⊥
      used unused = let is : other.steps ≡ [] = unused 1 other (lit< tt) in absurd cc

-- it ends with no other status
module _ (b : BoardId) (first disk : Device) where
  ends_refused : ServedPasses b first Refused disk → ⊥
  ends_refused h = ⊎_elim (λ is. absurd cc) (λ is. absurd cc) h.other

  ends_damaged : ServedPasses b first Damaged disk → ⊥
  ends_damaged h = ⊎_elim (λ is. absurd cc) (λ is. absurd cc) h.other

  ends_misread : ServedPasses b first CommandLine disk → ⊥
  ends_misread h = ⊎_elim (λ is. absurd cc) (λ is. absurd cc) h.other
