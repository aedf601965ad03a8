-- Worked rows of holds that must not be, for each part of what a hold says of moments.
use Rattle.std.proofs.Common.{◌≡◌, ◌⊎◌, ◌≤◌, ⊎_elim, ℕ, List, [], ◌∷◌, Some, None, ◌∙◌, arith, IsTrue}
use mathlib.Core.Bool.{false≢true}
use Rattle.lz_refinement.proofs.Vocabulary.{Holds, Device, IsImage, note_by, stamped}
use Rattle.lz_refinement.proofs.MomentRows.{board, settled_adding, added, later, S0, not_back, not_unlinked, has_answered, not_left_out}
use Rattle.lz_refinement.specs.{Moments.{no_device, MomentsGoOn, HoldExplains}, RunningSets.{Explains}}
use Rattle.lz_list.specs.declared.publishing.Publishing.TheVariants.{Linked as linked}
use Rattle.lz_machine.{specs.declared.event.{Event.TheVariants.{Link, Answer}, Outcome.TheVariants.{Done}}, proofs.Open.FirstPoint.{one_set}}
use Rattle.lz_board.specs.declared.view.What.TheVariants.{Played}

-- A hold forgets no notes: those after it show all that those before it did, and their trace goes on.
hold_forgets : HoldExplains board later added no_device no_device → ⊥
hold_forgets h = not_back h.grows

hold_unlinks : HoldExplains board (note_by 1 (Played Link Done) (Some (linked 12 0 1)) ∷ []) [] no_device no_device → ⊥
hold_unlinks h = not_unlinked h.grows

-- an honest device stays honest, and its time doesn't go back
hold_breaks_device : (disk : Device) → IsTrue disk.honest → HoldExplains board added added disk no_device → ⊥
hold_breaks_device disk honest h = false≢true (h.honest ∙ honest)

hold_goes_back : (old new : Device) → IsTrue old.honest → old.moment ≡ 5 → new.moment ≡ 4 → HoldExplains board added added old new → ⊥
hold_goes_back old new honest was now h = let later = (h.leaves honest).later in absurd (omega (arith, later, was, now))

-- what is left in it explains the notes before it or those after it: here 12 is settled in both
neither : (t : List ℕ) → Explains board settled_adding t ⊎ Explains board added t → Holds t 1 S0 → ⊥
neither t either empty =
    ⊎_elim (λ e. not_left_out t e empty) (λ e. false≢true (one_set t 1 S0 e.found empty e.holds 12 ∙ has_answered e.calls e.found e.fits)) either

hold_loses : (old new : Device) → IsTrue old.honest → (t : List ℕ) → new.left_since old.moment t → Holds t 1 S0 → HoldExplains board settled_adding added old new → ⊥
hold_loses old new honest t left empty h = neither t ((h.leaves honest).each t left) empty

-- and so does what wasn't left since some earlier moment, but is after it
hold_loses_since : (old new : Device) → IsTrue old.honest → (m : ℕ) (t : List ℕ) → m ≤ old.moment → (old.left_since m t → ⊥) → new.left_since m t → Holds t 1 S0
    → HoldExplains board settled_adding added old new → ⊥
hold_loses_since old new honest m t earlier not_before left empty h =
    ⊎_elim (λ before. not_before before) (λ e. neither t e empty) ((h.leaves honest).before m t earlier left)

-- Moments go on in the same way. Each text that is left is an image of the disk before the hold or after it.
moments_forget : MomentsGoOn board later added no_device no_device → ⊥
moments_forget h = not_back h.grows

moments_break_device : (disk : Device) → IsTrue disk.honest → MomentsGoOn board added added disk no_device → ⊥
moments_break_device disk honest h = false≢true (h.honest ∙ honest)

moments_leave_other : (old new : Device) → IsTrue old.honest → (t : List ℕ) → new.left_since old.moment t → (IsImage old.medium t → ⊥) → (IsImage new.medium t → ⊥)
    → MomentsGoOn board added added old new → ⊥
moments_leave_other old new honest t left not_old not_new h = ⊎_elim not_old not_new ((h.time honest).each t left)

-- and a reply that is noted in it doesn't have a moment that is still to come
moments_note_too_late : (old new : Device) → IsTrue new.honest → new.moment ≡ 4
    → MomentsGoOn board [] (stamped 5 (note_by 1 (Played Answer Done) None) ∷ []) old new → ⊥
moments_note_too_late old new honest now h = let come = ((h.stays tt).0 tt honest).0 in absurd (omega (arith, come, now))
