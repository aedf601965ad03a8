-- Worked rows of what a pass's calls were told, computed on small cases.
use Rattle.std.proofs.{Common.{◌≡◌, true, false, List, [], ◌∷◌, Some, None, refl, arith}, lemmas.List.Elements.{All-from_recursion}}
use mathlib.Core.Bool.{true≢false}
use Rattle.lz_slot.specs.declared.{command.Command.TheVariants.{Add, Has}, format.Format.TheVariants.{Two}}
use Rattle.lz_list.specs.{declared.{word.Word.TheVariants.{Head, Link, Key, Halt}, layout.Sizes.{Sizes}}, Traces.{opening}}
use Rattle.lz_machine.specs.declared.event.{Event.TheVariants.{Pin, Answer}, Outcome.TheVariants.{Done}, Reply.TheVariants.{Yes, Halted, Device}}
use Rattle.lz_board.specs.{declared.view.{Note.{Note}, Part.{Part}, What.TheVariants.{Called, Played}}, Notes.{note_by, load_note, shape_of_sizes}}
use Rattle.lz_board.specs.Plays.{fresh}
use Rattle.lz_refinement.specs.OwnCalls.{told}
use Rattle.lz_serve.specs.Halts.{IsCalm, was_cut}

abbrev sizes : Sizes
sizes = record { slots = 2; buckets = 1; passes = 1 }

-- pass 1 after these steps
abbrev pass_after : List Note → Part
pass_after steps = record { sizes = sizes; number = 1; pin = 2; begun = opening 1 ((9, 0) ∷ []); known = opening 1 ((9, 0) ∷ []); steps = steps; base = 4; loads = [] }

-- a `has` that walks over the one member
abbrev answered : List Note
answered =
    note_by 1 (Played Answer Done) None
    ∷ load_note 1 (record { word = Link 0; value = 8589934592; at = 4 }) ∷ load_note 1 (record { word = Key 0; value = 9; at = 4 })
    ∷ load_note 1 (record { word = Head 0; value = 1; at = 4 }) ∷ load_note 1 (record { word = Halt; value = 0; at = 4 })
    ∷ note_by 1 (Played Pin Done) None ∷ note_by 1 (Called (Has 9) Two) None ∷ []

-- one that finds that the set is halted
abbrev halted : List Note
halted =
    note_by 1 (Played Answer Done) None ∷ load_note 1 (record { word = Halt; value = 1; at = 4 })
    ∷ note_by 1 (Played Pin Done) None ∷ note_by 1 (Called (Has 9) Two) None ∷ []

told_yes : told (shape_of_sizes sizes) answered ≡ (Has 9, Some Yes) ∷ []
told_yes = refl

told_halted : told (shape_of_sizes sizes) halted ≡ (Has 9, Some Halted) ∷ []
told_halted = refl

-- a pass that has made no call is calm
new_is_calm : IsCalm (fresh sizes (opening 1 []) 1)
new_is_calm = All-from_recursion (λ call. was_cut call.1 ≡ false) [] tt

-- so is one that was answered yes, and now makes a call that has no answer yet
going_is_calm : IsCalm (pass_after (note_by 1 (Called (Add 12) Two) None ∷ answered))
going_is_calm = All-from_recursion (λ call. was_cut call.1 ≡ false) ((Add 12, None) ∷ (Has 9, Some Yes) ∷ []) (refl, (refl, tt))

-- one that was answered that the set is halted isn't, nor does a later call make it so
halted_is_not : IsCalm (pass_after halted) → ⊥
halted_is_not calm = true≢false (calm 0 (Has 9, None) (omega arith))

later_is_not : IsCalm (pass_after (note_by 1 (Called (Add 12) Two) None ∷ halted)) → ⊥
later_is_not calm = true≢false (calm 1 (Has 9, None) (omega arith))

-- the device's failure is told as well as the halt
device_cuts : was_cut (Some Device) ≡ true
device_cuts = refl

-- a call that waits isn't cut off yet
none_is_not : was_cut None ≡ false
none_is_not = refl
