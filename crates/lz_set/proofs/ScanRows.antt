-- Worked rows of scans: one that holds, and what is none, and what none tells.
use Rattle.std.proofs.Common.{inl, None, Some, [], ◌∷◌, refl, sym, subst, arith}
use Rattle.lz_list.specs.Traces.{Trace, SettledYes}
use Rattle.lz_board.{specs.Glances.{Between}, proofs.{GlanceRows.{E2, only_E2}, ListRows.{both_slots}}}
use Rattle.lz_set.specs.Scans.{Told, Scans, TellsMembers}

-- after E2 the one member is 12, in slot 0 of two: one page of both slots
abbrev whole : Told
whole = record { most = 9; keys = 12 ∷ []; next = None; before = E2; after = E2 }

one_page : Scans 2 (Some 0) E2 (whole ∷ []) E2
one_page = (record { from_P = inl refl; goes_on = inl refl; upto_Q = inl refl; page = both_slots }, tt)

-- a scan comes to the end, and no further
abbrev first : Told
first = record { most = 1; keys = 12 ∷ []; next = Some 1; before = E2; after = E2 }

breaks_off : Scans 2 (Some 0) E2 (first ∷ []) E2 → ⊥
breaks_off scans = scans.1

goes_past : Scans 2 (Some 0) E2 (whole ∷ whole ∷ []) E2 → ⊥
goes_past scans = scans.1

no_page : Scans 2 (Some 0) E2 [] E2 → ⊥
no_page scans = scans

-- and each page is by a pass that had seen what is said of
abbrev early : Told
early = record { most = 9; keys = 12 ∷ []; next = None; before = []; after = E2 }

seen_too_little : Scans 2 (Some 0) E2 (early ∷ []) E2 → ⊥
seen_too_little scans = let is = scans.0.from_P in absurd cc

-- it leaves out no member, and tells none that never was one
member_throughout : (R : Trace) → Between E2 R E2 → SettledYes R R 12
member_throughout R b = subst (λ P. SettledYes P P 12) (sym (only_E2 R b.from b.upto)) (record { begins = inl refl; member = refl; settled = refl })

left_out : TellsMembers [] E2 E2 → ⊥
left_out tells = let low = (tells.all 12 (omega arith) member_throughout).1 in absurd (omega (arith, low))

never_was : TellsMembers (12 ∷ 9 ∷ []) E2 E2 → ⊥
never_was tells = grind (arith, only_E2)
