-- Worked rows of glances that must not hold, for each part of what a glance promises.
use Rattle.std.proofs.{Common.{◌≡◌, ⊎_elim, [], ◌∷◌, Ok, Err, sym, ap, ◌∙◌, arith}, lemmas.List.{append-nil}}
use mathlib.Core.Bool.{false≢true}
use Rattle.lz_list.specs.declared.publishing.Change.TheVariants.{Added as as_added}
use Rattle.lz_list.specs.declared.{publishing.Publishing.TheVariants.{Linked as linked, Settled as settled, Halted as halted}, layout.Sizes.{Sizes}}
use Rattle.lz_list.specs.Traces.{Trace, Begins, linking, linking_in, member}
use Rattle.lz_board.specs.declared.answer.{Glance.{Glance, TheVariants.{Yes, No, Unsettled}}, GlanceFault.TheVariants.{Halted, Worn, BusyPass}}
use Rattle.lz_board.specs.{declared.view.Part.{Part}, Glances.{Glances, Turns}, Plays.{fresh}}

abbrev pub sizes : Sizes
sizes = record { slots = 2; buckets = 1; passes = 2 }

-- pass 1, outside and with no step, that has seen this
abbrev pub seeing : Trace → Part
seeing P = fresh sizes P 1

-- pass 2 linked 12 in slot 0; then that was settled
abbrev pub E1 : Trace
E1 = linked 12 0 2 ∷ []

abbrev pub E2 : Trace
E2 = settled 0 as_added ∷ E1

-- E2 is no beginning of what is shorter
not_shorter : Begins E2 E1 → ⊥
not_shorter = ⊎_elim (λ (is : E2 ≡ E1). absurd cc) (λ (is : E2 ≡ []). absurd cc)

not_empty : Begins E2 [] → ⊥
not_empty is = absurd cc

-- so what is seen from E2 to E2 is E2
pub only_E2 : (P : Trace) → Begins E2 P → Begins P E2 → P ≡ E2
only_E2 P from upto = grind (arith, not_shorter, not_empty)

-- no yes to a key that was no member, or whose linking isn't settled
not_yes_of_none : Glances 12 (Ok Yes) (seeing []) (seeing []) → ⊥
not_yes_of_none h = false≢true (sym (ap (member 12) h.0.between.upto) ∙ h.0.settled.member)

not_yes_yet : Glances 12 (Ok Yes) (seeing []) (seeing E1) → ⊥
not_yes_yet h = grind arith

-- no No to a member
not_no_of_member : Glances 12 (Ok No) (seeing E2) (seeing E2) → ⊥
not_no_of_member h = false≢true (sym h.0.settled.no_member ∙ ap (member 12) (only_E2 h.0.then h.0.between.from h.0.between.upto))

-- what is unsettled is a change of the key that was asked for, in its slot, and isn't settled
unsettled_of_another_key : Glances 9 (Ok (Unsettled 0)) (seeing []) (seeing E1) → ⊥
unsettled_of_another_key h = ⊎_elim (λ is. none (ap (linking 9) is)) (λ is. none (ap (linking 9) is)) h.0.between.upto
  where
    none : linking 9 h.0.then ≡ 0 → ⊥
    none zero_is = let some = h.0.some in absurd (omega (arith, zero_is, some))

unsettled_in_another_slot : Glances 12 (Ok (Unsettled 1)) (seeing []) (seeing E1) → ⊥
unsettled_in_another_slot h = ⊎_elim (λ is. none (ap (linking_in 1) is)) (λ is. none (ap (linking_in 1) is)) h.0.between.upto
  where
    none : linking_in 1 h.0.then ≡ 0 → ⊥
    none zero_is = let some = h.0.some in let same = h.0.in_slot in absurd (omega (arith, zero_is, some, same))

unsettled_once_settled : Glances 12 (Ok (Unsettled 0)) (seeing E2) (seeing E2) → ⊥
unsettled_once_settled h = grind (arith, only_E2)

-- its pass changes nothing
glance_links : Glances 9 (Ok No) (seeing []) (seeing (linked 12 0 1 ∷ [])) → ⊥
glance_links h = grind (arith, append-nil)

-- once its pass has seen the halt it tells nothing of a key, and of a halt only then
glance_halted_before : (told : Glance) → Glances 9 (Ok told) (seeing (halted ∷ [])) (seeing (halted ∷ [])) → ⊥
glance_halted_before Yes h = let says = h.2 in absurd (omega (arith, says))
glance_halted_before No h = let says = h.2 in absurd (omega (arith, says))
glance_halted_before (Unsettled s) h = let says = h.2 in absurd (omega (arith, says))

not_halted_yet : Glances 9 (Err Halted) (seeing E1) (seeing E1) → ⊥
not_halted_yet h = let says = h.0 in absurd (omega (arith, says))

-- it is worn only at the last pin, and busy only inside
not_worn_yet : Glances 9 (Err Worn) (seeing []) (seeing []) → ⊥
not_worn_yet h = let says = h.0 in absurd (omega (arith, says))

not_busy_outside : Glances 9 (Err BusyPass) (seeing []) (seeing []) → ⊥
not_busy_outside h = let says = h.0 in absurd (omega (arith, says))

-- a glance that told something went inside and out
not_turned : Turns (Ok No) (seeing []) (seeing []) → ⊥
not_turned says = absurd (omega (arith, says))
