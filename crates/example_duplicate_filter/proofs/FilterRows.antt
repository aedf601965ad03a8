-- Worked rows: what a filter doesn't say of an event, here of key 12.
use Rattle.lz_board.specs.declared.answer.Glance.TheVariants as glance
use Rattle.lz_board.specs.declared.answer.GlanceFault.TheVariants as fault
use Rattle.lz_machine.specs.declared.event.Event.TheVariants as event
use Rattle.lz_machine.specs.declared.event.Outcome.TheVariants as found
use Rattle.std.proofs.Common.{◌≡◌, ⊎_elim, ℕ, Bool, true, false, List, [], ◌∷◌, ◌++◌, Result, Ok, Err, None, refl, sym, ap, ◌∙◌, subst, arith}
use Rattle.std.proofs.lemmas.List.{append-nil, same_from_push, Elements.{filter-append}}
use mathlib.Core.Bool.{true≢false}
use Rattle.lz_slot.specs.declared.{command.Command.{Command, TheVariants.{Add, Remove, Has}}, format.Format.TheVariants.{Two}}
use Rattle.lz_board.specs.declared.{answer.{Glance.{Glance}, GlanceFault.{GlanceFault}}, view.{Note.{Note}, Part.{Part}, What.TheVariants.{Called, Played}}}
use Rattle.lz_board.{specs.{Glances.{Changes, Glances}, Notes.{note_by, own}}, proofs.GlanceRows.{E1, E2, seeing}}
use Rattle.lz_set.specs.declared.fault.Fault.{Fault}
use Rattle.lz_refinement.{specs.Answers.{AreWithin, IsWithin}, proofs.Vocabulary.{Lawful, Publishing, Trace, member}}
use Rattle.example_duplicate_filter.specs.Filters.{Filters, WasAdded}

-- pass 2 linked 12 where it was a member already: that isn't new
known_is_new : (before after : Part) → after.known ≡ E1 ++ E2 → Filters Two 12 (Ok true) before after → ⊥
known_is_new before after again h =
    let sizes = h.middle.sizes in
    let lawful = subst (λ (P : Trace). Lawful sizes.buckets sizes.slots P) again h.adding.lawful in
    true≢false lawful.0.no_member

-- A glance changes nothing, so all that the pass has changed is that it linked the event.
module _ (k : ℕ) where
  unchanged : (told : Result Glance GlanceFault) (before after : Part) → Glances k told before after → Changes before.number before.known after.known []
  unchanged (Ok glance.Yes) before after h = h.1
  unchanged (Ok glance.No) before after h = h.1
  unchanged (Ok (glance.Unsettled s)) before after h = h.1
  unchanged (Err fault.Halted) before after h = h.1
  unchanged (Err fault.Worn) before after h = h.1
  unchanged (Err fault.BusyPass) before after h = record { since = []; goes_on = ap (λ (p : Part). p.known) h.1; own = refl }

  its_own : (before after : Part) → before.known ≡ [] → (h : Filters Two k (Ok true) before after) → own before.number after.known ≡ own h.middle.number h.adding.promises.changes.since
  its_own before after empty h =
      let seen = unchanged h.told before h.middle h.glance in
      let added = h.adding.promises.changes in
      let early = seen.goes_on ∙ ap (λ (P : Trace). seen.since ++ P) empty ∙ append-nil seen.since in
      let all = added.goes_on ∙ ap (λ (P : Trace). added.since ++ P) early in
      ap (own before.number) all ∙ filter-append _ added.since seen.since ∙ ap (λ (P : Trace). own before.number added.since ++ P) seen.own
      ∙ append-nil (own before.number added.since) ∙ ap (λ (p : ℕ). own p added.since) (sym h.no_call.number)

-- no event is new where nothing was linked, or another one
nothing_linked : (before after : Part) → before.known ≡ [] → after.known ≡ [] → Filters Two 12 (Ok true) before after → ⊥
nothing_linked before after empty none h = let is = ap (own before.number) (sym none) ∙ its_own 12 before after empty h ∙ h.adding.promises.changes.own in absurd cc

another_linked : (before after : Part) → before.known ≡ [] → before.number ≡ 2 → after.known ≡ E1 → Filters Two 9 (Ok true) before after → ⊥
another_linked before after empty second other h =
    let all = ap (own before.number) (sym other) ∙ its_own 9 before after empty h ∙ h.adding.promises.changes.own in
    let is = ap (λ (p : ℕ). own p E1) (sym second) ∙ all in
    let key : ◌≡◌ {A = ℕ} 12 9 = cc in
    omega (arith, key)

-- nor by another pass, or where the pass has published something else besides
another_links : (before after : Part) → before.known ≡ [] → before.number ≡ 1 → after.known ≡ E1 → Filters Two 12 (Ok true) before after → ⊥
another_links before after empty first other h =
    let all = ap (own before.number) (sym other) ∙ its_own 12 before after empty h ∙ h.adding.promises.changes.own in
    let is = ap (λ (p : ℕ). own p E1) (sym first) ∙ all in
    absurd cc

more_published : (before after : Part) (more : Publishing) → before.known ≡ [] → before.number ≡ 2 → own 2 (more ∷ []) ≡ more ∷ [] → after.known ≡ E1 ++ more ∷ [] → Filters Two 12 (Ok true) before after → ⊥
more_published before after more empty second mine both h =
    let all = ap (own before.number) (sym both) ∙ its_own 12 before after empty h ∙ h.adding.promises.changes.own in
    let is = ap (λ (P : Trace). E1 ++ P) (sym mine) ∙ (ap (λ (p : ℕ). own p (E1 ++ more ∷ [])) (sym second) ∙ all) in
    absurd cc

-- A call of pass 1, and its answer.
abbrev call : Command → Note
call c = note_by 1 (Called c Two) None

abbrev answered : Note
answered = note_by 1 (Played event.Answer found.Done) None

-- Whatever was answered by an adding of a pass that had made no call, its first step since is the adding's beginning.
module _ (r : Result Bool Fault) (before after : Part) (none : before.steps ≡ []) (h : WasAdded Two 12 r before after) where
  all_new : after.steps ≡ h.adding.new
  all_new = h.adding.steps ∙ ap (λ (steps : List Note). h.adding.new ++ steps) (h.no_call.steps ∙ none) ∙ append-nil h.adding.new

  begins_with : (newer : List Note) (n : Note) → after.steps ≡ newer ++ n ∷ [] → n.what ≡ Called (Add 12) Two
  begins_with newer n steps =
      let one = h.adding.one_call in
      let same = sym steps ∙ (all_new ∙ one.steps) in
      ap (λ (m : Note). m.what) (same_from_push newer (_ ∷ one.within) n (note_by h.middle.number (Called (Add 12) Two) None) same).1

  -- so it isn't removed first, nor looked up, and no other is added
  removed_first : (newer : List Note) → after.steps ≡ newer ++ call (Remove 12) ∷ [] → ⊥
  removed_first newer steps = let is = begins_with newer (call (Remove 12)) steps in absurd cc

  looked_up_first : (newer : List Note) → after.steps ≡ newer ++ call (Has 12) ∷ [] → ⊥
  looked_up_first newer steps = let is = begins_with newer (call (Has 12)) steps in absurd cc

  another_added : (newer : List Note) → after.steps ≡ newer ++ call (Add 9) ∷ [] → ⊥
  another_added newer steps = let is = begins_with newer (call (Add 9)) steps in let key : ◌≡◌ {A = ℕ} 9 12 = cc in omega (arith, key)

  -- nor are there two calls of it, or none
  added_twice : after.steps ≡ answered ∷ call (Add 12) ∷ answered ∷ call (Add 12) ∷ [] → ⊥
  added_twice twice = go h.adding.one_call.within (note_by h.middle.number (Called (Add 12) Two) None) (sym twice ∙ (all_new ∙ h.adding.one_call.steps)) h.adding.one_call.only
    where
      go : {newest : Note} (within : List Note) (first : Note) → answered ∷ call (Add 12) ∷ answered ∷ call (Add 12) ∷ [] ≡ newest ∷ (within ++ first ∷ []) → AreWithin within → ⊥
      go [] first is only = absurd cc
      go (n ∷ within) first is only = let same : n ≡ call (Add 12) = cc in subst (λ (m : Note). IsWithin m.what) same only.0

  not_added : after.steps ≡ [] → ⊥
  not_added as_before = let is = sym as_before ∙ (all_new ∙ h.adding.one_call.steps) in absurd cc

-- no event is known that no glance showed and none added, nor one that is a member, and isn't settled yet
unknown : Filters Two 12 (Ok false) (seeing []) (seeing []) → ⊥
unknown h =
    ⊎_elim
    (λ known. true≢false (sym known.0.0.settled.member ∙ ap (member 12) known.0.0.between.upto))
    (λ was. not_added (Ok false) (seeing []) (seeing []) refl was refl)
    h

not_shown_yet : Glances 12 (Ok glance.Yes) (seeing []) (seeing E1) → ⊥
not_shown_yet shows = grind arith

unsettled : Filters Two 12 (Ok false) (seeing []) (seeing E1) → ⊥
unsettled h = ⊎_elim (λ known. not_shown_yet known.0) (λ was. not_added (Ok false) (seeing []) (seeing E1) refl was refl) h

-- nor is it known by a glance that makes a call
looks_up : (before after : Part) → before.steps ≡ [] → after.steps ≡ answered ∷ call (Has 12) ∷ [] → Filters Two 12 (Ok false) before after → ⊥
looks_up before after none some h =
    ⊎_elim (λ known. let is = sym some ∙ known.1.steps ∙ none in absurd cc) (λ was. looked_up_first (Ok false) before after none was (answered ∷ []) some) h

-- and no fault is told that is a glance's alone
glance_fails : (why : Fault) (before after : Part) → before.steps ≡ [] → after.steps ≡ [] → Filters Two 12 (Err why) before after → ⊥
glance_fails why before after none as_before h = not_added (Err why) before after none h as_before
