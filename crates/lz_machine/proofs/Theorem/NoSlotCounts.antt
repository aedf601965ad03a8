-- The counts of a call that finds no slot.
use Rattle.std.proofs.{Common.{◌≡◌, ℕ, ◌+◌, List, [], ◌∷◌, length, Option, None, refl, sym, ap, ◌∙◌, subst, arith}, lemmas.Bool.Decides.{nat_tests}}
use Rattle.std.proofs.lemmas.List.{length-map}
use Rattle.lz_allot.{specs.{declared.counts.Counts.{Counts}, Uses.{Use, Free, collect, collect_at, counts, lowest_free}}, proofs.UseCounts.{counts_sum}}
use Rattle.lz_machine.specs.{declared.event.{Event.TheVariants.{Reserve}, Outcome.TheVariants.{NoSlot}}, NoSlotCounts.{CountsAreRight}, Runs.{run, first_point}}
use Rattle.lz_machine.{specs.{Table.{line, slot_found}, Yards.{Yard}}, proofs.{Runs.Course.{course_by}, Theorem.Reached.{reached_sound, up_at}}}

none_counted : (uses : List Use) → lowest_free uses ≡ None → (counts uses).free ≡ 0
none_counted [] none = refl
none_counted (Free ∷ uses) none = absurd (grind (arith, nat_tests, none))
none_counted (u ∷ uses) none = grind (arith, nat_tests, none_counted uses (grind (arith, nat_tests, none)))

found_none : (c : Counts) (o : Option ℕ) (uses : List Use) → slot_found o uses ≡ NoSlot c → (o ≡ None) × (counts uses ≡ c)
found_none c o uses is = grind (arith, nat_tests)

-- no other course of the event tells counts
told_by : (y : Yard) (a : ℕ) (c : Counts) → (line y a Reserve).1 ≡ NoSlot c → (lowest_free (collect y.uses) ≡ None) × (counts (collect y.uses) ≡ c)
told_by y a c = grind (arith, course_by, found_none)

pub counts_are_right : CountsAreRight
counts_are_right start service disk M P a c reached is =
    let y = service.yard in
    let sound = reached_sound start reached.steps reached.starts reached.runs in
    let slots = (up_at start (run (first_point start) reached.steps) service disk sound reached.state).up.sound.slots.count in
    let told = told_by y a c is in
    let sum = counts_sum (collect y.uses) in
    let long : length (collect y.uses) ≡ length y.uses = length-map y.uses collect_at in (
      sym (ap (λ (q : Counts). q.free) told.1) ∙ none_counted (collect y.uses) told.0,
      subst (λ (q : Counts). q.free + q.taken + q.limbo ≡ y.shape.slots) told.1 (omega (arith, sum, long, slots)),
    )
