-- Worked rows of lists: one that holds, and for each part of what a list promises one that must not.
use Rattle.std.proofs.Common.{◌≡◌, inl, inr, ⊎_elim, ℕ, zero, suc, ◌<◌, true, None, Some, All, [], ◌∷◌, ◌++◌, length, Ok, Err, refl, sym, ap, subst, ◌∙◌, arith}
use Rattle.std.proofs.lemmas.{Bool.{cases_eq, Decides.{nat_tests}}, List.{length-append}}
use mathlib.Core.Bool.{false≢true}
use Rattle.lz_list.specs.declared.publishing.Change.TheVariants.{Removed as as_removed}
use Rattle.lz_list.specs.{declared.publishing.Publishing.TheVariants.{Marked as marked, Settled as settled, Halted as halted}, Traces.{Trace, Begins, member}}
use Rattle.lz_board.specs.declared.{answer.GlanceFault.TheVariants.{Halted, Worn, BusyPass}, page.{Page.{Page}, ListFault.TheVariants.{Memory, Glance}}}
use Rattle.lz_board.specs.{declared.view.Part.{Part}, Glances.{Between, Glanced}, Listings.{IsDurableIn, Listed, IsPage, Lists}}
use Rattle.lz_board.proofs.{Upkeep.Growth.{extends_of}, GlanceRows.{E1, E2, only_E2, seeing}}

-- after E2 pass 2 marked 12, and that was settled
abbrev E4 : Trace
E4 = settled 0 as_removed ∷ marked 12 0 2 ∷ E2

-- what is seen from P to P is P
only : (P R : Trace) → Begins P R → Begins R P → R ≡ P
only P R from upto = go (extends_of P R from).0 (extends_of P R from).1
  where
    go : (more : Trace) → R ≡ more ++ P → R ≡ P
    go [] is = is
    go (e ∷ more) is =
        let back = extends_of R P upto in
        absurd (omega (arith, ap length is ∙ length-append (e ∷ more) P, ap length back.1 ∙ length-append back.0 R))

-- after E2 the one member is 12, by its node in slot 0
durable : IsDurableIn 0 12 E2
durable = record { settled = record { begins = inl refl; member = refl; settled = refl }; here = refl }

now : Between E2 E2 E2
now = record { from = inl refl; upto = inl refl }

were : All (λ k. Glanced k E2 E2 true) (12 ∷ [])
were zero d low = record { then = E2; between = now; settled = durable.settled }
were (suc n) d low = absurd (omega (arith, low))

-- the last page of both slots
pub both_slots : IsPage 2 0 9 (12 ∷ []) None E2 E2
both_slots = record {
  listed = record {
    were = were;
    others = λ s k low high small. elim (cases_eq k 12) [
      | inl same ↦ inl (0, omega arith, sym same)
      | inr other ↦ inr (record { then = E2; between = now; away = λ d. absurd (let is = d.settled.member in grind (arith, nat_tests, is, other)) })
    ];
  };
  few = omega arith;
  each = omega arith;
  near = omega arith;
  stops = tt;
}

-- no page goes over a slot without its member, whether it ends there or goes on
not_without : (upto : ℕ) → 0 < upto → Listed 0 upto [] E2 E2 → ⊥
not_without upto some l = elim (l.others 0 12 (omega arith) some (omega arith)) [
  | inl there ↦ absurd (let low = there.1 in omega (arith, low))
  | inr w ↦ w.away (subst (IsDurableIn 0 12) (sym (only_E2 w.then w.between.from w.between.upto)) durable)
]

slot_skipped : IsPage 2 0 9 [] (Some 1) E2 E2 → ⊥
slot_skipped page = not_without 1 (omega arith) page.listed

ended_early : IsPage 2 0 9 [] None E2 E2 → ⊥
ended_early page = not_without 2 (omega arith) page.listed

-- no page tells a key whose adding isn't settled, or that was removed
undurable_told : IsPage 2 0 9 (12 ∷ []) None [] E1 → ⊥
undurable_told page = grind arith

removed_told : IsPage 2 0 9 (12 ∷ []) None E4 E4 → ⊥
removed_told page =
    let was = page.listed.were 0 0 (omega arith) in
    false≢true (sym (ap (member 12) (only E4 was.then was.between.from was.between.upto)) ∙ was.settled.member)

-- one that goes on comes further, to a slot, and not before it is full
no_further : IsPage 2 0 9 [] (Some 0) [] [] → ⊥
no_further page = let low = page.stops.further in absurd (omega (arith, low))

past_the_end : IsPage 2 0 9 [] (Some 2) [] [] → ⊥
past_the_end page = let low = page.stops.within in absurd (omega (arith, low))

not_full : IsPage 2 0 9 [] (Some 1) [] [] → ⊥
not_full page = ⊎_elim (λ is. absurd (omega (arith, is))) (λ is. absurd (omega (arith, is))) page.stops.full

-- it has no more keys than were asked for or than it has slots, and goes over no more than 4,096 of them
too_many : IsPage 2 0 1 (12 ∷ 12 ∷ []) None E2 E2 → ⊥
too_many page = let low = page.few in absurd (omega (arith, low))

told_twice : IsPage 1 0 9 (12 ∷ 12 ∷ []) None E2 E2 → ⊥
told_twice page = let low = page.each in absurd (omega (arith, low))

too_far : IsPage 5_000 0 9 [] None [] [] → ⊥
too_far page = let low = page.near in absurd (omega (arith, low))

-- once its pass has seen the halt it tells no page, and of a halt only then
page_after_halt : (page : Page) → Lists 2 0 9 (Ok page) (seeing (halted ∷ [])) (seeing (halted ∷ [])) → ⊥
page_after_halt page h = let says = h.2 in absurd (omega (arith, says))

not_halted_yet : Lists 2 0 9 (Err (Glance Halted)) (seeing E1) (seeing E1) → ⊥
not_halted_yet h = let says = h.0 in absurd (omega (arith, says))

-- it went inside and out, and where it had no memory it did nothing
not_turned : (page : Page) → Lists 2 0 9 (Ok page) (seeing []) (seeing []) → ⊥
not_turned page h = let says = h.1.pin in absurd (omega (arith, says))

memory_sees : Lists 2 0 9 (Err Memory) (seeing []) (seeing E1) → ⊥
memory_sees h = let is : E1 ≡ [] = ap (λ (p : Part). p.known) h in absurd cc

-- it is worn only at the last pin, and busy only inside
not_worn_yet : Lists 2 0 9 (Err (Glance Worn)) (seeing []) (seeing []) → ⊥
not_worn_yet h = let says = h.0 in absurd (omega (arith, says))

not_busy_outside : Lists 2 0 9 (Err (Glance BusyPass)) (seeing []) (seeing []) → ⊥
not_busy_outside h = let says = h.0 in absurd (omega (arith, says))
