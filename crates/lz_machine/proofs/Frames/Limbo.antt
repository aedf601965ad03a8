-- A slot that every pass has left is away from every pass that is inside.
use Rattle.std.proofs.{lemmas.Bool.Decides.{nat_tests}, Common.{◌≡◌, inl, inr, ℕ, suc, ◌≤◌, ◌%◌, true, [], ◌∷◌, length, sym, ◌∙◌, arith}}
use mathlib.Core.Bool.{false≢true}
use Rattle.lz_allot.specs.{declared.sight.Sight.{Sight}, Uses.{sight_after}}
use Rattle.lz_list.{specs.{declared.publishing.Publishing.{Publishing}, Traces.{Trace, Begins, on, chain, IsLoose}}, proofs.Traces.Hindsight.{once_begins}}
use Rattle.lz_machine.specs.Limbo.{IsAway, IsRightSight}

-- a trace is as long as each that it goes on from, or longer
pub shorter : (R P : Trace) → Begins R P → length R ≤ length P
shorter R [] to = rw to (omega arith)
shorter R (e ∷ P) (inl here) = rw here (omega arith)
shorter R (e ∷ P) (inr to) = omega (arith, shorter R P to)

-- at its pin a pass is away from each slot that no chain has
pub away_new : (buckets t : ℕ) (P : Trace) → IsLoose buckets t P → IsAway buckets P P t
away_new buckets t [] loose b stood = false≢true (sym (loose b) ∙ stood.1)
away_new buckets t (e ∷ P) loose b (inl now) = false≢true (sym (loose b) ∙ now.1)
away_new buckets t (e ∷ P) loose b (inr before) = let less = shorter (e ∷ P) P (once_begins (e ∷ P) P (λ R. on 0 (chain buckets b R) (suc t) ≡ true) before) in absurd (omega arith)

-- and stays away while no chain has it
pub away_stays : (buckets t : ℕ) (P0 : Trace) (e : Publishing) (P : Trace) → IsLoose buckets t (e ∷ P) → IsAway buckets P0 P t → IsAway buckets P0 (e ∷ P) t
away_stays buckets t P0 e P loose away b h = grind (arith, nat_tests, false≢true)

module _ (buckets t : ℕ) where
  pub seen_step : (v : ℕ) (P0 : Trace) (e : Publishing) (P : Trace) (seen : Sight) → IsLoose buckets t (e ∷ P) → IsRightSight buckets v P0 P t seen → IsRightSight buckets v P0 (e ∷ P) t seen
  seen_step v P0 e P seen loose h = grind (arith, nat_tests, away_stays)

  pub seen_pin : (v : ℕ) (P0 P : Trace) (seen : Sight) → IsLoose buckets t P → IsRightSight buckets v P0 P t seen → IsRightSight buckets (suc v) P P t seen
  seen_pin v P0 P seen loose h = grind (arith, nat_tests, away_new)

  pub seen_leave : (v : ℕ) (P0 P : Trace) (seen : Sight) → v % 2 ≡ 1 → IsRightSight buckets v P0 P t seen → IsRightSight buckets (suc v) P0 P t seen
  seen_leave v P0 P seen inside h = grind (arith, nat_tests)

  pub seen_see : (v : ℕ) (P0 P : Trace) (seen : Sight) → IsRightSight buckets v P0 P t seen → IsRightSight buckets v P0 P t (sight_after v seen)
  seen_see v P0 P seen h = grind arith
