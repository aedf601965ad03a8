-- Which slots are on chains: nodes are, slots that are free or in limbo are not, and no pass that is inside may stand on one that is not.
use Rattle.std.proofs.lemmas.{Bool.{cases_lt, Decides.{nat_tests}}, List.{get_or_past}}
use Rattle.std.proofs.Common.{◌≡◌, ℕ, suc, ◌<◌, Bool, true, List, ◌∷◌, length, Some, sym, ◌∙◌, arith}
use mathlib.Core.Bool.{false≢true}
use Rattle.lz_slot.specs.Counted.{of_pass}
use Rattle.lz_vault.specs.Stages.{Cell, IsFree}
use Rattle.lz_allot.specs.{declared.sight.Sight.{Sight, TheVariants.{Left}}, Uses.{Use, Free, Taken, Limbo, use_of}}
use Rattle.lz_list.specs.{declared.publishing.Publishing.{Publishing}, Traces.{Trace, IsLoose, on, chain_of, bucket_of}}
use Rattle.lz_machine.specs.{declared.actor.Actor.{Actor}, Yards.{Shape, actor_in, pin_in, stage_in}}
use Rattle.lz_machine.specs.{SlotsSound.{IsOnChain, IsNodeStage, SlotStands, is_node, is_held, is_out, is_free, is_limbo, SlotsSound}, Sound.{ReuseSound}}
use Rattle.lz_machine.proofs.Frames.{Limbo.{seen_step, away_stays}, Uses.{free_limbo}}

pub free_taken : {u : Use} → u ≡ Free → u ≡ Taken → ⊥
free_taken a b = absurd (let e : Free ≡ Taken = sym a ∙ b in cc)

taken_limbo : {u : Use} {sights : List Sight} → u ≡ Limbo sights → u ≡ Taken → ⊥
taken_limbo {u} {sights} a b = absurd (let e : Limbo sights ≡ Taken = sym a ∙ b in cc)

-- a use that isn't taken is one of a slot of the table
use_range : (uses : List Use) (s : ℕ) → (use_of uses s ≡ Taken → ⊥) → s < length uses
use_range uses s not_taken = grind (arith, nat_tests, cases_lt, get_or_past)

module _ (shape : Shape) (cells : List Cell) (dead : Bool) (uses : List Use) (actors : List Actor) (P : Trace) (s : ℕ) (h : SlotsSound shape cells dead uses actors P) where
  -- a slot that is on a chain is a node
  pub chain_stands : (k : ℕ) → s < shape.slots → on 0 (chain_of shape.buckets k P) (suc s) ≡ true → IsOnChain shape cells uses P s × IsNodeStage cells dead actors P s
  chain_stands k lt there = go (h.each s lt)
    where
      off : IsLoose shape.buckets s P → ⊥
      off loose = false≢true (sym (loose (bucket_of shape.buckets k)) ∙ there)

      go : SlotStands shape cells dead uses actors P s → IsOnChain shape cells uses P s × IsNodeStage cells dead actors P s
      go (is_node chain stage) = (chain, stage)
      go (is_held b slot) = absurd (off (h.hand b s slot).loose)
      go (is_out b out) = absurd (off (h.out b s out).loose)
      go (is_free loose free stage) = absurd (off loose)
      go (is_limbo sights loose limbo stage) = absurd (off loose)

  -- a free slot is on no chain, and its gate is surely closed
  pub free_stands : s < shape.slots → use_of uses s ≡ Free → IsLoose shape.buckets s P × IsFree (stage_in cells s)
  free_stands lt free = go (h.each s lt)
    where
      go : SlotStands shape cells dead uses actors P s → IsLoose shape.buckets s P × IsFree (stage_in cells s)
      go (is_node chain stage) = absurd (free_taken free chain.taken)
      go (is_held b slot) = absurd (free_taken free (h.hand b s slot).taken)
      go (is_out b out) = absurd (free_taken free (h.out b s out).taken)
      go (is_free loose is stage) = (loose, stage)
      go (is_limbo sights loose limbo stage) = absurd (free_limbo (sym free ∙ limbo))

  pub free_loose : use_of uses s ≡ Free → IsLoose shape.buckets s P
  free_loose free = (free_stands (omega (arith, use_range uses s (λ taken. free_taken free taken), h.count)) free).0

  -- nor is one in limbo
  pub limbo_loose : (sights : List Sight) → use_of uses s ≡ Limbo sights → IsLoose shape.buckets s P
  limbo_loose sights limbo = go (h.each s (omega (arith, use_range uses s (taken_limbo limbo), h.count)))
    where
      go : SlotStands shape cells dead uses actors P s → IsLoose shape.buckets s P
      go (is_node chain stage) = absurd (taken_limbo limbo chain.taken)
      go (is_held b slot) = absurd (taken_limbo limbo (h.hand b s slot).taken)
      go (is_out b out) = absurd (taken_limbo limbo (h.out b s out).taken)
      go (is_free loose is stage) = absurd (free_limbo (sym is ∙ limbo))
      go (is_limbo seen loose is stage) = loose

-- what is said of reuse stays when something is published that puts none of these slots on a chain
pub reuse_published : (shape : Shape) (cells : List Cell) (dead : Bool) (uses : List Use) (actors actors' : List Actor) (e : Publishing) (P : Trace) (pins : List ℕ) (begun : ℕ → Trace)
    → SlotsSound shape cells dead uses actors' (e ∷ P) → ((b s : ℕ) → (actor_in actors' b).slot ≡ Some s → (actor_in actors b).slot ≡ Some s)
    → ReuseSound shape pins uses actors P begun → ReuseSound shape pins uses actors' (e ∷ P) begun
reuse_published shape cells dead uses actors actors' e P pins begun slots held h = record {
  worn = h.worn;
  sights = h.sights;
  seen = λ a s seen limbo. seen_step shape.buckets s (pin_in pins a) (begun a) e P (of_pass seen a Left) (limbo_loose shape cells dead uses actors' (e ∷ P) s slots seen limbo) (h.seen a s seen limbo);
  free = λ a s free inside. away_stays shape.buckets s (begun a) e P (free_loose shape cells dead uses actors' (e ∷ P) s slots free) (h.free a s free inside);
  reserved = λ a b s slot inside. away_stays shape.buckets s (begun a) e P (slots.hand b s slot).loose (h.reserved a b s (held b s slot) inside);
}
