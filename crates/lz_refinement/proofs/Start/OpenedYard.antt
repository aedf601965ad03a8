-- A yard that was just opened is tied to a board of its words that has no notes, as the lock's invariant asks.
use Rattle.std.proofs.Common.{arith, ◌≡◌, ◌≢◌, inl, Bool, false, List, [], length, zero, suc, refl, sym, ap, ◌∙◌, subst, ℕ, Some, None, is_some, IsTrue}
use Rattle.std.proofs.{Common.{replicate}, lemmas.{Bool.Decides.{nat_tests}, List.{length-replicate}}}
use mathlib.Core.Bool.{false≢true}
use Rattle.lz_refinement.proofs.Vocabulary.{of_pass, Device, Medium, at_rest, Use, Free, Taken, Limbo, use_of, Trace, Yard, opened_yard, first_trace, idle_actor}
use Rattle.lz_refinement.proofs.Vocabulary.{slots_read, IsStart, opened_service, OpensYard, Sizes, Note, sizes_in, opened_by, AreOpened, BoardId}
use Rattle.lz_refinement.{proofs.Hold.{NoteCondition.{sound, tied_loose}, Alike.{alike_is}}, specs.{NotedRuns.{IsTied}, Holds.{sizes_of, IsLocked}}}
use Rattle.lz_refinement.specs.Reuse.{UseTold, ReuseTold}
use Rattle.lz_list.proofs.Tables.WordTable.{length-table}
use Rattle.lz_machine.proofs.{Frames.Limbo.{away_new}, Open.FoundSlots.{no_limbo_read}}
use Rattle.lz_board.proofs.Start.FirstWords.{opens_text}

module _ {bytewise : Bool} (y : Yard) (t : List ℕ) (starts : IsStart (record { bytewise = bytewise; shape = y.shape; text = t })) (is : y ≡ opened_yard y.shape t) where
  opens : AreOpened y.words × (opened_by y.words ≡ first_trace y.shape t)
  opens = opens_text y.shape t y.words starts.text.no_key_twice (ap (λ (x : Yard). x.words) is)

  -- a board may start from its words
  pub words_opened : AreOpened y.words
  words_opened = opens.0

  pub first_tied : (honest : Bool) (disk : Medium) → (IsTrue honest → disk ≡ at_rest bytewise t) → IsTied (opened_by y.words) [] y honest disk
  first_tied honest disk device = record {
    start = record { bytewise = bytewise; shape = y.shape; text = t };
    steps = [];
    service = opened_service y.shape t;
    medium = at_rest bytewise t;
    starts = starts;
    runs = tt;
    reads = refl;
    begins = opens.1;
    state = refl;
    yard = alike_is is;
    device = device;
  }

  tied : IsTied (opened_by y.words) [] y false (at_rest bytewise t)
  tied = first_tied false (at_rest bytewise t) (λ h. refl)

  -- a slot that the open found closed stood on no chain in this life
  first_reuse : ReuseTold (sizes_of y.shape) (opened_by y.words) [] y.uses y.actors
  first_reuse = record {
    each = λ s. by_use s (use_of y.uses s) refl;
    hands = λ a s held. absurd (none_some s (sym (idle y.shape.passes a) ∙ ap (λ (x : Yard). (of_pass x.actors a idle_actor).slot) (sym is) ∙ held));
  }
    where
      none_some : (s : ℕ) → None ≡ Some s → ⊥
      none_some s same = false≢true (ap is_some same)

      idle : (n a : ℕ) → (of_pass (replicate n idle_actor) a idle_actor).slot ≡ None
      idle n zero = refl
      idle zero (suc i) = refl
      idle (suc n) (suc zero) = refl
      idle (suc n) (suc (suc i)) = idle n (suc i)

      free : (s : ℕ) → use_of y.uses s ≡ Free → use_of y.uses s ≢ Taken
      free s same taken = absurd (clash (sym same ∙ taken))
        where
          clash : Free ≡ Taken → ⊥
          clash e = absurd cc

      by_use : (s : ℕ) (u : Use) → use_of y.uses s ≡ u → UseTold (sizes_of y.shape) (opened_by y.words) [] s u
      by_use s Taken same = tt
      by_use s Free same = inl (away_new y.shape.buckets s (opened_by y.words) (tied_loose (opened_by y.words) [] y false (at_rest bytewise t) tied s (free s same)))
      by_use s (Limbo sights) same = absurd (no_limbo_read (slots_read t y.shape.slots) s sights (ap (λ (x : Yard). use_of x.uses s) (sym is) ∙ same))

  -- its tables are as large as its shape says
  pub opened_sizes : sizes_in y.words ≡ sizes_of y.shape
  opened_sizes = grind (arith, nat_tests, length-table, length-replicate)

  -- so the lock's invariant holds of a yard that was just opened, on a board that began with its words
  pub first_locked : (b : BoardId) (dev : Device) → b.sizes ≡ sizes_of y.shape → b.opened ≡ opened_by y.words → (IsTrue dev.honest → dev.medium ≡ at_rest bytewise t) → IsLocked b [] y dev
  unfolding tied first_tied
  first_locked b dev sizes opened device = record {
    sizes = sizes;
    pins = ap (λ (x : Yard). length x.words.pins) is ∙ (sound (opened_by y.words) [] y false (at_rest bytewise t) tied).pins;
    tied = subst (λ (o : Trace). IsTied o [] y dev.honest dev.medium) (sym opened) (first_tied dev.honest dev.medium device);
    reuse = subst (λ (x : Sizes × Trace). ReuseTold x.0 x.1 [] y.uses y.actors) (λ i. (sym sizes i, sym opened i)) first_reuse;
  }

-- so an open of a yard gives what the lock's value begins with
pub opened_locked : (b : BoardId) (ns : List Note) (before after : Device) (buckets passes : ℕ) (y : Yard) → OpensYard before after buckets passes y
    → b.sizes ≡ sizes_in y.words → b.opened ≡ opened_by y.words → ns ≡ [] → IsLocked b ns y after
opened_locked b ns before after buckets passes y opens sizes opened none =
    let first = opens.first in
    let words : sizes_in y.words ≡ sizes_of y.shape = opened_sizes y first.text first.starts first.yard in
    subst (λ (l : List Note). IsLocked b l y after) (sym none)
    (first_locked y first.text first.starts first.yard b after (sizes ∙ words) opened
    (λ honest. let was = subst IsTrue opens.vault.honest honest in let same = first.read was in opens.vault.medium was ∙ (λ i. at_rest (sym same.0 i) (sym same.1 i))))
