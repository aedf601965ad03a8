-- A turn that leaves the yard as it is keeps the invariant, where the call may go on so.
use Rattle.std.proofs.lemmas.{Bool.{cases_eq, Decides.{nat_tests}}, Option.{same_Some}}
use Rattle.std.proofs.Common.{◌≡◌, inl, inr, ℕ, ◌≤◌, true, List, Option, Some, None, refl, sym, ap, ◌∙◌, arith}
use Rattle.lz_slot.specs.{declared.command.Command.{Command}, Histories.{History}}
use Rattle.lz_disk.specs.Images.{Medium}
use Rattle.lz_vault.specs.Stages.{Cell}
use Rattle.lz_list.specs.Traces.{Trace}
use Rattle.lz_machine.specs.{declared.{actor.Actor.{Actor}, caller.Progress.{Progress}}, Yards.{Yard, Shape, actor_in, pin_in}, Runs.{Caller, caller_at}}
use Rattle.lz_machine.specs.{Ledgers.{times}, Notes.{Notes, entries}, CallersSound.{view_of, CallerSound}, LedgerSound.{may_have_tail, HasTail, TailsSound}}
use Rattle.lz_machine.specs.Sound.{Sound}
use Rattle.lz_machine.proofs.Frames.OneActor.{caller_range, moved, moving, moved_same, moved_other, has_entry, same_entries, ledger_turn, callers_turn}

-- a call that has changed nothing goes on so that its tail stays
abbrev pub KeepsTail : Option ℕ → Progress → Progress → Type 0
KeepsTail changed at next = changed ≡ None → may_have_tail at ≡ true → may_have_tail next ≡ true

module _ (callers : List (Option Caller)) (a : ℕ) (caller : Caller) (at : caller_at callers a ≡ Some caller) (next : Progress) (passes : ℕ) (notes : Notes) (le : a ≤ passes) (keeps : KeepsTail (notes.changed a) caller.progress next) where
  own_stays : (changed : Option ℕ) → notes.changed a ≡ changed → (number : ℕ) → times number (entries passes callers notes) ≡ 0 → caller.number ≡ number → may_have_tail caller.progress ≡ true → may_have_tail next ≡ true
  own_stays None is number none same may = keeps is may
  own_stays (Some j) is number none same may = absurd (has_entry passes a j callers notes caller at is le (ap (λ (q : ℕ). times q (entries passes callers notes)) same ∙ none))

  -- a tail, where a call has its turn
  pub tail_turn : (c : Command) (M : History) → HasTail c callers (entries passes callers notes) M → HasTail c (moving callers a caller next) (entries passes (moving callers a caller next) notes) M
  tail_turn c M h = record {
    number = h.number;
    under_way = h.under_way;
    no_row = ap (times h.number) (same_entries callers a caller at next passes notes) ∙ h.no_row;
    stays = λ b one is same. elim (cases_eq b a) [
      | inl it ↦
          let new : moved caller next ≡ one = same_Some _ _ (sym (moved_same callers a caller at next) ∙ ap (caller_at (moving callers a caller next)) (sym it) ∙ is) in
          let number : caller.number ≡ h.number = ap (λ (q : Caller). q.number) new ∙ same in
          ap (λ (q : Caller). may_have_tail q.progress) (sym new) ∙ own_stays (notes.changed a) refl h.number h.no_row number (h.stays a caller at number)
      | inr other ↦ h.stays b one (sym (moved_other callers a caller at next b other) ∙ is) same
    ];
  }

  -- the tails, where no slot changes hands
  pub tails_turn : (shape : Shape) (cells : List Cell) (actors actors' : List Actor) (P : Trace) (M : History)
      → ((b : ℕ) → (actor_in actors' b).slot ≡ (actor_in actors b).slot)
      → TailsSound shape cells actors P callers (entries passes callers notes) M → TailsSound shape cells actors' P (moving callers a caller next) (entries passes (moving callers a caller next) notes) M
  tails_turn shape cells actors actors' P M slots h = grind (arith, nat_tests, tail_turn)

-- an actor with a call has a pass
pub in_passes : (n calls : ℕ) (y : Yard) (callers : List (Option Caller)) (disk : Medium) (M : History) (P : Trace) (notes : Notes) (a : ℕ) (caller : Caller) → caller_at callers a ≡ Some caller → Sound n calls y callers disk M P notes → a ≤ y.shape.passes
in_passes n calls y callers disk M P notes a caller at h = omega (arith, (caller_range callers a caller at).1, h.callers.count)

module _ (n calls : ℕ) (y : Yard) (callers : List (Option Caller)) (disk : Medium) (M : History) (P : Trace) (notes : Notes) (a : ℕ) (caller : Caller) (at : caller_at callers a ≡ Some caller) where
  pub going_keeps : (next : Progress) → KeepsTail (notes.changed a) caller.progress next
      → CallerSound (view_of y.shape y.vault y.actors a) (pin_in y.words.pins a) (Some (moved caller next)) (notes.begun a) P (notes.changed a)
      → Sound n calls y callers disk M P notes → Sound n calls y (moving callers a caller next) disk M P notes
  going_keeps next keeps mine h = record {
    trace = h.trace;
    images = h.images;
    slots = h.slots;
    locks = h.locks;
    callers = callers_turn callers a caller at next y.shape y.vault y.words.pins y.actors y.actors P notes refl (λ b other. refl) mine h.callers;
    reuse = h.reuse;
    ledger = ledger_turn callers a caller at next n calls y.shape.passes P M notes h.ledger;
    tails = tails_turn callers a caller at next y.shape.passes notes (in_passes n calls y callers disk M P notes a caller at h) keeps y.shape y.vault.cells y.actors y.actors P M (λ b. refl) h.tails;
  }
