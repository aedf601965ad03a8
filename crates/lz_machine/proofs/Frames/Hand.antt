-- A turn that changes node locks and what its actor has in hand, and nothing else, keeps the invariant.
use Rattle.std.proofs.Common.{◌≡◌, ◌≢◌, ℕ, ◌≤◌, List, length, Option, Some, sym, subst, arith}
use Rattle.lz_slot.{specs.{Counted.{set_of_pass}, Histories.{History}}, proofs.Counted.{of_pass_same, of_pass_other, length-set_of_pass}}
use Rattle.lz_disk.specs.Images.{Medium}
use Rattle.lz_allot.specs.Uses.{Use}
use Rattle.lz_list.specs.{Traces.{Trace}, Locks.{NodeLocks}}
use Rattle.lz_machine.specs.{declared.{actor.Actor.{Actor}, caller.Progress.{Progress}}, Yards.{Yard, Shape, idle_actor, actor_in, pin_in}}
use Rattle.lz_machine.specs.{Runs.{Caller, caller_at}, Notes.{Notes}, CallersSound.{CallerSound}, LocksSound.{LocksSound}, Sound.{ReuseSound, Sound}}
use Rattle.lz_machine.proofs.Frames.{ActorTable.{by_actor}, OneActor.{moved, moving, caller_range, callers_turn, ledger_turn}, Grip.{KeepsGrips, keeps_itself}}
use Rattle.lz_machine.proofs.Frames.{KeptSlots.{slots_turn}, SameYard.{KeepsTail, in_passes, tails_turn}}

-- the reservations, where no slot changes hands
pub reuse_turn : (shape : Shape) (pins : List ℕ) (uses : List Use) (actors actors' : List Actor) (P : Trace) (begun : ℕ → Trace)
    → ((b : ℕ) → (actor_in actors' b).slot ≡ (actor_in actors b).slot)
    → ReuseSound shape pins uses actors P begun → ReuseSound shape pins uses actors' P begun
reuse_turn shape pins uses actors actors' P begun same h = grind arith

-- the yard with other locks and another actor
abbrev pub in_hands : Yard → NodeLocks → ℕ → Actor → Yard
in_hands y locks a x = record { shape = y.shape; words = y.words; locks = locks; vault = y.vault; uses = y.uses; actors = set_of_pass y.actors a x }

module _ (n calls : ℕ) (y : Yard) (callers : List (Option Caller)) (disk : Medium) (M : History) (P : Trace) (notes : Notes) (a : ℕ) (caller : Caller) (at : caller_at callers a ≡ Some caller) (sound : Sound n calls y callers disk M P notes) (x : Actor) where
  pub range : (1 ≤ a) × (a ≤ length y.actors)
  range = let r = caller_range callers a caller at in (r.0, omega (arith, r.1, sound.callers.count, sound.callers.hands))

  pub same_hand : actor_in (set_of_pass y.actors a x) a ≡ x
  same_hand = of_pass_same y.actors a x idle_actor range.0 range.1

  pub other_hand : (b : ℕ) → b ≢ a → actor_in (set_of_pass y.actors a x) b ≡ actor_in y.actors b
  other_hand b other = of_pass_other y.actors a b x idle_actor other

  pub hands_keep : (locks : NodeLocks) (next : Progress) → KeepsTail (notes.changed a) caller.progress next → LocksSound y.shape locks (set_of_pass y.actors a x) P → KeepsGrips y.vault.dead y.vault.dead (actor_in y.actors a) x
      → CallerSound (record { buckets = y.shape.buckets; passes = y.shape.passes; format = y.vault.format; cells = y.vault.cells; dead = y.vault.dead; actor = x }) (pin_in y.words.pins a) (Some (moved caller next)) (notes.begun a) P (notes.changed a)
      → Sound n calls (in_hands y locks a x) (moving callers a caller next) disk M P notes
  hands_keep locks next keeps held grips mine = record {
    trace = sound.trace;
    images = sound.images;
    slots = slots_turn y.shape y.vault.cells y.vault.dead y.vault.dead y.uses y.actors (set_of_pass y.actors a x) P every_grip (λ e. e) sound.slots;
    locks = held;
    callers = callers_turn callers a caller at next y.shape y.vault y.words.pins y.actors (set_of_pass y.actors a x) P notes (length-set_of_pass y.actors a x) other_hand
        (subst (λ (q : Actor). CallerSound (record { buckets = y.shape.buckets; passes = y.shape.passes; format = y.vault.format; cells = y.vault.cells; dead = y.vault.dead; actor = q }) (pin_in y.words.pins a) (Some (moved caller next)) (notes.begun a) P (notes.changed a)) (sym same_hand) mine)
        sound.callers;
    reuse = reuse_turn y.shape y.words.pins y.uses y.actors (set_of_pass y.actors a x) P notes.begun same_slots sound.reuse;
    ledger = ledger_turn callers a caller at next n calls y.shape.passes P M notes sound.ledger;
    tails = tails_turn callers a caller at next y.shape.passes notes (in_passes n calls y callers disk M P notes a caller at sound) keeps y.shape y.vault.cells y.actors (set_of_pass y.actors a x) P M same_slots sound.tails;
  }
    where
      every_grip : (b : ℕ) → KeepsGrips y.vault.dead y.vault.dead (actor_in y.actors b) (actor_in (set_of_pass y.actors a x) b)
      every_grip = by_actor (λ b. KeepsGrips y.vault.dead y.vault.dead (actor_in y.actors b) (actor_in (set_of_pass y.actors a x) b)) a
          (subst (λ (q : Actor). KeepsGrips y.vault.dead y.vault.dead (actor_in y.actors a) q) (sym same_hand) grips)
          (λ b other. keeps_itself y.vault.dead y.vault.dead (actor_in y.actors b) (actor_in (set_of_pass y.actors a x) b) (λ is. is) (other_hand b other))

      same_slots : (b : ℕ) → (actor_in (set_of_pass y.actors a x) b).slot ≡ (actor_in y.actors b).slot
      same_slots b = (every_grip b).slot
