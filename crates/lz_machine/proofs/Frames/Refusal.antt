-- Whether an actor's call was refused says nothing of what it has in hand.
use Rattle.std.proofs.lemmas.Bool.Decides.{nat_tests}
use Rattle.std.proofs.Common.{◌≡◌, ◌≢◌, ℕ, ◌≤◌, Bool, List, length, Option, None, if◌then◌else◌, refl, sym, ap, ◌∙◌, subst, arith, ◌%◌}
use Rattle.lz_slot.specs.{declared.command.Command.{Command}, Counted.{set_of_pass}, Histories.{History, Life}}
use Rattle.lz_slot.proofs.Counted.{of_pass_same, of_pass_other, length-set_of_pass}
use Rattle.lz_disk.specs.Images.{Medium}
use Rattle.lz_list.specs.Traces.{Trace}
use Rattle.lz_machine.specs.declared.{event.Reply.TheVariants.{OldFile as SaysOldFile}, actor.{Actor.{Actor}, LockPhase.{LockPhase}}}
use Rattle.lz_machine.specs.{declared.caller.Progress.TheVariants.{Answering}, Yards.{Yard, actor_at, idle_actor, actor_in, pin_in}, Table.{is_old}}
use Rattle.lz_machine.specs.{Calls.{begun, first_progress}, Runs.{Caller, caller_at, invoked}, Notes.{Notes, entries}}
use Rattle.lz_machine.specs.{CallersSound.{View, IsEmptyHanded, Relies, IsSide, view_of, CallerSound, CallersSound}, LocksSound.{HasLock, RestsOn}}
use Rattle.lz_machine.{specs.{LedgerSound.{TailsSound}, Sound.{Sound, UpSound}}, proofs.Frames.{ActorTable.{by_actor}, OneActor.{carry}}}
use Rattle.lz_machine.proofs.Frames.{Grip.{KeepsGrips, keeps_itself}, KeptSlots.{slots_turn}, Hand.{reuse_turn}, NodeLocks.{held_locks}}

-- a call begins outside
pub begun_side : (pin : ℕ) (b : Bool) → pin % 2 ≡ 0 → IsSide pin (if b then Answering SaysOldFile else first_progress)
begun_side pin b even = grind (arith, nat_tests)

-- what it relies on, where its actor has noted whether it was refused
pub begun_relies : (v : View) (c : Command) (P0 P : Trace) (changed : Option ℕ) → v.actor.refused ≡ is_old v.format c → IsEmptyHanded v.actor P → changed ≡ None → Relies v c (begun v.format c) P0 P changed
begun_relies v c P0 P changed noted idle none = grind arith

abbrev noted : Actor → Bool → Actor
noted actor refused = record actor { refused = refused }

grips_noted : (dead : Bool) (actor : Actor) (refused : Bool) → KeepsGrips dead dead actor (noted actor refused)
grips_noted dead actor refused = grind arith

rests_noted : (buckets : ℕ) (actor : Actor) (refused : Bool) (P : Trace) (hold : LockPhase) → RestsOn buckets hold actor P → RestsOn buckets hold (noted actor refused) P
rests_noted buckets actor refused P hold h = grind arith

module _ (n calls : ℕ) (y : Yard) (callers : List (Option Caller)) (disk : Medium) (M : History) (P : Trace) (notes : Notes) (a : ℕ) (c : Command) (low : 1 ≤ a) (high : a ≤ length y.actors) (none : caller_at callers a ≡ None) (sound : Sound n calls y callers disk M P notes) where
  abbrev x : Actor
  x = noted (actor_at y a) (is_old y.vault.format c)

  abbrev actors' : List Actor
  actors' = set_of_pass y.actors a x

  same_hand : actor_in actors' a ≡ x
  same_hand = of_pass_same y.actors a x idle_actor low high

  other_hand : (b : ℕ) → b ≢ a → actor_in actors' b ≡ actor_in y.actors b
  other_hand b other = of_pass_other y.actors a b x idle_actor other

  every_grip : (b : ℕ) → KeepsGrips y.vault.dead y.vault.dead (actor_in y.actors b) (actor_in actors' b)
  every_grip = by_actor (λ b. KeepsGrips y.vault.dead y.vault.dead (actor_in y.actors b) (actor_in actors' b)) a
      (subst (λ (q : Actor). KeepsGrips y.vault.dead y.vault.dead (actor_in y.actors a) q) (sym same_hand) (grips_noted y.vault.dead (actor_in y.actors a) (is_old y.vault.format c)))
      (λ b other. keeps_itself y.vault.dead y.vault.dead (actor_in y.actors b) (actor_in actors' b) (λ is. is) (other_hand b other))

  -- the actor has no call
  idle_caller : CallerSound (view_of y.shape y.vault actors' a) (pin_in y.words.pins a) None (notes.begun a) P (notes.changed a)
  idle_caller = grind (arith, nat_tests, same_hand)

  invoked_callers : CallersSound y.shape y.vault y.words.pins actors' callers P notes
  invoked_callers = record {
    count = sound.callers.count;
    hands = length-set_of_pass y.actors a x ∙ sound.callers.hands;
    each = by_actor (λ b. CallerSound (view_of y.shape y.vault actors' b) (pin_in y.words.pins b) (caller_at callers b) (notes.begun b) P (notes.changed b)) a
        (subst (λ (q : Option Caller). CallerSound (view_of y.shape y.vault actors' a) (pin_in y.words.pins a) q (notes.begun a) P (notes.changed a)) (sym none) idle_caller)
        (λ b other. carry y.shape.buckets y.shape.passes y.vault.format y.vault.cells y.vault.dead P (actor_in y.actors b) (actor_in actors' b) (pin_in y.words.pins b)
        (pin_in y.words.pins b) (caller_at callers b) (caller_at callers b) (notes.begun b) (notes.begun b) (notes.changed b) (notes.changed b)
        (other_hand b other) refl refl refl refl (sound.callers.each b));
  }

  invoked_tails : TailsSound y.shape y.vault.cells actors' P callers (entries y.shape.passes callers notes) M
  invoked_tails = record {
    adding = λ b s slot opened. sound.tails.adding b s (sym (every_grip b).slot ∙ slot) opened;
    removing = sound.tails.removing;
  }

  -- the actor has noted whether its call is refused
  pub noted_refusal : (actor_in (invoked y a c).actors a).refused ≡ is_old y.vault.format c
  noted_refusal = ap (λ (q : Actor). q.refused) same_hand

  pub invoked_sound : Sound n calls (invoked y a c) callers disk M P notes
  invoked_sound = record {
    trace = sound.trace;
    images = sound.images;
    slots = slots_turn y.shape y.vault.cells y.vault.dead y.vault.dead y.uses y.actors actors' P every_grip (λ e. e) sound.slots;
    locks = held_locks y.shape y.locks y.actors actors' P a other_hand sound.locks
        (λ place lock. let was = subst (λ (q : Actor). HasLock q place) same_hand lock in record { locks = was.locks; among = was.among })
        (subst (λ (q : Actor). RestsOn y.shape.buckets q.hold q P) (sym same_hand) (rests_noted y.shape.buckets (actor_in y.actors a) (is_old y.vault.format c) P (actor_in y.actors a).hold (sound.locks.rests a)));
    callers = invoked_callers;
    reuse = reuse_turn y.shape y.words.pins y.uses y.actors actors' P notes.begun (λ b. (every_grip b).slot) sound.reuse;
    ledger = sound.ledger;
    tails = invoked_tails;
  }

-- so the service with the actor's note is sound too
pub invoked_up : (n calls : ℕ) (y : Yard) (callers : List (Option Caller)) (disk : Medium) (life : Life) (P : Trace) (notes : Notes) (a : ℕ) (c : Command) → 1 ≤ a → a ≤ length y.actors → caller_at callers a ≡ None
    → UpSound n calls (record { yard = y; callers = callers }) disk life P notes → UpSound n calls (record { yard = invoked y a c; callers = callers }) disk life P notes
invoked_up n calls y callers disk life P notes a c low high none h = record {
  began = h.began;
  sound = invoked_sound n calls y callers disk life.history P notes a c low high none h.sound;
  since = h.since;
  after = h.after;
}
