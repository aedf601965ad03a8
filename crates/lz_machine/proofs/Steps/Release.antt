-- A release keeps the invariant: after a test that failed, after a linking, and after an unlinking.
use Rattle.std.proofs.Common.{◌≡◌, ℕ, Bool, true, false, List, Option, Some, refl, sym, ap, ◌∙◌, subst, arith}
use mathlib.Core.Bool.{false≢true}
use Rattle.lz_slot.specs.{declared.command.Command.{Command, TheVariants.{Add, Remove}}, Sets.{key_of}, Counted.{set_of_pass}, Histories.{History}}
use Rattle.lz_disk.specs.Images.{Medium}
use Rattle.lz_list.specs.{declared.walk.Look.TheVariants.{AtHead}, Traces.{Trace}, Locks.{pair_owned}}
use Rattle.lz_machine.specs.declared.{event.{Event.TheVariants.{Release}, Outcome.TheVariants.{Done}}, actor.{Actor.{Actor}, LockPhase.{LockPhase}}}
use Rattle.lz_machine.specs.declared.actor.LockPhase.TheVariants.{Nothing, Locks, Linked, Unlinked, Released}
use Rattle.lz_machine.specs.declared.caller.{Sequence.TheVariants.{Releasing, Adding, Removing}, Progress.{Progress, TheVariants.{Playing, Walking}}}
use Rattle.lz_machine.specs.{Yards.{Yard, actor_at, pin_in}, Table.{with_hold, released, yard_done}, Calls.{progress_after}, Runs.{Caller, caller_at}}
use Rattle.lz_machine.specs.{Notes.{Notes}, SlotsSound.{closes, opens, has_removed_node}, LocksSound.{has_locks, RestsOn}, CallersSound.{is_before_pin}}
use Rattle.lz_machine.{specs.Sound.{Sound}, proofs.Frames.{OneActor.{moving}, Grip.{KeepsGrips, fresh_grip}, NodeLocks.{released_locks}}}
use Rattle.lz_machine.proofs.{Frames.{Hand.{in_hands, same_hand, other_hand, hands_keep}, SameYard.{KeepsTail}, Outside.{inside_side}}, Steps.Walk.{GoesOn}}
use Rattle.lz_machine.proofs.Steps.{Hop.{call_at, own, own_inside}, Claim.{aimed_same}}

-- an actor that has unlinked its node has it out still
out_grip : (dead : Bool) (old : Actor) → old.hold ≡ Unlinked → KeepsGrips dead dead old (with_hold old Released)
out_grip dead old is = grind arith

module _ (n calls : ℕ) (y : Yard) (callers : List (Option Caller)) (disk : Medium) (M : History) (P : Trace) (notes : Notes) (a i : ℕ) (c : Command) (at : Progress) (is : caller_at callers a ≡ Some (call_at i c at)) (sound : Sound n calls y callers disk M P notes) where
  abbrev actor : Actor
  actor = actor_at y a

  release_to : (old new : LockPhase) (next : Progress) → actor.hold ≡ old → released old ≡ new → has_locks old ≡ true → has_locks new ≡ false → RestsOn y.shape.buckets new (with_hold actor new) P
      → KeepsGrips y.vault.dead y.vault.dead actor (with_hold actor new) → is_before_pin at ≡ false → KeepsTail (notes.changed a) at next
      → GoesOn (record { buckets = y.shape.buckets; passes = y.shape.passes; format = y.vault.format; cells = y.vault.cells; dead = y.vault.dead; actor = with_hold actor new }) c next (notes.begun a) P (notes.changed a)
      → Sound n calls (yard_done y actor a Release) (moving callers a (call_at i c at) next) disk M P notes
  release_to old new next hold to locked free rests grips inside keeps goes =
      let me = own n calls y callers disk M P notes a i c at is sound in
      let hand = same_hand n calls y callers disk M P notes a (call_at i c at) is sound (with_hold actor new) in
      let done : Sound n calls (in_hands y (pair_owned y.locks actor.pred actor.curr 0) a (with_hold actor new)) (moving callers a (call_at i c at) next) disk M P notes =
      hands_keep n calls y callers disk M P notes a (call_at i c at) is sound (with_hold actor new) (pair_owned y.locks actor.pred actor.curr 0) next keeps
      (released_locks y.shape y.locks y.actors (set_of_pass y.actors a (with_hold actor new)) P a (other_hand n calls y callers disk M P notes a (call_at i c at) is sound (with_hold actor new)) sound.locks actor.pred actor.curr
      (λ place among. record { locks = ap has_locks hold ∙ locked; among = among })
      (ap (λ (q : Actor). has_locks q.hold) hand ∙ free)
      (subst (λ (q : Actor). RestsOn y.shape.buckets q.hold q P) (sym hand) rests))
      grips
      (record { quiet = me.quiet; begins = me.begins; stands = (inside_side (pin_in y.words.pins a) next goes.inside (own_inside n calls y callers disk M P notes a i c at is sound inside), me.stands.1, goes.relies) })
      in
      subst (λ (q : LockPhase). Sound n calls (in_hands y (pair_owned y.locks actor.pred actor.curr 0) a (with_hold actor q)) (moving callers a (call_at i c at) next) disk M P notes) (sym to ∙ sym (ap released hold)) done

module _ (n calls : ℕ) (y : Yard) (callers : List (Option Caller)) (disk : Medium) (M : History) (P : Trace) (notes : Notes) (a i : ℕ) (sound : Sound n calls y callers disk M P notes) where
  -- after a test that failed
  pub release_keeps : (c : Command) (aim : Option ℕ) → caller_at callers a ≡ Some (call_at i c (Playing (Releasing aim) 0))
      → Sound n calls (yard_done y (actor_at y a) a Release) (moving callers a (call_at i c (Playing (Releasing aim) 0)) (progress_after y.shape c (Playing (Releasing aim) 0) Done)) disk M P notes
  release_keeps c aim is =
      let h = (own n calls y callers disk M P notes a i c (Playing (Releasing aim) 0) is sound).stands.2 in
      release_to n calls y callers disk M P notes a i c (Playing (Releasing aim) 0) is sound Locks Nothing (Walking aim AtHead) h.0 refl refl refl tt
      (fresh_grip y.vault.dead (actor_at y a) (with_hold (actor_at y a) Nothing) (ap (closes y.vault.dead) h.0) (ap (opens y.vault.dead) h.0) (ap has_removed_node h.0) refl refl refl refl) refl (λ none is. absurd (false≢true is))
      (record { relies = (record { hold = refl; none = h.2 }, aimed_same y.shape.buckets y.shape.passes y.vault.format y.vault.cells y.vault.dead (actor_at y a) (with_hold (actor_at y a) Nothing) (key_of c) P aim refl h.1, tt, h.3); inside = refl })

  -- after a linking
  pub linked_release_keeps : (k s : ℕ) → caller_at callers a ≡ Some (call_at i (Add k) (Playing (Adding s) 2))
      → Sound n calls (yard_done y (actor_at y a) a Release) (moving callers a (call_at i (Add k) (Playing (Adding s) 2)) (progress_after y.shape (Add k) (Playing (Adding s) 2) Done)) disk M P notes
  linked_release_keeps k s is =
      let h = (own n calls y callers disk M P notes a i (Add k) (Playing (Adding s) 2) is sound).stands.2 in
      release_to n calls y callers disk M P notes a i (Add k) (Playing (Adding s) 2) is sound Linked Nothing (Playing (Adding s) 3) h.0 refl refl refl tt
      (fresh_grip y.vault.dead (actor_at y a) (with_hold (actor_at y a) Nothing) (ap (closes y.vault.dead) h.0) (ap (opens y.vault.dead) h.0) (ap has_removed_node h.0) refl refl refl refl) refl (λ none is. refl)
      (record { relies = (refl, h.1); inside = refl })

  -- after an unlinking
  pub unlinked_release_keeps : (k s : ℕ) → caller_at callers a ≡ Some (call_at i (Remove k) (Playing (Removing s) 5))
      → Sound n calls (yard_done y (actor_at y a) a Release) (moving callers a (call_at i (Remove k) (Playing (Removing s) 5)) (progress_after y.shape (Remove k) (Playing (Removing s) 5) Done)) disk M P notes
  unlinked_release_keeps k s is =
      let h = (own n calls y callers disk M P notes a i (Remove k) (Playing (Removing s) 5) is sound).stands.2 in
      release_to n calls y callers disk M P notes a i (Remove k) (Playing (Removing s) 5) is sound Unlinked Released (Playing (Removing s) 6) h.2.0 refl refl refl tt
      (out_grip y.vault.dead (actor_at y a) h.2.0) refl (λ none is. refl)
      (record { relies = (h.0, h.1, (refl, h.2.1)); inside = refl })
