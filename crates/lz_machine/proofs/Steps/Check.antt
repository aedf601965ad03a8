-- Check keeps the invariant: its three tests tell of the trace.
use Rattle.std.proofs.Common.{◌≡◌, ℕ, suc, ◌≤◌, ◌&&◌, not, Bool, true, false, List, Option, Some, None, refl, sym, ap, ◌∙◌, subst, arith}
use Rattle.std.proofs.lemmas.{Bool.Decides.{nat_tests}, Option.{same_Some}}
use mathlib.Core.Bool.{false≢true}
use Rattle.lz_slot.specs.{Limits.{most_slots}, declared.command.Command.{Command, TheVariants.{Add, Remove}}, Sets.{key_of}, Counted.{set_of_pass}}
use Rattle.lz_slot.specs.Histories.{History}
use Rattle.lz_disk.specs.Images.{Medium}
use Rattle.lz_list.specs.{declared.place.Place.{Place}, Words.{Words, place_number, link_to, next_at, is_marked_at}}
use Rattle.lz_list.specs.{Traces.{Trace, bucket_of, key_word, is_marked}, Pinned.{Stood, IsQuiet}, Laws.{IsHigh}, Locks.{check, is_marked_node}}
use Rattle.lz_list.proofs.{Chains.PlaceRank.{on_start}, Traces.{Hindsight.{stood_bucket}, WalkEnd.{left_surely}}}
use Rattle.lz_machine.specs.declared.{event.Event.TheVariants.{Check}, actor.{Actor.{Actor}, LockPhase.{LockPhase, TheVariants.{Locks, Checked}}}}
use Rattle.lz_machine.specs.declared.caller.{Sequence.TheVariants.{Releasing}, Progress.{Progress, TheVariants.{Playing, Checking}}}
use Rattle.lz_machine.specs.{Yards.{Yard, Shape, actor_at, pin_in}, Table.{with_hold, yard_done, outcome_of}, Calls.{progress_after, changes}}
use Rattle.lz_machine.specs.{Runs.{Caller, caller_at}, Stands.{Faces, WasBetween, InBucket}, Notes.{Notes}}
use Rattle.lz_machine.specs.SlotsSound.{closes, opens, shuts, unlocks, has_removed_node}
use Rattle.lz_machine.specs.LocksSound.{HasLock, has_locks, RestsOn, IsBeside, IsRightBefore, IsChecked}
use Rattle.lz_machine.specs.{CallersSound.{IsBeyond, HasEnded, MayAim, IsAimed, IsWritten, View, CallerSound}, Sound.{TraceSound, Sound}}
use Rattle.lz_machine.proofs.Frames.{OneActor.{moving}, Grip.{fresh_grip}, NodeLocks.{held_locks}, Ranges.{stood_range, few_slots}}
use Rattle.lz_machine.proofs.Frames.{LoadedWord.{bucket_range, head_next, link_next, link_mark}, Hand.{in_hands, same_hand, other_hand, hands_keep}}
use Rattle.lz_machine.proofs.{Frames.Outside.{inside_side}, Steps.{Walk.{GoesOn}, Hop.{call_at, own, own_inside}, Claim.{pred_was, node_was, aimed_same}}}

-- a place that leads along one bucket's chain does so along that of another key of the bucket
pub faces_bucket : (buckets k j x n : ℕ) (P : Trace) → bucket_of buckets j ≡ bucket_of buckets k → Faces buckets k x n P → Faces buckets j x n P
faces_bucket buckets k j x n P same h = grind arith

pub in_bucket : (buckets k j : ℕ) (pred : Place) → bucket_of buckets j ≡ bucket_of buckets k → InBucket buckets k pred → InBucket buckets j pred
in_bucket buckets k j pred same h = grind (arith, nat_tests)

module _ (shape : Shape) (words : Words) (P : Trace) (trace : TraceSound shape words P) (few : shape.slots ≤ most_slots) (P0 : Trace) (quiet : IsQuiet shape.buckets P0 P) (k : ℕ) where
  abbrev buckets : ℕ
  buckets = shape.buckets

  -- a place that stood and isn't marked is still there, and its next link is the chain's
  faces_now : (pred : Place) (n : ℕ) → InBucket buckets k pred → Stood buckets (bucket_of buckets k) P0 P (place_number pred) → is_marked_at words pred ≡ false → next_at words pred ≡ n → Faces buckets k (place_number pred) n P
  faces_now pred n bucket stood unmarked next = grind (arith, nat_tests, on_start, head_next, bucket_range, stood_range, stood_bucket, quiet, link_mark, left_surely, false≢true, link_next)

  curr_clear : (curr : Option ℕ) (t : ℕ) → curr ≡ Some t → Stood buckets (bucket_of buckets k) P0 P (suc t) → is_marked_node words curr ≡ false → is_marked t P ≡ false
  curr_clear curr t is stood clear = grind (arith, nat_tests, same_Some, link_mark, stood_range)

  module _ (pred : Place) (curr : Option ℕ) (between : WasBetween buckets k pred (link_to curr) P0 P) (clear : is_marked_at words pred ≡ false) (clear_node : is_marked_node words curr ≡ false) (next : next_at words pred ≡ link_to curr) where
    faces : Faces buckets k (place_number pred) (link_to curr) P
    faces = faces_now pred (link_to curr) between.bucket (pred_was buckets k P0 P pred (link_to curr) between) clear next

    -- an adder's pair is round its key's place
    pub beside_now : IsBeyond k P curr → IsBeside buckets k pred curr P
    beside_now h = grind (arith, nat_tests, faces, false≢true, curr_clear, node_was)

    -- a node after the place is a node of its bucket, and not marked
    pub before_now : (t : ℕ) → curr ≡ Some t → k ≤ key_word t P → IsRightBefore buckets pred t P × (is_marked t P ≡ false)
    before_now t is le =
        let stood = node_was buckets shape.slots k P0 P pred curr t is between in
        let same : bucket_of buckets (key_word t P) ≡ bucket_of buckets k = stood_bucket buckets shape.slots P0 (bucket_of buckets k) t P trace.lawful quiet stood in (
          record {
            bucket = in_bucket buckets k (key_word t P) pred same between.bucket;
            faces = record {
              faces = faces_bucket buckets k (key_word t P) (place_number pred) (suc t) P same (subst (λ (q : Option ℕ). Faces buckets k (place_number pred) (link_to q) P) is faces);
              low = omega (arith, between.low, le);
              key = refl;
            };
          },
          curr_clear curr t is stood clear_node,
        )

three_tests : (p q r : Bool) → (not p && not q && r) ≡ true → (p ≡ false) × (q ≡ false) × (r ≡ true)
three_tests p q r is = grind arith

module _ (n calls : ℕ) (y : Yard) (callers : List (Option Caller)) (disk : Medium) (M : History) (P : Trace) (notes : Notes) (a i : ℕ) (c : Command)
    (sound : Sound n calls y callers disk M P notes) (aim : Option ℕ) (curr : Option ℕ) (is : caller_at callers a ≡ Some (call_at i c (Checking aim curr))) where
  abbrev at : Progress
  at = Checking aim curr

  abbrev actor : Actor
  actor = actor_at y a

  abbrev v : LockPhase → View
  v hold = record { buckets = y.shape.buckets; passes = y.shape.passes; format = y.vault.format; cells = y.vault.cells; dead = y.vault.dead; actor = with_hold actor hold }

  me : CallerSound (record { buckets = y.shape.buckets; passes = y.shape.passes; format = y.vault.format; cells = y.vault.cells; dead = y.vault.dead; actor = actor }) (pin_in y.words.pins a) (Some (call_at i c at)) (notes.begun a) P (notes.changed a)
  me = own n calls y callers disk M P notes a i c at is sound

  quiet : IsQuiet y.shape.buckets (notes.begun a) P
  quiet = me.quiet (own_inside n calls y callers disk M P notes a i c at is sound refl)

  -- the turn, with another hold over the same pair
  keeps_hold : (hold : LockPhase) (next : Progress) → has_removed_node hold ≡ false → shuts hold ≡ false → unlocks hold ≡ false → RestsOn y.shape.buckets hold (with_hold actor hold) P → GoesOn (v hold) c next (notes.begun a) P (notes.changed a)
      → Sound n calls (in_hands y y.locks a (with_hold actor hold)) (moving callers a (call_at i c at) next) disk M P notes
  keeps_hold hold next kept open_yet shut_yet rests goes =
      let h = me.stands.2 in
      let hand = same_hand n calls y callers disk M P notes a (call_at i c at) is sound (with_hold actor hold) in
      hands_keep n calls y callers disk M P notes a (call_at i c at) is sound (with_hold actor hold) y.locks next (λ none is. absurd (false≢true is))
      (held_locks y.shape y.locks y.actors (set_of_pass y.actors a (with_hold actor hold)) P a (other_hand n calls y callers disk M P notes a (call_at i c at) is sound (with_hold actor hold)) sound.locks
      (λ place lock. record { locks = ap has_locks h.1; among = (subst (λ (q : Actor). HasLock q place) hand lock).among })
      (subst (λ (q : Actor). RestsOn y.shape.buckets q.hold q P) (sym hand) rests))
      (fresh_grip y.vault.dead actor (with_hold actor hold) (ap (closes y.vault.dead) h.1) (ap (opens y.vault.dead) h.1) (ap has_removed_node h.1) kept open_yet shut_yet refl)
      (record { quiet = me.quiet; begins = me.begins; stands = (inside_side (pin_in y.words.pins a) next goes.inside me.stands.0, me.stands.1, goes.relies) })

  may_aim : (d : Command) → HasEnded d aim y.shape.buckets (notes.begun a) P actor.pred curr → MayAim d aim
  may_aim d h1 = grind arith

  false_keeps : Sound n calls (in_hands y y.locks a (with_hold actor Locks)) (moving callers a (call_at i c at) (Playing (Releasing aim) 0)) disk M P notes
  false_keeps =
      let h = me.stands.2 in
      keeps_hold Locks (Playing (Releasing aim) 0) refl refl refl tt (record { relies = (refl, aimed_same y.shape.buckets y.shape.passes y.vault.format y.vault.cells y.vault.dead actor (with_hold actor Locks) (key_of c) P aim refl h.3, h.0, may_aim c h.4); inside = refl })

  -- under the three tests
  module _ (clear : is_marked_at y.words actor.pred ≡ false) (clear_node : is_marked_node y.words actor.curr ≡ false) (leads : next_at y.words actor.pred ≡ link_to actor.curr) where
    abbrev then : Command → Option ℕ → Option ℕ → Type 0
    then d to node = GoesOn (v Checked) d (changes d to node) (notes.begun a) P (notes.changed a) × IsChecked y.shape.buckets (with_hold actor Checked) P

    true_adds : (k s : ℕ) → notes.changed a ≡ None → IsWritten (v Locks) k s P → HasEnded (Add k) (Some s) y.shape.buckets (notes.begun a) P actor.pred actor.curr → then (Add k) (Some s) actor.curr
    true_adds k s none written h =
        let round = beside_now y.shape y.words P sound.trace (few_slots sound.images) (notes.begun a) quiet k actor.pred actor.curr h.0 clear clear_node leads h.1 in (
          record { relies = (refl, record { slot = written.slot; stage = written.stage; key = written.key; word = written.word }, none); inside = refl },
          record {
            beside = λ t slot. subst (λ (q : ℕ). IsBeside y.shape.buckets q actor.pred actor.curr P) (sym written.word ∙ ap (λ (q : ℕ). key_word q P) (same_Some _ _ (sym written.slot ∙ slot))) round;
            before = λ t node. before_now y.shape y.words P sound.trace (few_slots sound.images) (notes.begun a) quiet k actor.pred actor.curr h.0 clear clear_node leads t node (above t node round.round.high);
          },
        )
      where
        above : (t : ℕ) → actor.curr ≡ Some t → IsHigh k (link_to actor.curr) P → k ≤ key_word t P
        above t node high = grind arith

    true_removes : (k : ℕ) → notes.changed a ≡ None → actor.slot ≡ None → HasEnded (Remove k) None y.shape.buckets (notes.begun a) P actor.pred actor.curr → then (Remove k) None actor.curr
    true_removes k none slot h = grind (arith, nat_tests, before_now, few_slots, quiet, same_Some)

    true_then : (d : Command) (to : Option ℕ) → notes.changed a ≡ None → IsAimed (v Locks) (key_of d) P to → HasEnded d to y.shape.buckets (notes.begun a) P actor.pred actor.curr → then d to actor.curr
    true_then (Add k) (Some s) none aimed h = true_adds k s none aimed h
    true_then (Remove k) None none aimed h = true_removes k none aimed h
    true_then _ _ none aimed h = absurd h

    true_keeps : Sound n calls (in_hands y y.locks a (with_hold actor Checked)) (moving callers a (call_at i c at) (changes c aim curr)) disk M P notes
    true_keeps =
        let h = me.stands.2 in
        let all = true_then c aim h.0 (aimed_same y.shape.buckets y.shape.passes y.vault.format y.vault.cells y.vault.dead actor (with_hold actor Locks) (key_of c) P aim refl h.3) (subst (λ (q : Option ℕ). HasEnded c aim y.shape.buckets (notes.begun a) P actor.pred q) (sym h.2) h.4) in
        keeps_hold Checked (changes c aim curr) refl refl refl all.1 (subst (λ (q : Option ℕ). GoesOn (v Checked) c (changes c aim q) (notes.begun a) P (notes.changed a)) h.2 all.0)

  pub check_keeps : Sound n calls (yard_done y actor a Check) (moving callers a (call_at i c at) (progress_after y.shape c at (outcome_of y actor Check))) disk M P notes
  check_keeps = go (check y.words actor.pred actor.curr) refl
    where
      go : (b : Bool) → check y.words actor.pred actor.curr ≡ b → Sound n calls (yard_done y actor a Check) (moving callers a (call_at i c at) (progress_after y.shape c at (outcome_of y actor Check))) disk M P notes
      go true passes = let tests = three_tests _ _ _ passes in rw passes (true_keeps tests.0 tests.1 (grind (arith, nat_tests, tests.2)))
      go false fails = rw fails false_keeps
