-- A claim keeps the invariant.
use Rattle.std.proofs.{lemmas.Bool.Decides.{nat_tests}, Common.{◌≡◌, ℕ, suc, Bool, true, false, List, Option, Some, refl, sym, ap, subst, arith}}
use Rattle.lz_slot.specs.{declared.{format.Format.{Format}, command.Command.{Command}}, Sets.{key_of}, Counted.{set_of_pass}, Histories.{History}}
use Rattle.lz_disk.specs.Images.{Medium}
use Rattle.lz_vault.specs.Stages.{Cell}
use Rattle.lz_list.specs.{declared.place.Place.{Place}, Words.{place_number, link_to}, Traces.{Trace, Adjacent, on, chain_of, bucket_of}, Pinned.{Stood}}
use Rattle.lz_list.{specs.Locks.{is_pair_free, pair_owned}, proofs.{Chains.PlaceRank.{adjacent_on}, Traces.Hindsight.{once_weaker, next_stood}}}
use Rattle.lz_machine.specs.declared.{event.Event.TheVariants.{Claim}, actor.{Actor.{Actor}, LockPhase.TheVariants.{Locks}}, caller.Progress.{Progress}}
use Rattle.lz_machine.specs.{declared.caller.Progress.TheVariants.{Claiming, Checking}, Yards.{Yard, actor_at}, Table.{yard_done, outcome_of}}
use Rattle.lz_machine.specs.{Calls.{progress_after}, Runs.{Caller, caller_at}, Stands.{WasBetween, InBucket}, Notes.{Notes}}
use Rattle.lz_machine.specs.{SlotsSound.{closes, opens, has_removed_node}, LocksSound.{HasLock, RestsOn}, CallersSound.{HasEnded, IsAimed}, Sound.{Sound}}
use Rattle.lz_machine.proofs.Frames.{OneActor.{moving}, Grip.{fresh_grip}, NodeLocks.{IsPlaceIn, claimed_locks}, Ranges.{stood_range, few_slots}}
use Rattle.lz_machine.proofs.{Frames.{LoadedWord.{bucket_range}, Hand.{in_hands, same_hand, other_hand, hands_keep}}, Steps.Hop.{call_at, own, goes_on_keeps}}
use mathlib.Core.Bool.{false≢true}

-- where a walk has ended, the two places stood next to each other
pub ended_between : (c : Command) (aim : Option ℕ) (buckets : ℕ) (P0 P : Trace) (pred : Place) (curr : Option ℕ) → HasEnded c aim buckets P0 P pred curr → WasBetween buckets (key_of c) pred (link_to curr) P0 P
ended_between c aim buckets P0 P pred curr h = grind (arith, nat_tests)

-- so both stood
pub pred_was : (buckets k : ℕ) (P0 P : Trace) (pred : Place) (n : ℕ) → WasBetween buckets k pred n P0 P → Stood buckets (bucket_of buckets k) P0 P (place_number pred)
pred_was buckets k P0 P pred n h = once_weaker P0 P (λ R. Adjacent 0 (chain_of buckets k R) (place_number pred) n) (λ R. on 0 (chain_of buckets k R) (place_number pred) ≡ true) (λ R from to adj. adjacent_on 0 (chain_of buckets k R) (place_number pred) n adj) h.were

pub node_was : (buckets slots k : ℕ) (P0 P : Trace) (pred : Place) (curr : Option ℕ) (s : ℕ) → curr ≡ Some s → WasBetween buckets k pred (link_to curr) P0 P → Stood buckets (bucket_of buckets k) P0 P (suc s)
node_was buckets slots k P0 P pred curr s is h = next_stood buckets slots P0 (bucket_of buckets k) (place_number pred) (suc s) P (subst (λ (q : Option ℕ). WasBetween buckets k pred (link_to q) P0 P) is h).were (λ none. grind arith)

pub aimed_same : (buckets passes : ℕ) (format : Format) (cells : List Cell) (dead : Bool) (old new : Actor) (k : ℕ) (P : Trace) (aim : Option ℕ) → new.slot ≡ old.slot
    → IsAimed (record { buckets = buckets; passes = passes; format = format; cells = cells; dead = dead; actor = old }) k P aim → IsAimed (record { buckets = buckets; passes = passes; format = format; cells = cells; dead = dead; actor = new }) k P aim
aimed_same buckets passes format cells dead old new k P aim same h = grind (arith, nat_tests)

module _ (n calls : ℕ) (y : Yard) (callers : List (Option Caller)) (disk : Medium) (M : History) (P : Trace) (notes : Notes) (a i : ℕ) (c : Command)
    (sound : Sound n calls y callers disk M P notes) (aim : Option ℕ) (pred : Place) (curr : Option ℕ)
    (is : caller_at callers a ≡ Some (call_at i c (Claiming aim pred curr))) where
  abbrev at : Progress
  at = Claiming aim pred curr

  abbrev x : Actor
  x = record (actor_at y a) { hold = Locks; pred = pred; curr = curr }

  pred_in : InBucket y.shape.buckets (key_of c) pred → Stood y.shape.buckets (bucket_of y.shape.buckets (key_of c)) (notes.begun a) P (place_number pred) → IsPlaceIn y.locks pred
  pred_in = grind (arith, nat_tests, bucket_range, few_slots, stood_range)

  -- both locks were free
  taken_keeps : is_pair_free y.locks pred curr ≡ true → Sound n calls (in_hands y (pair_owned y.locks pred curr a) a x) (moving callers a (call_at i c at) (Checking aim curr)) disk M P notes
  taken_keeps free =
      let me = own n calls y callers disk M P notes a i c at is sound in
      let h = me.stands.2 in
      let between = ended_between c aim y.shape.buckets (notes.begun a) P pred curr h.2 in
      let hand = same_hand n calls y callers disk M P notes a (call_at i c at) is sound x in
      hands_keep n calls y callers disk M P notes a (call_at i c at) is sound x (pair_owned y.locks pred curr a) (Checking aim curr) (λ none is. absurd (false≢true is))
      (claimed_locks y.shape y.locks y.actors (set_of_pass y.actors a x) P a (other_hand n calls y callers disk M P notes a (call_at i c at) is sound x) sound.locks pred curr free
      (pred_in between.bucket (pred_was y.shape.buckets (key_of c) (notes.begun a) P pred (link_to curr) between))
      (λ s here. omega (arith, sound.locks.nodes, stood_range y.shape.buckets y.shape.slots (notes.begun a) P (bucket_of y.shape.buckets (key_of c)) s sound.trace.lawful (node_was y.shape.buckets y.shape.slots (key_of c) (notes.begun a) P pred curr s here between)))
      (λ place lock. (subst (λ (q : Actor). HasLock q place) hand lock).among)
      (subst (λ (q : Actor). RestsOn y.shape.buckets q.hold q P) (sym hand) tt))
      (fresh_grip y.vault.dead (actor_at y a) x (ap (closes y.vault.dead) h.0.hold) (ap (opens y.vault.dead) h.0.hold) (ap has_removed_node h.0.hold) refl refl refl refl)
      (record { quiet = me.quiet; begins = me.begins; stands = (me.stands.0, me.stands.1, (h.0.none, refl, refl, aimed_same y.shape.buckets y.shape.passes y.vault.format y.vault.cells y.vault.dead (actor_at y a) x (key_of c) P aim refl h.1, h.2)) })

  -- one of them was taken
  busy_keeps : Sound n calls y (moving callers a (call_at i c at) at) disk M P notes
  busy_keeps = goes_on_keeps n calls y callers disk M P notes a i c at is sound at refl (λ none may. may) (record { relies = (own n calls y callers disk M P notes a i c at is sound).stands.2; inside = refl })

  pub claim_keeps : Sound n calls (yard_done y (actor_at y a) a (Claim pred curr)) (moving callers a (call_at i c at) (progress_after y.shape c at (outcome_of y (actor_at y a) (Claim pred curr)))) disk M P notes
  claim_keeps = go (is_pair_free y.locks pred curr) refl
    where
      go : (b : Bool) → is_pair_free y.locks pred curr ≡ b → Sound n calls (yard_done y (actor_at y a) a (Claim pred curr)) (moving callers a (call_at i c at) (progress_after y.shape c at (outcome_of y (actor_at y a) (Claim pred curr)))) disk M P notes
      go true free = rw free (taken_keeps free)
      go false busy = rw busy busy_keeps
