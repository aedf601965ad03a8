-- Where a call comes to by its next event, with what is published for its pass then.
use Rattle.std.proofs.Common.{◌≡◌, ℕ, zero, suc, ◌+◌, ◌≤◌, nat_lt, Bool, true, false, List, [], ◌∷◌, ◌++◌, refl, sym, ◌∙◌, subst, arith, if◌then◌else◌}
use Rattle.std.proofs.{Common.{unwrap_or, Option, Some, None}, lemmas.Bool.Decides.{nat_tests}}
use Rattle.lz_refinement.proofs.Vocabulary.{Command, History, Medium, collect, lowest_free, counts, Place, Met, get, is_pair_free, check, Hopped, More, End, Trace, on}
use Rattle.lz_refinement.proofs.Vocabulary.{chain_of, bucket_of, key_word, Need, may_answer, Actor, LockPhase, Outcome, Reply, Progress, Shape, Yard, actor_at, cell_at}
use Rattle.lz_refinement.proofs.Vocabulary.{slot_of, node_of, is_sure, outcome_of, publishes, settling, slot_found, event_at, loaded, progress_after, changes, hops_on}
use Rattle.lz_refinement.proofs.Vocabulary.{walked, rests, halt_loaded, after_see_pin, View, view_of, Relies, MayRest, is_before_pin, RestsOn, Notes, HasPass, Caller}
use Rattle.lz_refinement.proofs.{Vocabulary.{Sound, own}, Hold.OneWord.{settling_own}, Calls.OwnChanges.{is_calm, calm, calm_none, none_cut, own_cut, cut_halting}}
use Rattle.lz_refinement.{proofs.Calls.OwnChanges.{cut_halted, cut_device, own_linked, own_marked, own_unlinked}, specs.UnderWay.{OwnAt}}
use Rattle.lz_slot.specs.declared.command.Command.TheVariants.{Add, Remove, Has}
use Rattle.lz_list.specs.declared.{publishing.Publishing.TheVariants.{Linked as linked, Marked as marked, Unlinked as unlinked}, walk.Look.TheVariants.{AtHead}}
use Rattle.lz_list.specs.declared.{walk.Met.TheVariants.{Absent, Unmarked, Marked as met_marked}, word.Word.TheVariants.{Key as key_at}}
use Rattle.lz_flush.specs.declared.need.Need.TheVariants.{Now, Sync as asks_sync}
use Rattle.lz_machine.specs.declared.{actor.LockPhase.TheVariants.{GateClosed, Marked}, event.Outcome.TheVariants.{Done, Taken, Busy, True, False, Early}}
use Rattle.lz_machine.specs.declared.event.Reply.TheVariants.{Yes, No, Full, Halted, Device}
use Rattle.lz_machine.specs.declared.caller.Sequence.TheVariants.{Pinning, Resting, Writing, Adding, Removing, Releasing, Halting}
use Rattle.lz_machine.specs.declared.caller.Progress.TheVariants.{Playing, LoadsHalt, Walking, Reserving, SeeingPins, Claiming, Checking, Answering}
use Rattle.lz_machine.proofs.Frames.{LoadedWord.{key_load}, Ranges.{on_range, few_slots}, OtherCallers.{held_node}}

abbrev pub is_full : Progress → Bool
is_full (Answering (Full counts)) = true
is_full at = false

-- a place of a call inside, that isn't the answer full, with what was published for its pass
pub record Onward (shape : Shape) (p : ℕ) (c : Command) (at : Progress) (P : Trace) : Type 0 where
  pub inside : is_before_pin at ≡ false
  pub pass : HasPass shape.passes (event_at shape c at)
  pub is_own : OwnAt p c at P
  pub room : is_full at ≡ false

module _ (shape : Shape) (p : ℕ) (c : Command) (P : Trace) where
  -- at a place where nothing is changed yet
  calm_onward : (at : Progress) → is_before_pin at ≡ false → HasPass shape.passes (event_at shape c at) → is_full at ≡ false → is_calm at ≡ true → P ≡ [] → Onward shape p c at P
  calm_onward at inside pass room is none = record { inside = inside; pass = pass; is_own = calm p c at P is none; room = room }

  pub halting_onward : (reply : Reply) (at : Progress) → OwnAt p c at P → Onward shape p c (Playing (Halting reply) 0) P
  halting_onward reply at h = record { inside = refl; pass = tt; is_own = cut_halting p c reply 0 P (own_cut p c at P h); room = refl }

-- where the reply is one of a call that changed nothing
rested : (shape : Shape) (p buckets s : ℕ) (c : Command) (reply : Reply) (P0 Q P : Trace) → MayRest buckets c reply s P0 Q → P ≡ [] → Onward shape p c (Answering reply) P
rested shape p buckets s (Has k) Yes P0 Q P may none = record { inside = refl; pass = tt; is_own = none; room = refl }
rested shape p buckets s _ No P0 Q P may none = record { inside = refl; pass = tt; is_own = none; room = refl }
rested shape p buckets s _ reply P0 Q P may none = absurd may

-- after a load
module _ (shape : Shape) (p : ℕ) (P : Trace) (none : P ≡ []) where
  answers_no : (c : Command) → Onward shape p c (Answering No) P
  answers_no (Has k) = record { inside = refl; pass = tt; is_own = none; room = refl }
  answers_no _ = record { inside = refl; pass = tt; is_own = none; room = refl }

  rests_onward : (c : Command) (s : ℕ) (need : Need) (reply : Reply) → Onward shape p c (Answering reply) P → Onward shape p c (rests s need reply) P
  rests_onward c s Now reply h = h
  rests_onward c s asks_sync reply h = calm_onward shape p c P (Playing (Resting s reply) 0) refl tt refl refl none

  walked_onward : (c : Command) (aim : Option ℕ) (pred : Place) (curr : Option ℕ) (met : Met) → Onward shape p c (walked c aim pred curr met) P
  walked_onward (Has k) aim pred curr (Unmarked s flags) = rests_onward (Has k) s (may_answer flags) Yes record { inside = refl; pass = tt; is_own = none; room = refl }
  walked_onward (Add k) aim pred curr (Unmarked s flags) = rests_onward (Add k) s (may_answer flags) No (answers_no (Add k))
  walked_onward (Add k) None pred curr _ = calm_onward shape p (Add k) P (Reserving false) refl tt refl refl none
  walked_onward (Add k) (Some t) pred curr _ = calm_onward shape p (Add k) P (Claiming (Some t) pred curr) refl tt refl refl none
  walked_onward (Remove k) aim pred curr (Unmarked s flags) = calm_onward shape p (Remove k) P (Claiming aim pred curr) refl tt refl refl none
  walked_onward c aim pred curr Absent = answers_no c
  walked_onward c aim pred curr (met_marked s flags) = rests_onward c s (may_answer flags) No (answers_no c)

  pub hop_onward : (c : Command) (aim : Option ℕ) (x : Hopped) → Onward shape p c (hops_on c aim x) P
  hop_onward c aim (More look) = calm_onward shape p c P (Walking aim look) refl tt refl refl none
  hop_onward c aim (End pred curr met) = walked_onward c aim pred curr met

  pub halt_onward : (c : Command) (value : ℕ) → Onward shape p c (halt_loaded value) P
  halt_onward c value = grind (arith, nat_tests, cut_halted, none_cut, calm_onward)

  -- after a test that held
  changes_onward : (c : Command) (aim curr : Option ℕ) → Onward shape p c (changes c aim curr) P
  changes_onward (Has k) aim curr = calm_onward shape p (Has k) P (Playing (Releasing aim) 0) refl tt refl refl none
  changes_onward (Add k) None curr = calm_onward shape p (Add k) P (Playing (Releasing None) 0) refl tt refl refl none
  changes_onward (Add k) (Some s) curr = record { inside = refl; pass = tt; is_own = none; room = refl }
  changes_onward (Remove k) aim None = calm_onward shape p (Remove k) P (Playing (Releasing aim) 0) refl tt refl refl none
  changes_onward (Remove k) aim (Some s) = record { inside = refl; pass = tt; is_own = none; room = refl }

-- the event of this place is no load, no Pin, no Answer and no second Reserve
abbrev pub IsPlain : Progress → Type 0
IsPlain (Playing Pinning i) = ⊥
IsPlain LoadsHalt = ⊥
IsPlain (Walking aim look) = ⊥
IsPlain (Reserving true) = ⊥
IsPlain (Answering reply) = ⊥
IsPlain at = Unit {0}

-- where an event is played in a sound state
module _ (n calls : ℕ) (y : Yard) (callers : List (Option Caller)) (disk : Medium) (M : History) (P : Trace) (notes : Notes) (sound : Sound n calls y callers disk M P notes) (a : ℕ) (some : 1 ≤ y.shape.passes) (P0 : Trace) (changed : Option ℕ) (Q : Trace) where
  abbrev v : View
  v = view_of y.shape y.vault y.actors a

  abbrev actor : Actor
  actor = actor_at y a

  abbrev Goes : Command → Progress → Outcome → Trace → Type 0
  Goes c at o published = Onward y.shape a c (progress_after y.shape c at o) (own a published ++ Q)

  -- the key words of the slot and of the node in its hand
  slot_key : (k s : ℕ) → actor.slot ≡ Some s → key_word s P ≡ k → get y.words (key_at s) ≡ k
  slot_key k s slot word = key_load y.shape y.words P sound.trace (few_slots sound.images) s (sound.slots.hand a s slot).in_range ∙ word

  on_chain : (k s : ℕ) → key_word s P ≡ k → on 0 (chain_of y.shape.buckets (key_word s P) P) (suc s) ≡ true → get y.words (key_at s) ≡ k
  on_chain k s word there = grind (arith, key_load, few_slots, on_range, bucket_of)

  closed_key : (k s : ℕ) → actor.hold ≡ GateClosed → actor.curr ≡ Some s → key_word s P ≡ k → get y.words (key_at s) ≡ k
  closed_key k s hold curr word = on_chain k s word (held_node y.shape P GateClosed actor sound.trace.lawful (subst (λ (q : LockPhase). RestsOn y.shape.buckets q actor P) hold (sound.locks.rests a)) s curr refl)

  marked_key : (k s : ℕ) → actor.hold ≡ Marked → actor.curr ≡ Some s → key_word s P ≡ k → get y.words (key_at s) ≡ k
  marked_key k s hold curr word = on_chain k s word (held_node y.shape P Marked actor sound.trace.lawful (subst (λ (q : LockPhase). RestsOn y.shape.buckets q actor P) hold (sound.locks.rests a)) s curr refl)

  -- what Link, Mark and Unlink publish
  links : (k s : ℕ) → actor.slot ≡ Some s → key_word s P ≡ k → own a (linked (get y.words (key_at (slot_of actor))) (slot_of actor) a ∷ []) ≡ linked k s a ∷ []
  links k s slot word = grind (arith, own_linked, unwrap_or, slot_key)

  marks : (k s : ℕ) → actor.hold ≡ GateClosed → actor.curr ≡ Some s → key_word s P ≡ k → own a (marked (get y.words (key_at (node_of actor))) (node_of actor) a ∷ []) ≡ marked k s a ∷ []
  marks k s hold curr word = grind (arith, own_marked, unwrap_or, closed_key)

  unlinks : (k s : ℕ) → actor.hold ≡ Marked → actor.curr ≡ Some s → key_word s P ≡ k → own a (unlinked (get y.words (key_at (node_of actor))) (node_of actor) a ∷ []) ≡ unlinked k s a ∷ []
  unlinks k s hold curr word = grind (arith, own_unlinked, unwrap_or, marked_key)

  -- a settling, or a sync played again
  settles : (c : Command) (at : Progress) (s : ℕ) → Onward y.shape a c (progress_after y.shape c at Done) Q → Onward y.shape a c (progress_after y.shape c at Early) Q
      → Goes c at (if is_sure y s then Done else Early) (settling (cell_at y s).stage s)
  settles c at s done early = subst (λ (l : Trace). Onward y.shape a c (progress_after y.shape c at (if is_sure y s then Done else Early)) (l ++ Q)) (sym (settling_own a (cell_at y s).stage s)) (go (is_sure y s))
    where
      go : (sure : Bool) → Onward y.shape a c (progress_after y.shape c at (if sure then Done else Early)) Q
      go true = done
      go false = early

  sees : (c : Command) (p : ℕ) → Q ≡ [] → Onward y.shape a c (after_see_pin y.shape p) Q
  sees c p none = go (nat_lt p y.shape.passes) refl
    where
      go : (more : Bool) → nat_lt p y.shape.passes ≡ more → Onward y.shape a c (if more then SeeingPins (p + 1) else Reserving true) Q
      go true is = calm_onward y.shape a c Q (SeeingPins (p + 1)) refl (omega arith, grind (arith, nat_tests, is)) refl refl none
      go false is = calm_onward y.shape a c Q (Reserving true) refl tt refl refl none

  reserves : (c : Command) (found : Option ℕ) → Q ≡ [] → Onward y.shape a c (progress_after y.shape c (Reserving false) (slot_found found (collect y.uses))) Q
  reserves c (Some s) none = calm_onward y.shape a c Q (Playing (Writing s) 0) refl tt refl refl none
  reserves c None none = calm_onward y.shape a c Q (SeeingPins 1) refl (omega arith, some) refl refl none

  claims : (c : Command) (aim : Option ℕ) (pred : Place) (curr : Option ℕ) (free : Bool) → Q ≡ [] → Onward y.shape a c (progress_after y.shape c (Claiming aim pred curr) (if free then Taken else Busy)) Q
  claims c aim pred curr true none = calm_onward y.shape a c Q (Checking aim curr) refl tt refl refl none
  claims c aim pred curr false none = calm_onward y.shape a c Q (Claiming aim pred curr) refl tt refl refl none

  checks : (c : Command) (aim curr : Option ℕ) (holds : Bool) → Q ≡ [] → Onward y.shape a c (progress_after y.shape c (Checking aim curr) (if holds then True else False)) Q
  checks c aim curr true none = changes_onward y.shape a Q none c aim curr
  checks c aim curr false none = calm_onward y.shape a c Q (Playing (Releasing aim) 0) refl tt refl refl none

  -- The event of the place that it has come to.
  abbrev Plays : Command → Progress → Type 0
  Plays c at = Relies v c at P0 P changed → OwnAt a c at Q → Goes c at (outcome_of y actor (loaded y.words (event_at y.shape c at))) (publishes y actor a (loaded y.words (event_at y.shape c at)))

  plays_resting : (c : Command) (s i : ℕ) (reply : Reply) → Plays c (Playing (Resting s reply) i)
  plays_resting c s zero reply relies h = calm_onward y.shape a c Q (Playing (Resting s reply) 1) refl tt refl refl (calm_none a c (Playing (Resting s reply) 0) Q refl h)
  plays_resting c s (suc zero) reply relies h =
      let none = calm_none a c (Playing (Resting s reply) 1) Q refl h in
      settles c (Playing (Resting s reply) 1) s (rested y.shape a v.buckets s c reply P0 P Q relies.1 none) (calm_onward y.shape a c Q (Playing (Resting s reply) 0) refl tt refl refl none)
  plays_resting c s (suc (suc i)) reply relies h = absurd relies

  plays_writing : (c : Command) (s i : ℕ) → Plays c (Playing (Writing s) i)
  plays_writing c s zero relies h = calm_onward y.shape a c Q (Playing (Writing s) 1) refl tt refl refl (calm_none a c (Playing (Writing s) 0) Q refl h)
  plays_writing c s (suc zero) relies h = calm_onward y.shape a c Q (Walking (Some s) AtHead) refl tt refl refl (calm_none a c (Playing (Writing s) 1) Q refl h)
  plays_writing c s (suc (suc i)) relies h = absurd relies

  plays_adding : (c : Command) (s i : ℕ) → Plays c (Playing (Adding s) i)
  plays_adding (Add k) s (suc zero) relies h = record { inside = refl; pass = tt; is_own = (λ i. links k s relies.1 relies.2 i ++ h i); room = refl }
  plays_adding (Add k) s (suc (suc (suc (suc zero)))) relies h =
      settles (Add k) (Playing (Adding s) 4) s record { inside = refl; pass = tt; is_own = (s, h); room = refl } record { inside = refl; pass = tt; is_own = h; room = refl }
  plays_adding (Add k) s (suc (suc (suc (suc (suc i))))) relies h = absurd relies
  plays_adding (Add k) s _ relies h = record { inside = refl; pass = tt; is_own = h; room = refl }
  plays_adding _ s i relies h = absurd relies

  plays_removing : (c : Command) (s i : ℕ) → Plays c (Playing (Removing s) i)
  plays_removing (Remove k) s (suc zero) relies h = record { inside = refl; pass = tt; is_own = (λ i. marks k s relies.2.0 relies.0 relies.2.1 i ++ h i); room = refl }
  plays_removing (Remove k) s (suc (suc (suc zero))) relies h =
      settles (Remove k) (Playing (Removing s) 3) s record { inside = refl; pass = tt; is_own = h; room = refl } record { inside = refl; pass = tt; is_own = h; room = refl }
  plays_removing (Remove k) s (suc (suc (suc (suc zero)))) relies h = record { inside = refl; pass = tt; is_own = (λ i. unlinks k s relies.2.0 relies.0 relies.2.1 i ++ h i); room = refl }
  plays_removing (Remove k) s (suc (suc (suc (suc (suc (suc zero)))))) relies h = record { inside = refl; pass = tt; is_own = (s, h); room = refl }
  plays_removing (Remove k) s (suc (suc (suc (suc (suc (suc (suc i))))))) relies h = absurd relies.2
  plays_removing (Remove k) s _ relies h = record { inside = refl; pass = tt; is_own = h; room = refl }
  plays_removing _ s i relies h = absurd relies

  plays_releasing : (c : Command) (aim : Option ℕ) (i : ℕ) → Plays c (Playing (Releasing aim) i)
  plays_releasing c aim zero relies h = calm_onward y.shape a c Q (Walking aim AtHead) refl tt refl refl (calm_none a c (Playing (Releasing aim) 0) Q refl h)
  plays_releasing c aim (suc i) relies h = absurd relies

  plays_halting : (c : Command) (reply : Reply) (i : ℕ) → Plays c (Playing (Halting reply) i)
  plays_halting c Halted zero relies h = record { inside = refl; pass = tt; is_own = cut_halted a c Q (own_cut a c (Playing (Halting Halted) 0) Q h); room = refl }
  plays_halting c Device zero relies h = record { inside = refl; pass = tt; is_own = cut_device a c Q (own_cut a c (Playing (Halting Device) 0) Q h); room = refl }
  plays_halting c reply (suc i) relies h = absurd relies
  plays_halting c _ zero relies h = absurd relies.0

  pub plays_onward : (c : Command) (at : Progress) → IsPlain at → Plays c at
  plays_onward c (Playing (Resting s reply) i) plain relies h = plays_resting c s i reply relies h
  plays_onward c (Playing (Writing s) i) plain relies h = plays_writing c s i relies h
  plays_onward c (Playing (Adding s) i) plain relies h = plays_adding c s i relies h
  plays_onward c (Playing (Removing s) i) plain relies h = plays_removing c s i relies h
  plays_onward c (Playing (Releasing aim) i) plain relies h = plays_releasing c aim i relies h
  plays_onward c (Playing (Halting reply) i) plain relies h = plays_halting c reply i relies h
  plays_onward c (Reserving false) plain relies h = reserves c (lowest_free (collect y.uses)) (calm_none a c (Reserving false) Q refl h)
  plays_onward c (SeeingPins p) plain relies h = sees c p (calm_none a c (SeeingPins p) Q refl h)
  plays_onward c (Claiming aim pred curr) plain relies h = claims c aim pred curr (is_pair_free y.locks pred curr) (calm_none a c (Claiming aim pred curr) Q refl h)
  plays_onward c (Checking aim curr) plain relies h = checks c aim curr (check y.words actor.pred actor.curr) (calm_none a c (Checking aim curr) Q refl h)
  plays_onward c _ plain relies h = absurd plain
