-- What a caller relies on stays when another actor publishes.
use Rattle.std.proofs.lemmas.Bool.{cases_Bool, Decides.{nat_tests, eqb_tells}}
use Rattle.std.proofs.Common.{List, ◌≡◌, ◌⊎◌, inl, inr, ℕ, suc, Bool, true, false, ◌∷◌, Option, Some, None, refl, ap, ◌∙◌, subst, arith}
use Rattle.lz_vault.specs.Stages.{Cell}
use mathlib.Core.Bool.{false≢true}
use Rattle.lz_slot.specs.declared.{format.Format.{Format}, command.Command.{Command, TheVariants.{Add, Remove}}}
use Rattle.lz_list.specs.declared.{place.Place.{Place}, publishing.Publishing.{Publishing, TheVariants.{Halted as halted}}, walk.Look.{Look}}
use Rattle.lz_list.specs.{declared.walk.Look.TheVariants.{AtHead, AtKey, AtMet, AtBelow}, Words.{place_number, link_to}}
use Rattle.lz_list.specs.Traces.{Trace, Lawful, Adjacent, on, chain, chain_of, bucket_of, key_word, linking, linking_in, is_removed, halt_word, rank_at}
use Rattle.lz_list.{specs.{Pinned.{Stood, IsKept, IsQuiet}, Laws.{IsHigh}}, proofs.Chains.{PlaceRank.{adjacent_on, has_on}, TraceChain.{words_show_chain}}}
use Rattle.lz_list.proofs.Traces.{Absence.{begins_itself}, Hindsight.{key_stays, once_weaker, next_stood}, WalkEnd.{mark_stays, linking_stays, removed_later}}
use Rattle.lz_machine.specs.declared.{event.Reply.{Reply}, actor.{Actor.{Actor}, LockPhase.{LockPhase, TheVariants.{Nothing, Checked, GateClosed, Marked}}}}
use Rattle.lz_machine.specs.{declared.caller.{Sequence.{Sequence}, Progress.{Progress}}, Runs.{Caller}, Stands.{IsWalking, WasBetween}, Yards.{IsInside}}
use Rattle.lz_machine.specs.CallersSound.{View, IsWritten, IsAimed, IsBeyond, HasEnded, IsLooking, IsSince, RestsYes, RestsNo, WasAbsent, IsSettledChange}
use Rattle.lz_machine.specs.CallersSound.{MayAnswer, HasAdded, HasMarked, MayRest, IsEmptyHanded, ReliesWriting, ReliesAdding, ReliesRemoving, ReliesOn, Relies}
use Rattle.lz_machine.{specs.{CallersSound.{IsCaller, CallerSound, is_before_pin}, SlotsSound.{shuts}}, proofs.Ledger.Growth.{upto_more, yes_stays, no_stays}}
use Rattle.lz_machine.proofs.Frames.Outside.{side_even}

pub halt_stays : (e : Publishing) (P : Trace) → halt_word P ≡ 1 → halt_word (e ∷ P) ≡ 1
halt_stays halted P is = refl
halt_stays _ _ is = is

-- the node of the actor's pair, on which it relies
abbrev pub relies_on_node : LockPhase → Bool
relies_on_node GateClosed = true
relies_on_node Checked = true
relies_on_node Marked = true
relies_on_node _ = false

-- an actor that has closed a gate relies on its node, which is on its chain
pub shut_relies : (hold : LockPhase) → shuts hold ≡ true → relies_on_node hold ≡ true
shut_relies hold e = grind arith

module _ (buckets slots : ℕ) (e : Publishing) (P : Trace) (law : Lawful buckets slots (e ∷ P)) where
  -- a node on a chain keeps its key word and its linking
  pub node_word : (t b : ℕ) → on 0 (chain buckets b P) (suc t) ≡ true → key_word t (e ∷ P) ≡ key_word t P
  node_word t b there = grind arith

  pub node_linking : (t b : ℕ) → on 0 (chain buckets b P) (suc t) ≡ true → linking_in t (e ∷ P) ≡ linking_in t P
  node_linking t b there = grind arith

  -- and so does its key
  pub key_linking : (k t : ℕ) → on 0 (chain_of buckets k P) (suc t) ≡ true → key_word t P ≡ k → linking k (e ∷ P) ≡ linking k P
  key_linking k t there key = grind (arith, nat_tests, eqb_tells, words_show_chain, has_on, false≢true)

  module _ (P0 : Trace) (kept : IsKept buckets P0 e P) (quiet : IsQuiet buckets P0 P) where
    -- a place of a chain keeps its rank
    pub rank_stays : (b x : ℕ) → Stood buckets b P0 P x → rank_at (λ t. key_word t (e ∷ P)) x ≡ rank_at (λ t. key_word t P) x
    rank_stays b x stood = grind (arith, nat_tests, key_stays, kept)

    pub walking_stays : (k x : ℕ) → IsWalking buckets k x P0 P → IsWalking buckets k x P0 (e ∷ P)
    walking_stays k x h = record { stood = inr h.stood; low = omega (arith, h.low, rank_stays (bucket_of buckets k) x h.stood) }

    pub pred_stood : (k : ℕ) (pred : Place) (n : ℕ) → WasBetween buckets k pred n P0 P → Stood buckets (bucket_of buckets k) P0 P (place_number pred)
    pred_stood k pred n h = once_weaker P0 P (λ R. Adjacent 0 (chain_of buckets k R) (place_number pred) n) (λ R. on 0 (chain_of buckets k R) (place_number pred) ≡ true) (λ R from to adj. adjacent_on 0 (chain_of buckets k R) (place_number pred) n adj) h.were

    pub next_is : (k : ℕ) (pred : Place) (t : ℕ) → WasBetween buckets k pred (suc t) P0 P → Stood buckets (bucket_of buckets k) P0 P (suc t)
    next_is k pred t h = next_stood buckets slots P0 (bucket_of buckets k) (place_number pred) (suc t) P h.were (λ is. grind arith)

    pub between_stays : (k : ℕ) (pred : Place) (n : ℕ) → WasBetween buckets k pred n P0 P → WasBetween buckets k pred n P0 (e ∷ P)
    between_stays k pred n h = record { bucket = h.bucket; low = omega (arith, h.low, rank_stays (bucket_of buckets k) (place_number pred) (pred_stood k pred n h)); were = inr h.were }

    word_stays : (k : ℕ) (pred : Place) (t j : ℕ) → WasBetween buckets k pred (suc t) P0 P → key_word t P ≡ j → key_word t (e ∷ P) ≡ j
    word_stays k pred t j h is = key_stays buckets slots P0 (bucket_of buckets k) t e P kept (next_is k pred t h) ∙ is

    high_stays : (k : ℕ) (pred : Place) (curr : Option ℕ) → WasBetween buckets k pred (link_to curr) P0 P → IsHigh k (link_to curr) P → IsHigh k (link_to curr) (e ∷ P)
    high_stays k pred curr h high = grind (arith, nat_tests, key_stays, kept, next_is)

    met_there : (k : ℕ) (pred : Place) (curr : Option ℕ) (t : ℕ) → WasBetween buckets k pred (link_to curr) P0 P → curr ≡ Some t → WasBetween buckets k pred (suc t) P0 P
    met_there k pred curr t h is = subst (λ (q : Option ℕ). WasBetween buckets k pred (link_to q) P0 P) is h

    beyond_stays : (k : ℕ) (pred : Place) (curr : Option ℕ) → WasBetween buckets k pred (link_to curr) P0 P → IsBeyond k P curr → IsBeyond k (e ∷ P) curr
    beyond_stays k pred curr h (inl high) = inl (high_stays k pred curr h high)
    beyond_stays k pred curr h (inr (t, is, key, mark)) = grind (arith, met_there, word_stays, mark_stays, kept, next_is)

    pub ended_stays : (c : Command) (aim : Option ℕ) (pred : Place) (curr : Option ℕ) → HasEnded c aim buckets P0 P pred curr → HasEnded c aim buckets P0 (e ∷ P) pred curr
    ended_stays (Add k) (Some s) pred curr h = (between_stays k pred (link_to curr) h.0, beyond_stays k pred curr h.0 h.1)
    ended_stays (Remove k) None pred curr h = (between_stays k pred (link_to curr) h.0, (h.1.0, h.1.1, word_stays k pred h.1.0 k (met_there k pred curr h.1.0 h.0 h.1.1) h.1.2))
    ended_stays _ _ pred curr h = absurd h

    pub looking_stays : (k : ℕ) (look : Look) → IsLooking buckets k P0 P look → IsLooking buckets k P0 (e ∷ P) look
    looking_stays k AtHead h = tt
    looking_stays k (AtKey pred s) h = between_stays k pred (suc s) h
    looking_stays k (AtMet pred s) h = (between_stays k pred (suc s) h.0, word_stays k pred s k h.0 h.1)
    looking_stays k (AtBelow s) h = walking_stays k (suc s) h

    pub added_stays : (k s : ℕ) (changed : Option ℕ) → HasAdded buckets k s P0 P changed → HasAdded buckets k s P0 (e ∷ P) changed
    added_stays k s changed h = grind (arith, upto_more, linking_stays)

  pub since_stays : (P0 R : Trace) → IsSince P0 R P → IsSince P0 R (e ∷ P)
  since_stays P0 R h = record { from = h.from; upto = inr h.upto }

  rest_stays : (c : Command) (reply : Reply) (s : ℕ) (P0 : Trace) → MayRest buckets c reply s P0 P → MayRest buckets c reply s P0 (e ∷ P)
  rest_stays c reply s P0 h = grind arith

  pub rests_yes_stays : (k : ℕ) (P0 : Trace) → RestsYes k P0 P → RestsYes k P0 (e ∷ P)
  rests_yes_stays k P0 h = record { then = h.then; since = since_stays P0 h.then h.since; settled = yes_stays e P h.then k h.settled }

  pub rests_no_stays : (k : ℕ) (P0 : Trace) → RestsNo k P0 P → RestsNo k P0 (e ∷ P)
  rests_no_stays k P0 h = record { then = h.then; since = since_stays P0 h.then h.since; settled = no_stays e P h.then k h.settled }

  absent_stays : (k : ℕ) (P0 : Trace) → WasAbsent k P0 P → WasAbsent k P0 (e ∷ P)
  absent_stays k P0 h = record { then = h.then; since = since_stays P0 h.then h.since; gone = h.gone }

  pub change_stays : (k : ℕ) (changed : Option ℕ) → IsSettledChange k P changed → IsSettledChange k (e ∷ P) changed
  change_stays k changed h = grind (arith, upto_more, yes_stays, no_stays)

  answer_stays : (c : Command) (reply : Reply) (P0 : Trace) (changed : Option ℕ) → MayAnswer c reply P0 P changed → MayAnswer c reply P0 (e ∷ P) changed
  answer_stays c reply P0 changed h = grind (arith, nat_tests, rests_yes_stays, rests_no_stays, change_stays, halt_stays, absent_stays)

  idle_stays : (actor : Actor) → IsEmptyHanded actor P → IsEmptyHanded actor (e ∷ P)
  idle_stays actor h = grind (arith, nat_tests, halt_stays)

  let_go : (hold : LockPhase) → (hold ≡ Nothing) ⊎ (halt_word P ≡ 1) → (hold ≡ Nothing) ⊎ (halt_word (e ∷ P) ≡ 1)
  let_go hold h = grind (arith, nat_tests, halt_stays)

  -- What another's publishing leaves of a caller: its slot's key word, its node on the chain, and the slots that it may stand on.
  pub record LeavesCaller (actor : Actor) (pin : ℕ) (P0 : Trace) : Type 0 where
    pub kept : IsInside pin → IsKept buckets P0 e P
    pub word : (s : ℕ) → actor.slot ≡ Some s → key_word s (e ∷ P) ≡ key_word s P
    pub node : (t : ℕ) → actor.curr ≡ Some t → relies_on_node actor.hold ≡ true → on 0 (chain_of buckets (key_word t P) P) (suc t) ≡ true

  module _ (passes : ℕ) (format : Format) (cells : List Cell) (dead : Bool) (actor : Actor) (pin : ℕ) (P0 : Trace) (changed : Option ℕ) (leaves : LeavesCaller actor pin P0) where
    abbrev v : View
    v = record { buckets = buckets; passes = passes; format = format; cells = cells; dead = dead; actor = actor }

    written_stays : (k s : ℕ) → IsWritten v k s P → IsWritten v k s (e ∷ P)
    written_stays k s h = record { slot = h.slot; stage = h.stage; key = h.key; word = leaves.word s h.slot ∙ h.word }

    aimed_stays : (k : ℕ) (aim : Option ℕ) → IsAimed v k P aim → IsAimed v k (e ∷ P) aim
    aimed_stays k aim h = grind (arith, nat_tests, written_stays)

    writing_stays : (c : Command) (s i : ℕ) → ReliesWriting v c s i P changed → ReliesWriting v c s i (e ∷ P) changed
    writing_stays c s i h = grind (arith, nat_tests)

    -- the remover's node, which its locks keep
    node_there : (t : ℕ) → actor.curr ≡ Some t → (hold : LockPhase) → actor.hold ≡ hold → relies_on_node hold ≡ true → on 0 (chain_of buckets (key_word t P) P) (suc t) ≡ true
    node_there t is hold at relies = leaves.node t is (ap relies_on_node at ∙ relies)

    node_word_stays : (t k : ℕ) → actor.curr ≡ Some t → (hold : LockPhase) → actor.hold ≡ hold → relies_on_node hold ≡ true → key_word t P ≡ k → key_word t (e ∷ P) ≡ k
    node_word_stays t k is hold at relies key = node_word t (bucket_of buckets (key_word t P)) (node_there t is hold at relies) ∙ key

    marked_stays : (k t : ℕ) → actor.curr ≡ Some t → actor.hold ≡ Marked → HasMarked k t P changed → HasMarked k t (e ∷ P) changed
    marked_stays k t is at h = grind (arith, upto_more, node_word_stays, node_linking, node_there)

    removed_stays : (k t : ℕ) → actor.curr ≡ Some t → actor.hold ≡ Marked → key_word t P ≡ k → is_removed (linking k P) P ≡ true → is_removed (linking k (e ∷ P)) (e ∷ P) ≡ true
    removed_stays k t is at key removed = grind (arith, node_there, key_linking, removed_later, begins_itself)

    removing_stays : (k s i : ℕ) → actor.curr ≡ Some s → ReliesRemoving v k s i P changed → ReliesRemoving v k s i (e ∷ P) changed
    removing_stays k s i is h = grind (arith, nat_tests, node_word_stays, removed_stays, change_stays, marked_stays)

    module _ (inside : IsInside pin) (quiet : IsQuiet buckets P0 P) where
      adding_stays : (k s i : ℕ) → ReliesAdding v k s i P0 P changed → ReliesAdding v k s i P0 (e ∷ P) changed
      adding_stays k s i h = grind (arith, nat_tests, written_stays, added_stays)

      on_stays : (c : Command) (sequence : Sequence) (i : ℕ) → ReliesOn v c sequence i P0 P changed → ReliesOn v c sequence i P0 (e ∷ P) changed
      on_stays c sequence i h = grind (arith, nat_tests, idle_stays, rest_stays, writing_stays, adding_stays, removing_stays, aimed_stays)

      relies_stays : (c : Command) (at : Progress) → Relies v c at P0 P changed → Relies v c at P0 (e ∷ P) changed
      relies_stays c at h = grind (arith, nat_tests, on_stays, idle_stays, aimed_stays, looking_stays, absent_stays, ended_stays, answer_stays, let_go)

    -- a call whose pass is outside has nothing but what it keeps while idle
    outside_stays : (c : Command) (at : Progress) → is_before_pin at ≡ true → Relies v c at P0 P changed → Relies v c at P0 (e ∷ P) changed
    outside_stays c at is h = grind arith

    caller_stands : (caller : Option Caller) → (IsInside pin → IsQuiet buckets P0 P) → IsCaller v pin caller P0 P changed → IsCaller v pin caller P0 (e ∷ P) changed
    caller_stands None quiet h = (idle_stays actor h.0, h.1)
    caller_stands (Some caller) quiet h = grind (arith, cases_Bool, outside_stays, side_even, relies_stays)

    -- so the caller stays sound
    pub caller_published : (caller : Option Caller) → CallerSound v pin caller P0 P changed → CallerSound v pin caller P0 (e ∷ P) changed
    caller_published caller h = grind (arith, caller_stands)
