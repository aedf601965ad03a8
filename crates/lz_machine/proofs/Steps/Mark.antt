-- Mark keeps the invariant: the node whose gate its remover has closed is no member any more.
use Rattle.std.proofs.Common.{◌≡◌, ◌≢◌, inl, inr, ℕ, suc, ◌<◌, ◌≤◌, ◌==◌, not, true, false, List, ◌∷◌, ◌++◌, length, Option, Some, refl, sym, ap, ◌∙◌, subst}
use Rattle.std.{proofs.{Common.{arith}, lemmas.{Bool.{cases_eq, Decides.{nat_tests}}, Option.{same_Some}}}, specs.Prelude.{unwrap_or}}
use mathlib.Core.Bool.{false≢true}
use Rattle.lz_slot.{specs.{declared.command.Command.TheVariants.{Add, Remove}, Counted.{set_of_pass}, Histories.{History}}, proofs.Counted.{length-set_of_pass}}
use Rattle.lz_disk.specs.Images.{Medium}
use Rattle.lz_list.specs.declared.{place.Place.{Place, TheVariants.{Node}}, publishing.Publishing.TheVariants.{Marked as marked}}
use Rattle.lz_list.specs.{declared.word.Word.TheVariants.{Key as key_at}, Words.{get, change_flags, marked_flags, place_number}}
use Rattle.lz_list.specs.{Traces.{Trace, Lawful, IsLoose, on, chain_of, bucket_of, key_word, IsNode, is_marked, member, next_link}, Laws.{IsLow}}
use Rattle.lz_list.{specs.Locks.{claimed_places}, proofs.{Chains.TraceChain.{words_show_chain}, Traces.NodeBits.{node, one_node}}}
use Rattle.lz_machine.specs.declared.{event.Event.TheVariants.{Mark}, actor.{Actor.{Actor}, LockPhase.{LockPhase, TheVariants.{GateClosed, Marked}}}}
use Rattle.lz_machine.specs.declared.caller.{Sequence.TheVariants.{Removing}, Progress.{Progress, TheVariants.{Playing}}}
use Rattle.lz_machine.specs.{Yards.{Yard, actor_at, actor_in, cell_in, stage_in}, Table.{with_hold, node_of, yard_done, publishes}, Runs.{Caller, caller_at}}
use Rattle.lz_machine.specs.{Notes.{Notes, entries}, CallersSound.{HasMarked, Relies, view_of, CallersSound}}
use Rattle.lz_machine.specs.SlotsSound.{IsGateWritten, opens, shuts, IsCloser, IsOnChain, is_node, SlotsSound}
use Rattle.lz_machine.specs.{LocksSound.{has_locks, HasPlace, HasLock, IsRightBefore, HasClosed, RestsOn, LocksSound}, LedgerSound.{TailsSound}}
use Rattle.lz_machine.{specs.Sound.{ReuseSound, Sound}, proofs.Frames.{ActorTable.{field_stays}, OneActor.{caller_range, moving, callers_moved, ledger_turn}}}
use Rattle.lz_machine.proofs.Frames.{ChainSlots.{chain_stands, reuse_published}, NodeLocks.{turned_locks}, OneSlot.{node_grips, slot_turn}}
use Rattle.lz_machine.proofs.Frames.{Ranges.{on_range, few_slots}, LoadedWord.{key_load}, OtherCallers.{held_node, caller_stays}, Hand.{same_hand, other_hand}}
use Rattle.lz_machine.proofs.Frames.{HeldLocks.{rests_on_pair, pair_published, marked_leaves}, Store.{trace_marked}, SameYard.{tail_turn}}
use Rattle.lz_machine.proofs.Steps.{Hop.{call_at, own}, Unlink.{resting_locks, node_place}}
use Rattle.lz_machine.proofs.Ledger.{Change.{row_of, changes_at, changed_same, changed_other, ledger_changed, tail_changed}, Membership.{upto_all}}

module _ (n calls : ℕ) (y : Yard) (callers : List (Option Caller)) (disk : Medium) (M : History) (P : Trace) (notes : Notes) (sound : Sound n calls y callers disk M P notes) (a i k s : ℕ) (is : caller_at callers a ≡ Some (call_at i (Remove k) (Playing (Removing s) 1))) where
  abbrev at : Progress
  at = Playing (Removing s) 1

  h : Relies (view_of y.shape y.vault y.actors a) (Remove k) at (notes.begun a) P (notes.changed a)
  h = (own n calls y callers disk M P notes a i (Remove k) at is sound).stands.2

  abbrev x : Actor
  x = with_hold (actor_at y a) Marked

  abbrev actors' : List Actor
  actors' = set_of_pass y.actors a x

  abbrev P' : Trace
  P' = marked k s a ∷ P

  abbrev notes' : Notes
  notes' = changes_at notes a (length P)

  hand_a : actor_in actors' a ≡ x
  hand_a = same_hand n calls y callers disk M P notes a (call_at i (Remove k) at) is sound x

  hand_b : (b : ℕ) → b ≢ a → actor_in actors' b ≡ actor_in y.actors b
  hand_b b other = other_hand n calls y callers disk M P notes a (call_at i (Remove k) at) is sound x b other

  rests : HasClosed y.shape.buckets false (actor_in y.actors a) P
  rests = subst (λ (q : LockPhase). RestsOn y.shape.buckets q (actor_in y.actors a) P) h.2.0 (sound.locks.rests a)

  own_node : rests.node ≡ s
  own_node = same_Some _ _ (sym rests.curr ∙ h.0)

  before : IsRightBefore y.shape.buckets (actor_at y a).pred s P
  before = subst (λ (q : ℕ). IsRightBefore y.shape.buckets (actor_at y a).pred q P) own_node rests.before

  clear : is_marked s P ≡ false
  clear = ap (λ (q : ℕ). is_marked q P) (sym own_node) ∙ rests.marked

  there : on 0 (chain_of y.shape.buckets k P) (suc s) ≡ true
  there = subst (λ (q : ℕ). on 0 (chain_of y.shape.buckets q P) (suc s) ≡ true) h.2.1 (held_node y.shape P GateClosed (actor_in y.actors a) sound.trace.lawful rests s h.0 refl)

  lt : s < y.shape.slots
  lt = on_range y.shape.buckets y.shape.slots P (bucket_of y.shape.buckets k) s sound.trace.lawful there

  is_mine : IsNode k s P
  is_mine = node y.shape.buckets y.shape.slots k s P sound.trace.lawful there h.2.1

  was_member : member k P ≡ true
  was_member = is_mine.is_member ∙ ap not clear

  law : Lawful y.shape.buckets y.shape.slots P'
  law = ((was_member, h.2.1, there), sound.trace.lawful)

  off : IsLoose y.shape.buckets s P → ⊥
  off loose = false≢true (sym (loose (bucket_of y.shape.buckets k)) ∙ there)

  itself : (s == s) ≡ true
  itself = grind (arith, nat_tests)

  now_marked : is_marked s P' ≡ true
  now_marked = rw itself refl

  mark_other : (t : ℕ) → t ≢ s → is_marked t P' ≡ is_marked t P
  mark_other t other = grind (arith, nat_tests, other)

  written : IsGateWritten (stage_in y.vault.cells s)
  written = sound.slots.closed a s h.0 (ap shuts h.2.0)

  slot_still : (b : ℕ) → (actor_in actors' b).slot ≡ (actor_in y.actors b).slot
  slot_still = field_stays (Option ℕ) (λ q. q.slot) y.actors actors' a x hand_a hand_b refl

  closer_s : IsCloser y.vault.dead (actor_in actors' a) s
  closer_s = subst (λ (q : Actor). IsCloser y.vault.dead q s) (sym hand_a) (record { node = h.0; closes = refl })

  on_chain : (t : ℕ) → on 0 (chain_of y.shape.buckets (key_word t P) P) (suc t) ≡ true → IsOnChain y.shape y.vault.cells y.uses P t
  on_chain t on_it = (chain_stands y.shape y.vault.cells y.vault.dead y.uses y.actors P t sound.slots (key_word t P) (on_range y.shape.buckets y.shape.slots P (bucket_of y.shape.buckets (key_word t P)) t sound.trace.lawful on_it) on_it).0

  marked_slots : SlotsSound y.shape y.vault.cells y.vault.dead y.uses actors' P'
  marked_slots =
      let chain = on_chain s (subst (λ (q : ℕ). on 0 (chain_of y.shape.buckets q P) (suc s) ≡ true) (sym h.2.1) there) in
      slot_turn y.shape y.vault.cells y.vault.cells y.vault.dead y.vault.dead y.uses y.uses y.actors actors' P P' a s x hand_a hand_b (λ e. e)
      (node_grips y.vault.dead y.vault.dead s (actor_in y.actors a) x h.0 h.0 refl (ap (opens y.vault.dead) h.2.0) refl) (λ t apart. refl) (λ t apart. refl)
      (record { loose = λ t apart loose. loose; word = λ t apart. refl; mark = mark_other; chain = λ t apart on_it. on_it; halt = refl })
      (record {
        stands = is_node (record { there = chain.there; taken = chain.taken; key = chain.key }) (inr (a, closer_s, written));
        hand = λ slot. absurd (off (sound.slots.hand a s slot).loose);
        out = λ out. absurd (false≢true out.removed);
        hand_out = λ slot out. false≢true out.removed;
        opened = λ slot e. absurd (false≢true e);
        closed = λ curr e. written;
        no_other_hand = λ b other slot. off (sound.slots.hand b s slot).loose;
        no_other_out = λ b other out. off (sound.slots.out b s out).loose;
        others_closed = λ b other curr e. written;
      })
      refl sound.slots (λ j t key on_it flag. sound.slots.added j t key on_it flag) (λ j t key on_it flag. sound.slots.removed j t key on_it flag)

  -- the actor's own locks
  my_lock : (place : Place) → HasPlace place (claimed_places (actor_at y a).pred (actor_at y a).curr) → HasLock (actor_in y.actors a) place
  my_lock place among = record { locks = ap has_locks h.2.0; among = among }

  -- another actor's node is another one, and its slot isn't on a chain
  node_apart : (b : ℕ) → b ≢ a → rests_on_pair (actor_in y.actors b).hold ≡ true → (t : ℕ) → (actor_in y.actors b).curr ≡ Some t → t ≢ s
  node_apart b other rest t curr same =
      let theirs : HasLock (actor_in y.actors b) (Node s) = record { locks = resting_locks (actor_in y.actors b).hold rest; among = node_place (actor_in y.actors b).pred (actor_in y.actors b).curr s (curr ∙ ap Some same) } in
      other (sym (sound.locks.has b (Node s) theirs) ∙ sound.locks.has a (Node s) (my_lock (Node s) (node_place (actor_at y a).pred (actor_at y a).curr s h.0)))

  slot_apart : (b t : ℕ) → (actor_in y.actors b).slot ≡ Some t → t ≢ s
  slot_apart b t slot same = off (subst (λ (q : ℕ). IsLoose y.shape.buckets q P) same (sound.slots.hand b t slot).loose)

  my_rest : HasClosed y.shape.buckets true x P'
  my_rest = record {
    node = s;
    curr = h.0;
    before = record {
      bucket = before.bucket;
      faces = record {
        faces = record { there = before.faces.faces.there; next = next_same (place_number (actor_at y a).pred) before.faces.faces.next };
        low = low_same (place_number (actor_at y a).pred) before.faces.low;
        key = refl;
      };
    };
    marked = now_marked;
  }
    where
      next_same : (z : ℕ) → next_link y.shape.buckets (bucket_of y.shape.buckets (key_word s P)) P z ≡ suc s → next_link y.shape.buckets (bucket_of y.shape.buckets (key_word s P)) P' z ≡ suc s
      next_same _ e = e

      low_same : (z : ℕ) → IsLow (key_word s P) z P → IsLow (key_word s P) z P'
      low_same _ e = e

  marked_locks : LocksSound y.shape y.locks actors' P'
  marked_locks = turned_locks y.shape y.locks y.actors actors' P a hand_b sound.locks P'
      (λ place lock. my_lock place (subst (λ (q : Actor). HasLock q place) hand_a lock).among)
      (subst (λ (q : Actor). RestsOn y.shape.buckets q.hold q P') (sym hand_a) my_rest)
      (λ b other. pair_published y.shape.buckets (marked k s a) (actor_in y.actors b) P (λ rest. marked_leaves y.shape.buckets k s a (actor_in y.actors b) P (node_apart b other rest) (slot_apart b)) (sound.locks.rests b))

  marked_reuse : ReuseSound y.shape y.words.pins y.uses actors' P' notes.begun
  marked_reuse = reuse_published y.shape y.vault.cells y.vault.dead y.uses y.actors actors' (marked k s a) P y.words.pins notes.begun marked_slots (λ b t slot. sym (slot_still b) ∙ slot) sound.reuse

  abbrev callers' : List (Option Caller)
  callers' = moving callers a (call_at i (Remove k) at) (Playing (Removing s) 2)

  my_mark : HasMarked k s P' (Some (length P))
  my_mark = grind (arith, nat_tests, upto_all, h, is_mine)

  marked_callers : CallersSound y.shape y.vault y.words.pins actors' callers' P' notes'
  marked_callers =
      let me = own n calls y callers disk M P notes a i (Remove k) at is sound in
      callers_moved callers a (call_at i (Remove k) at) is (Playing (Removing s) 2) y.shape y.vault y.vault y.words.pins y.actors actors' P P' notes notes' x (Some (length P))
      (length-set_of_pass y.actors a x) hand_a hand_b (λ b. refl) (changed_same notes a (length P)) (changed_other notes a (length P))
      (record {
        quiet = λ inside. (tt, me.quiet inside);
        begins = λ inside. inr (me.begins inside);
        stands = (me.stands.0, me.stands.1, (h.0, h.1, (refl, my_mark)));
      })
      (λ b other. caller_stays y.shape y.vault y.words.pins y.locks y.actors callers (marked k s a) P law notes sound.locks sound.callers b (λ inside. tt) (λ t slot. refl))
      sound.callers

  in_passes : a ≤ y.shape.passes
  in_passes = omega (arith, (caller_range callers a (call_at i (Remove k) at) is).1, sound.callers.count)

  shows : (k == k) ≡ true
  shows = grind (arith, nat_tests)

  remove_same : {j l : ℕ} → Remove j ≡ Remove l → j ≡ l
  remove_same e = cc

  add_remove : {j l : ℕ} → Add j ≡ Remove l → ⊥
  add_remove e = absurd cc

  -- another node has another key
  other_key : (t : ℕ) → on 0 (chain_of y.shape.buckets (key_word t P) P) (suc t) ≡ true → key_word t P ≡ k → t ≡ s
  other_key t on_it key = grind (arith, words_show_chain, one_node, there, h)

  marked_tails : TailsSound y.shape y.vault.cells actors' P' callers' (entries y.shape.passes callers' notes') M
  marked_tails =
      record {
        adding = λ b t slot opened. tail_turn callers a (call_at i (Remove k) at) is (Playing (Removing s) 2) y.shape.passes notes' in_passes (λ none is'. refl) (Add (cell_in y.vault.cells t).key) M
            (tail_changed n calls y.shape.passes callers (marked k s a) P M notes a (call_at i (Remove k) at) is in_passes h.2.2 shows was_member
            (row_of (call_at i (Remove k) at) (length P), refl, refl) sound.ledger (Add (cell_in y.vault.cells t).key) add_remove
            (sound.tails.adding b t (sym (slot_still b) ∙ slot) opened));
        removing = λ t on_it unmarked shut. tail_turn callers a (call_at i (Remove k) at) is (Playing (Removing s) 2) y.shape.passes notes' in_passes (λ none is'. refl) (Remove (cell_in y.vault.cells t).key) M (elim (cases_eq t s) [
          | inl it ↦ absurd (false≢true (sym unmarked ∙ ap (λ (q : ℕ). is_marked q P') it ∙ now_marked))
          | inr other ↦ tail_changed n calls y.shape.passes callers (marked k s a) P M notes a (call_at i (Remove k) at) is in_passes h.2.2 shows was_member (row_of (call_at i (Remove k) at) (length P), refl, refl) sound.ledger (Remove (cell_in y.vault.cells t).key)
              (λ e. other (other_key t on_it (sym (on_chain t on_it).key ∙ remove_same e)))
              (sound.tails.removing t on_it (sym (mark_other t other) ∙ unmarked) shut)
        ]);
      }

  marked_sound : Sound n calls (record { shape = y.shape; words = change_flags marked_flags y.words s; locks = y.locks; vault = y.vault; uses = y.uses; actors = actors' }) callers' disk M P' notes'
  marked_sound = record {
    trace = trace_marked y.shape y.words P sound.trace (few_slots sound.images) k s a lt law.0;
    images = sound.images;
    slots = marked_slots;
    locks = marked_locks;
    callers = marked_callers;
    reuse = marked_reuse;
    ledger = ledger_turn callers a (call_at i (Remove k) at) is (Playing (Removing s) 2) n calls y.shape.passes P' M notes'
        (ledger_changed n calls y.shape.passes callers (marked k s a) P M notes a (call_at i (Remove k) at) is in_passes h.2.2 shows was_member
        (row_of (call_at i (Remove k) at) (length P), refl, refl) sound.ledger);
    tails = marked_tails;
  }

  pub mark_keeps : Sound n calls (yard_done y (actor_at y a) a Mark) callers' disk M (publishes y (actor_at y a) a Mark ++ P) notes'
  mark_keeps =
      let claimed : s ≡ node_of (actor_at y a) = sym (ap (λ (q : Option ℕ). unwrap_or q 0) h.0) in
      let key : k ≡ get y.words (key_at s) = sym (key_load y.shape y.words P sound.trace (few_slots sound.images) s lt ∙ h.2.1) in
      subst (λ (q : ℕ). Sound n calls (record { shape = y.shape; words = change_flags marked_flags y.words q; locks = y.locks; vault = y.vault; uses = y.uses; actors = actors' }) callers' disk M (marked (get y.words (key_at q)) q a ∷ P) notes') claimed
      (subst (λ (q : ℕ). Sound n calls (record { shape = y.shape; words = change_flags marked_flags y.words s; locks = y.locks; vault = y.vault; uses = y.uses; actors = actors' }) callers' disk M (marked q s a ∷ P) notes') key marked_sound)
