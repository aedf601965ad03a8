-- Link keeps the invariant: the node whose gate its adder has opened is put on its chain.
use Rattle.lz_machine.proofs.Frames.OtherLink as links
use Rattle.std.proofs.Common.{◌≡◌, ◌≢◌, inl, inr, ℕ, suc, ◌<◌, ◌≤◌, ◌==◌, not, true, List, ◌∷◌, ◌++◌, length, Option, Some, None, refl, sym, ap, ◌∙◌, subst}
use Rattle.std.{proofs.{Common.{arith}, lemmas.{Bool.{cases_eq, Decides.{nat_tests}}, Option.{same_Some, none-some}}}, specs.Prelude.{unwrap_or}}
use mathlib.Core.Bool.{false≢true}
use Rattle.lz_slot.{specs.{declared.command.Command.TheVariants.{Add, Remove}, Counted.{set_of_pass}, Histories.{History}}, proofs.Counted.{length-set_of_pass}}
use Rattle.lz_disk.specs.Images.{Medium}
use Rattle.lz_allot.specs.Uses.{Taken, use_of}
use Rattle.lz_list.specs.declared.{place.Place.{Place, TheVariants.{Node}}, publishing.Publishing.TheVariants.{Linked as linked}}
use Rattle.lz_list.specs.{declared.word.Word.TheVariants.{Key as key_at}, Words.{Words, get, redirect, place_number, link_to}}
use Rattle.lz_list.specs.Traces.{Trace, Lawful, IsLoose, on, chain_of, bucket_of, place_of, key_word, linking, is_settled, is_removed, member}
use Rattle.lz_list.{specs.Locks.{claimed_places}, proofs.{Traces.{NodeBits.{on_insert_other, not_yet}, WalkEnd.{on_insert}}, Changes.NodeLink.{inserted_on}}}
use Rattle.lz_machine.specs.declared.{event.Event.TheVariants.{Link}, actor.{Actor.{Actor}, LockPhase.{LockPhase, TheVariants.{Linked}}}}
use Rattle.lz_machine.specs.declared.caller.{Sequence.TheVariants.{Adding}, Progress.{Progress, TheVariants.{Playing}}}
use Rattle.lz_machine.specs.{Yards.{Yard, actor_at, actor_in, pin_in, cell_in, stage_in}, Table.{slot_of, yard_done, publishes}, Runs.{Caller, caller_at}}
use Rattle.lz_machine.specs.{Stands.{IsLinkable, InBucket}, Notes.{Notes, entries}}
use Rattle.lz_machine.specs.SlotsSound.{closes, unlocks, has_removed_node, IsHandStage, IsGateOpened, IsGateWritten, SlotStands, is_node, SlotsSound}
use Rattle.lz_machine.specs.LocksSound.{has_locks, HasPlace, HasLock, IsBeside, HasOpened, RestsOn, LocksSound}
use Rattle.lz_machine.specs.{CallersSound.{Relies, HasAdded, view_of, CallerSound, CallersSound}, LedgerSound.{TailsSound}, Sound.{ReuseSound, Sound}}
use Rattle.lz_machine.proofs.Frames.{OneActor.{caller_range, moving, callers_moved, ledger_turn}, ChainSlots.{reuse_published}, NodeLocks.{turned_locks}}
use Rattle.lz_machine.proofs.Frames.{OneSlot.{slot_grips, slot_turn}, Publishing.{key_linking}, Ranges.{on_range, few_slots}, LoadedWord.{key_load}}
use Rattle.lz_machine.proofs.Frames.{OtherCallers.{caller_stays}, Hand.{same_hand, other_hand}}
use Rattle.lz_machine.proofs.Frames.{HeldLocks.{rests_on_pair, pair_published, linked_leaves, one_place}, Store.{trace_linked}, SameYard.{tail_turn}}
use Rattle.lz_machine.proofs.{Frames.BesideKey.{beside_of, opened_shut, opened_written}, Steps.Hop.{call_at, own}}
use Rattle.lz_machine.proofs.{Steps.Unlink.{resting_locks, first_place, redirect_pins}, Ledger.Membership.{upto_all}}
use Rattle.lz_machine.proofs.Ledger.Change.{row_of, changes_at, changed_same, changed_other, ledger_changed, tail_changed}

module _ (n calls : ℕ) (y : Yard) (callers : List (Option Caller)) (disk : Medium) (M : History) (P : Trace) (notes : Notes) (sound : Sound n calls y callers disk M P notes) (a i k s : ℕ) (is : caller_at callers a ≡ Some (call_at i (Add k) (Playing (Adding s) 1))) where
  abbrev at : Progress
  at = Playing (Adding s) 1

  h : Relies (view_of y.shape y.vault y.actors a) (Add k) at (notes.begun a) P (notes.changed a)
  h = (own n calls y callers disk M P notes a i (Add k) at is sound).stands.2

  abbrev x : Actor
  x = record (actor_at y a) { slot = None; hold = Linked }

  abbrev actors' : List Actor
  actors' = set_of_pass y.actors a x

  abbrev P' : Trace
  P' = linked k s a ∷ P

  abbrev notes' : Notes
  notes' = changes_at notes a (length P)

  hand_a : actor_in actors' a ≡ x
  hand_a = same_hand n calls y callers disk M P notes a (call_at i (Add k) at) is sound x

  hand_b : (b : ℕ) → b ≢ a → actor_in actors' b ≡ actor_in y.actors b
  hand_b b other = other_hand n calls y callers disk M P notes a (call_at i (Add k) at) is sound x b other

  rests : HasOpened y.shape.buckets (actor_in y.actors a) P
  rests = subst (λ (q : LockPhase). RestsOn y.shape.buckets q (actor_in y.actors a) P) h.0 (sound.locks.rests a)

  own_slot : rests.own ≡ s
  own_slot = same_Some _ _ (sym rests.slot ∙ h.1)

  own_key : key_word rests.own P ≡ k
  own_key = ap (λ (q : ℕ). key_word q P) own_slot ∙ h.2

  beside : IsBeside y.shape.buckets k (actor_at y a).pred (actor_at y a).curr P
  beside = subst (λ (q : ℕ). IsBeside y.shape.buckets q (actor_at y a).pred (actor_at y a).curr P) own_key rests.beside

  ready : IsLinkable y.shape.buckets k (link_to (actor_at y a).curr) s P
  ready = subst (λ (q : ℕ). IsLinkable y.shape.buckets k (link_to (actor_at y a).curr) q P) own_slot (subst (λ (q : ℕ). IsLinkable y.shape.buckets q (link_to (actor_at y a).curr) rests.own P) own_key rests.ready)

  abbrev spot : ℕ
  spot = place_number (actor_at y a).pred

  lt : s < y.shape.slots
  lt = (sound.slots.hand a s h.1).in_range

  law : Lawful y.shape.buckets y.shape.slots P'
  law = (links.may_link y.shape.buckets y.shape.slots P sound.trace.lawful k spot (link_to (actor_at y a).curr) s lt beside.round ready, sound.trace.lawful)

  place : place_of y.shape.buckets k P ≡ spot
  place = (links.round_place y.shape.buckets y.shape.slots P sound.trace.lawful k spot (link_to (actor_at y a).curr) beside.round).0

  there : on 0 (chain_of y.shape.buckets k P') (suc s) ≡ true
  there = grind (arith, nat_tests, inserted_on k s 0 (chain_of y.shape.buckets k P))

  chain_then : (j t : ℕ) → on 0 (chain_of y.shape.buckets j P) (suc t) ≡ true → on 0 (chain_of y.shape.buckets j P') (suc t) ≡ true
  chain_then j t on_it = grind (arith, nat_tests, on_it, on_insert k s 0 (suc t) (chain_of y.shape.buckets j P))

  chain_before : (j t : ℕ) → t ≢ s → on 0 (chain_of y.shape.buckets j P') (suc t) ≡ true → on 0 (chain_of y.shape.buckets j P) (suc t) ≡ true
  chain_before j t apart on_it = grind (arith, nat_tests, apart, on_it, on_insert_other k s 0 (suc t) (chain_of y.shape.buckets j P))

  loose_then : (t : ℕ) → t ≢ s → IsLoose y.shape.buckets t P → IsLoose y.shape.buckets t P'
  loose_then t apart loose = links.loose_stays y.shape.buckets y.shape.slots P sound.trace.lawful k s a t apart loose

  opened_s : IsGateOpened (stage_in y.vault.cells s)
  opened_s = sound.slots.opened a s h.1 (ap unlocks h.0)

  key_s : (cell_in y.vault.cells s).key ≡ key_word s P
  key_s = go (sound.slots.hand a s h.1).stage
    where
      go : IsHandStage y.vault.cells y.vault.dead (actor_in y.actors a) P s → (cell_in y.vault.cells s).key ≡ key_word s P
      go (inl shut) = absurd (opened_shut (stage_in y.vault.cells s) opened_s shut)
      go (inr opened) = opened.2

  taken_s : use_of y.uses s ≡ Taken
  taken_s = (sound.slots.hand a s h.1).taken

  held_then : (b t : ℕ) → (actor_in actors' b).slot ≡ Some t → (b ≢ a) × (t ≢ s) × ((actor_in y.actors b).slot ≡ Some t)
  held_then b t slot = elim (cases_eq b a) [
    | inl same ↦ absurd (none-some _ (ap (λ (q : Actor). q.slot) (sym hand_a) ∙ ap (λ (q : ℕ). (actor_in actors' q).slot) (sym same) ∙ slot))
    | inr other ↦
        let was : (actor_in y.actors b).slot ≡ Some t = ap (λ (q : Actor). q.slot) (sym (hand_b b other)) ∙ slot in
        (other, (λ it. other (sound.slots.one_hand b a t was (h.1 ∙ ap Some (sym it)))), was)
  ]

  stands_s : SlotStands y.shape y.vault.cells y.vault.dead y.uses actors' P' s
  stands_s = is_node (record { there = subst (λ (q : ℕ). on 0 (chain_of y.shape.buckets q P') (suc s) ≡ true) (sym h.2) there; taken = taken_s; key = key_s }) (inl (ready.no_mark, opened_s))

  -- no flag tells of the new linking
  new_linking : linking k P' ≡ suc (length P)
  new_linking = let same : (k == k) ≡ true = grind (arith, nat_tests) in rw same refl

  none_settled : (j : ℕ) → j ≡ k → is_settled (linking j P') P' ≡ true → ⊥
  none_settled j same flag = false≢true (sym (not_yet (suc (length P)) P (omega arith)).0 ∙ ap (λ (q : ℕ). is_settled q P) (sym new_linking) ∙ ap (λ (q : ℕ). is_settled (linking q P') P) (sym same) ∙ flag)

  none_removed : (j : ℕ) → j ≡ k → is_removed (linking j P') P' ≡ true → ⊥
  none_removed j same flag = false≢true (sym (not_yet (suc (length P)) P (omega arith)).1 ∙ ap (λ (q : ℕ). is_removed q P) (sym new_linking) ∙ ap (λ (q : ℕ). is_removed (linking q P') P) (sym same) ∙ flag)

  linked_slots : SlotsSound y.shape y.vault.cells y.vault.dead y.uses actors' P'
  linked_slots =
      slot_turn y.shape y.vault.cells y.vault.cells y.vault.dead y.vault.dead y.uses y.uses y.actors actors' P P' a s x hand_a hand_b (λ e. e)
      (slot_grips y.vault.dead y.vault.dead s (actor_in y.actors a) x (λ t apart slot. apart (same_Some _ _ (sym slot ∙ h.1))) (λ t apart slot. none-some _ slot)
      (ap (closes y.vault.dead) h.0) (ap has_removed_node h.0) refl refl) (λ t apart. refl) (λ t apart. refl)
      (record { loose = loose_then; word = λ t apart. refl; mark = λ t apart. refl; chain = λ t apart on_it. chain_then (key_word t P) t on_it; halt = refl })
      (record {
        stands = stands_s;
        hand = λ slot. absurd (none-some _ slot);
        out = λ out. absurd (false≢true out.removed);
        hand_out = λ slot out. none-some _ slot;
        opened = λ slot e. absurd (none-some _ slot);
        closed = λ curr e. absurd (false≢true e);
        no_other_hand = λ b other slot. other (sound.slots.one_hand b a s slot h.1);
        no_other_out = λ b other out. sound.slots.hand_out a b s h.1 out;
        others_closed = λ b other curr e. sound.slots.closed b s curr e;
      })
      refl sound.slots
      (λ j t key on_it flag. elim (cases_eq t s) [
        | inl same ↦ absurd (none_settled j (sym key ∙ ap (λ (q : ℕ). key_word q P) same ∙ h.2) flag)
        | inr other ↦
            let old = chain_before j t other on_it in
            sound.slots.added j t key old (ap (λ (q : ℕ). is_settled q P) (sym (key_linking y.shape.buckets y.shape.slots (linked k s a) P law j t old key)) ∙ flag)
      ])
      (λ j t key on_it flag. elim (cases_eq t s) [
        | inl same ↦ absurd (none_removed j (sym key ∙ ap (λ (q : ℕ). key_word q P) same ∙ h.2) flag)
        | inr other ↦
            let old = chain_before j t other on_it in
            sound.slots.removed j t key old (ap (λ (q : ℕ). is_removed q P) (sym (key_linking y.shape.buckets y.shape.slots (linked k s a) P law j t old key)) ∙ flag)
      ])

  my_lock : (q : Place) → HasPlace q (claimed_places (actor_at y a).pred (actor_at y a).curr) → HasLock (actor_in y.actors a) q
  my_lock q among = record { locks = ap has_locks h.0; among = among }

  -- another actor that rests on its pair has another place
  pred_apart : (b : ℕ) → b ≢ a → rests_on_pair (actor_in y.actors b).hold ≡ true → (j : ℕ) → InBucket y.shape.buckets j (actor_in y.actors b).pred → bucket_of y.shape.buckets j ≡ bucket_of y.shape.buckets k → place_number (actor_in y.actors b).pred ≢ place_of y.shape.buckets k P
  pred_apart b other rest j bucket same number =
      let theirs : HasLock (actor_in y.actors b) (actor_in y.actors b).pred = record { locks = resting_locks (actor_in y.actors b).hold rest; among = first_place (actor_in y.actors b).pred (actor_in y.actors b).curr } in
      let one = one_place y.shape.buckets j k (actor_in y.actors b).pred (actor_at y a).pred bucket beside.bucket same (number ∙ place) in
      other (sym (sound.locks.has b (actor_at y a).pred (subst (HasLock (actor_in y.actors b)) one theirs)) ∙ sound.locks.has a (actor_at y a).pred (my_lock (actor_at y a).pred (first_place (actor_at y a).pred (actor_at y a).curr)))

  linked_locks : LocksSound y.shape y.locks actors' P'
  linked_locks = turned_locks y.shape y.locks y.actors actors' P a hand_b sound.locks P'
      (λ q lock. my_lock q (subst (λ (z : Actor). HasLock z q) hand_a lock).among)
      (subst (λ (q : Actor). RestsOn y.shape.buckets q.hold q P') (sym hand_a) tt)
      (λ b other. pair_published y.shape.buckets (linked k s a) (actor_in y.actors b) P
      (λ rest. linked_leaves y.shape.buckets y.shape.slots k s a (actor_in y.actors b) P sound.trace.lawful (pred_apart b other rest)
      (λ t slot it. other (sound.slots.one_hand b a t slot (h.1 ∙ ap Some (sym it))))) (sound.locks.rests b))

  linked_reuse : ReuseSound y.shape y.words.pins y.uses actors' P' notes.begun
  linked_reuse = reuse_published y.shape y.vault.cells y.vault.dead y.uses y.actors actors' (linked k s a) P y.words.pins notes.begun linked_slots (λ b t slot. (held_then b t slot).2) sound.reuse

  abbrev callers' : List (Option Caller)
  callers' = moving callers a (call_at i (Add k) at) (Playing (Adding s) 2)

  me : CallerSound (view_of y.shape y.vault y.actors a) (pin_in y.words.pins a) (Some (call_at i (Add k) at)) (notes.begun a) P (notes.changed a)
  me = own n calls y callers disk M P notes a i (Add k) at is sound

  my_node : HasAdded y.shape.buckets k s (notes.begun a) P' (Some (length P))
  my_node = grind (arith, nat_tests, upto_all, new_linking, me, there)

  linked_callers : CallersSound y.shape y.vault y.words.pins actors' callers' P' notes'
  linked_callers =
      callers_moved callers a (call_at i (Add k) at) is (Playing (Adding s) 2) y.shape y.vault y.vault y.words.pins y.actors actors' P P' notes notes' x (Some (length P))
      (length-set_of_pass y.actors a x) hand_a hand_b (λ b. refl) (changed_same notes a (length P)) (changed_other notes a (length P))
      (record {
        quiet = λ inside. (tt, me.quiet inside);
        begins = λ inside. inr (me.begins inside);
        stands = (me.stands.0, me.stands.1, (refl, my_node));
      })
      (λ b other. caller_stays y.shape y.vault y.words.pins y.locks y.actors callers (linked k s a) P law notes sound.locks sound.callers b (λ inside. tt) (λ t slot. refl))
      sound.callers

  in_passes : a ≤ y.shape.passes
  in_passes = omega (arith, (caller_range callers a (call_at i (Add k) at) is).1, sound.callers.count)

  shows : (k == k) ≡ true
  shows = grind (arith, nat_tests)

  add_same : {j l : ℕ} → Add j ≡ Add l → j ≡ l
  add_same e = cc

  remove_add : {j l : ℕ} → Remove j ≡ Add l → ⊥
  remove_add e = absurd cc

  -- another adder that has opened its gate has another key
  other_adder : (b t : ℕ) → b ≢ a → (actor_in y.actors b).slot ≡ Some t → IsGateOpened (stage_in y.vault.cells t) → (cell_in y.vault.cells t).key ≡ k → ⊥
  other_adder b t other slot opened key = go (sound.slots.hand b t slot).stage
    where
      go : IsHandStage y.vault.cells y.vault.dead (actor_in y.actors b) P t → ⊥
      go (inl shut) = opened_shut (stage_in y.vault.cells t) opened shut
      go (inr theirs) =
          let found = beside_of y.shape.buckets y.vault.dead (actor_in y.actors b).hold (actor_in y.actors b) P t (sound.locks.rests b) theirs.0 slot in
          let same : key_word t P ≡ k = sym theirs.2 ∙ key in
          let there_b = subst (λ (q : ℕ). IsBeside y.shape.buckets q (actor_in y.actors b).pred (actor_in y.actors b).curr P) same found.0 in
          let spot_b = (links.round_place y.shape.buckets y.shape.slots P sound.trace.lawful k (place_number (actor_in y.actors b).pred) (link_to (actor_in y.actors b).curr) there_b.round).0 in
          pred_apart b other found.1 k there_b.bucket refl (sym spot_b)

  linked_tails : TailsSound y.shape y.vault.cells actors' P' callers' (entries y.shape.passes callers' notes') M
  linked_tails =
      record {
        adding = λ b t slot opened. let old = held_then b t slot in tail_turn callers a (call_at i (Add k) at) is (Playing (Adding s) 2) y.shape.passes notes' in_passes (λ none is'. refl) (Add (cell_in y.vault.cells t).key) M
            (tail_changed n calls y.shape.passes callers (linked k s a) P M notes a (call_at i (Add k) at) is in_passes h.3 shows was
            (row_of (call_at i (Add k) at) (length P), refl, refl) sound.ledger (Add (cell_in y.vault.cells t).key)
            (λ e. other_adder b t old.0 old.2 opened (add_same e)) (sound.tails.adding b t old.2 opened));
        removing = λ t on_it unmarked shut. tail_turn callers a (call_at i (Add k) at) is (Playing (Adding s) 2) y.shape.passes notes' in_passes (λ none is'. refl) (Remove (cell_in y.vault.cells t).key) M (elim (cases_eq t s) [
          | inl it ↦ absurd (opened_written (stage_in y.vault.cells s) opened_s (subst (λ (q : ℕ). IsGateWritten (stage_in y.vault.cells q)) it shut))
          | inr other ↦ tail_changed n calls y.shape.passes callers (linked k s a) P M notes a (call_at i (Add k) at) is in_passes h.3 shows was (row_of (call_at i (Add k) at) (length P), refl, refl) sound.ledger (Remove (cell_in y.vault.cells t).key) remove_add
              (sound.tails.removing t (chain_before (key_word t P) t other on_it) unmarked shut)
        ]);
      }
    where
      was : not (member k P) ≡ true
      was = ap not law.0.no_member

  node_range : (t : ℕ) → (actor_at y a).pred ≡ Node t → t < y.shape.slots
  node_range t e = on_range y.shape.buckets y.shape.slots P (bucket_of y.shape.buckets k) t sound.trace.lawful (subst (λ (q : Place). on 0 (chain_of y.shape.buckets k P) (place_number q) ≡ true) e beside.round.faces.there)

  abbrev words' : ℕ → Words
  words' next = redirect y.words (actor_at y a).pred next

  abbrev yard' : ℕ → Yard
  yard' next = record { shape = y.shape; words = words' next; locks = y.locks; vault = y.vault; uses = y.uses; actors = actors' }

  linked_sound : Sound n calls (yard' (suc s)) callers' disk M P' notes'
  linked_sound =
      let same = sym (redirect_pins y.words (actor_at y a).pred (suc s)) in
      record {
        trace = trace_linked y.shape y.words P sound.trace (few_slots sound.images) k s a (actor_at y a).pred law.0 beside.bucket node_range place;
        images = sound.images;
        slots = linked_slots;
        locks = linked_locks;
        callers = subst (λ (q : List ℕ). CallersSound y.shape y.vault q actors' callers' P' notes') same linked_callers;
        reuse = subst (λ (q : List ℕ). ReuseSound y.shape q y.uses actors' P' notes.begun) same linked_reuse;
        ledger = ledger_turn callers a (call_at i (Add k) at) is (Playing (Adding s) 2) n calls y.shape.passes P' M notes'
            (ledger_changed n calls y.shape.passes callers (linked k s a) P M notes a (call_at i (Add k) at) is in_passes h.3 shows (ap not law.0.no_member)
            (row_of (call_at i (Add k) at) (length P), refl, refl) sound.ledger);
        tails = linked_tails;
      }

  pub link_keeps : Sound n calls (yard_done y (actor_at y a) a Link) callers' disk M (publishes y (actor_at y a) a Link ++ P) notes'
  link_keeps =
      let hand : s ≡ slot_of (actor_at y a) = sym (ap (λ (q : Option ℕ). unwrap_or q 0) h.1) in
      let key : k ≡ get y.words (key_at s) = sym (key_load y.shape y.words P sound.trace (few_slots sound.images) s lt ∙ h.2) in
      subst (λ (q : Option ℕ). Sound n calls (yard' (link_to q)) callers' disk M (linked (get y.words (key_at (slot_of (actor_at y a)))) (slot_of (actor_at y a)) a ∷ P) notes') (sym h.1)
      (subst (λ (q : ℕ). Sound n calls (yard' (suc s)) callers' disk M (linked (get y.words (key_at q)) q a ∷ P) notes') hand
      (subst (λ (q : ℕ). Sound n calls (yard' (suc s)) callers' disk M (linked q s a ∷ P) notes') key linked_sound))
