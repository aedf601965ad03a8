-- WriteClose keeps the invariant: the gate of the node that the remover has checked is closed.
use Rattle.lz_machine.specs.declared.{event.{Reply.TheVariants.{Device}, Event.TheVariants.{WriteClose}}, actor.{Actor.{Actor}, LockPhase.{LockPhase}}}
use Rattle.lz_machine.specs.declared.{actor.LockPhase.TheVariants.{Checked, GateClosed}, caller.{Sequence.TheVariants.{Removing}, Progress.{Progress}}}
use Rattle.lz_machine.specs.{declared.caller.Progress.TheVariants.{Playing}, Table.{with_vault, with_hold, node_of, yard_done, call_of}, Calls.{halts}}
use Rattle.lz_machine.specs.{Yards.{Yard, actor_at, actor_in, pin_in, cell_in, stage_in}, Runs.{Caller, caller_at}, Notes.{Notes, entries}}
use Rattle.lz_machine.specs.SlotsSound.{IsGateWritten, opens, unlocks, has_removed_node, IsCloser, IsNodeStage, is_node, SlotsSound, IsGateOpened, closes}
use Rattle.lz_machine.specs.{SlotsSound.{IsOnChain}, LocksSound.{has_locks, HasPlace, HasLock, IsRightBefore, RestsOn, IsChecked, LocksSound}}
use Rattle.lz_machine.specs.{CallersSound.{Relies, view_of, CallerSound}, LedgerSound.{may_have_tail, HasTail}, Sound.{Sound, DiskSound}}
use Rattle.lz_machine.proofs.Frames.{Grip.{closer_locks}, ActorTable.{by_actor, field_stays}, OneActor.{moving, callers_moved, ledger_turn}, Ranges.{on_range}}
use Rattle.lz_machine.proofs.Frames.{OtherCallers.{held_node}, Hand.{same_hand, other_hand, reuse_turn}, NodeLocks.{held_locks}}
use Rattle.lz_machine.proofs.Frames.{Cells.{caller_vaulted, cell_same, cell_other, stage_other, cell_stays}, ChainSlots.{chain_stands}}
use Rattle.lz_machine.proofs.Frames.{OneSlot.{node_grips, same_nodes, slot_turn}, SlotWrite.{closing_done, closing_lost}, BesideKey.{opened_written}}
use Rattle.lz_machine.proofs.{Frames.SameYard.{in_passes, tail_turn}, Steps.{Hop.{call_at, own}, Unlink.{node_place}}, Ledger.Change.{own_tail}}
use Rattle.std.proofs.Common.{◌≡◌, ◌≢◌, inl, inr, ℕ, ◌<◌, true, false, List, length, Option, Some, refl, sym, ap, ◌∙◌, subst, arith, Bool}
use Rattle.std.{proofs.lemmas.Bool.{cases_eq}, specs.Prelude.{unwrap_or, slice_set}}
use mathlib.Core.Bool.{false≢true}
use Rattle.lz_slot.{specs.{declared.command.Command.TheVariants.{Add, Remove}, Counted.{set_of_pass}, Histories.{History}}, proofs.Counted.{length-set_of_pass}}
use Rattle.lz_disk.specs.Images.{Medium}
use Rattle.lz_list.specs.{declared.place.Place.{Place, TheVariants.{Node}}, Traces.{Trace, IsLoose, bucket_of, key_word, is_marked}, Locks.{claimed_places}}
use Rattle.lz_vault.specs.{declared.vault.Stage.{Stage, TheVariants.{Closed, Opening, Closing}}, Stages.{Cell, IsOpened}}
use Rattle.lz_vault.specs.Vaults.{Vaulted, MayFail, medium_after, closing_call}

-- the node that an actor has checked in a vault that lives has its gate open: nobody else has locked it
module _ (n calls : ℕ) (y : Yard) (callers : List (Option Caller)) (disk : Medium) (M : History) (P : Trace) (notes : Notes)
    (sound : Sound n calls y callers disk M P notes) (a s : ℕ) (hold : (actor_in y.actors a).hold ≡ Checked) (alive : y.vault.dead ≡ false)
    (is : (actor_in y.actors a).curr ≡ Some s) where
  not_closed : (b : ℕ) → IsCloser y.vault.dead (actor_in y.actors b) s → ⊥
  not_closed b closer =
      let theirs : HasLock (actor_in y.actors b) (Node s) = record { locks = closer_locks y.vault.dead (actor_in y.actors b).hold closer.closes; among = node_place (actor_in y.actors b).pred (actor_in y.actors b).curr s closer.node } in
      let own : HasLock (actor_in y.actors a) (Node s) = record { locks = ap has_locks hold; among = node_place (actor_in y.actors a).pred (actor_in y.actors a).curr s is } in
      let same : b ≡ a = sym (sound.locks.has b (Node s) theirs) ∙ sound.locks.has a (Node s) own in
      false≢true (sym alive ∙ ap (closes y.vault.dead) (sym hold) ∙ (subst (λ (q : ℕ). IsCloser y.vault.dead (actor_in y.actors q) s) same closer).closes)

  pub checked_node : IsOnChain y.shape y.vault.cells y.uses P s × IsGateOpened (stage_in y.vault.cells s)
  checked_node =
      let there = held_node y.shape P Checked (actor_in y.actors a) sound.trace.lawful (subst (λ (q : LockPhase). RestsOn y.shape.buckets q (actor_in y.actors a) P) hold (sound.locks.rests a)) s is refl in
      let lt = on_range y.shape.buckets y.shape.slots P (bucket_of y.shape.buckets (key_word s P)) s sound.trace.lawful there in
      let stands = chain_stands y.shape y.vault.cells y.vault.dead y.uses y.actors P s sound.slots (key_word s P) lt there in
      (stands.0, go stands.1)
    where
      go : IsNodeStage y.vault.cells y.vault.dead y.actors P s → IsGateOpened (stage_in y.vault.cells s)
      go (inl opened) = opened.1
      go (inr (b, closer, shut)) = absurd (not_closed b closer)

module _ (n calls : ℕ) (y : Yard) (callers : List (Option Caller)) (disk : Medium) (M : History) (P : Trace) (notes : Notes)
    (sound : Sound n calls y callers disk M P notes) (a i k s : ℕ) (is : caller_at callers a ≡ Some (call_at i (Remove k) (Playing (Removing s) 0)))
    (alive : y.vault.dead ≡ false) where
  abbrev at : Progress
  at = Playing (Removing s) 0

  h : Relies (view_of y.shape y.vault y.actors a) (Remove k) at (notes.begun a) P (notes.changed a)
  h = (own n calls y callers disk M P notes a i (Remove k) at is sound).stands.2

  abbrev new : Cell
  new = record { stage = Closing; key = (cell_in y.vault.cells s).key }

  abbrev cells' : List Cell
  cells' = slice_set y.vault.cells s new

  checked : IsChecked y.shape.buckets (actor_in y.actors a) P
  checked = subst (λ (q : LockPhase). RestsOn y.shape.buckets q (actor_in y.actors a) P) h.2.0 (sound.locks.rests a)

  before : IsRightBefore y.shape.buckets (actor_at y a).pred s P × (is_marked s P ≡ false)
  before = checked.before s h.0

  facts : IsOnChain y.shape y.vault.cells y.uses P s × IsGateOpened (stage_in y.vault.cells s)
  facts = checked_node n calls y callers disk M P notes sound a s h.2.0 alive h.0

  lt : s < y.shape.slots
  lt = on_range y.shape.buckets y.shape.slots P (bucket_of y.shape.buckets (key_word s P)) s sound.trace.lawful facts.0.there

  off : IsLoose y.shape.buckets s P → ⊥
  off loose = false≢true (sym (loose (bucket_of y.shape.buckets (key_word s P))) ∙ facts.0.there)

  closing : cell_in cells' s ≡ new
  closing = cell_same y.vault.cells s new (omega (arith, lt, sound.images.count))

  closing_s : stage_in cells' s ≡ Closing
  closing_s = ap (λ (c : Cell). c.stage) closing

  key_still : (t : ℕ) → (cell_in cells' t).key ≡ (cell_in y.vault.cells t).key
  key_still = by_actor (λ t. (cell_in cells' t).key ≡ (cell_in y.vault.cells t).key) s (ap (λ (c : Cell). c.key) closing) (λ t other. ap (λ (c : Cell). c.key) (cell_other y.vault.cells s new t other))

  my_lock : (q : Place) → HasPlace q (claimed_places (actor_at y a).pred (actor_at y a).curr) → HasLock (actor_in y.actors a) q
  my_lock q among = record { locks = ap has_locks h.2.0; among = among }

  hand_apart : (b t : ℕ) → (actor_in y.actors b).slot ≡ Some t → t ≢ s
  hand_apart b t slot it = off (subst (λ (q : ℕ). IsLoose y.shape.buckets q P) it (sound.slots.hand b t slot).loose)

  may_close : (stage : Stage) → IsGateOpened stage → IsOpened stage
  may_close stage (inl e) = subst IsOpened (sym e) tt
  may_close stage (inr e) = subst IsOpened (sym e) tt

  closing_opening : Closing ≡ Opening → ⊥
  closing_opening e = absurd cc

  -- from now on the removing may be seen: its call is under way and has no row
  my_tail : HasTail (Remove (cell_in cells' s).key) callers (entries y.shape.passes callers notes) M
  my_tail = subst (λ (q : ℕ). HasTail (Remove q) callers (entries y.shape.passes callers notes) M) (sym (key_still s ∙ facts.0.key ∙ h.2.1)) (own_tail n calls y.shape.passes callers P M notes a (call_at i (Remove k) at) is h.2.2 refl sound.ledger)

  -- The gate is being closed. The remover's hold says so, or its vault is dead and it may have tried.
  module _ (dead' : Bool) (x : Actor) (actors' : List Actor) (hands : length actors' ≡ length y.actors) (hand_a : actor_in actors' a ≡ x) (hand_b : (b : ℕ) → b ≢ a → actor_in actors' b ≡ actor_in y.actors b)
      (node : x.curr ≡ Some s) (slot : x.slot ≡ (actor_at y a).slot) (closes_x : closes dead' x.hold ≡ true) (locked : unlocks x.hold ≡ false) (gone : has_removed_node x.hold ≡ false) where
    abbrev vault' : Vaulted
    vault' = record y.vault { cells = cells'; dead = dead' }

    slot_still : (b : ℕ) → (actor_in actors' b).slot ≡ (actor_in y.actors b).slot
    slot_still = field_stays (Option ℕ) (λ q. q.slot) y.actors actors' a x hand_a hand_b slot

    dies : y.vault.dead ≡ true → dead' ≡ true
    dies dead = absurd (false≢true (sym alive ∙ dead))

    closed_slots : SlotsSound y.shape cells' dead' y.uses actors' P
    closed_slots =
        slot_turn y.shape y.vault.cells cells' y.vault.dead dead' y.uses y.uses y.actors actors' P P a s x hand_a hand_b dies
        (node_grips y.vault.dead dead' s (actor_in y.actors a) x h.0 node slot (ap (opens y.vault.dead) h.2.0 ∙ alive) locked) (cell_other y.vault.cells s new) (λ t apart. refl) (same_nodes y.shape.buckets s P)
        (record {
          stands = is_node (record { there = facts.0.there; taken = facts.0.taken; key = key_still s ∙ facts.0.key }) (inr (a, subst (λ (q : Actor). IsCloser dead' q s) (sym hand_a) (record { node = node; closes = closes_x }), inl closing_s));
          hand = λ has. absurd (off (sound.slots.hand a s (sym slot ∙ has)).loose);
          out = λ out. absurd (false≢true (sym gone ∙ out.removed));
          hand_out = λ has out. false≢true (sym gone ∙ out.removed);
          opened = λ has e. absurd (false≢true (sym locked ∙ e));
          closed = λ curr e. inl closing_s;
          no_other_hand = λ b other has. off (sound.slots.hand b s has).loose;
          no_other_out = λ b other out. off (sound.slots.out b s out).loose;
          others_closed = λ b other curr e. inl closing_s;
        })
        refl sound.slots
        (λ j t key on_it flag. elim (cases_eq t s) [
          | inl same ↦ λ e. closing_opening (sym closing_s ∙ ap (stage_in cells') (sym same) ∙ e)
          | inr other ↦ stage_other y.vault.cells s new (λ q. q ≢ Opening) t other (sound.slots.added j t key on_it flag)
        ])
        (λ j t key on_it flag. elim (cases_eq t s) [
          | inl same ↦ absurd (opened_written (stage_in y.vault.cells s) facts.1 (inr (ap (stage_in y.vault.cells) (sym same) ∙ sound.slots.removed j t key on_it flag)))
          | inr other ↦ stage_other y.vault.cells s new (λ q. q ≡ Closed) t other (sound.slots.removed j t key on_it flag)
        ])

    -- all of it, where the remover goes on, over a disk that is as the new cells say
    closed_sound : (next : Progress) → may_have_tail next ≡ true → (medium : Medium) → DiskSound y.shape vault' medium → LocksSound y.shape y.locks actors' P
        → CallerSound (record { buckets = y.shape.buckets; passes = y.shape.passes; format = y.vault.format; cells = cells'; dead = dead'; actor = x }) (pin_in y.words.pins a) (Some (call_at i (Remove k) next)) (notes.begun a) P (notes.changed a)
        → Sound n calls (record { shape = y.shape; words = y.words; locks = y.locks; vault = vault'; uses = y.uses; actors = actors' }) (moving callers a (call_at i (Remove k) at) next) medium M P notes
    closed_sound next may medium images locks mine =
        let goes = tail_turn callers a (call_at i (Remove k) at) is next y.shape.passes notes (in_passes n calls y callers disk M P notes a (call_at i (Remove k) at) is sound) (λ none is. may) in
        record {
          trace = sound.trace;
          images = images;
          slots = closed_slots;
          locks = locks;
          callers = callers_moved callers a (call_at i (Remove k) at) is next y.shape y.vault vault' y.words.pins y.actors actors' P P notes notes x (notes.changed a) hands hand_a hand_b (λ b. refl) refl (λ b other. refl) mine
              (λ b other. caller_vaulted y.shape.buckets y.shape.passes y.vault.format y.vault.cells cells' y.vault.dead dead' (actor_in y.actors b) (notes.begun b) P
              (notes.changed b) dies (λ t slot. cell_stays y.vault.cells s new t (hand_apart b t slot)) (pin_in y.words.pins b) (caller_at callers b)
              (sound.callers.each b))
              sound.callers;
          reuse = reuse_turn y.shape y.words.pins y.uses y.actors actors' P notes.begun slot_still sound.reuse;
          ledger = ledger_turn callers a (call_at i (Remove k) at) is next n calls y.shape.passes P M notes sound.ledger;
          tails = record {
            adding = λ b t slot opened.
                let old = sym (slot_still b) ∙ slot in
                goes (Add (cell_in cells' t).key) M (subst (λ (q : ℕ). HasTail (Add q) callers (entries y.shape.passes callers notes) M) (sym (key_still t))
                (sound.tails.adding b t old (subst IsGateOpened (ap (λ (c : Cell). c.stage) (cell_other y.vault.cells s new t (hand_apart b t old))) opened)));
            removing = λ t on_it clear shut. goes (Remove (cell_in cells' t).key) M (elim (cases_eq t s) [
              | inl same ↦ subst (λ (q : ℕ). HasTail (Remove (cell_in cells' q).key) callers (entries y.shape.passes callers notes) M) (sym same) my_tail
              | inr other ↦ subst (λ (q : ℕ). HasTail (Remove q) callers (entries y.shape.passes callers notes) M) (sym (key_still t)) (sound.tails.removing t on_it clear (subst IsGateWritten (ap (λ (c : Cell). c.stage) (cell_other y.vault.cells s new t other)) shut))
            ]);
          };
        }

  me : CallerSound (view_of y.shape y.vault y.actors a) (pin_in y.words.pins a) (Some (call_at i (Remove k) at)) (notes.begun a) P (notes.changed a)
  me = own n calls y callers disk M P notes a i (Remove k) at is sound

  abbrev x' : Actor
  x' = with_hold (actor_at y a) GateClosed

  abbrev closers : List Actor
  closers = set_of_pass y.actors a x'

  pub write_close_keeps : Sound n calls (yard_done y (actor_at y a) a WriteClose) (moving callers a (call_at i (Remove k) at) (Playing (Removing s) 1)) (medium_after (call_of y (actor_at y a) WriteClose) disk) M P notes
  write_close_keeps =
      let claimed : s ≡ node_of (actor_at y a) = sym (ap (λ (q : Option ℕ). unwrap_or q 0) h.0) in
      let hand_a = same_hand n calls y callers disk M P notes a (call_at i (Remove k) at) is sound x' in
      let hand_b = other_hand n calls y callers disk M P notes a (call_at i (Remove k) at) is sound x' in
      let images = closing_done y.shape y.vault disk sound.images alive s lt (may_close (stage_in y.vault.cells s) facts.1) in
      let locks = held_locks y.shape y.locks y.actors closers P a hand_b sound.locks
      (λ q lock. my_lock q (subst (λ (z : Actor). HasLock z q) hand_a lock).among)
      (subst (λ (q : Actor). RestsOn y.shape.buckets q.hold q P) (sym hand_a) (record { node = s; curr = h.0; before = before.0; marked = before.1 })) in
      subst (λ (q : ℕ). Sound n calls (record { shape = y.shape; words = y.words; locks = y.locks; vault = record y.vault { cells = slice_set y.vault.cells q (record { stage = Closing; key = (cell_in y.vault.cells q).key }) }; uses = y.uses; actors = closers })
      (moving callers a (call_at i (Remove k) at) (Playing (Removing s) 1)) (medium_after (closing_call y.vault.format q) disk) M P notes) claimed
      (closed_sound y.vault.dead x' closers (length-set_of_pass y.actors a x') hand_a hand_b h.0 refl refl refl refl (Playing (Removing s) 1) refl (medium_after (closing_call y.vault.format s) disk) images locks
      (record { quiet = me.quiet; begins = me.begins; stands = (me.stands.0, me.stands.1, (h.0, h.1, (refl, h.2.1, h.2.2))) }))

  -- where the write fails, the vault dies, and the gate may be closed
  pub write_close_fails_keeps : (medium : Medium) → MayFail (closing_call y.vault.format s) disk medium
      → Sound n calls (with_vault y (record y.vault { cells = cells'; dead = true })) (moving callers a (call_at i (Remove k) at) (halts Device)) medium M P notes
  write_close_fails_keeps medium may =
      closed_sound true (actor_at y a) y.actors refl refl (λ b other. refl) h.0 refl (ap (closes true) h.2.0) (ap unlocks h.2.0) (ap has_removed_node h.2.0) (halts Device) refl medium
      (closing_lost y.shape y.vault disk sound.images alive s lt (may_close (stage_in y.vault.cells s) facts.1) medium may)
      sound.locks
      (record { quiet = me.quiet; begins = me.begins; stands = (me.stands.0, me.stands.1, (tt, refl)) })
