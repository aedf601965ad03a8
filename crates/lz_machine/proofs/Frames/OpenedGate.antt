-- What holds of slots, locks and actors after a gate was opened.
use Rattle.std.proofs.Common.{◌≡◌, ◌≢◌, inl, inr, ℕ, suc, ◌<◌, ◌≤◌, ◌==◌, Bool, true, false, List, ◌∷◌, length, Option, Some, None, refl, sym, ap, ◌∙◌, subst}
use Rattle.std.{proofs.{Common.{arith}, lemmas.{Bool.{cases_eq, Decides.{nat_tests}}, Option.{same_Some, none-some}}}, specs.Prelude.{slice_set}}
use mathlib.Core.Bool.{false≢true}
use Rattle.lz_slot.specs.{declared.command.Command.TheVariants.{Add, Remove}, Histories.{History}}
use Rattle.lz_disk.specs.Images.{Medium}
use Rattle.lz_vault.specs.{declared.vault.Stage.TheVariants.{Closed, Opening}, Stages.{Cell, IsFree}, Vaults.{Vaulted, MayFail, opening_call}}
use Rattle.lz_list.specs.declared.{publishing.Publishing.TheVariants.{LinkPrepared as link_prepared}, word.Word.TheVariants.{Link as link_at}}
use Rattle.lz_list.specs.{Words.{set, place_number, link_to}, Traces.{Trace, Lawful, IsLoose, on, chain_of, bucket_of, key_word, is_marked}}
use Rattle.lz_machine.specs.declared.{event.Reply.TheVariants.{Device}, actor.{Actor.{Actor}, LockPhase.{LockPhase, TheVariants.{Checked}}}}
use Rattle.lz_machine.specs.declared.caller.{Sequence.TheVariants.{Adding}, Progress.{Progress, TheVariants.{Playing}}}
use Rattle.lz_machine.specs.{Yards.{Yard, actor_in, pin_in, cell_in, stage_in}, Table.{with_vault}, Calls.{halts}, Runs.{Caller, caller_at}}
use Rattle.lz_machine.specs.{Stands.{IsLinkable}, Notes.{Notes, entries}}
use Rattle.lz_machine.specs.SlotsSound.{opens, shuts, unlocks, closes, has_removed_node, IsGateOpened, IsGateWritten, is_held, SlotsSound}
use Rattle.lz_machine.specs.{LocksSound.{IsBeside, IsChecked, RestsOn, LocksSound}, CallersSound.{Relies, view_of, CallerSound, CallersSound}}
use Rattle.lz_machine.{specs.{LedgerSound.{HasTail, may_have_tail}, Sound.{DiskSound, ReuseSound, Sound}}, proofs.Frames.Ranges.{on_range, few_slots}}
use Rattle.lz_machine.proofs.Frames.{ActorTable.{by_actor, field_stays}, SlotWrite.{opening_lost}, OneActor.{moving, callers_moved, ledger_turn}}
use Rattle.lz_machine.proofs.Frames.{ChainSlots.{reuse_published}, OneSlot.{slot_grips, same_nodes, slot_turn, prepared_slots}, Publishing.{shut_relies}}
use Rattle.lz_machine.proofs.Frames.{Store.{trace_link}, OtherCallers.{held_node, callers_stay}, Hand.{reuse_turn}}
use Rattle.lz_machine.proofs.Frames.HeldLocks.{LeavesPair, link_leaves, beside_stays, before_stays}
use Rattle.lz_machine.proofs.Frames.{Cells.{caller_vaulted, cell_same, cell_other, stage_other, cell_stays}, PreparedSlot.{rests_prepared}}
use Rattle.lz_machine.proofs.{Frames.SameYard.{in_passes, tail_turn}, Ledger.{QuietPublishing.{ledger_published}, Change.{own_tail}}, Steps.Hop.{call_at, own}}

module _ (n calls : ℕ) (y : Yard) (callers : List (Option Caller)) (disk : Medium) (M : History) (P : Trace) (notes : Notes) (sound : Sound n calls y callers disk M P notes) (a i k s : ℕ) (is : caller_at callers a ≡ Some (call_at i (Add k) (Playing (Adding s) 0))) where
  abbrev at : Progress
  at = Playing (Adding s) 0

  -- what is known of the adder before the write
  me : CallerSound (view_of y.shape y.vault y.actors a) (pin_in y.words.pins a) (Some (call_at i (Add k) at)) (notes.begun a) P (notes.changed a)
  me = own n calls y callers disk M P notes a i (Add k) at is sound

  pub h : Relies (view_of y.shape y.vault y.actors a) (Add k) at (notes.begun a) P (notes.changed a)
  h = me.stands.2

  pub lt : s < y.shape.slots
  lt = (sound.slots.hand a s h.1.slot).in_range

  loose : IsLoose y.shape.buckets s P
  loose = (sound.slots.hand a s h.1.slot).loose

  -- a slot on a chain is another one
  chain_apart : (j t : ℕ) → on 0 (chain_of y.shape.buckets j P) (suc t) ≡ true → t ≢ s
  chain_apart j t there it = false≢true (sym (loose (bucket_of y.shape.buckets j)) ∙ subst (λ (q : ℕ). on 0 (chain_of y.shape.buckets j P) (suc q) ≡ true) it there)

  -- and so is one in another's hand
  hand_apart : (b t : ℕ) → b ≢ a → (actor_in y.actors b).slot ≡ Some t → t ≢ s
  hand_apart b t other slot it = other (sound.slots.one_hand b a t slot (h.1.slot ∙ ap Some (sym it)))

  -- a slot whose gate is closed for sure is on no chain
  others_closed : (b : ℕ) → (actor_in y.actors b).curr ≡ Some s → shuts (actor_in y.actors b).hold ≡ true → ⊥
  others_closed b curr is = chain_apart (key_word s P) s (held_node y.shape P (actor_in y.actors b).hold (actor_in y.actors b) sound.trace.lawful (sound.locks.rests b) s curr (shut_relies (actor_in y.actors b).hold is)) refl

  -- The cells: the gate is being opened. The adder's hold says so, or its vault is dead and it may have tried.
  module _ (dead' : Bool) (alive : y.vault.dead ≡ false) (x : Actor) (actors' : List Actor) (hands : length actors' ≡ length y.actors) (hand_a : actor_in actors' a ≡ x) (hand_b : (b : ℕ) → b ≢ a → actor_in actors' b ≡ actor_in y.actors b)
      (slot : x.slot ≡ (actor_in y.actors a).slot) (opens_x : opens dead' x.hold ≡ true) (shuts_x : shuts x.hold ≡ false) (gone : has_removed_node x.hold ≡ false) where
    abbrev new : Cell
    new = record { stage = Opening; key = (cell_in y.vault.cells s).key }

    abbrev cells' : List Cell
    cells' = slice_set y.vault.cells s new

    abbrev vault' : Vaulted
    vault' = record y.vault { cells = cells'; dead = dead' }

    slot_still : (b : ℕ) → (actor_in actors' b).slot ≡ (actor_in y.actors b).slot
    slot_still = field_stays (Option ℕ) (λ q. q.slot) y.actors actors' a x hand_a hand_b slot

    dies : y.vault.dead ≡ true → dead' ≡ true
    dies dead = absurd (false≢true (sym alive ∙ dead))

    opening : cell_in cells' s ≡ new
    opening = cell_same y.vault.cells s new (omega (arith, lt, sound.images.count))

    stage_same : stage_in cells' s ≡ Opening
    stage_same = ap (λ (q : Cell). q.stage) opening

    key_other : (t : ℕ) → t ≢ s → (cell_in cells' t).key ≡ (cell_in y.vault.cells t).key
    key_other t other = ap (λ (q : Cell). q.key) (cell_other y.vault.cells s new t other)

    -- so what is said of slots stays
    open_slots : SlotsSound y.shape cells' dead' y.uses actors' P
    open_slots =
        slot_turn y.shape y.vault.cells cells' y.vault.dead dead' y.uses y.uses y.actors actors' P P a s x hand_a hand_b dies
        (slot_grips y.vault.dead dead' s (actor_in y.actors a) x (λ t apart has. apart (same_Some _ _ (sym has ∙ h.1.slot))) (λ t apart has. apart (same_Some _ _ (sym has ∙ slot ∙ h.1.slot)))
        (ap (closes y.vault.dead) h.0 ∙ alive) (ap has_removed_node h.0) gone shuts_x) (cell_other y.vault.cells s new) (λ t apart. refl) (same_nodes y.shape.buckets s P)
        (record {
          stands = is_held a (slot_still a ∙ h.1.slot);
          hand = λ has.
              let was = sound.slots.hand a s h.1.slot in
              record { in_range = was.in_range; loose = was.loose; taken = was.taken; stage = inr (opens_x, inl stage_same, ap (λ (q : Cell). q.key) opening ∙ h.1.key ∙ sym h.1.word) };
          out = λ out. absurd (false≢true (sym gone ∙ out.removed));
          hand_out = λ has out. false≢true (sym gone ∙ out.removed);
          opened = λ has e. inl stage_same;
          closed = λ curr e. absurd (false≢true (sym shuts_x ∙ e));
          no_other_hand = λ b other has. hand_apart b s other has refl;
          no_other_out = λ b other out. sound.slots.hand_out a b s h.1.slot out;
          others_closed = λ b other curr e. absurd (others_closed b curr e);
        })
        refl sound.slots
        (λ j t key on_it flag. stage_other y.vault.cells s new (λ q. q ≢ Opening) t (chain_apart j t on_it) (sound.slots.added j t key on_it flag))
        (λ j t key on_it flag. stage_other y.vault.cells s new (λ q. q ≡ Closed) t (chain_apart j t on_it) (sound.slots.removed j t key on_it flag))

    -- from now on the adding may be seen: its call is under way and has no row
    my_tail : HasTail (Add (cell_in cells' s).key) callers (entries y.shape.passes callers notes) M
    my_tail = subst (λ (q : ℕ). HasTail (Add q) callers (entries y.shape.passes callers notes) M) (sym (ap (λ (q : Cell). q.key) opening ∙ h.1.key)) (own_tail n calls y.shape.passes callers P M notes a (call_at i (Add k) at) is h.2 refl sound.ledger)

    -- the tail of each slot in hand whose gate is opened
    tail_then : (b t : ℕ) → (actor_in actors' b).slot ≡ Some t → IsGateOpened (stage_in cells' t) → HasTail (Add (cell_in cells' t).key) callers (entries y.shape.passes callers notes) M
    tail_then b t slot opened = elim (cases_eq t s) [
      | inl same ↦ subst (λ (q : ℕ). HasTail (Add (cell_in cells' q).key) callers (entries y.shape.passes callers notes) M) (sym same) my_tail
      | inr other ↦ subst (λ (q : ℕ). HasTail (Add q) callers (entries y.shape.passes callers notes) M) (sym (key_other t other)) (sound.tails.adding b t (sym (slot_still b) ∙ slot) (subst IsGateOpened (ap (λ (q : Cell). q.stage) (cell_other y.vault.cells s new t other)) opened))
    ]

    -- all of it, where the adder goes on, over a disk that is as the new cells say
    pub open_sound : (next : Progress) → may_have_tail next ≡ true → (medium : Medium) → DiskSound y.shape vault' medium → LocksSound y.shape y.locks actors' P
        → CallerSound (record { buckets = y.shape.buckets; passes = y.shape.passes; format = y.vault.format; cells = cells'; dead = dead'; actor = x }) (pin_in y.words.pins a) (Some (call_at i (Add k) next)) (notes.begun a) P (notes.changed a)
        → Sound n calls (record { shape = y.shape; words = y.words; locks = y.locks; vault = vault'; uses = y.uses; actors = actors' }) (moving callers a (call_at i (Add k) at) next) medium M P notes
    open_sound next may medium images locks mine = record {
      trace = sound.trace;
      images = images;
      slots = open_slots;
      locks = locks;
      callers = callers_moved callers a (call_at i (Add k) at) is next y.shape y.vault vault' y.words.pins y.actors actors' P P notes notes x (notes.changed a) hands hand_a hand_b (λ b. refl) refl (λ b other. refl) mine
          (λ b other. caller_vaulted y.shape.buckets y.shape.passes y.vault.format y.vault.cells cells' y.vault.dead dead' (actor_in y.actors b) (notes.begun b) P
          (notes.changed b) dies (λ t slot. cell_stays y.vault.cells s new t (hand_apart b t other slot)) (pin_in y.words.pins b) (caller_at callers b)
          (sound.callers.each b))
          sound.callers;
      reuse = reuse_turn y.shape y.words.pins y.uses y.actors actors' P notes.begun slot_still sound.reuse;
      ledger = ledger_turn callers a (call_at i (Add k) at) is next n calls y.shape.passes P M notes sound.ledger;
      tails = record {
        adding = λ b t slot opened. tail_turn callers a (call_at i (Add k) at) is next y.shape.passes notes (in_passes n calls y callers disk M P notes a (call_at i (Add k) at) is sound) (λ none is. may) (Add (cell_in cells' t).key) M (tail_then b t slot opened);
        removing = λ t on_it clear gate.
            let apart = chain_apart (key_word t P) t on_it in
            tail_turn callers a (call_at i (Add k) at) is next y.shape.passes notes (in_passes n calls y callers disk M P notes a (call_at i (Add k) at) is sound) (λ none is. may) (Remove (cell_in cells' t).key) M
            (subst (λ (q : ℕ). HasTail (Remove q) callers (entries y.shape.passes callers notes) M) (sym (key_other t apart)) (sound.tails.removing t on_it clear (subst IsGateWritten (ap (λ (q : Cell). q.stage) (cell_other y.vault.cells s new t apart)) gate)));
      };
    }

  -- The turn in which the write fails: the vault dies, no word is changed, and the gate may be opened.
  pub write_open_fails_keeps : y.vault.dead ≡ false → (medium : Medium) → MayFail (opening_call y.vault.format s (cell_in y.vault.cells s).key) disk medium
      → Sound n calls (with_vault y (record y.vault { cells = slice_set y.vault.cells s (record { stage = Opening; key = (cell_in y.vault.cells s).key }); dead = true })) (moving callers a (call_at i (Add k) (Playing (Adding s) 0)) (halts Device)) medium M P notes
  write_open_fails_keeps alive medium may =
      open_sound true alive (actor_in y.actors a) y.actors refl refl (λ b other. refl) refl (ap (opens true) h.0) (ap shuts h.0) (ap has_removed_node h.0) (halts Device) refl medium
      (opening_lost y.shape y.vault disk sound.images alive s lt h.1.stage medium may)
      sound.locks
      (record { quiet = me.quiet; begins = me.begins; stands = (me.stands.0, me.stands.1, (tt, refl)) })

  -- The words: the slot's next link is published, where no chain has the slot.
  abbrev v : ℕ
  v = link_to (actor_in y.actors a).curr

  abbrev P' : Trace
  P' = link_prepared s v ∷ P

  law : Lawful y.shape.buckets y.shape.slots P'
  law = (loose, sound.trace.lawful)

  -- marks of other slots stay
  mark_other : (t : ℕ) → t ≢ s → is_marked t P' ≡ is_marked t P
  mark_other t other = let apart : (s == t) ≡ false = grind (arith, nat_tests, other) in rw apart refl

  -- so what is said of slots stays
  published_slots : SlotsSound y.shape y.vault.cells y.vault.dead y.uses y.actors P'
  published_slots =
      prepared_slots y.shape y.vault.cells y.vault.cells y.vault.dead y.vault.dead y.uses y.actors P P' a s (λ e. e) (λ t apart. refl)
      (record { loose = λ t apart is. is; word = λ t apart. refl; mark = mark_other; chain = λ t apart on_it. on_it; halt = refl }) sound.slots h.1.slot (ap unlocks h.0) loose (subst IsFree (sym h.1.stage) tt) (λ b curr is. absurd (others_closed b curr is))
      (λ j t key on_it flag. sound.slots.added j t key on_it flag) (λ j t key on_it flag. sound.slots.removed j t key on_it flag)

  -- what the adder has checked: its pair stands round its key
  checked : IsChecked y.shape.buckets (actor_in y.actors a) P
  checked = subst (λ (q : LockPhase). RestsOn y.shape.buckets q (actor_in y.actors a) P) h.0 (sound.locks.rests a)

  -- its place and its node are on a chain, and so not the slot
  pair_apart : ((t : ℕ) → (actor_in y.actors a).curr ≡ Some t → t ≢ s) × ((t : ℕ) → place_number (actor_in y.actors a).pred ≡ suc t → t ≢ s)
  pair_apart = grind arith

  -- the pair alone, without the slot, which is the one that is prepared
  abbrev pair : Actor
  pair = record (actor_in y.actors a) { slot = None; hold = Checked }

  -- so the preparing leaves it
  pair_leaves : LeavesPair y.shape.buckets (link_prepared s v) pair P
  pair_leaves = link_leaves y.shape.buckets s v pair P (λ t slot. absurd (none-some _ slot)) pair_apart.0 pair_apart.1

  -- it stands round the key still
  pub beside_published : IsBeside y.shape.buckets (key_word s P) (actor_in y.actors a).pred (actor_in y.actors a).curr P'
  beside_published = beside_stays y.shape.buckets (link_prepared s v) pair P pair_leaves (key_word s P) (checked.beside s h.1.slot)

  -- what it has checked holds still
  checked_published : IsChecked y.shape.buckets (actor_in y.actors a) P'
  checked_published = record {
    beside = λ t slot. beside_stays y.shape.buckets (link_prepared s v) pair P pair_leaves (key_word t P) (checked.beside t slot);
    before = λ t node. (before_stays y.shape.buckets (link_prepared s v) pair P pair_leaves t node (checked.before t node).0, mark_other t (pair_apart.0 t node) ∙ (checked.before t node).1);
  }

  -- what is said of locks stays
  published_locks : LocksSound y.shape y.locks y.actors P'
  published_locks = record {
    heads = sound.locks.heads;
    nodes = sound.locks.nodes;
    has = sound.locks.has;
    rests = by_actor (λ b. RestsOn y.shape.buckets (actor_in y.actors b).hold (actor_in y.actors b) P') a
        (subst (λ (q : LockPhase). RestsOn y.shape.buckets q (actor_in y.actors a) P') (sym h.0) checked_published)
        (λ b other. rests_prepared y.shape.buckets y.shape.slots s (link_prepared s v) (actor_in y.actors b) P sound.trace.lawful loose
        (λ node place. link_leaves y.shape.buckets s v (actor_in y.actors b) P (λ t slot. hand_apart b t other slot) node place) (actor_in y.actors b).hold
        (sound.locks.rests b));
  }

  -- what is said of callers stays, the adder's too: no key word is changed, and no pass that is inside has stood on the slot
  published_callers : CallersSound y.shape y.vault y.words.pins y.actors callers P' notes
  published_callers = callers_stay y.shape y.vault y.words.pins y.locks y.actors callers (link_prepared s v) P law notes sound.locks sound.callers (λ b inside. sound.reuse.reserved b a s h.1.slot inside) (λ b t slot. refl)

  -- passes stay away from loose slots
  published_reuse : ReuseSound y.shape y.words.pins y.uses y.actors P' notes.begun
  published_reuse = reuse_published y.shape y.vault.cells y.vault.dead y.uses y.actors y.actors (link_prepared s v) P y.words.pins notes.begun published_slots (λ b t slot. slot) sound.reuse

  -- the link that is written is one of the table: the end, or a node on a chain
  short : v ≤ y.shape.slots
  short = go (actor_in y.actors a).curr refl
    where
      go : (curr : Option ℕ) → (actor_in y.actors a).curr ≡ curr → link_to curr ≤ y.shape.slots
      go None none = omega arith
      go (Some t) node = let there = held_node y.shape P Checked (actor_in y.actors a) sound.trace.lawful checked t node refl in omega (arith, on_range y.shape.buckets y.shape.slots P (bucket_of y.shape.buckets (key_word t P)) t sound.trace.lawful there)

  abbrev yard_linked : Yard
  yard_linked = record { shape = y.shape; words = set y.words (link_at s) v; locks = y.locks; vault = y.vault; uses = y.uses; actors = y.actors }

  -- all of it
  pub published_sound : Sound n calls yard_linked callers disk M P' notes
  published_sound = record {
    trace = trace_link y.shape y.words P sound.trace (few_slots sound.images) s v lt loose short;
    images = sound.images;
    slots = published_slots;
    locks = published_locks;
    callers = published_callers;
    reuse = published_reuse;
    ledger = ledger_published n calls y.shape.passes callers (link_prepared s v) P M notes tt sound.ledger;
    tails = record {
      adding = sound.tails.adding;
      removing = λ t on_it clear gate. sound.tails.removing t on_it (sym (mark_other t (chain_apart (key_word t P) t on_it)) ∙ clear) gate;
    };
  }

  -- the slot is ready: its link is written, without bits
  pub ready_published : IsLinkable y.shape.buckets (key_word s P') v s P'
  ready_published =
      let same : (s == s) ≡ true = grind (arith, nat_tests) in
      record { loose = loose; key = refl; link = rw same refl; no_mark = rw same refl; not_added = rw same refl; not_removed = rw same refl }
