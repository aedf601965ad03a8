-- WriteKey keeps the invariant: the adder's key is put into the slot that it has reserved.
use Rattle.std.proofs.Common.{◌≡◌, ◌≢◌, inl, inr, ℕ, suc, ◌<◌, ◌≤◌, ◌==◌, Bool, true, false, List, ◌∷◌, ◌++◌, Option, Some, refl, sym, ap, ◌∙◌, subst, arith}
use Rattle.std.{proofs.lemmas.Bool.Decides.{nat_tests}, specs.Prelude.{slice_set}}
use mathlib.Core.Bool.{false≢true}
use Rattle.lz_slot.specs.{Rooms.{largest_of}, declared.command.Command.{Command, TheVariants.{Add, Remove}}, Sets.{key_of}, Histories.{History}}
use Rattle.lz_disk.specs.Images.{Medium}
use Rattle.lz_vault.specs.{declared.vault.Stage.{Stage, TheVariants.{Closed, Opening}}, Stages.{Cell, IsFree, stage_put}}
use Rattle.lz_vault.specs.Vaults.{Vaulted, MayFail, key_call, medium_after}
use Rattle.lz_list.specs.{declared.{publishing.Publishing.TheVariants.{KeyPrepared as key_prepared}, word.Word.TheVariants.{Key as key_at}}, Words.{set}}
use Rattle.lz_list.specs.Traces.{Trace, Lawful, IsLoose, on, chain_of, bucket_of, key_word}
use Rattle.lz_machine.specs.declared.{event.{Event.TheVariants.{WriteKey}, Reply.TheVariants.{Device}}, actor.LockPhase.{LockPhase}}
use Rattle.lz_machine.specs.declared.caller.{Sequence.TheVariants.{Writing}, Progress.{Progress, TheVariants.{Playing}}}
use Rattle.lz_machine.specs.{Yards.{Yard, actor_at, actor_in, pin_in, cell_in, stage_in}, Table.{with_vault, call_of, yard_done, publishes}, Calls.{halts}}
use Rattle.lz_machine.specs.{Runs.{Caller, caller_at}, Notes.{Notes, entries}}
use Rattle.lz_machine.specs.{SlotsSound.{opens, shuts, unlocks, IsGateOpened, IsGateWritten, IsHandStage, SlotsSound}, LocksSound.{RestsOn, LocksSound}}
use Rattle.lz_machine.specs.{CallersSound.{IsKeyed, Relies, view_of, CallerSound, CallersSound}, LedgerSound.{HasTail}, Sound.{DiskSound, ReuseSound, Sound}}
use Rattle.lz_machine.proofs.Frames.{ActorTable.{by_actor}, OneActor.{moving}, ChainSlots.{reuse_published}, OneSlot.{same_nodes, prepared_slots}}
use Rattle.lz_machine.proofs.Frames.{Publishing.{shut_relies}, Store.{trace_key}, OtherCallers.{held_node, caller_stays}, HeldLocks.{key_leaves}}
use Rattle.lz_machine.proofs.Frames.{FittingKeys.{adds_fitting}, Cells.{caller_vaulted, cell_same, cell_other, stage_other, cell_stays}}
use Rattle.lz_machine.proofs.Frames.{PreparedSlot.{rests_prepared}, SlotWrite.{key_done, key_failed, key_syncs, put_free, put_keyed}, BesideKey.{opened_shut}}
use Rattle.lz_machine.proofs.{Frames.Ranges.{few_slots}, Ledger.QuietPublishing.{ledger_published}, Steps.Hop.{call_at, own, goes_on_keeps}}

module _ (n calls : ℕ) (y : Yard) (callers : List (Option Caller)) (disk : Medium) (M : History) (P : Trace) (notes : Notes) (sound : Sound n calls y callers disk M P notes) (a i : ℕ) (c : Command) (s : ℕ) (is : caller_at callers a ≡ Some (call_at i c (Playing (Writing s) 0))) where
  abbrev at : Progress
  at = Playing (Writing s) 0

  abbrev k : ℕ
  k = key_of c

  -- what is known of the adder before the write
  me : CallerSound (view_of y.shape y.vault y.actors a) (pin_in y.words.pins a) (Some (call_at i c at)) (notes.begun a) P (notes.changed a)
  me = own n calls y callers disk M P notes a i c at is sound

  h : Relies (view_of y.shape y.vault y.actors a) c at (notes.begun a) P (notes.changed a)
  h = me.stands.2

  lt : s < y.shape.slots
  lt = (sound.slots.hand a s h.1).in_range

  loose : IsLoose y.shape.buckets s P
  loose = (sound.slots.hand a s h.1).loose

  -- nothing has been done to its gate
  shut : IsFree (stage_in y.vault.cells s)
  shut = go (sound.slots.hand a s h.1).stage
    where
      go : IsHandStage y.vault.cells y.vault.dead (actor_in y.actors a) P s → IsFree (stage_in y.vault.cells s)
      go (inl closed) = closed
      go (inr opened) = absurd (false≢true (ap (opens y.vault.dead) (sym h.0.hold) ∙ opened.0))

  -- a slot on a chain is another one
  chain_apart : (j t : ℕ) → on 0 (chain_of y.shape.buckets j P) (suc t) ≡ true → t ≢ s
  chain_apart j t there it = false≢true (sym (loose (bucket_of y.shape.buckets j)) ∙ subst (λ (q : ℕ). on 0 (chain_of y.shape.buckets j P) (suc q) ≡ true) it there)

  -- and so is one in another's hand
  hand_apart : (b t : ℕ) → b ≢ a → (actor_in y.actors b).slot ≡ Some t → t ≢ s
  hand_apart b t other slot it = other (sound.slots.one_hand b a t slot (h.1 ∙ ap Some (sym it)))

  -- The words: the key is published, where its slot's gate is closed.
  abbrev P' : Trace
  P' = key_prepared s k ∷ P

  law : Lawful y.shape.buckets y.shape.slots P'
  law = (loose, sound.trace.lawful)

  -- one key word is changed
  word_same : key_word s P' ≡ k
  word_same = let same : (s == s) ≡ true = grind (arith, nat_tests) in rw same refl

  word_other : (t : ℕ) → t ≢ s → key_word t P' ≡ key_word t P
  word_other t other = let apart : (s == t) ≡ false = grind (arith, nat_tests, other) in rw apart refl

  -- a slot whose gate is closed for sure is on no chain
  others_closed : (b : ℕ) → (actor_in y.actors b).curr ≡ Some s → shuts (actor_in y.actors b).hold ≡ true → ⊥
  others_closed b curr is = chain_apart (key_word s P) s (held_node y.shape P (actor_in y.actors b).hold (actor_in y.actors b) sound.trace.lawful (sound.locks.rests b) s curr (shut_relies (actor_in y.actors b).hold is)) refl

  -- so what is said of slots stays
  published_slots : SlotsSound y.shape y.vault.cells y.vault.dead y.uses y.actors P'
  published_slots =
      prepared_slots y.shape y.vault.cells y.vault.cells y.vault.dead y.vault.dead y.uses y.actors P P' a s (λ e. e) (λ t apart. refl)
      (record { loose = λ t apart is. is; word = word_other; mark = λ t apart. refl; chain = λ t apart on_it. on_it; halt = refl }) sound.slots h.1 (ap unlocks h.0.hold) loose shut (λ b curr is. absurd (others_closed b curr is))
      (λ j t key on_it flag. sound.slots.added j t (sym (word_other t (chain_apart j t on_it)) ∙ key) on_it flag)
      (λ j t key on_it flag. sound.slots.removed j t (sym (word_other t (chain_apart j t on_it)) ∙ key) on_it flag)

  -- what is said of locks stays: the adder has none
  published_locks : LocksSound y.shape y.locks y.actors P'
  published_locks = record {
    heads = sound.locks.heads;
    nodes = sound.locks.nodes;
    has = sound.locks.has;
    rests = by_actor (λ b. RestsOn y.shape.buckets (actor_in y.actors b).hold (actor_in y.actors b) P') a
        (subst (λ (q : LockPhase). RestsOn y.shape.buckets q (actor_in y.actors a) P') (sym h.0.hold) tt)
        (λ b other. rests_prepared y.shape.buckets y.shape.slots s (key_prepared s k) (actor_in y.actors b) P sound.trace.lawful loose
        (λ node place. key_leaves y.shape.buckets s k (actor_in y.actors b) P (λ t slot. hand_apart b t other slot) node place) (actor_in y.actors b).hold
        (sound.locks.rests b));
  }

  -- before the write the adder relies on no word; no pass that is inside has stood on the slot, so that no walk reads the new key
  published_callers : CallersSound y.shape y.vault y.words.pins y.actors callers P' notes
  published_callers = record {
    count = sound.callers.count;
    hands = sound.callers.hands;
    each = by_actor (λ b. CallerSound (view_of y.shape y.vault y.actors b) (pin_in y.words.pins b) (caller_at callers b) (notes.begun b) P' (notes.changed b)) a
        (subst (λ (q : Option Caller). CallerSound (view_of y.shape y.vault y.actors a) (pin_in y.words.pins a) q (notes.begun a) P' (notes.changed a)) (sym is)
        (record { quiet = λ inside. (sound.reuse.reserved a a s h.1 inside, me.quiet inside); begins = λ inside. inr (me.begins inside); stands = (me.stands.0, me.stands.1, h) }))
        (λ b other. caller_stays y.shape y.vault y.words.pins y.locks y.actors callers (key_prepared s k) P law notes sound.locks sound.callers b (λ inside. sound.reuse.reserved b a s h.1 inside) (λ t slot. word_other t (hand_apart b t other slot)));
  }

  -- passes stay away from loose slots
  published_reuse : ReuseSound y.shape y.words.pins y.uses y.actors P' notes.begun
  published_reuse = reuse_published y.shape y.vault.cells y.vault.dead y.uses y.actors y.actors (key_prepared s k) P y.words.pins notes.begun published_slots (λ b t slot. slot) sound.reuse

  -- all of it
  published_sound : Sound n calls (record { shape = y.shape; words = set y.words (key_at s) k; locks = y.locks; vault = y.vault; uses = y.uses; actors = y.actors }) callers disk M P' notes
  published_sound = record {
    trace = trace_key y.shape y.words P sound.trace (few_slots sound.images) s k lt loose;
    images = sound.images;
    slots = published_slots;
    locks = published_locks;
    callers = published_callers;
    reuse = published_reuse;
    ledger = ledger_published n calls y.shape.passes callers (key_prepared s k) P M notes tt sound.ledger;
    tails = record {
      adding = sound.tails.adding;
      removing = λ t on_it clear gate.
          sound.tails.removing t (subst (λ (q : ℕ). on 0 (chain_of y.shape.buckets q P) (suc t) ≡ true) (word_other t (chain_apart (key_word t P') t on_it)) on_it) clear gate;
    };
  }

  -- The cells: the key is put, and the vault may die.
  module _ (dead' : Bool) (dies : y.vault.dead ≡ true → dead' ≡ true) where
    abbrev stage' : Stage
    stage' = stage_put y.vault.format (stage_in y.vault.cells s)

    abbrev new : Cell
    new = record { stage = stage'; key = k }

    abbrev cells' : List Cell
    cells' = slice_set y.vault.cells s new

    abbrev vault' : Vaulted
    vault' = record y.vault { cells = cells'; dead = dead' }

    stage_same : stage_in cells' s ≡ stage'
    stage_same = ap (λ (q : Cell). q.stage) (cell_same y.vault.cells s new (omega (arith, lt, sound.images.count)))

    key_other : (t : ℕ) → t ≢ s → (cell_in cells' t).key ≡ (cell_in y.vault.cells t).key
    key_other t other = ap (λ (q : Cell). q.key) (cell_other y.vault.cells s new t other)

    still_free : IsFree stage'
    still_free = put_free y.vault.format (stage_in y.vault.cells s)

    -- its gate isn't opened
    opened_apart : (t : ℕ) → IsGateOpened (stage_in cells' t) → t ≢ s
    opened_apart t opened it = opened_shut stage' (subst IsGateOpened (ap (stage_in cells') it ∙ stage_same) opened) still_free

    -- so what is said of slots stays
    put_slots : SlotsSound y.shape cells' dead' y.uses y.actors P
    put_slots =
        prepared_slots y.shape y.vault.cells cells' y.vault.dead dead' y.uses y.actors P P a s dies (cell_other y.vault.cells s new) (same_nodes y.shape.buckets s P) sound.slots h.1 (ap unlocks h.0.hold) loose (subst IsFree (sym stage_same) still_free)
        (λ b curr is. absurd (others_closed b curr is))
        (λ j t key on_it flag. stage_other y.vault.cells s new (λ q. q ≢ Opening) t (chain_apart j t on_it) (sound.slots.added j t key on_it flag))
        (λ j t key on_it flag. stage_other y.vault.cells s new (λ q. q ≡ Closed) t (chain_apart j t on_it) (sound.slots.removed j t key on_it flag))

    -- all of it, over a disk that is as the new cells say
    put_sound : (medium : Medium) → DiskSound y.shape vault' medium → Sound n calls (with_vault y vault') callers medium M P notes
    put_sound medium images = record {
      trace = sound.trace;
      images = images;
      slots = put_slots;
      locks = sound.locks;
      callers = record {
        count = sound.callers.count;
        hands = sound.callers.hands;
        each = by_actor (λ b. CallerSound (view_of y.shape vault' y.actors b) (pin_in y.words.pins b) (caller_at callers b) (notes.begun b) P (notes.changed b)) a
            (subst (λ (q : Option Caller). CallerSound (view_of y.shape vault' y.actors a) (pin_in y.words.pins a) q (notes.begun a) P (notes.changed a)) (sym is)
            (record { quiet = me.quiet; begins = me.begins; stands = (me.stands.0, me.stands.1, (record { hold = h.0.hold; none = h.0.none }, h.1, h.2)) }))
            (λ b other. caller_vaulted y.shape.buckets y.shape.passes y.vault.format y.vault.cells cells' y.vault.dead dead' (actor_in y.actors b) (notes.begun b) P
            (notes.changed b) dies (λ t slot. cell_stays y.vault.cells s new t (hand_apart b t other slot)) (pin_in y.words.pins b) (caller_at callers b)
            (sound.callers.each b));
      };
      reuse = sound.reuse;
      ledger = sound.ledger;
      tails = record {
        adding = λ b t slot opened.
            let apart = opened_apart t opened in
            subst (λ (q : ℕ). HasTail (Add q) callers (entries y.shape.passes callers notes) M) (sym (key_other t apart)) (sound.tails.adding b t slot (subst IsGateOpened (ap (λ (q : Cell). q.stage) (cell_other y.vault.cells s new t apart)) opened));
        removing = λ t on_it clear gate.
            let apart = chain_apart (key_word t P) t on_it in
            subst (λ (q : ℕ). HasTail (Remove q) callers (entries y.shape.passes callers notes) M) (sym (key_other t apart)) (sound.tails.removing t on_it clear (subst IsGateWritten (ap (λ (q : Cell). q.stage) (cell_other y.vault.cells s new t apart)) gate));
      };
    }

module _ (n calls : ℕ) (y : Yard) (callers : List (Option Caller)) (disk : Medium) (M : History) (P : Trace) (notes : Notes)
    (sound : Sound n calls y callers disk M P notes) (a i : ℕ) (c : Command) (s : ℕ) (is : caller_at callers a ≡ Some (call_at i c (Playing (Writing s) 0)))
    (alive : y.vault.dead ≡ false) where
  abbrev cells_put : List Cell
  cells_put = slice_set y.vault.cells s (record { stage = stage_put y.vault.format (stage_in y.vault.cells s); key = key_of c })

  abbrev vault_put : Bool → Vaulted
  vault_put dead' = record y.vault { cells = cells_put; dead = dead' }

  abbrev medium_put : Medium
  medium_put = medium_after (key_call y.vault.format (stage_in y.vault.cells s) s (key_of c)) disk

  abbrev yard_put : Yard
  yard_put = with_vault y (vault_put y.vault.dead)

  -- a call's key is one of the file's, and its slot's gate is closed
  fits : key_of c ≤ largest_of y.vault.format
  fits = adds_fitting y.vault.format c (h n calls y callers disk M P notes sound a i c s is).2 ((me n calls y callers disk M P notes sound a i c s is).stands.1 (me n calls y callers disk M P notes sound a i c s is).stands.0)

  in_range : s < y.shape.slots
  in_range = lt n calls y callers disk M P notes sound a i c s is

  still_shut : IsFree (stage_in y.vault.cells s)
  still_shut = shut n calls y callers disk M P notes sound a i c s is

  -- the write is done, and the key isn't published yet
  written_sound : Sound n calls yard_put callers medium_put M P notes
  written_sound = put_sound n calls y callers disk M P notes sound a i c s is y.vault.dead (λ e. e) medium_put (key_done y.shape y.vault disk sound.images alive s in_range (key_of c) fits still_shut)

  abbrev yard_keyed : Yard
  yard_keyed = record { shape = y.shape; words = set y.words (key_at s) (key_of c); locks = y.locks; vault = vault_put y.vault.dead; uses = y.uses; actors = y.actors }

  -- the key is published, and the call goes on to its sync
  keyed_sound : Sound n calls yard_keyed (moving callers a (call_at i c (Playing (Writing s) 0)) (Playing (Writing s) 1)) medium_put M (key_prepared s (key_of c) ∷ P) notes
  keyed_sound =
      let here = h n calls y callers disk M P notes sound a i c s is in
      let put : Stage = stage_put y.vault.format (stage_in y.vault.cells s) in
      let cell : cell_in cells_put s ≡ record { stage = put; key = key_of c } = cell_same y.vault.cells s (record { stage = put; key = key_of c }) (omega (arith, in_range, sound.images.count)) in
      goes_on_keeps n calls yard_keyed callers medium_put M (key_prepared s (key_of c) ∷ P) notes a i c (Playing (Writing s) 0) is
      (published_sound n calls yard_put callers medium_put M P notes written_sound a i c s is) (Playing (Writing s) 1) refl (λ none is. absurd (false≢true is))
      (record {
        relies = (
          record { hold = here.0.hold; none = here.0.none },
          here.1,
          ap (λ (q : Cell). q.key) cell,
          word_same n calls y callers disk M P notes sound a i c s is,
          subst IsKeyed (sym (ap (λ (q : Cell). q.stage) cell)) (put_keyed y.vault.format (stage_in y.vault.cells s)),
          here.2,
        );
        inside = refl;
      })

  -- the turn in which the key is written
  pub write_key_keeps : Sound n calls (yard_done y (actor_at y a) a (WriteKey (key_of c))) (moving callers a (call_at i c (Playing (Writing s) 0)) (Playing (Writing s) 1))
      (medium_after (call_of y (actor_at y a) (WriteKey (key_of c))) disk) M (publishes y (actor_at y a) a (WriteKey (key_of c)) ++ P) notes
  write_key_keeps = grind (arith, nat_tests, h, moving, call_at, key_syncs, keyed_sound)

  -- the turn in which the write fails: the vault dies, and no word is changed
  pub write_key_fails_keeps : (medium : Medium) → MayFail (key_call y.vault.format (stage_in y.vault.cells s) s (key_of c)) disk medium
      → Sound n calls (with_vault y (vault_put true)) (moving callers a (call_at i c (Playing (Writing s) 0)) (halts Device)) medium M P notes
  write_key_fails_keeps medium may =
      goes_on_keeps n calls (with_vault y (vault_put true)) callers medium M P notes a i c (Playing (Writing s) 0) is
      (put_sound n calls y callers disk M P notes sound a i c s is true (λ e. refl) medium (key_failed y.shape y.vault disk sound.images alive s in_range (key_of c) fits still_shut medium may))
      (halts Device) refl (λ none is. refl) (record { relies = (tt, refl); inside = refl })
