-- A sync, and the death of the vault, keep the invariant.
use Rattle.std.proofs.lemmas.{Bool.Decides.{nat_tests}, List.{length-map}}
use Rattle.std.proofs.Common.{◌≡◌, ◌≢◌, ℕ, suc, Bool, true, false, List, ◌∷◌, map, Option, Some, refl, sym, ap, ◌∙◌, subst, arith}
use mathlib.Core.Bool.{false≢true}
use Rattle.lz_slot.specs.{declared.command.Command.{Command, TheVariants.{Add, Remove}}, Histories.{History}}
use Rattle.lz_disk.specs.Images.{Medium, synced}
use Rattle.lz_vault.specs.{declared.vault.Stage.{Stage, TheVariants.{Closed, Keyed, Opening}}, Stages.{Cell, Keeps, stage_synced, cell_synced, IsFree}}
use Rattle.lz_vault.{specs.Vaults.{SyncAll, medium_after, syncs_after, died}, proofs.Changes.{from_map, sync_keeps}}
use Rattle.lz_list.specs.{declared.walk.Look.TheVariants.{AtHead}, Traces.{Trace}}
use Rattle.lz_machine.specs.declared.{event.{Event.TheVariants.{Sync}, Outcome.TheVariants.{Done}, Reply.{Reply}}, actor.Actor.{Actor}}
use Rattle.lz_machine.specs.declared.caller.{Sequence.TheVariants.{Writing, Adding, Removing, Resting}, Progress.TheVariants.{Playing, Walking}}
use Rattle.lz_machine.specs.{Yards.{Yard, Shape, actor_at, actor_in, pin_in, cell_in, stage_in}, Table.{is_sure, call_of, with_vault, yard_done}}
use Rattle.lz_machine.specs.{Calls.{progress_after}, Runs.{Caller, caller_at}, Ledgers.{Row}, Notes.{Notes, entries}, SlotsSound.{IsGateOpened, IsGateWritten}}
use Rattle.lz_machine.{specs.{LedgerSound.{TailsSound}, CallersSound.{IsKeyed}, Sound.{Sound}}, proofs.Frames.{OneActor.{moving}, Grip.{keeps_itself}}}
use Rattle.lz_machine.proofs.{Frames.{KeptSlots.{KeepsGate, slots_in, slots_turn}, Cells.{KeepsCell, caller_vaulted}}, Steps.Hop.{call_at, own, goes_on_keeps}}

-- the cell of a slot after a sync
pub cell_map : (cells : List Cell) (s : ℕ) → cell_in (map cell_synced cells) s ≡ cell_synced (cell_in cells s)
cell_map (c ∷ cells) (suc s) = cell_map cells s
cell_map _ _ = refl

-- What a sync does to a stage.
pub closed_synced : (stage : Stage) → IsFree stage → IsFree (stage_synced stage)
closed_synced stage free = grind (arith, nat_tests)

pub opened_synced : (stage : Stage) → IsGateOpened stage → IsGateOpened (stage_synced stage)
opened_synced stage h = grind (arith, nat_tests)

pub written_synced : (stage : Stage) → IsGateWritten stage → IsGateWritten (stage_synced stage)
written_synced stage h = grind (arith, nat_tests)

opened_before : (stage : Stage) → IsGateOpened (stage_synced stage) → IsGateOpened stage
opened_before stage h = grind arith

written_before : (stage : Stage) → IsGateWritten (stage_synced stage) → IsGateWritten stage
written_before stage h = grind arith

-- after a sync nothing is being opened
pub not_opening : (stage : Stage) → stage_synced stage ≢ Opening
not_opening stage e = grind (arith, nat_tests)

module _ (cells : List Cell) where
  abbrev cells' : List Cell
  cells' = map cell_synced cells

  stage_map : (s : ℕ) → stage_in cells' s ≡ stage_synced (stage_in cells s)
  stage_map s = ap (λ (c : Cell). c.stage) (cell_map cells s)

  key_map : (s : ℕ) → (cell_in cells' s).key ≡ (cell_in cells s).key
  key_map s = ap (λ (c : Cell). c.key) (cell_map cells s)

  synced_is : (A : Stage → Type 0) → ((stage : Stage) → A stage → A (stage_synced stage)) → (s : ℕ) → A (stage_in cells s) → A (stage_in cells' s)
  synced_is A f s h = subst A (sym (stage_map s)) (f (stage_in cells s) h)

  pub cell_keeps : (s : ℕ) → KeepsCell (cell_in cells s) (cell_in cells' s)
  cell_keeps s = record {
    key = key_map s;
    keyed = synced_is IsKeyed keyed s;
    sure = synced_is (λ stage. stage ≡ Keyed) (λ stage e. ap stage_synced e) s;
  }
    where
      keyed : (stage : Stage) → IsKeyed stage → IsKeyed (stage_synced stage)
      keyed stage h = grind (arith, nat_tests)

  gate_keeps : (s : ℕ) → KeepsGate (cell_in cells s) (cell_in cells' s)
  gate_keeps s = record {
    opened = synced_is IsGateOpened opened_synced s;
    shut = synced_is IsFree closed_synced s;
    written = synced_is IsGateWritten written_synced s;
    closed = synced_is (λ stage. stage ≡ Closed) (λ stage e. ap stage_synced e) s;
    key = key_map s;
  }

  pub tails_synced : (shape : Shape) (actors : List Actor) (P : Trace) (callers : List (Option Caller)) (rows : List Row) (M : History) → TailsSound shape cells actors P callers rows M → TailsSound shape cells' actors P callers rows M
  tails_synced shape actors P callers rows M h = grind (arith, key_map, opened_before, stage_map, written_before)

-- the yard after a sync that succeeded
abbrev pub synced_yard : Yard → ℕ → Yard
synced_yard y syncs = with_vault y (record y.vault { cells = map cell_synced y.vault.cells; syncs = syncs })

module _ (n calls : ℕ) (y : Yard) (callers : List (Option Caller)) (disk : Medium) (M : History) (P : Trace) (notes : Notes) (sound : Sound n calls y callers disk M P notes) where
  -- a sync makes durable what was written, while the vault lives
  pub synced_keeps : (syncs : ℕ) → y.vault.dead ≡ false → Sound n calls (synced_yard y syncs) callers (synced disk) M P notes
  synced_keeps syncs alive = record {
    trace = sound.trace;
    images = record {
      slots = sound.images.slots;
      count = length-map y.vault.cells cell_synced ∙ sound.images.count;
      keys = λ s cell at. let was = from_map y.vault.cells s cell at in omega (arith, ap (λ (c : Cell). c.key) was.2, sound.images.keys s was.0 was.1);
      keeps = subst (λ (b : Bool). Keeps y.vault.format (map cell_synced y.vault.cells) b (synced disk)) (sym alive) (sync_keeps y.vault.format y.vault.cells disk (subst (λ (b : Bool). Keeps y.vault.format y.vault.cells b disk) alive sound.images.keeps));
    };
    slots = slots_in y.shape y.vault.cells y.vault.dead y.actors (map cell_synced y.vault.cells) y.uses P (gate_keeps y.vault.cells) (λ s e. not_opening (stage_in y.vault.cells s) (sym (stage_map y.vault.cells s) ∙ e)) sound.slots;
    locks = sound.locks;
    callers = record {
      count = sound.callers.count;
      hands = sound.callers.hands;
      each = λ b. caller_vaulted y.shape.buckets y.shape.passes y.vault.format y.vault.cells (map cell_synced y.vault.cells) y.vault.dead y.vault.dead
          (actor_in y.actors b) (notes.begun b) P (notes.changed b) (λ e. e) (λ s slot. cell_keeps y.vault.cells s) (pin_in y.words.pins b) (caller_at callers b)
          (sound.callers.each b);
    };
    reuse = sound.reuse;
    ledger = sound.ledger;
    tails = tails_synced y.vault.cells y.shape y.actors P callers (entries y.shape.passes callers notes) M sound.tails;
  }

  -- the event, whether a sync is made or not
  pub sync_done : (a s : ℕ) → y.vault.dead ≡ false → Sound n calls (yard_done y (actor_at y a) a (Sync s)) callers (medium_after (call_of y (actor_at y a) (Sync s)) disk) M P notes
  sync_done a s alive = go (is_sure y s) refl
    where
      go : (b : Bool) → is_sure y s ≡ b → Sound n calls (yard_done y (actor_at y a) a (Sync s)) callers (medium_after (call_of y (actor_at y a) (Sync s)) disk) M P notes
      go true sure = rw sure sound
      go false loose = rw loose (synced_keeps (syncs_after SyncAll y.vault.syncs) alive)

  -- the slot's last write is durable then
  sure_then : (a s : ℕ) → IsKeyed (stage_in y.vault.cells s) → stage_in (yard_done y (actor_at y a) a (Sync s)).vault.cells s ≡ Keyed
  sure_then a s keyed = grind (arith, nat_tests, false≢true, stage_map)

  same_key : (a s t : ℕ) → (cell_in (yard_done y (actor_at y a) a (Sync s)).vault.cells t).key ≡ (cell_in y.vault.cells t).key
  same_key a s t = go (is_sure y s) refl
    where
      go : (b : Bool) → is_sure y s ≡ b → (cell_in (yard_done y (actor_at y a) a (Sync s)).vault.cells t).key ≡ (cell_in y.vault.cells t).key
      go true sure = rw sure refl
      go false loose = rw loose (key_map y.vault.cells t)

  -- after the write of a key
  pub sync_written_keeps : (a i : ℕ) (c : Command) (s : ℕ) → y.vault.dead ≡ false → caller_at callers a ≡ Some (call_at i c (Playing (Writing s) 1))
      → Sound n calls (yard_done y (actor_at y a) a (Sync s)) (moving callers a (call_at i c (Playing (Writing s) 1)) (progress_after y.shape c (Playing (Writing s) 1) Done)) (medium_after (call_of y (actor_at y a) (Sync s)) disk) M P notes
  sync_written_keeps a i c s alive is =
      let h = (own n calls y callers disk M P notes a i c (Playing (Writing s) 1) is sound).stands.2 in
      goes_on_keeps n calls (yard_done y (actor_at y a) a (Sync s)) callers (medium_after (call_of y (actor_at y a) (Sync s)) disk) M P notes a i c (Playing (Writing s) 1) is (sync_done a s alive) (Walking (Some s) AtHead) refl (λ none is. absurd (false≢true is))
      (record { relies = (record { hold = h.0.hold; none = h.0.none }, record { slot = h.1; stage = sure_then a s h.4; key = same_key a s s ∙ h.2; word = h.3 }, tt, h.5); inside = refl })

  -- after a linking
  pub sync_added_keeps : (a i k s : ℕ) → y.vault.dead ≡ false → caller_at callers a ≡ Some (call_at i (Add k) (Playing (Adding s) 3))
      → Sound n calls (yard_done y (actor_at y a) a (Sync s)) (moving callers a (call_at i (Add k) (Playing (Adding s) 3)) (progress_after y.shape (Add k) (Playing (Adding s) 3) Done)) (medium_after (call_of y (actor_at y a) (Sync s)) disk) M P notes
  sync_added_keeps a i k s alive is =
      let h = (own n calls y callers disk M P notes a i (Add k) (Playing (Adding s) 3) is sound).stands.2 in
      goes_on_keeps n calls (yard_done y (actor_at y a) a (Sync s)) callers (medium_after (call_of y (actor_at y a) (Sync s)) disk) M P notes a i (Add k) (Playing (Adding s) 3) is (sync_done a s alive) (Playing (Adding s) 4) refl (λ none is. refl) (record { relies = h; inside = refl })

  -- after a marking
  pub sync_marked_keeps : (a i k s : ℕ) → y.vault.dead ≡ false → caller_at callers a ≡ Some (call_at i (Remove k) (Playing (Removing s) 2))
      → Sound n calls (yard_done y (actor_at y a) a (Sync s)) (moving callers a (call_at i (Remove k) (Playing (Removing s) 2)) (progress_after y.shape (Remove k) (Playing (Removing s) 2) Done)) (medium_after (call_of y (actor_at y a) (Sync s)) disk) M P notes
  sync_marked_keeps a i k s alive is =
      let h = (own n calls y callers disk M P notes a i (Remove k) (Playing (Removing s) 2) is sound).stands.2 in
      goes_on_keeps n calls (yard_done y (actor_at y a) a (Sync s)) callers (medium_after (call_of y (actor_at y a) (Sync s)) disk) M P notes a i (Remove k) (Playing (Removing s) 2) is (sync_done a s alive) (Playing (Removing s) 3) refl (λ none is. refl) (record { relies = h; inside = refl })

  -- resting on a node
  pub sync_rest_keeps : (a i : ℕ) (c : Command) (s : ℕ) (reply : Reply) → y.vault.dead ≡ false → caller_at callers a ≡ Some (call_at i c (Playing (Resting s reply) 0))
      → Sound n calls (yard_done y (actor_at y a) a (Sync s)) (moving callers a (call_at i c (Playing (Resting s reply) 0)) (progress_after y.shape c (Playing (Resting s reply) 0) Done)) (medium_after (call_of y (actor_at y a) (Sync s)) disk) M P notes
  sync_rest_keeps a i c s reply alive is =
      let h = (own n calls y callers disk M P notes a i c (Playing (Resting s reply) 0) is sound).stands.2 in
      goes_on_keeps n calls (yard_done y (actor_at y a) a (Sync s)) callers (medium_after (call_of y (actor_at y a) (Sync s)) disk) M P notes a i c (Playing (Resting s reply) 0) is (sync_done a s alive) (Playing (Resting s reply) 1) refl (λ none is. absurd (false≢true is))
      (record { relies = (record { hold = h.0.hold; none = h.0.none }, h.1); inside = refl })

  -- the vault dies, and what it says of the disk is so still
  pub died_keeps : Sound n calls (with_vault y (died y.vault)) callers disk M P notes
  died_keeps = record {
    trace = sound.trace;
    images = record {
      slots = sound.images.slots;
      count = sound.images.count;
      keys = sound.images.keys;
      keeps = record { suits = sound.images.keeps.suits; sound = sound.images.keeps.sound; vouches = sound.images.keeps.vouches; reads = λ alive. absurd (false≢true (sym alive)) };
    };
    slots = slots_turn y.shape y.vault.cells y.vault.dead true y.uses y.actors y.actors P (λ b. keeps_itself y.vault.dead true (actor_in y.actors b) (actor_in y.actors b) (λ e. refl) refl) (λ e. refl) sound.slots;
    locks = sound.locks;
    callers = record {
      count = sound.callers.count;
      hands = sound.callers.hands;
      each = λ b. caller_vaulted y.shape.buckets y.shape.passes y.vault.format y.vault.cells y.vault.cells y.vault.dead true (actor_in y.actors b) (notes.begun b) P
          (notes.changed b) (λ e. refl) (λ s slot. record { key = refl; keyed = λ k. k; sure = λ k. k }) (pin_in y.words.pins b) (caller_at callers b)
          (sound.callers.each b);
    };
    reuse = sound.reuse;
    ledger = sound.ledger;
    tails = sound.tails;
  }
