-- Where a slot stands in a sound state: its stage, its use and who has it.
use Rattle.std.specs.Prelude.{◌≡◌, ◌≢◌, ◌⊎◌, ℕ, suc, ◌<◌, Bool, true, false, List, length, Some}
use Rattle.lz_vault.specs.{declared.vault.Stage.{Stage, TheVariants.{Closed, Opening, Open, Closing}}, Stages.{Cell, IsFree}}
use Rattle.lz_allot.specs.{declared.sight.Sight.{Sight}, Uses.{Use, Free, Taken, Limbo, use_of}}
use Rattle.lz_list.specs.Traces.{Trace, IsLoose, halt_word, on, chain_of, key_word, linking, is_settled, is_removed, is_marked}
use Rattle.lz_machine.specs.declared.actor.{Actor.{Actor}, LockPhase.{LockPhase, TheVariants.{Checked, GateOpened, GateClosed, Marked, Unlinked, Released}}}
use Rattle.lz_machine.specs.Yards.{Shape, actor_in, cell_in, stage_in}

-- Where a slot stands: its stage, its use and who has it.
abbrev pub IsGateOpened : Stage → Type 0
IsGateOpened stage = (stage ≡ Opening) ⊎ (stage ≡ Open)

abbrev pub IsGateWritten : Stage → Type 0
IsGateWritten stage = (stage ≡ Closing) ⊎ (stage ≡ Closed)

-- The actor has closed the gate of the node that it claimed, or, in a vault that is dead, may have tried to.
abbrev pub closes : Bool → LockPhase → Bool
closes dead Checked = dead
closes dead GateClosed = true
closes dead Marked = true
closes dead _ = false

-- it has closed it for sure
abbrev pub shuts : LockPhase → Bool
shuts GateClosed = true
shuts Marked = true
shuts _ = false

-- it has opened the gate of its slot for sure
abbrev pub unlocks : LockPhase → Bool
unlocks GateOpened = true
unlocks _ = false

-- it has opened the gate of its slot, or may have tried to
abbrev pub opens : Bool → LockPhase → Bool
opens dead Checked = dead
opens dead GateOpened = true
opens dead _ = false

abbrev pub has_removed_node : LockPhase → Bool
has_removed_node Unlinked = true
has_removed_node Released = true
has_removed_node _ = false

-- the actor has unlinked the node in the slot, and hasn't retired it yet
pub record IsOut (actor : Actor) (s : ℕ) : Type 0 where
  pub node : actor.curr ≡ Some s
  pub removed : has_removed_node actor.hold ≡ true

-- the actor has closed the gate of the node in the slot
pub record IsCloser (dead : Bool) (actor : Actor) (s : ℕ) : Type 0 where
  pub node : actor.curr ≡ Some s
  pub closes : closes dead actor.hold ≡ true

-- a slot that is on its key's chain: its gate is opened, or its remover has closed it, and marks it only then
pub record IsOnChain (shape : Shape) (cells : List Cell) (uses : List Use) (P : Trace) (s : ℕ) : Type 0 where
  pub there : on 0 (chain_of shape.buckets (key_word s P) P) (suc s) ≡ true
  pub taken : use_of uses s ≡ Taken
  pub key : (cell_in cells s).key ≡ key_word s P

abbrev pub IsNodeStage : List Cell → Bool → List Actor → Trace → ℕ → Type 0
IsNodeStage cells dead actors P s =
    ((is_marked s P ≡ false) × IsGateOpened (stage_in cells s)) ⊎ ((a : ℕ) × IsCloser dead (actor_in actors a) s × IsGateWritten (stage_in cells s))

-- the gate of a slot in an actor's hand is surely closed, or the actor has opened it
abbrev pub IsHandStage : List Cell → Bool → Actor → Trace → ℕ → Type 0
IsHandStage cells dead actor P s =
    IsFree (stage_in cells s) ⊎ ((opens dead actor.hold ≡ true) × IsGateOpened (stage_in cells s) × ((cell_in cells s).key ≡ key_word s P))

-- a slot that an actor has reserved and not linked
pub record IsInHand (shape : Shape) (cells : List Cell) (dead : Bool) (uses : List Use) (actor : Actor) (P : Trace) (s : ℕ) : Type 0 where
  pub in_range : s < shape.slots
  pub loose : IsLoose shape.buckets s P
  pub taken : use_of uses s ≡ Taken
  pub stage : IsHandStage cells dead actor P s

-- a slot that was unlinked and not retired
pub record IsGone (shape : Shape) (cells : List Cell) (uses : List Use) (P : Trace) (s : ℕ) : Type 0 where
  pub in_range : s < shape.slots
  pub loose : IsLoose shape.buckets s P
  pub taken : use_of uses s ≡ Taken
  pub stage : stage_in cells s ≡ Closed

pub data SlotStands (shape : Shape) (cells : List Cell) (dead : Bool) (uses : List Use) (actors : List Actor) (P : Trace) (s : ℕ) : Type 0 where
  is_node : IsOnChain shape cells uses P s → IsNodeStage cells dead actors P s → SlotStands shape cells dead uses actors P s
  is_held : (a : ℕ) → (actor_in actors a).slot ≡ Some s → SlotStands shape cells dead uses actors P s
  is_out : (a : ℕ) → IsOut (actor_in actors a) s → SlotStands shape cells dead uses actors P s
  is_free : IsLoose shape.buckets s P → use_of uses s ≡ Free → IsFree (stage_in cells s) → SlotStands shape cells dead uses actors P s
  is_limbo : (sights : List Sight) → IsLoose shape.buckets s P → use_of uses s ≡ Limbo sights → stage_in cells s ≡ Closed → SlotStands shape cells dead uses actors P s

pub record SlotsSound (shape : Shape) (cells : List Cell) (dead : Bool) (uses : List Use) (actors : List Actor) (P : Trace) : Type 0 where
  pub count : length uses ≡ shape.slots
  pub each : (s : ℕ) → s < shape.slots → SlotStands shape cells dead uses actors P s
  pub hand : (a s : ℕ) → (actor_in actors a).slot ≡ Some s → IsInHand shape cells dead uses (actor_in actors a) P s
  pub out : (a s : ℕ) → IsOut (actor_in actors a) s → IsGone shape cells uses P s
  -- one slot is in the hands of one actor
  pub one_hand : (a b s : ℕ) → (actor_in actors a).slot ≡ Some s → (actor_in actors b).slot ≡ Some s → a ≡ b
  pub one_out : (a b s : ℕ) → IsOut (actor_in actors a) s → IsOut (actor_in actors b) s → a ≡ b
  pub hand_out : (a b s : ℕ) → (actor_in actors a).slot ≡ Some s → IsOut (actor_in actors b) s → ⊥
  -- the gate of a node that an actor has closed is written
  pub closed : (a s : ℕ) → (actor_in actors a).curr ≡ Some s → shuts (actor_in actors a).hold ≡ true → IsGateWritten (stage_in cells s)
  -- and so is the gate of a slot that an actor has opened
  pub opened : (a s : ℕ) → (actor_in actors a).slot ≡ Some s → unlocks (actor_in actors a).hold ≡ true → IsGateOpened (stage_in cells s)
  -- flags are set only where the change is covered
  pub added : (k s : ℕ)
      → key_word s P ≡ k → on 0 (chain_of shape.buckets k P) (suc s) ≡ true → is_settled (linking k P) P ≡ true
      → stage_in cells s ≢ Opening
  pub removed : (k s : ℕ)
      → key_word s P ≡ k → on 0 (chain_of shape.buckets k P) (suc s) ≡ true → is_removed (linking k P) P ≡ true
      → stage_in cells s ≡ Closed
  -- the halt word is set only where the vault is dead
  pub halted : halt_word P ≡ 1 → dead ≡ true
