-- What is said of slots stays where all that it speaks of changes only so far: holds, uses, cells and nodes.
use Rattle.std.proofs.{Common.{arith, ◌≡◌, ◌≢◌, ◌⊎◌, inl, inr, ℕ, suc, Bool, true, List, ◌∷◌, refl, sym, ◌∙◌, subst}, lemmas.Bool.Decides.{nat_tests}}
use Rattle.lz_vault.specs.{declared.vault.Stage.TheVariants.{Closed, Opening}, Stages.{Cell, IsFree}}
use Rattle.lz_allot.specs.{declared.sight.Sight.{Sight}, Uses.{Use, Free, Limbo, use_of}}
use Rattle.lz_list.specs.declared.publishing.Publishing.{Publishing}
use Rattle.lz_list.specs.Traces.{Trace, IsLoose, on, chain_of, key_word, linking, is_settled, is_removed, is_marked, halt_word}
use Rattle.lz_machine.specs.{declared.actor.Actor.{Actor}, Yards.{Shape, actor_in, cell_in, stage_in}, SlotsSound.{IsGateOpened, IsGateWritten, IsNodeStage}}
use Rattle.lz_machine.specs.SlotsSound.{IsHandStage, SlotStands, is_node, is_held, is_out, is_free, is_limbo, SlotsSound}
use Rattle.lz_machine.proofs.Frames.{Grip.{KeepsGrips, keeps_itself}, Uses.{KeepsUses}}

-- the cell keeps its key, and its gate is as it was for all that is said of it
pub record KeepsGate (old new : Cell) : Type 0 where
  pub opened : IsGateOpened old.stage → IsGateOpened new.stage
  pub shut : IsFree old.stage → IsFree new.stage
  pub written : IsGateWritten old.stage → IsGateWritten new.stage
  pub closed : old.stage ≡ Closed → new.stage ≡ Closed
  pub key : new.key ≡ old.key

-- the nodes are where they were
pub record KeepsNodes (buckets : ℕ) (P P' : Trace) : Type 0 where
  pub loose : (s : ℕ) → IsLoose buckets s P → IsLoose buckets s P'
  pub word : (s : ℕ) → key_word s P' ≡ key_word s P
  pub mark : (s : ℕ) → is_marked s P' ≡ is_marked s P
  pub chain : (k s : ℕ) → on 0 (chain_of buckets k P) (suc s) ≡ true → on 0 (chain_of buckets k P') (suc s) ≡ true

pub same_gate : (cell : Cell) → KeepsGate cell cell
same_gate cell = record { opened = λ is. is; shut = λ is. is; written = λ is. is; closed = λ is. is; key = refl }

pub same_trace : (buckets : ℕ) (P : Trace) → KeepsNodes buckets P P
same_trace buckets P = record { loose = λ s is. is; word = λ s. refl; mark = λ s. refl; chain = λ k s is. is }

pub same_uses : (uses : List Use) → KeepsUses uses uses
same_uses uses = record { count = refl; taken = λ s is. is; free = λ s is. is; limbo = λ s sights is. inr (sights, is) }

module _ (shape : Shape) (cells cells' : List Cell) (dead dead' : Bool) (uses uses' : List Use) (actors actors' : List Actor) (P P' : Trace)
    (grips : (b : ℕ) → KeepsGrips dead dead' (actor_in actors b) (actor_in actors' b)) (used : KeepsUses uses uses') (gates : (s : ℕ) → KeepsGate (cell_in cells s) (cell_in cells' s)) (nodes : KeepsNodes shape.buckets P P') where
  key_kept : (s : ℕ) → (cell_in cells s).key ≡ key_word s P → (cell_in cells' s).key ≡ key_word s P'
  key_kept s key = (gates s).key ∙ key ∙ sym (nodes.word s)

  node_stage : (s : ℕ) → IsNodeStage cells dead actors P s → IsNodeStage cells' dead' actors' P' s
  node_stage s (inl (clear, opened)) = inl (nodes.mark s ∙ clear, (gates s).opened opened)
  node_stage s (inr (b, closer, written)) = inr (b, (grips b).closer s closer, (gates s).written written)

  hand_stage : (b s : ℕ) → IsHandStage cells dead (actor_in actors b) P s → IsHandStage cells' dead' (actor_in actors' b) P' s
  hand_stage b s (inl shut) = inl ((gates s).shut shut)
  hand_stage b s (inr (opener, opened, key)) = inr ((grips b).opener opener, (gates s).opened opened, key_kept s key)

  in_limbo : (s : ℕ) → IsLoose shape.buckets s P' → (use_of uses' s ≡ Free) ⊎ ((seen : List Sight) × (use_of uses' s ≡ Limbo seen)) → stage_in cells' s ≡ Closed → SlotStands shape cells' dead' uses' actors' P' s
  in_limbo s loose (inl free) closed = is_free loose free (subst IsFree (sym closed) tt)
  in_limbo s loose (inr (seen, limbo)) closed = is_limbo seen loose limbo closed

  stands : (s : ℕ) → SlotStands shape cells dead uses actors P s → SlotStands shape cells' dead' uses' actors' P' s
  stands s (is_node on_it stage) = grind (arith, nat_tests, key_kept, node_stage)
  stands s (is_held b slot) = is_held b ((grips b).slot ∙ slot)
  stands s (is_out b out) = is_out b ((grips b).still_out s out)
  stands s (is_free loose free stage) = is_free (nodes.loose s loose) (used.free s free) ((gates s).shut stage)
  stands s (is_limbo sights loose limbo stage) = in_limbo s (nodes.loose s loose) (used.limbo s sights limbo) ((gates s).closed stage)

  -- but for the flags and the halt word
  pub slots_kept : SlotsSound shape cells dead uses actors P → (halt_word P' ≡ 1 → dead' ≡ true)
      → ((k s : ℕ) → key_word s P' ≡ k → on 0 (chain_of shape.buckets k P') (suc s) ≡ true → is_settled (linking k P') P' ≡ true → stage_in cells' s ≢ Opening)
      → ((k s : ℕ) → key_word s P' ≡ k → on 0 (chain_of shape.buckets k P') (suc s) ≡ true → is_removed (linking k P') P' ≡ true → stage_in cells' s ≡ Closed)
      → SlotsSound shape cells' dead' uses' actors' P'
  slots_kept h halted added removed = record {
    count = used.count ∙ h.count;
    each = λ s lt. stands s (h.each s lt);
    hand = λ b s slot. let was = h.hand b s (sym (grips b).slot ∙ slot) in record { in_range = was.in_range; loose = nodes.loose s was.loose; taken = used.taken s was.taken; stage = hand_stage b s was.stage };
    out = λ b s out. let was = h.out b s ((grips b).out s out) in record { in_range = was.in_range; loose = nodes.loose s was.loose; taken = used.taken s was.taken; stage = (gates s).closed was.stage };
    one_hand = λ b d s one other. h.one_hand b d s (sym (grips b).slot ∙ one) (sym (grips d).slot ∙ other);
    one_out = λ b d s one other. h.one_out b d s ((grips b).out s one) ((grips d).out s other);
    hand_out = λ b d s hand out. h.hand_out b d s (sym (grips b).slot ∙ hand) ((grips d).out s out);
    opened = λ b s slot is. (gates s).opened (h.opened b s (sym (grips b).slot ∙ slot) ((grips b).unlock is));
    closed = λ b s at is. let old = (grips b).shut s at is in (gates s).written (h.closed b s old.0 old.1);
    added = added;
    removed = removed;
    halted = halted;
  }

-- where holds alone change, and the vault may die
pub slots_turn : (shape : Shape) (cells : List Cell) (dead dead' : Bool) (uses : List Use) (actors actors' : List Actor) (P : Trace) → ((b : ℕ) → KeepsGrips dead dead' (actor_in actors b) (actor_in actors' b)) → (dead ≡ true → dead' ≡ true)
    → SlotsSound shape cells dead uses actors P → SlotsSound shape cells dead' uses actors' P
slots_turn shape cells dead dead' uses actors actors' P grips dies h = slots_kept shape cells cells dead dead' uses uses actors actors' P P grips (same_uses uses) (λ s. same_gate (cell_in cells s)) (same_trace shape.buckets P) h (λ is. dies (h.halted is)) h.added h.removed

-- where no hold does
module _ (shape : Shape) (cells : List Cell) (dead : Bool) (actors : List Actor) where
  same_grips : (b : ℕ) → KeepsGrips dead dead (actor_in actors b) (actor_in actors b)
  same_grips b = keeps_itself dead dead (actor_in actors b) (actor_in actors b) (λ is. is) refl

  pub slots_uses : (uses uses' : List Use) (P : Trace) → KeepsUses uses uses' → SlotsSound shape cells dead uses actors P → SlotsSound shape cells dead uses' actors P
  slots_uses uses uses' P used h = slots_kept shape cells cells dead dead uses uses' actors actors P P same_grips used (λ s. same_gate (cell_in cells s)) (same_trace shape.buckets P) h h.halted h.added h.removed

  pub slots_published : (uses : List Use) (e : Publishing) (P : Trace) → KeepsNodes shape.buckets P (e ∷ P) → SlotsSound shape cells dead uses actors P → (halt_word (e ∷ P) ≡ 1 → dead ≡ true)
      → ((k s : ℕ) → key_word s (e ∷ P) ≡ k → on 0 (chain_of shape.buckets k (e ∷ P)) (suc s) ≡ true → is_settled (linking k (e ∷ P)) (e ∷ P) ≡ true → stage_in cells s ≢ Opening)
      → ((k s : ℕ) → key_word s (e ∷ P) ≡ k → on 0 (chain_of shape.buckets k (e ∷ P)) (suc s) ≡ true → is_removed (linking k (e ∷ P)) (e ∷ P) ≡ true → stage_in cells s ≡ Closed)
      → SlotsSound shape cells dead uses actors (e ∷ P)
  slots_published uses e P nodes h halted added removed = slots_kept shape cells cells dead dead uses uses actors actors P (e ∷ P) same_grips (same_uses uses) (λ s. same_gate (cell_in cells s)) nodes h halted added removed

  pub slots_in : (cells' : List Cell) (uses : List Use) (P : Trace) → ((s : ℕ) → KeepsGate (cell_in cells s) (cell_in cells' s)) → ((s : ℕ) → stage_in cells' s ≢ Opening) → SlotsSound shape cells dead uses actors P → SlotsSound shape cells' dead uses actors P
  slots_in cells' uses P gates none h = slots_kept shape cells cells' dead dead uses uses actors actors P P same_grips (same_uses uses) gates (same_trace shape.buckets P) h h.halted (λ k s key there is. none s) (λ k s key there is. (gates s).closed (h.removed k s key there is))
