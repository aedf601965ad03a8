-- A turn that changes one slot, and what its actor has in hand: what is said of the other slots stays.
use Rattle.std.proofs.lemmas.Bool.Decides.{nat_tests}
use Rattle.std.proofs.Common.{◌≡◌, ◌≢◌, inl, inr, ℕ, suc, ◌<◌, Bool, true, false, List, length, Some, refl, sym, ap, ◌∙◌, subst, arith}
use mathlib.Core.Bool.{false≢true}
use Rattle.lz_vault.specs.{declared.vault.Stage.{Stage, TheVariants.{Closed, Opening}}, Stages.{Cell, IsFree}}
use Rattle.lz_allot.specs.Uses.{Use, use_of}
use Rattle.lz_list.specs.Traces.{Trace, IsLoose, on, chain_of, key_word, linking, is_settled, is_removed, is_marked, halt_word}
use Rattle.lz_machine.specs.{declared.actor.Actor.{Actor}, Yards.{Shape, actor_in, cell_in, stage_in}, SlotsSound.{IsGateOpened, IsGateWritten, IsOut}}
use Rattle.lz_machine.specs.SlotsSound.{IsCloser, closes, opens, shuts, unlocks, has_removed_node, IsNodeStage, IsHandStage, IsInHand, IsGone, SlotStands}
use Rattle.lz_machine.{specs.SlotsSound.{is_node, is_held, is_out, is_free, is_limbo, SlotsSound}, proofs.Frames.ActorTable.{by_actor}}
use Rattle.lz_machine.proofs.Frames.Grip.{KeepsGrips, keeps_itself}

-- the actor has the other slots in hand as before, and may rely on its hold for them
pub record KeepsOtherGrips (dead dead' : Bool) (s : ℕ) (old new : Actor) : Type 0 where
  pub slot : (t : ℕ) → t ≢ s → new.slot ≡ Some t → old.slot ≡ Some t
  pub still_slot : (t : ℕ) → t ≢ s → old.slot ≡ Some t → new.slot ≡ Some t
  pub out : (t : ℕ) → t ≢ s → IsOut new t → IsOut old t
  pub still_out : (t : ℕ) → t ≢ s → IsOut old t → IsOut new t
  pub closer : (t : ℕ) → t ≢ s → IsCloser dead old t → IsCloser dead' new t
  pub opener : (t : ℕ) → t ≢ s → new.slot ≡ Some t → opens dead old.hold ≡ true → opens dead' new.hold ≡ true
  pub unlock : (t : ℕ) → t ≢ s → new.slot ≡ Some t → unlocks new.hold ≡ true → unlocks old.hold ≡ true
  pub shut : (t : ℕ) → t ≢ s → new.curr ≡ Some t → shuts new.hold ≡ true → (old.curr ≡ Some t) × (shuts old.hold ≡ true)

-- as where it keeps all of them
pub other_grips : (dead dead' : Bool) (s : ℕ) (old new : Actor) → KeepsGrips dead dead' old new → KeepsOtherGrips dead dead' s old new
other_grips dead dead' s old new g = grind (arith, nat_tests)

-- or where the slot is that of its node
pub node_grips : (dead dead' : Bool) (s : ℕ) (old new : Actor) → old.curr ≡ Some s → new.curr ≡ Some s → new.slot ≡ old.slot → opens dead old.hold ≡ false → unlocks new.hold ≡ false → KeepsOtherGrips dead dead' s old new
node_grips dead dead' s old new was now slot opened locked = grind arith

-- or where it has no other slot in hand, and has done nothing to a node
pub slot_grips : (dead dead' : Bool) (s : ℕ) (old new : Actor) → ((t : ℕ) → t ≢ s → old.slot ≡ Some t → ⊥) → ((t : ℕ) → t ≢ s → new.slot ≡ Some t → ⊥)
    → closes dead old.hold ≡ false → has_removed_node old.hold ≡ false → has_removed_node new.hold ≡ false → shuts new.hold ≡ false → KeepsOtherGrips dead dead' s old new
slot_grips dead dead' s old new no_more none closed out no_more_out shut_yet = grind arith

-- the other slots' nodes are where they were
pub record KeepsOtherNodes (buckets s : ℕ) (P P' : Trace) : Type 0 where
  pub loose : (t : ℕ) → t ≢ s → IsLoose buckets t P → IsLoose buckets t P'
  pub word : (t : ℕ) → t ≢ s → key_word t P' ≡ key_word t P
  pub mark : (t : ℕ) → t ≢ s → is_marked t P' ≡ is_marked t P
  pub chain : (t : ℕ) → t ≢ s → on 0 (chain_of buckets (key_word t P) P) (suc t) ≡ true → on 0 (chain_of buckets (key_word t P) P') (suc t) ≡ true
  pub halt : halt_word P' ≡ halt_word P

pub same_nodes : (buckets s : ℕ) (P : Trace) → KeepsOtherNodes buckets s P P
same_nodes buckets s P = record { loose = λ t apart is. is; word = λ t apart. refl; mark = λ t apart. refl; chain = λ t apart is. is; halt = refl }

-- How the slot stands after the turn: the actor has become x, and the others are as before.
pub record OwnSlot (shape : Shape) (cells : List Cell) (dead : Bool) (uses : List Use) (actors actors' : List Actor) (P : Trace) (a s : ℕ) (x : Actor) : Type 0 where
  pub stands : SlotStands shape cells dead uses actors' P s
  pub hand : x.slot ≡ Some s → IsInHand shape cells dead uses x P s
  pub out : IsOut x s → IsGone shape cells uses P s
  pub hand_out : x.slot ≡ Some s → IsOut x s → ⊥
  pub opened : x.slot ≡ Some s → unlocks x.hold ≡ true → IsGateOpened (stage_in cells s)
  pub closed : x.curr ≡ Some s → shuts x.hold ≡ true → IsGateWritten (stage_in cells s)
  pub no_other_hand : (b : ℕ) → b ≢ a → (actor_in actors b).slot ≡ Some s → ⊥
  pub no_other_out : (b : ℕ) → b ≢ a → IsOut (actor_in actors b) s → ⊥
  pub others_closed : (b : ℕ) → b ≢ a → (actor_in actors b).curr ≡ Some s → shuts (actor_in actors b).hold ≡ true → IsGateWritten (stage_in cells s)

module _ (shape : Shape) (cells cells' : List Cell) (dead dead' : Bool) (uses uses' : List Use) (actors actors' : List Actor) (P P' : Trace) (a s : ℕ) (x : Actor)
    (hand_a : actor_in actors' a ≡ x) (hand_b : (b : ℕ) → b ≢ a → actor_in actors' b ≡ actor_in actors b) (dies : dead ≡ true → dead' ≡ true) (mine : KeepsOtherGrips dead dead' s (actor_in actors a) x)
    (cell : (t : ℕ) → t ≢ s → cell_in cells' t ≡ cell_in cells t) (same_use : (t : ℕ) → t ≢ s → use_of uses' t ≡ use_of uses t) (nodes : KeepsOtherNodes shape.buckets s P P') where
  grips : (b : ℕ) → KeepsOtherGrips dead dead' s (actor_in actors b) (actor_in actors' b)
  grips = by_actor (λ b. KeepsOtherGrips dead dead' s (actor_in actors b) (actor_in actors' b)) a
      (subst (KeepsOtherGrips dead dead' s (actor_in actors a)) (sym hand_a) mine)
      (λ b other. other_grips dead dead' s (actor_in actors b) (actor_in actors' b) (keeps_itself dead dead' (actor_in actors b) (actor_in actors' b) dies (hand_b b other)))

  stage_then : (A : Stage → Type 0) (t : ℕ) → t ≢ s → A (stage_in cells t) → A (stage_in cells' t)
  stage_then A t apart was = subst A (ap (λ (q : Cell). q.stage) (sym (cell t apart))) was

  key_then : (t : ℕ) → t ≢ s → (cell_in cells t).key ≡ key_word t P → (cell_in cells' t).key ≡ key_word t P'
  key_then t apart key = ap (λ (q : Cell). q.key) (cell t apart) ∙ key ∙ sym (nodes.word t apart)

  node_stage : (t : ℕ) → t ≢ s → IsNodeStage cells dead actors P t → IsNodeStage cells' dead' actors' P' t
  node_stage t apart (inl (clear, opened)) = inl (nodes.mark t apart ∙ clear, stage_then IsGateOpened t apart opened)
  node_stage t apart (inr (b, closer, written)) = inr (b, (grips b).closer t apart closer, stage_then IsGateWritten t apart written)

  stands : (t : ℕ) → t ≢ s → SlotStands shape cells dead uses actors P t → SlotStands shape cells' dead' uses' actors' P' t
  stands t apart (is_node on_it stage) = grind (arith, nat_tests, key_then, node_stage)
  stands t apart (is_held b slot) = is_held b ((grips b).still_slot t apart slot)
  stands t apart (is_out b out) = is_out b ((grips b).still_out t apart out)
  stands t apart (is_free loose free stage) = is_free (nodes.loose t apart loose) (same_use t apart ∙ free) (stage_then IsFree t apart stage)
  stands t apart (is_limbo sights loose limbo stage) = is_limbo sights (nodes.loose t apart loose) (same_use t apart ∙ limbo) (stage_then (λ q. q ≡ Closed) t apart stage)

  hand_then : (b t : ℕ) → t ≢ s → (actor_in actors' b).slot ≡ Some t → IsInHand shape cells dead uses (actor_in actors b) P t → IsInHand shape cells' dead' uses' (actor_in actors' b) P' t
  hand_then b t apart slot was = record { in_range = was.in_range; loose = nodes.loose t apart was.loose; taken = same_use t apart ∙ was.taken; stage = go was.stage }
    where
      go : IsHandStage cells dead (actor_in actors b) P t → IsHandStage cells' dead' (actor_in actors' b) P' t
      go (inl closed) = inl (stage_then IsFree t apart closed)
      go (inr (opener, opened, key)) = inr ((grips b).opener t apart slot opener, stage_then IsGateOpened t apart opened, key_then t apart key)

  gone_then : (t : ℕ) → t ≢ s → IsGone shape cells uses P t → IsGone shape cells' uses' P' t
  gone_then t apart was = record { in_range = was.in_range; loose = nodes.loose t apart was.loose; taken = same_use t apart ∙ was.taken; stage = stage_then (λ q. q ≡ Closed) t apart was.stage }

  module _ (own : OwnSlot shape cells' dead' uses' actors actors' P' a s x) where
    slot_now : (actor_in actors' a).slot ≡ Some s → x.slot ≡ Some s
    slot_now slot = ap (λ (q : Actor). q.slot) (sym hand_a) ∙ slot

    slot_was : (b : ℕ) → b ≢ a → (actor_in actors' b).slot ≡ Some s → (actor_in actors b).slot ≡ Some s
    slot_was b other slot = ap (λ (q : Actor). q.slot) (sym (hand_b b other)) ∙ slot

    own_hand : (b : ℕ) → (actor_in actors' b).slot ≡ Some s → (b ≡ a) × IsInHand shape cells' dead' uses' (actor_in actors' b) P' s
    own_hand = by_actor (λ b. (actor_in actors' b).slot ≡ Some s → (b ≡ a) × IsInHand shape cells' dead' uses' (actor_in actors' b) P' s) a
        (λ slot. (refl, subst (λ (q : Actor). IsInHand shape cells' dead' uses' q P' s) (sym hand_a) (own.hand (slot_now slot))))
        (λ b other slot. absurd (own.no_other_hand b other (slot_was b other slot)))

    own_out : (b : ℕ) → IsOut (actor_in actors' b) s → (b ≡ a) × IsGone shape cells' uses' P' s
    own_out = by_actor (λ b. IsOut (actor_in actors' b) s → (b ≡ a) × IsGone shape cells' uses' P' s) a
        (λ out. (refl, own.out (subst (λ (q : Actor). IsOut q s) hand_a out)))
        (λ b other out. absurd (own.no_other_out b other (subst (λ (q : Actor). IsOut q s) (hand_b b other) out)))

    own_opened : (b : ℕ) → (actor_in actors' b).slot ≡ Some s → unlocks (actor_in actors' b).hold ≡ true → IsGateOpened (stage_in cells' s)
    own_opened = by_actor (λ b. (actor_in actors' b).slot ≡ Some s → unlocks (actor_in actors' b).hold ≡ true → IsGateOpened (stage_in cells' s)) a
        (λ slot is. own.opened (slot_now slot) (ap (λ (q : Actor). unlocks q.hold) (sym hand_a) ∙ is))
        (λ b other slot is. absurd (own.no_other_hand b other (slot_was b other slot)))

    own_closed : (b : ℕ) → (actor_in actors' b).curr ≡ Some s → shuts (actor_in actors' b).hold ≡ true → IsGateWritten (stage_in cells' s)
    own_closed = by_actor (λ b. (actor_in actors' b).curr ≡ Some s → shuts (actor_in actors' b).hold ≡ true → IsGateWritten (stage_in cells' s)) a
        (λ curr is. own.closed (ap (λ (q : Actor). q.curr) (sym hand_a) ∙ curr) (ap (λ (q : Actor). shuts q.hold) (sym hand_a) ∙ is))
        (λ b other curr is. own.others_closed b other (ap (λ (q : Actor). q.curr) (sym (hand_b b other)) ∙ curr) (ap (λ (q : Actor). shuts q.hold) (sym (hand_b b other)) ∙ is))

    own_apart : (b d : ℕ) → (actor_in actors' b).slot ≡ Some s → IsOut (actor_in actors' d) s → ⊥
    own_apart b d slot out = grind arith

    -- so what is said of slots stays, but for the flags
    pub slot_turn : length uses' ≡ length uses → SlotsSound shape cells dead uses actors P
        → ((k t : ℕ) → key_word t P' ≡ k → on 0 (chain_of shape.buckets k P') (suc t) ≡ true → is_settled (linking k P') P' ≡ true → stage_in cells' t ≢ Opening)
        → ((k t : ℕ) → key_word t P' ≡ k → on 0 (chain_of shape.buckets k P') (suc t) ≡ true → is_removed (linking k P') P' ≡ true → stage_in cells' t ≡ Closed)
        → SlotsSound shape cells' dead' uses' actors' P'
    slot_turn count h added removed = record {
      count = count ∙ h.count;
      each = by_actor (λ t. t < shape.slots → SlotStands shape cells' dead' uses' actors' P' t) s (λ lt. own.stands) (λ t apart lt. stands t apart (h.each t lt));
      hand = λ b. by_actor (λ t. (actor_in actors' b).slot ≡ Some t → IsInHand shape cells' dead' uses' (actor_in actors' b) P' t) s
          (λ slot. (own_hand b slot).1)
          (λ t apart slot. hand_then b t apart slot (h.hand b t ((grips b).slot t apart slot)));
      out = λ b. by_actor (λ t. IsOut (actor_in actors' b) t → IsGone shape cells' uses' P' t) s
          (λ out. (own_out b out).1)
          (λ t apart out. gone_then t apart (h.out b t ((grips b).out t apart out)));
      one_hand = λ b d. by_actor (λ t. (actor_in actors' b).slot ≡ Some t → (actor_in actors' d).slot ≡ Some t → b ≡ d) s
          (λ one two. (own_hand b one).0 ∙ sym (own_hand d two).0)
          (λ t apart one two. h.one_hand b d t ((grips b).slot t apart one) ((grips d).slot t apart two));
      one_out = λ b d. by_actor (λ t. IsOut (actor_in actors' b) t → IsOut (actor_in actors' d) t → b ≡ d) s
          (λ one two. (own_out b one).0 ∙ sym (own_out d two).0)
          (λ t apart one two. h.one_out b d t ((grips b).out t apart one) ((grips d).out t apart two));
      hand_out = λ b d. by_actor (λ t. (actor_in actors' b).slot ≡ Some t → IsOut (actor_in actors' d) t → ⊥) s (own_apart b d)
          (λ t apart hand out. h.hand_out b d t ((grips b).slot t apart hand) ((grips d).out t apart out));
      closed = λ b. by_actor (λ t. (actor_in actors' b).curr ≡ Some t → shuts (actor_in actors' b).hold ≡ true → IsGateWritten (stage_in cells' t)) s (own_closed b)
          (λ t apart curr is. let was = (grips b).shut t apart curr is in stage_then IsGateWritten t apart (h.closed b t was.0 was.1));
      opened = λ b. by_actor (λ t. (actor_in actors' b).slot ≡ Some t → unlocks (actor_in actors' b).hold ≡ true → IsGateOpened (stage_in cells' t)) s (own_opened b)
          (λ t apart slot is. stage_then IsGateOpened t apart (h.opened b t ((grips b).slot t apart slot) ((grips b).unlock t apart slot is)));
      added = added;
      removed = removed;
      halted = λ is. dies (h.halted (sym nodes.halt ∙ is));
    }

-- A slot in hand is prepared: its gate stays closed, and no hold changes.
pub prepared_slots : (shape : Shape) (cells cells' : List Cell) (dead dead' : Bool) (uses : List Use) (actors : List Actor) (P P' : Trace) (a s : ℕ) → (dead ≡ true → dead' ≡ true)
    → ((t : ℕ) → t ≢ s → cell_in cells' t ≡ cell_in cells t) → KeepsOtherNodes shape.buckets s P P' → SlotsSound shape cells dead uses actors P
    → (actor_in actors a).slot ≡ Some s → unlocks (actor_in actors a).hold ≡ false → IsLoose shape.buckets s P' → IsFree (stage_in cells' s)
    → ((b : ℕ) → (actor_in actors b).curr ≡ Some s → shuts (actor_in actors b).hold ≡ true → IsGateWritten (stage_in cells' s))
    → ((k t : ℕ) → key_word t P' ≡ k → on 0 (chain_of shape.buckets k P') (suc t) ≡ true → is_settled (linking k P') P' ≡ true → stage_in cells' t ≢ Opening)
    → ((k t : ℕ) → key_word t P' ≡ k → on 0 (chain_of shape.buckets k P') (suc t) ≡ true → is_removed (linking k P') P' ≡ true → stage_in cells' t ≡ Closed)
    → SlotsSound shape cells' dead' uses actors P'
prepared_slots shape cells cells' dead dead' uses actors P P' a s dies cell nodes h has locked loose closed others_closed added removed =
    let x = actor_in actors a in
    slot_turn shape cells cells' dead dead' uses uses actors actors P P' a s x refl (λ b other. refl) dies (other_grips dead dead' s x x (keeps_itself dead dead' x x dies refl)) cell (λ t apart. refl) nodes
    (record {
      stands = is_held a has;
      hand = λ slot. let was = h.hand a s has in record { in_range = was.in_range; loose = loose; taken = was.taken; stage = inl closed };
      out = λ out. absurd (h.hand_out a a s has out);
      hand_out = λ slot out. h.hand_out a a s has out;
      opened = λ slot is. absurd (false≢true (sym locked ∙ is));
      closed = λ curr is. others_closed a curr is;
      no_other_hand = λ b other slot. other (h.one_hand b a s slot has);
      no_other_out = λ b other out. h.hand_out a b s has out;
      others_closed = λ b other curr is. others_closed b curr is;
    })
    refl h added removed
