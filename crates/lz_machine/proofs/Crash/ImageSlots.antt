-- What the slots of an image are read as, by where they stand: each open one is a node's or that of an actor that has opened it,
-- and no two are of one key.
use Rattle.std.proofs.Common.{◌≡◌, ◌⊎◌, ⊎_elim, inl, inr, ℕ, zero, suc, ◌<◌, ◌==◌, ◌||◌, Bool, true, false, List, Option, Some, refl, sym, ap, ◌∙◌, subst}
use Rattle.std.proofs.{Common.{arith}, lemmas.Bool.{cases_eq, cases_Bool, or_cases, or_left, or_right, eq-eqb, Decides.{nat_tests}}}
use Rattle.std.proofs.lemmas.Option.{slice_get-get_or, same_Some}
use mathlib.Core.Bool.{false≢true}
use Rattle.lz_slot.specs.{Sets.{Keys}, Bytes.{slot_at}, declared.{format.Format.{Format}, slot.SlotRead.{SlotRead, TheVariants.{Member}}}, Histories.{History}}
use Rattle.lz_disk.specs.Images.{Medium, IsImage}
use Rattle.lz_vault.specs.{declared.vault.Stage.{Stage, TheVariants.{Closing}}, Stages.{MayRead, IsFree, IsReadShut, IsReadShutIn}}
use Rattle.lz_vault.proofs.Reading.{image_reads}
use Rattle.lz_list.specs.{Words.{place_number, link_to}, Locks.{owner}}
use Rattle.lz_list.{specs.Traces.{Trace, WordsShow, has_key, on, chain_of, bucket_of, key_word, next_link, member}, proofs.Chains.PlaceRank.{has_on}}
use Rattle.lz_list.proofs.{Chains.TraceChain.{words_show_chain}, Traces.{Absence.{unlinked_is_settled}, NodeBits.{one_node}, TraceWords.{node_of_key}}}
use Rattle.lz_machine.specs.{declared.actor.LockPhase.{LockPhase, TheVariants.{Checked, GateOpened}}, Yards.{Yard, actor_in, cell_in, stage_in}, Runs.{Caller}}
use Rattle.lz_machine.specs.{Notes.{Notes}, SlotsSound.{opens, IsGateOpened, IsOnChain, IsNodeStage, SlotStands, is_node, is_held, is_out, is_free, is_limbo}}
use Rattle.lz_machine.{specs.{LocksSound.{IsBeside, RestsOn}, Sound.{Sound}}, proofs.Frames.{ChainSlots.{chain_stands}, HeldLocks.{rests_on_pair, one_place}}}
use Rattle.lz_machine.proofs.{Frames.{OtherLink.{round_place}, Ranges.{on_range}}, Steps.Unlink.{resting_locks, first_place}}

-- the keys that the first slots of a text hold
abbrev pub reads_key : ℕ → SlotRead → Bool
reads_key k (Member j) = j == k
reads_key k _ = false

abbrev pub found : List ℕ → ℕ → Keys
found t zero k = false
found t (suc n) k = reads_key k (slot_at t n) || found t n k

key_read : (k : ℕ) (r : SlotRead) → reads_key k r ≡ true → r ≡ Member k
key_read k r is = grind (arith, nat_tests, false≢true)

pub found_in : (t : List ℕ) (n k : ℕ) → found t n k ≡ true → (i : ℕ) × (i < n) × (slot_at t i ≡ Member k)
found_in t zero k is = absurd (false≢true is)
found_in t (suc n) k is = grind (arith, nat_tests, or_cases, key_read, found_in t n k)

read_key : (k : ℕ) (r : SlotRead) → r ≡ Member k → reads_key k r ≡ true
read_key k r is = ap (reads_key k) is ∙ eq-eqb k k refl

pub in_found : (t : List ℕ) (n k i : ℕ) → i < n → slot_at t i ≡ Member k → found t n k ≡ true
in_found t zero k i lt is = absurd (omega arith)
in_found t (suc n) k i lt is = elim (cases_eq i n) [
  | inl here ↦ or_left (reads_key k (slot_at t n)) (found t n k) (read_key k (slot_at t n) (subst (λ (q : ℕ). slot_at t q ≡ Member k) here is))
  | inr before ↦ or_right (reads_key k (slot_at t n)) (found t n k) (in_found t n k i (omega (arith, before)) is)
]

pub not_both : (j : ℕ) (r : SlotRead) → IsReadShut r → r ≡ Member j → ⊥
not_both j r h is = grind (arith, nat_tests)

shut_in : (F : Format) (r : SlotRead) → IsReadShutIn F r → IsReadShut r
shut_in F r shut = grind (arith, nat_tests)

pub shut_read : (F : Format) (stage : Stage) (k : ℕ) (r : SlotRead) → MayRead F stage k r → IsFree stage → IsReadShut r
shut_read F stage k r may free = grind (arith, nat_tests, shut_in)

shut_or_member : (F : Format) (k : ℕ) (r : SlotRead) → IsReadShutIn F r ⊎ (r ≡ Member k) → IsReadShut r ⊎ (r ≡ Member k)
shut_or_member F k r h = grind (arith, nat_tests, shut_in)

pub one_or_other : (F : Format) (stage : Stage) (k : ℕ) (r : SlotRead) → MayRead F stage k r → IsReadShut r ⊎ (r ≡ Member k)
one_or_other F stage k r may = grind (arith, nat_tests, shut_in, shut_or_member)

-- a slot that is read as a key's
pub member_read : (F : Format) (stage : Stage) (k j : ℕ) (r : SlotRead) → MayRead F stage k r → r ≡ Member j → (k ≡ j) × (IsGateOpened stage ⊎ (stage ≡ Closing))
member_read F stage k j r may is = grind (arith, one_or_other F stage k r may, shut_read F stage k r may)

-- An actor has opened the gate of the slot, and rests on the place of its key.
pub record IsOpened (y : Yard) (P : Trace) (s k : ℕ) : Type 0 where
  pub actor : ℕ
  pub hand : (actor_in y.actors actor).slot ≡ Some s
  pub stage : IsGateOpened (stage_in y.vault.cells s)
  pub rests : rests_on_pair (actor_in y.actors actor).hold ≡ true
  pub beside : IsBeside y.shape.buckets k (actor_in y.actors actor).pred (actor_in y.actors actor).curr P

-- the slot is that of the key's node
abbrev pub IsNodeOf : Yard → Trace → ℕ → ℕ → Type 0
IsNodeOf y P s k = (on 0 (chain_of y.shape.buckets k P) (suc s) ≡ true) × (key_word s P ≡ k)

module _ (n calls : ℕ) (y : Yard) (callers : List (Option Caller)) (disk : Medium) (M : History) (P : Trace) (notes : Notes) (sound : Sound n calls y callers disk M P notes) where
  shown : (k : ℕ) → WordsShow (next_link y.shape.buckets (bucket_of y.shape.buckets k) P) (λ s. key_word s P) 0 (chain_of y.shape.buckets k P)
  shown k = (words_show_chain y.shape.buckets y.shape.slots P sound.trace.lawful (bucket_of y.shape.buckets k)).shows

  pub node_has_key : (s k : ℕ) → IsNodeOf y P s k → has_key k (chain_of y.shape.buckets k P) ≡ true
  node_has_key s k at = has_on (next_link y.shape.buckets (bucket_of y.shape.buckets k) P) (λ q. key_word q P) k s 0 (chain_of y.shape.buckets k P) (shown k) (omega arith) at.1 at.0

  pub opened_has_none : (s k : ℕ) → IsOpened y P s k → has_key k (chain_of y.shape.buckets k P) ≡ false
  opened_has_none s k h = (round_place y.shape.buckets y.shape.slots P sound.trace.lawful k (place_number (actor_in y.actors h.actor).pred) (link_to (actor_in y.actors h.actor).curr) h.beside.round).2

  pub not_node_and_opened : (s u k : ℕ) → IsNodeOf y P s k → IsOpened y P u k → ⊥
  not_node_and_opened s u k at h = false≢true (sym (opened_has_none u k h) ∙ node_has_key s k at)

  -- one slot has a key
  pub one_node_slot : (s u k : ℕ) → IsNodeOf y P s k → IsNodeOf y P u k → s ≡ u
  one_node_slot s u k one other = grind (arith, nat_tests, one_node, shown)

  has_place : (s k : ℕ) (h : IsOpened y P s k) → owner y.locks (actor_in y.actors h.actor).pred ≡ h.actor
  has_place s k h = sound.locks.has h.actor (actor_in y.actors h.actor).pred (record { locks = resting_locks (actor_in y.actors h.actor).hold h.rests; among = first_place (actor_in y.actors h.actor).pred (actor_in y.actors h.actor).curr })

  one_opened_slot : (s u k : ℕ) → IsOpened y P s k → IsOpened y P u k → s ≡ u
  one_opened_slot s u k one other =
      let lawful = sound.trace.lawful in
      let at_one = (round_place y.shape.buckets y.shape.slots P lawful k (place_number (actor_in y.actors one.actor).pred) (link_to (actor_in y.actors one.actor).curr) one.beside.round).0 in
      let at_other = (round_place y.shape.buckets y.shape.slots P lawful k (place_number (actor_in y.actors other.actor).pred) (link_to (actor_in y.actors other.actor).curr) other.beside.round).0 in
      let place = one_place y.shape.buckets k k (actor_in y.actors one.actor).pred (actor_in y.actors other.actor).pred one.beside.bucket other.beside.bucket refl (sym at_one ∙ at_other) in
      let same : one.actor ≡ other.actor = sym (has_place s k one) ∙ ap (owner y.locks) place ∙ has_place u k other in
      same_Some _ _ (sym one.hand ∙ ap (λ (a : ℕ). (actor_in y.actors a).slot) same ∙ other.hand)

  pub one_slot : (s u k : ℕ) → IsNodeOf y P s k ⊎ IsOpened y P s k → IsNodeOf y P u k ⊎ IsOpened y P u k → s ≡ u
  one_slot s u k (inl one) (inl other) = one_node_slot s u k one other
  one_slot s u k (inl one) (inr other) = absurd (not_node_and_opened s u k one other)
  one_slot s u k (inr one) (inl other) = absurd (not_node_and_opened u s k other one)
  one_slot s u k (inr one) (inr other) = one_opened_slot s u k one other

  -- a slot on its key's chain is a node's
  pub node_stands : (s : ℕ) → s < y.shape.slots → on 0 (chain_of y.shape.buckets (key_word s P) P) (suc s) ≡ true
      → IsOnChain y.shape y.vault.cells y.uses P s × IsNodeStage y.vault.cells y.vault.dead y.actors P s
  node_stands s lt there = chain_stands y.shape y.vault.cells y.vault.dead y.uses y.actors P s sound.slots (key_word s P) lt there

  -- a member stands on its chain
  pub member_node : (k : ℕ) → member k P ≡ true → (s : ℕ) × (s < y.shape.slots) × IsNodeOf y P s k
  member_node k is = elim (cases_Bool (has_key k (chain_of y.shape.buckets k P))) [
    | inl has ↦
        let at = node_of_key (next_link y.shape.buckets (bucket_of y.shape.buckets k) P) (λ q. key_word q P) k 0 (chain_of y.shape.buckets k P) (shown k) has in
        (at.0, on_range y.shape.buckets y.shape.slots P (bucket_of y.shape.buckets k) at.0 sound.trace.lawful at.1, (at.1, at.2))
    | inr none ↦ absurd (false≢true (sym (unlinked_is_settled y.shape.buckets k y.shape.slots P sound.trace.lawful none).0 ∙ is))
  ]

  module _ (t : List ℕ) (image : IsImage disk t) where
    pub reads : (s : ℕ) → s < y.shape.slots → MayRead y.vault.format (stage_in y.vault.cells s) (cell_in y.vault.cells s).key (slot_at t s)
    reads s lt = grind (arith, nat_tests, slice_get-get_or, image_reads)

    not_shut : (s k : ℕ) → s < y.shape.slots → slot_at t s ≡ Member k → IsFree (stage_in y.vault.cells s) → ⊥
    not_shut s k lt is shut = not_both k (slot_at t s) (shut_read y.vault.format (stage_in y.vault.cells s) (cell_in y.vault.cells s).key (slot_at t s) (reads s lt) shut) is

    held_opened : (s k a : ℕ) → s < y.shape.slots → slot_at t s ≡ Member k → (actor_in y.actors a).slot ≡ Some s → IsOpened y P s k
    held_opened s k a lt is hand = ⊎_elim (λ shut. absurd (not_shut s k lt is shut)) (λ h. go (actor_in y.actors a).hold refl h.0 h.1 (sym h.2 ∙ key)) (sound.slots.hand a s hand).stage
      where
        key : (cell_in y.vault.cells s).key ≡ k
        key = (member_read y.vault.format (stage_in y.vault.cells s) (cell_in y.vault.cells s).key k (slot_at t s) (reads s lt) is).0

        opened : IsGateOpened (stage_in y.vault.cells s) → rests_on_pair (actor_in y.actors a).hold ≡ true → IsBeside y.shape.buckets (key_word s P) (actor_in y.actors a).pred (actor_in y.actors a).curr P → key_word s P ≡ k → IsOpened y P s k
        opened stage rests beside word = record { actor = a; hand = hand; stage = stage; rests = rests; beside = subst (λ (q : ℕ). IsBeside y.shape.buckets q (actor_in y.actors a).pred (actor_in y.actors a).curr P) word beside }

        resting : (hold : LockPhase) → (actor_in y.actors a).hold ≡ hold → RestsOn y.shape.buckets hold (actor_in y.actors a) P
        resting hold at = subst (λ (q : LockPhase). RestsOn y.shape.buckets q (actor_in y.actors a) P) at (sound.locks.rests a)

        go : (hold : LockPhase) → (actor_in y.actors a).hold ≡ hold → opens y.vault.dead hold ≡ true → IsGateOpened (stage_in y.vault.cells s) → key_word s P ≡ k → IsOpened y P s k
        go Checked at does stage word = opened stage (ap rests_on_pair at) ((resting Checked at).beside s hand) word
        go GateOpened at does stage word = grind (arith, resting, same_Some, hand)
        go _ at does stage word = absurd (false≢true does)

    -- a slot that is read as a key's is its node's, or an actor has opened it for the key
    pub opened_or_node : (s k : ℕ) → s < y.shape.slots → slot_at t s ≡ Member k → IsNodeOf y P s k ⊎ IsOpened y P s k
    opened_or_node s k lt is = go (sound.slots.each s lt)
      where
        key : (cell_in y.vault.cells s).key ≡ k
        key = (member_read y.vault.format (stage_in y.vault.cells s) (cell_in y.vault.cells s).key k (slot_at t s) (reads s lt) is).0

        go : SlotStands y.shape y.vault.cells y.vault.dead y.uses y.actors P s → IsNodeOf y P s k ⊎ IsOpened y P s k
        go (is_node stands stage) =
            let word : key_word s P ≡ k = sym stands.key ∙ key in
            inl (subst (λ (q : ℕ). on 0 (chain_of y.shape.buckets q P) (suc s) ≡ true) word stands.there, word)
        go (is_held a hand) = inr (held_opened s k a lt is hand)
        go (is_out a out) = absurd (not_shut s k lt is (subst IsFree (sym (sound.slots.out a s out).stage) tt))
        go (is_free loose used stage) = absurd (not_shut s k lt is stage)
        go (is_limbo sights loose used stage) = absurd (not_shut s k lt is (subst IsFree (sym stage) tt))

    -- so a key is read at one slot
    pub read_once : (s u k : ℕ) → s < y.shape.slots → u < y.shape.slots → slot_at t s ≡ Member k → slot_at t u ≡ Member k → s ≡ u
    read_once s u k lt lt' is is' = one_slot s u k (opened_or_node s k lt is) (opened_or_node u k lt' is')
