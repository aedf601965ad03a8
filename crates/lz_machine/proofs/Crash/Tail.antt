-- The calls that an image puts at the end: an adding whose gate it has open before the linking, and a removing whose gate it has
-- closed before the marking.
use Rattle.std.proofs.lemmas.{Bool.{cases_Bool, eq-eqb, Decides.{nat_tests}}, Option.{none-some, same_Some}}
use Rattle.std.proofs.Common.{◌≡◌, ◌⊎◌, ⊎_elim, inl, inr, ℕ, suc, ◌<◌, Bool, true, false, List, Option, Some, None, refl, sym, ap, ◌∙◌, subst, arith}
use mathlib.Core.Bool.{false≢true}
use Rattle.lz_slot.specs.declared.{command.Command.{Command, TheVariants.{Add, Remove}}, slot.SlotRead.{SlotRead, TheVariants.{Closed as Shut, Torn, Member}}}
use Rattle.lz_slot.specs.{Sets.{key_of, moved}, Bytes.{slot_at}, Histories.{History, IsUnderWay}}
use Rattle.lz_disk.specs.Images.{Medium, IsImage}
use Rattle.lz_vault.specs.{declared.vault.Stage.{Stage, TheVariants.{Opening}}, Stages.{MayRead, IsReadShut}}
use Rattle.lz_list.specs.Traces.{Trace, on, chain_of, bucket_of, key_word, is_marked}
use Rattle.lz_machine.specs.{Yards.{Yard, cell_in, stage_in}, Runs.{Caller}, Ledgers.{Row, times}, Notes.{Notes, entries}}
use Rattle.lz_machine.{specs.{SlotsSound.{IsGateOpened, IsGateWritten, IsNodeStage}, Sound.{Sound}}, proofs.Crash.ImageSlots.{found, found_in, in_found}}
use Rattle.lz_machine.proofs.Crash.ImageSlots.{not_both, member_read, IsOpened, IsNodeOf, one_slot, node_stands, opened_or_node, reads}

abbrev pub is_opening : Stage → Bool
is_opening Opening = true
is_opening _ = false

-- What a slot asks for that is read so: whether it is on its key's chain, marked, and at stage Opening; its key word.
abbrev pub asked : Bool → Bool → Bool → ℕ → SlotRead → Option Command
asked true false false k Shut = Some (Remove k)
asked true false false k Torn = Some (Remove k)
asked false marked opening k (Member j) = Some (Add j)
asked there marked opening k r = None

abbrev pub asks : Yard → Trace → List ℕ → ℕ → Option Command
asks y P t s =
    asked (on 0 (chain_of y.shape.buckets (key_word s P) P) (suc s)) (is_marked s P) (is_opening (stage_in y.vault.cells s)) (key_word s P) (slot_at t s)

record AsksRemoval (there marked opening : Bool) (k : ℕ) (r : SlotRead) (c : Command) : Type 0 where
  pub on_chain : there ≡ true
  pub no_mark : marked ≡ false
  pub not_opening : opening ≡ false
  pub shut : IsReadShut r
  pub is : c ≡ Remove k

record AsksAdding (there : Bool) (r : SlotRead) (c : Command) : Type 0 where
  pub key : ℕ
  pub off_chain : there ≡ false
  pub read : r ≡ Member key
  pub is : c ≡ Add key

asked_tells : (there marked opening : Bool) (k : ℕ) (r : SlotRead) (c : Command) → asked there marked opening k r ≡ Some c → AsksRemoval there marked opening k r c ⊎ AsksAdding there r c
asked_tells true false false k Shut c is = inl (record { on_chain = refl; no_mark = refl; not_opening = refl; shut = inl refl; is = sym (same_Some (Remove k) c is) })
asked_tells true false false k Torn c is = inl (record { on_chain = refl; no_mark = refl; not_opening = refl; shut = inr refl; is = sym (same_Some (Remove k) c is) })
asked_tells false marked opening k (Member j) c is = inr (record { key = j; off_chain = refl; read = refl; is = sym (same_Some (Add j) c is) })
asked_tells _ _ _ k _ c is = absurd (none-some c is)

asked_adding : (there marked opening : Bool) (k j : ℕ) (r : SlotRead) → there ≡ false → r ≡ Member j → asked there marked opening k r ≡ Some (Add j)
asked_adding there marked opening k j r off is = rw (off, is) refl

asked_removal : (there marked opening : Bool) (k : ℕ) (r : SlotRead) → there ≡ true → marked ≡ false → opening ≡ false → IsReadShut r → asked there marked opening k r ≡ Some (Remove k)
asked_removal there marked opening k r is no_mark not_opening (inl shut) = rw (is, no_mark, not_opening, shut) refl
asked_removal there marked opening k r is no_mark not_opening (inr torn) = rw (is, no_mark, not_opening, torn) refl

-- a call that is under way and has no row
pub record IsWaiting (c : Command) (rows : List Row) (M : History) : Type 0 where
  pub number : ℕ
  pub under_way : IsUnderWay M number c
  pub no_row : times number rows ≡ 0

module _ (n calls : ℕ) (y : Yard) (callers : List (Option Caller)) (disk : Medium) (M : History) (P : Trace) (notes : Notes) (sound : Sound n calls y callers disk M P notes) (t : List ℕ) (image : IsImage disk t) where
  tells : (s : ℕ) (c : Command) → asks y P t s ≡ Some c
      → AsksRemoval (on 0 (chain_of y.shape.buckets (key_word s P) P) (suc s)) (is_marked s P) (is_opening (stage_in y.vault.cells s)) (key_word s P) (slot_at t s) c
      ⊎ AsksAdding (on 0 (chain_of y.shape.buckets (key_word s P) P) (suc s)) (slot_at t s) c
  tells s c is = asked_tells (on 0 (chain_of y.shape.buckets (key_word s P) P) (suc s)) (is_marked s P) (is_opening (stage_in y.vault.cells s)) (key_word s P) (slot_at t s) c is

  -- the slot is that of the command's key
  pub asks_slot : (s : ℕ) (c : Command) → s < y.shape.slots → asks y P t s ≡ Some c → IsNodeOf y P s (key_of c) ⊎ IsOpened y P s (key_of c)
  asks_slot s c lt is = ⊎_elim
      (λ removal. inl (subst (λ (d : Command). IsNodeOf y P s (key_of d)) (sym removal.is) (removal.on_chain, refl)))
      (λ adding. subst (λ (d : Command). IsNodeOf y P s (key_of d) ⊎ IsOpened y P s (key_of d)) (sym adding.is) (opened_or_node n calls y callers disk M P notes sound t image s adding.key lt adding.read))
      (tells s c is)

  pub asks_apart : (s u : ℕ) (c d : Command) → s < y.shape.slots → u < y.shape.slots → asks y P t s ≡ Some c → asks y P t u ≡ Some d → key_of c ≡ key_of d → s ≡ u
  asks_apart s u c d lt lt' is is' same =
      one_slot n calls y callers disk M P notes sound s u (key_of d) (subst (λ (k : ℕ). IsNodeOf y P s k ⊎ IsOpened y P s k) same (asks_slot s c lt is)) (asks_slot u d lt' is')

  -- an opened slot is on no chain
  opened_off : (s k : ℕ) → IsOpened y P s k → on 0 (chain_of y.shape.buckets (key_word s P) P) (suc s) ≡ false
  opened_off s k h = (sound.slots.hand h.actor s h.hand).loose (bucket_of y.shape.buckets (key_word s P))

  pub asks_adding : (s k : ℕ) → slot_at t s ≡ Member k → IsOpened y P s k → asks y P t s ≡ Some (Add k)
  asks_adding s k is h = asked_adding (on 0 (chain_of y.shape.buckets (key_word s P) P) (suc s)) (is_marked s P) (is_opening (stage_in y.vault.cells s)) (key_word s P) k (slot_at t s) (opened_off s k h) is

  own_chain : (s k : ℕ) → IsNodeOf y P s k → on 0 (chain_of y.shape.buckets (key_word s P) P) (suc s) ≡ true
  own_chain s k at = subst (λ (q : ℕ). on 0 (chain_of y.shape.buckets q P) (suc s) ≡ true) (sym at.1) at.0

  pub asks_removal : (s k : ℕ) → IsNodeOf y P s k → is_marked s P ≡ false → is_opening (stage_in y.vault.cells s) ≡ false → IsReadShut (slot_at t s) → asks y P t s ≡ Some (Remove k)
  asks_removal s k at no_mark not_opening shut = grind (arith, asked_removal, own_chain)

  -- a call of the command is under way
  removal_waits : (s k : ℕ) → s < y.shape.slots → on 0 (chain_of y.shape.buckets (key_word s P) P) (suc s) ≡ true → is_marked s P ≡ false → is_opening (stage_in y.vault.cells s) ≡ false → IsReadShut (slot_at t s) → key_word s P ≡ k → IsWaiting (Remove k) (entries y.shape.passes callers notes) M
  removal_waits s k lt there no_mark not_opening shut word =
      let stands = node_stands n calls y callers disk M P notes sound s lt there in
      let tail = sound.tails.removing s there no_mark (written stands.1) in
      subst (λ (q : ℕ). IsWaiting (Remove q) (entries y.shape.passes callers notes) M) (stands.0.key ∙ word) (record { number = tail.number; under_way = tail.under_way; no_row = tail.no_row })
    where
      not_opened : (stage : Stage) (key : ℕ) → is_opening stage ≡ false → MayRead y.vault.format stage key (slot_at t s) → IsGateOpened stage → ⊥
      not_opened stage key closed may opened = grind (arith, nat_tests, false≢true, not_both, shut)

      written : IsNodeStage y.vault.cells y.vault.dead y.actors P s → IsGateWritten (stage_in y.vault.cells s)
      written (inl opened) = absurd (not_opened (stage_in y.vault.cells s) (cell_in y.vault.cells s).key not_opening (reads n calls y callers disk M P notes sound t image s lt) opened.1)
      written (inr closed) = closed.2

  adding_waits : (s k : ℕ) → s < y.shape.slots → slot_at t s ≡ Member k → IsOpened y P s k → IsWaiting (Add k) (entries y.shape.passes callers notes) M
  adding_waits s k lt is h =
      let tail = sound.tails.adding h.actor s h.hand h.stage in
      let key = (member_read y.vault.format (stage_in y.vault.cells s) (cell_in y.vault.cells s).key k (slot_at t s) (reads n calls y callers disk M P notes sound t image s lt) is).0 in
      subst (λ (q : ℕ). IsWaiting (Add q) (entries y.shape.passes callers notes) M) key (record { number = tail.number; under_way = tail.under_way; no_row = tail.no_row })

  pub asks_waits : (s : ℕ) (c : Command) → s < y.shape.slots → asks y P t s ≡ Some c → IsWaiting c (entries y.shape.passes callers notes) M
  asks_waits s c lt is = ⊎_elim
      (λ removal. subst (λ (d : Command). IsWaiting d (entries y.shape.passes callers notes) M) (sym removal.is) (removal_waits s (key_word s P) lt removal.on_chain removal.no_mark removal.not_opening removal.shut refl))
      (λ adding. subst (λ (d : Command). IsWaiting d (entries y.shape.passes callers notes) M) (sym adding.is) (adding_waits s adding.key lt adding.read (⊎_elim
      (λ at. absurd (false≢true (sym adding.off_chain ∙ own_chain s adding.key at)))
      (λ opened. opened)
      (opened_or_node n calls y callers disk M P notes sound t image s adding.key lt adding.read))))
      (tells s c is)

  -- it makes of its key what the image has
  pub asks_sets : (s : ℕ) (c : Command) (k : ℕ) → s < y.shape.slots → asks y P t s ≡ Some c → key_of c ≡ k → (b : Bool) → moved k c b ≡ found t y.shape.slots k
  asks_sets s c k lt is key b = ⊎_elim
      (λ removal.
      let at : key_word s P ≡ k = ap key_of (sym removal.is) ∙ key in
      ap (λ (d : Command). moved k d b) removal.is ∙ removed (key_word s P) at ∙ sym (none (subst (λ (q : ℕ). on 0 (chain_of y.shape.buckets q P) (suc s) ≡ true) at removal.on_chain, at) removal.shut))
      (λ adding.
      let at : adding.key ≡ k = ap key_of (sym adding.is) ∙ key in
      ap (λ (d : Command). moved k d b) adding.is ∙ added adding.key at ∙ sym (in_found t y.shape.slots k s lt (adding.read ∙ ap Member at)))
      (tells s c is)
    where
      removed : (j : ℕ) → j ≡ k → moved k (Remove j) b ≡ false
      removed j same = rw (eq-eqb j k same) refl

      added : (j : ℕ) → j ≡ k → moved k (Add j) b ≡ true
      added j same = rw (eq-eqb j k same) refl

      none : IsNodeOf y P s k → IsReadShut (slot_at t s) → found t y.shape.slots k ≡ false
      none at shut = elim (cases_Bool (found t y.shape.slots k)) [
        | inl has ↦
            let there = found_in t y.shape.slots k has in
            let same : s ≡ there.0 = one_slot n calls y callers disk M P notes sound s there.0 k (inl at) (opened_or_node n calls y callers disk M P notes sound t image there.0 k there.1 there.2) in
            absurd (not_both k (slot_at t s) shut (subst (λ (q : ℕ). slot_at t q ≡ Member k) (sym same) there.2))
        | inr lacks ↦ lacks
      ]
