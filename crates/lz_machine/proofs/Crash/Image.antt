-- Each image of a sound open service holds a set, and the life has a list that leads to it.
use Rattle.std.proofs.Common.{◌≡◌, ◌≢◌, ◌⊎◌, ⊎_elim, inl, inr, ℕ, suc, ◌+◌, ◌<◌, ◌≤◌, ◌*◌, ◌&&◌, not, Bool, true, false, List, [], ◌∷◌, ◌++◌, length, Some}
use Rattle.std.proofs.{Common.{refl, sym, ap, ◌∙◌, subst, arith}, lemmas.Bool.{cases_Bool, cases_lt, and_parts, not-true, Decides.{nat_tests}}}
use Rattle.std.specs.Prelude.{if◌then◌else◌}
use mathlib.Core.Bool.{false≢true}
use Rattle.lz_slot.specs.{Limits.{most_slots_of}, declared.{format.Format.{Format}, command.Command.{Command, TheVariants.{Add, Remove}}}}
use Rattle.lz_slot.specs.{declared.slot.SlotRead.{SlotRead, TheVariants.{Member, BadKey}}, Sets.{Keys, Same, key_of, after}}
use Rattle.lz_slot.specs.{Bytes.{Holds, format_of, slot_at, open_byte, header_body}, Histories.{History, Life, Fits, Runs, IsUnderWay}}
use Rattle.lz_slot.proofs.Sets.{after_same}
use Rattle.lz_disk.specs.Images.{Medium, IsImage}
use Rattle.lz_vault.{proofs.Reading.{image_format}, specs.{declared.vault.Stage.{Stage, TheVariants.{Opening}}, Stages.{IsFree, IsReadShut, Suits}}}
use Rattle.lz_vault.specs.Vaults.{Vaulted}
use Rattle.lz_list.specs.Traces.{Trace, on, chain_of, key_word, member, linking, is_settled, is_removed, is_marked, SettledYes, SettledNo, IsNode}
use Rattle.lz_list.{specs.declared.publishing.Publishing.TheVariants.{Linked as linked, Marked as marked}, proofs.Traces.NodeBits.{node}}
use Rattle.lz_list.proofs.Traces.WalkEnd.{settled_later}
use Rattle.lz_machine.specs.{Runs.{Service}, Kept.{upto, last_change, IsOpen, MayDrop, kept_keys, publishing}, Entries.{kept_rows, numbers}, Ledgers.{listed}}
use Rattle.lz_machine.specs.{Notes.{Notes, entries}, Yards.{Shape, cell_in, stage_in}, Sound.{DiskSound, UpSound, HasList}}
use Rattle.lz_machine.proofs.Ledger.{Membership.{upto_begins, length-upto, upto_all, yes_is_kept, no_is_kept, last_change_past}, Fit.{listed_fits}}
use Rattle.lz_machine.proofs.{Ledger.KeptRows.{kept_ledger, kept_fits}, Crash.ImageSlots.{found, found_in, in_found, not_both, shut_read, one_or_other}}
use Rattle.lz_machine.proofs.Crash.ImageSlots.{IsOpened, IsNodeOf, node_stands, member_node, opened_or_node, reads, read_once}
use Rattle.lz_machine.proofs.Crash.Tail.{is_opening, asks, asks_adding, asks_removal, asks_waits}
use Rattle.lz_machine.proofs.Crash.TailRows.{names, names_of, HasRows, rows_to, rows_lead, rows_ledger}

-- an image's format is the vault's
pub image_names : (shape : Shape) (vault : Vaulted) (disk : Medium) (images : DiskSound shape vault disk) (t : List ℕ) → IsImage disk t → format_of t ≡ vault.format
image_names shape vault disk images t image = image_format vault.format vault.cells disk images.keeps.vouches t (omega (arith, images.count, images.slots.0)) (omega (arith, images.count, images.slots.1)) image

-- it suits the disk
pub image_suits : (shape : Shape) (vault : Vaulted) (disk : Medium) (images : DiskSound shape vault disk) (t : List ℕ) → IsImage disk t → Suits (format_of t) disk
image_suits shape vault disk images t image = λ four. images.keeps.suits (sym (image_names shape vault disk images t image) ∙ four)

-- a key that was never linked is no member
never_linked : (k : ℕ) (P : Trace) → linking k P ≡ 0 → member k P ≡ false
never_linked k [] none = refl
never_linked k (linked j s p ∷ P) none = grind (arith, nat_tests, none, never_linked k P)
never_linked k (marked j s p ∷ P) none = grind (arith, nat_tests, never_linked k P none)
never_linked k (e ∷ P) none = never_linked k P none

module _ (n : ℕ) (P : Trace) (drop : Keys) where
  -- what is kept at last, and at first
  kept_last : n ≤ length P → (k : ℕ) → kept_keys n P drop (length P) k ≡ (if drop k then not (member k P) else member k P)
  kept_last le k = grind (arith, nat_tests, upto_all, last_change_past)

  kept_first : MayDrop n P drop → (k : ℕ) → kept_keys n P drop 0 k ≡ member k (upto n P)
  kept_first may k = grind (arith, nat_tests)

-- the same calls fit from a set with the same keys
runs_from : (M : History) (L : List ℕ) (S T U : Keys) → Same S T → Runs M S L U → Runs M T L U
runs_from M [] S T U same runs = λ k. sym (same k) ∙ runs k
runs_from M (i ∷ L) S T U same runs = grind (arith, after_same, runs_from M L (after runs.0 S) (after runs.0 T) U (after_same runs.0 S T same) runs.3)

fits_from : (M : History) (L : List ℕ) (S T U : Keys) → Same S T → Fits S M L U → Fits T M L U
fits_from M L S T U same fits = record { once = fits.once; answered = fits.answered; not_refused = fits.not_refused; order = fits.order; runs = runs_from M L S T U same fits.runs }

is_at_opening : (stage : Stage) → is_opening stage ≡ true → stage ≡ Opening
is_at_opening stage is = grind (arith, nat_tests, false≢true)

no_bad_key : (k : ℕ) (r : SlotRead) → IsReadShut r ⊎ (r ≡ Member k) → r ≢ BadKey
no_bad_key k r h bad = grind (arith, nat_tests)

-- what differs from the trace in the image
abbrev differs : Bool → Bool → Bool
differs true now = not now
differs false now = now

-- what differs from the trace and is in no row was dropped
kept_is : (was now dropped named : Bool) → dropped ≡ (not named && differs was now) → named ≡ false → (if dropped then not was else was) ≡ now
kept_is _ _ dropped named is none = grind (arith, is, none)

module _ (n calls : ℕ) (service : Service) (disk : Medium) (life : Life) (P : Trace) (notes : Notes) (up : UpSound n calls service disk life P notes) (t : List ℕ) (image : IsImage disk t) where
  abbrev N : ℕ
  N = service.yard.shape.slots

  abbrev now : Keys
  now = found t N

  -- a slot on the chain tells of its key
  tells : (s k : ℕ) → IsNodeOf service.yard P s k → IsNode k s P
  tells s k at = node service.yard.shape.buckets N k s P up.sound.trace.lawful at.0 at.1

  either : (s k : ℕ) → s < N → IsNodeOf service.yard P s k → IsReadShut (slot_at t s) ⊎ (slot_at t s ≡ Member k)
  either s k lt at =
      let own : on 0 (chain_of service.yard.shape.buckets (key_word s P) P) (suc s) ≡ true = subst (λ (q : ℕ). on 0 (chain_of service.yard.shape.buckets q P) (suc s) ≡ true) (sym at.1) at.0 in
      let stands = (node_stands n calls service.yard service.callers disk life.history P notes up.sound s lt own).0 in
      subst (λ (q : ℕ). IsReadShut (slot_at t s) ⊎ (slot_at t s ≡ Member q)) (stands.key ∙ at.1)
      (one_or_other service.yard.vault.format (stage_in service.yard.vault.cells s) (cell_in service.yard.vault.cells s).key (slot_at t s)
      (reads n calls service.yard service.callers disk life.history P notes up.sound t image s lt))

  -- a node's key that the image lacks is read at no slot
  lacking : (s k : ℕ) → s < N → IsNodeOf service.yard P s k → now k ≡ false → IsReadShut (slot_at t s)
  lacking s k lt at lacks = ⊎_elim (λ shut. shut) (λ is. absurd (false≢true (sym lacks ∙ in_found t N k s lt is))) (either s k lt at)

  read_of : (s k : ℕ) → s < N → slot_at t s ≡ Member k → IsNodeOf service.yard P s k ⊎ IsOpened service.yard P s k
  read_of s k lt is = opened_or_node n calls service.yard service.callers disk life.history P notes up.sound t image s k lt is

  tail : HasRows n calls service.yard service.callers disk life.history P notes up.sound t image N
  tail = rows_to n calls service.yard service.callers disk life.history P notes up.sound t image N (omega arith)

  -- a key of which a slot asks for a call is named
  asked_is_named : (s k : ℕ) (c : Command) → s < N → asks service.yard P t s ≡ Some c → key_of c ≡ k → names k tail.rows ≡ true
  asked_is_named s k c lt is key = let at = tail.each s c lt is in names_of k at.0 tail.rows at.1 (ap key_of at.2 ∙ key)

  adding_is_named : (s k : ℕ) → s < N → slot_at t s ≡ Member k → IsOpened service.yard P s k → names k tail.rows ≡ true
  adding_is_named s k lt is h = asked_is_named s k (Add k) lt (asks_adding n calls service.yard service.callers disk life.history P notes up.sound t image s k is h) refl

  asks_to_remove : (s k : ℕ) → IsNodeOf service.yard P s k → is_marked s P ≡ false → is_opening (stage_in service.yard.vault.cells s) ≡ false → IsReadShut (slot_at t s) → asks service.yard P t s ≡ Some (Remove k)
  asks_to_remove s k at no_mark not_opening shut = asks_removal n calls service.yard service.callers disk life.history P notes up.sound t image s k at no_mark not_opening shut

  -- the keys whose last change the image drops
  abbrev drop : Keys
  drop k = not (names k tail.rows) && differs (member k P) (now k)

  -- A member that the image lacks, and that no row names, isn't settled.
  adding_is_open : (k : ℕ) → names k tail.rows ≡ false → member k P ≡ true → now k ≡ false → IsOpen k P
  adding_is_open k none is lacks = ((tells at.0 k at.2).some, (λ _. not_yet, λ gone. absurd (false≢true (sym gone ∙ is))))
    where
      at : (s : ℕ) × (s < N) × IsNodeOf service.yard P s k
      at = member_node n calls service.yard service.callers disk life.history P notes up.sound k is

      no_mark : is_marked at.0 P ≡ false
      no_mark = not-true (is_marked at.0 P) (sym (tells at.0 k at.2).is_member ∙ is)

      opening : is_opening (stage_in service.yard.vault.cells at.0) ≡ true
      opening = elim (cases_Bool (is_opening (stage_in service.yard.vault.cells at.0))) [
        | inl is ↦ is
        | inr other ↦ absurd (false≢true (sym none ∙ asked_is_named at.0 k (Remove k) at.1 (asks_to_remove at.0 k at.2 no_mark other (lacking at.0 k at.1 at.2 lacks)) refl))
      ]

      not_yet : is_settled (linking k P) P ≡ false
      not_yet = elim (cases_Bool (is_settled (linking k P) P)) [
        | inl settled ↦ absurd (up.sound.slots.added k at.0 at.2.1 at.2.0 settled (is_at_opening (stage_in service.yard.vault.cells at.0) opening))
        | inr is ↦ is
      ]

  -- a node that the image has isn't settled as removed
  read_not_removed : (s k : ℕ) → s < N → slot_at t s ≡ Member k → IsNodeOf service.yard P s k → is_removed (linking k P) P ≡ true → ⊥
  read_not_removed s k lt is at removed = not_both k (slot_at t s)
      (shut_read service.yard.vault.format (stage_in service.yard.vault.cells s) (cell_in service.yard.vault.cells s).key (slot_at t s) (reads n calls service.yard service.callers disk life.history P notes up.sound t image s lt) (subst IsFree (sym (up.sound.slots.removed k s at.1 at.0 removed)) tt))
      is

  -- A key that is no member, that the image has and that no row names, isn't settled.
  removing_is_open : (k : ℕ) → names k tail.rows ≡ false → member k P ≡ false → now k ≡ true → IsOpen k P
  removing_is_open k none gone has = ⊎_elim
      (λ at. ((tells there.0 k at).some, ((λ is. absurd (false≢true (sym gone ∙ is))), λ _. not_yet at)))
      (λ opened. absurd (false≢true (sym none ∙ adding_is_named there.0 k there.1 there.2 opened)))
      (read_of there.0 k there.1 there.2)
    where
      there : (s : ℕ) × (s < N) × (slot_at t s ≡ Member k)
      there = found_in t N k has

      not_yet : IsNodeOf service.yard P there.0 k → is_removed (linking k P) P ≡ false
      not_yet at = elim (cases_Bool (is_removed (linking k P) P)) [
        | inl removed ↦ absurd (read_not_removed there.0 k there.1 there.2 at removed)
        | inr is ↦ is
      ]

  is_open : (k : ℕ) → drop k ≡ true → IsOpen k P
  is_open k is = go (member k P) refl (now k) refl
    where
      parts : (not (names k tail.rows) ≡ true) × (differs (member k P) (now k) ≡ true)
      parts = and_parts (not (names k tail.rows)) (differs (member k P) (now k)) is

      none : names k tail.rows ≡ false
      none = not-true (names k tail.rows) parts.0

      other : (was now : Bool) → member k P ≡ was → found t N k ≡ now → differs was now ≡ true
      other was now same read = ap (λ (b : Bool). differs b now) (sym same) ∙ ap (differs (member k P)) (sym read) ∙ parts.1

      go : (was : Bool) → member k P ≡ was → (now : Bool) → found t N k ≡ now → IsOpen k P
      go true same false read = adding_is_open k none same read
      go false same true read = removing_is_open k none same read
      go true same true read = absurd (false≢true (other true true same read))
      go false same false read = absurd (false≢true (other false false same read))

  -- what the life began with is settled
  is_later : (k : ℕ) → drop k ≡ true → n < last_change k P
  is_later k is = elim (cases_lt n (last_change k P)) [
    | inl later ↦ later
    | inr before ↦
        let long : length (upto n P) ≡ n = length-upto n P up.sound.ledger.opened in
        elim (cases_lt 0 (linking k (upto n P))) [
          | inl some ↦
              let sure = up.began.sure k some in
              absurd (yes_is_kept k (upto n P) P (record { begins = upto_begins n P; member = sure.0; settled = settled_later (linking k (upto n P)) (upto n P) P (upto_begins n P) sure.1 }) (omega (arith, before, long)) (is_open k is))
          | inr none ↦
              let zero_link : linking k (upto n P) ≡ 0 = omega (arith, none) in
              absurd (no_is_kept k (upto n P) P (record { begins = upto_begins n P; no_member = never_linked k (upto n P) zero_link; settled = inl zero_link }) (omega (arith, before, long)) (is_open k is))
        ]
  ]

  may_drop : MayDrop n P drop
  may_drop = record { open_change = is_open; later = is_later }

  keeps : (k : ℕ) → names k tail.rows ≡ false → kept_keys n P drop (length P) k ≡ now k
  keeps k none = kept_last n P drop up.sound.ledger.opened k ∙ kept_is (member k P) (now k) (drop k) (names k tail.rows) refl none

  -- the list of the image
  image_fits : Fits life.start life.history (numbers (listed (kept_rows P drop (entries service.yard.shape.passes service.callers notes)) (length P) ++ tail.rows)) now
  image_fits =
      let rows = entries service.yard.shape.passes service.callers notes in
      let ledger = rows_ledger n calls service.yard service.callers disk life.history P notes up.sound t image tail in
      fits_from life.history (numbers (listed (kept_rows P drop rows) (length P) ++ tail.rows)) (kept_keys n P drop 0) life.start now (λ k. kept_first n P drop may_drop k ∙ up.began.members k)
      (listed_fits n P (kept_rows P drop rows) tail.rows life.history
      (kept_ledger n P drop may_drop rows tail.rows life.history ledger up.sound.ledger.settled) service.yard.shape.buckets N drop now up.sound.trace.lawful may_drop
      (λ j early late. kept_fits n P drop may_drop j (publishing j P) rows (up.sound.ledger.changes j early late))
      (rows_lead n calls service.yard service.callers disk life.history P notes up.sound t image tail (kept_keys n P drop (length P)) keeps))

  image_holds : Holds t N now
  image_holds =
      let vouches = up.sound.images.keeps.vouches in
      let count = up.sound.images.count in
      let names = sym (image_names service.yard.shape service.yard.vault disk up.sound.images t image) in
      record {
        count = subst (λ (F : Format). (1 ≤ N) × (N ≤ most_slots_of F)) names up.sound.images.slots;
        size = vouches.size t image ∙ ap (λ (q : ℕ). 16 + 16 * q) count;
        head = vouches.head t image
            ∙ (λ i. open_byte ∷ header_body (names i) (count i));
        no_bad_key = λ i lt. no_bad_key (cell_in service.yard.vault.cells i).key (slot_at t i)
            (one_or_other service.yard.vault.format (stage_in service.yard.vault.cells i) (cell_in service.yard.vault.cells i).key (slot_at t i)
            (reads n calls service.yard service.callers disk life.history P notes up.sound t image i lt));
        no_key_twice = λ i j k lt lt' is is'. read_once n calls service.yard service.callers disk life.history P notes up.sound t image i j k lt lt' is is';
        set = λ k. (λ has. found_in t N k has, λ (i, lt, is). in_found t N k i lt is);
      }

  -- what is settled is in the image, or a call that undoes it is under way
  lasts_yes : (k : ℕ) → SettledYes P P k → ((i : ℕ) → ¬ IsUnderWay life.history i (Remove k)) → now k ≡ true
  lasts_yes k told none = elim (cases_Bool (now k)) [
    | inl has ↦ has
    | inr lacks ↦
        let at = member_node n calls service.yard service.callers disk life.history P notes up.sound k told.member in
        let no_mark : is_marked at.0 P ≡ false = not-true (is_marked at.0 P) (sym (tells at.0 k at.2).is_member ∙ told.member) in
        absurd (⊎_elim
        (λ opening. up.sound.slots.added k at.0 at.2.1 at.2.0 told.settled (is_at_opening (stage_in service.yard.vault.cells at.0) opening))
        (λ other.
        let waits = asks_waits n calls service.yard service.callers disk life.history P notes up.sound t image at.0 (Remove k) at.1 (asks_to_remove at.0 k at.2 no_mark other (lacking at.0 k at.1 at.2 lacks)) in
        none waits.number waits.under_way)
        (cases_Bool (is_opening (stage_in service.yard.vault.cells at.0))))
  ]

  lasts_no : (k : ℕ) → SettledNo P P k → ((i : ℕ) → ¬ IsUnderWay life.history i (Add k)) → now k ≡ false
  lasts_no k told none = elim (cases_Bool (now k)) [
    | inr lacks ↦ lacks
    | inl has ↦
        let there = found_in t N k has in
        absurd (⊎_elim
        (λ at. ⊎_elim
        (λ never. omega (arith, never, (tells there.0 k at).some))
        (λ removed. read_not_removed there.0 k there.1 there.2 at removed)
        told.settled)
        (λ opened.
        let waits = asks_waits n calls service.yard service.callers disk life.history P notes up.sound t image there.0 (Add k) there.1 (asks_adding n calls service.yard service.callers disk life.history P notes up.sound t image there.0 k there.2 opened) in
        none waits.number waits.under_way)
        (read_of there.0 k there.1 there.2))
  ]

  image_has : HasList N life P t
  image_has = grind (arith, image_holds, image_fits, lasts_yes, lasts_no)

-- each image holds a set, and the life has a list that leads to it
pub images_fit : (n calls : ℕ) (service : Service) (disk : Medium) (life : Life) (P : Trace) (notes : Notes) → UpSound n calls service disk life P notes → (t : List ℕ) → IsImage disk t → HasList service.yard.shape.slots life P t
images_fit n calls service disk life P notes up t image = image_has n calls service disk life P notes up t image
