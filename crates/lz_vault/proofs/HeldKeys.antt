-- The keys that the slots of a file hold, in the order of the slots.
use Rattle.lz_slot.specs.declared.slot.SlotRead.TheVariants as read
use Rattle.std.proofs.Common.{◌≡◌, ℕ, zero, suc, ◌+◌, ◌≤◌, ◌<◌, Bool, List, [], ◌∷◌, ◌++◌, length, get_or, take, refl, sym, ◌∙◌, ap, subst, arith, Option, Some}
use Rattle.std.proofs.{Common.{None, IsTrue}, lemmas.{List.{map-append, take_all, take_more}, Option.{slice_get-get_or, same_Some}}}
use Rattle.std.specs.{Prelude.{slice_get, map, ◌&&◌, ◌||◌, ◌==◌}, List.{cons_option}}
use Rattle.lz_slot.specs.{Limits.{largest_key}, Nodes.{Nodes}, Rooms.{largest_of}, declared.format.Format.{Format, TheVariants.{One, Three}}}
use Rattle.lz_slot.{specs.{declared.slot.SlotRead.{SlotRead}, Sets.{Same, members}, Bytes.{held, held_key, slot_at}}, proofs.Files.ExactBytes.{key_of_format}}
use Rattle.lz_slot.proofs.Files.HeldSets.{holds_same_set}
use Rattle.lz_disk.specs.Devices.{Device}
use Rattle.lz_vault.specs.{Stages.{Cell}, Members.{AreDistinct, AreListed, keys_in, member_at, member_in, no_cell, node_at}, Makes.{MayBeMembers}}
use Rattle.lz_vault.specs.{Opens.{IsCellOf, is_open, keys_of}, Scans.{AreFresh, Finds}, Renewals.{AreHeldBy}, declared.vault.Stage.{Stage, TheVariants.{Open}}}
use Rattle.lz_vault.proofs.{OpeningFinds.{counted, found}, SlotOrder.{keys_more}}

-- a key's slot
abbrev InSlot : List Cell → ℕ → Type 0
InSlot cells k = (s : ℕ) × (s < length cells) × (member_at cells s ≡ Some k)

slot_later : (m : Option ℕ) (cell : Cell) (cells : List Cell) → member_in cell ≡ m → ((i : ℕ) → i < length (keys_in cells) → InSlot cells (get_or (keys_in cells) i 0))
    → (i : ℕ) → i < length (cons_option m (keys_in cells)) → InSlot (cell ∷ cells) (get_or (cons_option m (keys_in cells)) i 0)
slot_later None cell cells is later i lt = let at = later i lt in (suc at.0, omega (arith, at.1), at.2)
slot_later (Some k) cell cells is later zero lt = (zero, omega arith, is)
slot_later (Some k) cell cells is later (suc i) lt = let at = later i (omega (arith, lt)) in (suc at.0, omega (arith, at.1), at.2)

slot_of : (cells : List Cell) (i : ℕ) → i < length (keys_in cells) → InSlot cells (get_or (keys_in cells) i 0)
slot_of [] i lt = absurd (omega (arith, lt))
slot_of (cell ∷ cells) i lt = slot_later (member_in cell) cell cells refl (slot_of cells) i lt

-- no two places have one key
abbrev Apart : List ℕ → Type 0
Apart ks = (i j : ℕ) → i < length ks → j < length ks → get_or ks i 0 ≡ get_or ks j 0 → i ≡ j

apart_later : (m : Option ℕ) (cell : Cell) (cells : List Cell) → member_in cell ≡ m → AreDistinct (cell ∷ cells) → Apart (keys_in cells) → Apart (cons_option m (keys_in cells))
apart_later None cell cells is distinct later i j low low' same = later i j low low' same
apart_later (Some k) cell cells is distinct later zero zero low low' same = refl
apart_later (Some k) cell cells is distinct later zero (suc j) low low' same =
    let at = slot_of cells j (omega (arith, low')) in
    absurd (omega (arith, distinct zero (suc at.0) k (omega arith) (omega (arith, at.1)) is (at.2 ∙ ap (λ (q : ℕ). Some q) (sym same))))
apart_later (Some k) cell cells is distinct later (suc i) zero low low' same =
    let at = slot_of cells i (omega (arith, low)) in
    absurd (omega (arith, distinct zero (suc at.0) k (omega arith) (omega (arith, at.1)) is (at.2 ∙ ap (λ (q : ℕ). Some q) same)))
apart_later (Some k) cell cells is distinct later (suc i) (suc j) low low' same = ap suc (later i j (omega (arith, low)) (omega (arith, low')) same)

apart : (cells : List Cell) → AreDistinct cells → Apart (keys_in cells)
apart [] distinct = λ i j low low' same. absurd (omega (arith, low))
apart (cell ∷ cells) distinct = grind (arith, apart_later, apart cells (λ i j k low low' one two. omega (arith, distinct (suc i) (suc j) k (omega (arith, low)) (omega (arith, low')) one two)))

-- they are the set that the cells hold
same_later : (stage : Stage) (key : ℕ) (cells : List Cell) (k : ℕ) → keys_of cells k ≡ members (keys_in cells) k
    → ((is_open stage && key == k) || keys_of cells k) ≡ members (cons_option (member_in (record { stage = stage; key = key })) (keys_in cells)) k
same_later Open key cells k same = ap (λ (b : Bool). (key == k) || b) same
same_later _ key cells k same = same

same_keys : (cells : List Cell) → Same (keys_of cells) (members (keys_in cells))
same_keys [] k = refl
same_keys (cell ∷ cells) k = same_later cell.stage cell.key cells k (same_keys cells k)

-- a cell's key is what its slot is read as
abbrev member_of : Stage → ℕ → Option ℕ
member_of stage key = member_in (record { stage = stage; key = key })

read_key : (said : SlotRead) (stage : Stage) (key n : ℕ) → IsCellOf said (record { stage = stage; key = key }) → cons_option (member_of stage key) [] ≡ map (λ (node : ℕ × ℕ). node.0) (held_key said n)
read_key read.Closed stage key n is = ap (λ (s : Stage). cons_option (member_of s key) []) is
read_key read.Torn stage key n is = ap (λ (s : Stage). cons_option (member_of s key) []) is
read_key (read.Member k) stage key n is = ap (λ (s : Stage). cons_option (member_of s key) []) is.0 ∙ ap (λ (q : ℕ). q ∷ []) is.1
read_key read.BadKey stage key n is = absurd is

key_of_member : (stage : Stage) (key k : ℕ) → member_of stage key ≡ Some k → key ≡ k
key_of_member Open key k is = same_Some key k is
key_of_member _ key k is = absurd cc

module _ (t : List ℕ) (cells : List Cell) (each : (i : ℕ) (cell : Cell) → slice_get cells i ≡ Some cell → IsCellOf (slot_at t i) cell) where
  first_held : (n : ℕ) → n ≤ length cells → keys_in (take n cells) ≡ map (λ (node : ℕ × ℕ). node.0) (held t n)
  first_held zero le = refl
  first_held (suc n) le =
      let low : n < length cells = omega (arith, le) in
      let cell = get_or cells n no_cell in
      let next : suc n ≡ n + 1 = omega arith in
      ap (λ (m : ℕ). keys_in (take m cells)) next
      ∙ ap keys_in (take_more cells n no_cell low)
      ∙ keys_more (take n cells) cell
      ∙ (λ i. first_held n (omega (arith, le)) i ++ read_key (slot_at t n) cell.stage cell.key n (each n cell (slice_get-get_or cells n no_cell low)) i)
      ∙ sym (map-append (λ (node : ℕ × ℕ). node.0) (held t n) (held_key (slot_at t n) n))

-- the members that a scan lists have keys
pub listed_fits : (format : Format) (cells : List Cell) (ms : Nodes) → AreFresh format cells → AreListed cells (length cells) ms → (i : ℕ) → i < length ms → (node_at ms i).0 ≤ largest_key
listed_fits format cells ms fresh listed i lt = grind (arith, get_or, key_of_member, key_of_format, slice_get-get_or)

-- a key of any format is one of the widest
fits_three : (format : Format) (k : ℕ) → k ≤ largest_of format → k ≤ largest_of Three
fits_three One k fits = omega (arith, fits)
fits_three _ k fits = fits

module _ (before after : Device) (format : Format) (cells : List Cell) (finds : Finds before after format cells) where
  -- what is read holds these keys
  pub are_held : IsTrue before.honest → AreHeldBy before.medium.seen (keys_in cells)
  are_held honest =
      let t = before.medium.seen in
      let whole = found t cells (finds.bytes honest) (finds.size honest) (counted before after format cells finds honest) (finds.head honest) (finds.read honest) in (
        length cells,
        holds_same_set t (length cells) (keys_of cells) (members (keys_in cells)) (same_keys cells) whole.held,
        ap keys_in (sym (take_all (length cells) cells (omega arith))) ∙ first_held t cells (finds.read honest).each (length cells) (omega arith),
      )

  -- and they can be the members of a file of format 3
  pub are_members : MayBeMembers Three (length (keys_in cells)) (keys_in cells)
  are_members = record { few = omega arith; fit = fit; apart = apart cells finds.distinct }
    where
      fit : (i : ℕ) → i < length (keys_in cells) → get_or (keys_in cells) i 0 ≤ largest_of Three
      fit i lt =
          let k = get_or (keys_in cells) i 0 in
          let at = slot_of cells i lt in
          let cell = get_or cells at.0 no_cell in
          let key : cell.key ≡ k = key_of_member cell.stage cell.key k at.2 in
          subst (λ (q : ℕ). q ≤ largest_of Three) key (fits_three format cell.key (finds.fresh at.0 cell (slice_get-get_or cells at.0 no_cell at.1)).0)
