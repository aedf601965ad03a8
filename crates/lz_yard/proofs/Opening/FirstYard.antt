-- A yard that was opened over an honest device is that of the text read.
use Rattle.std.proofs.Common.{◌≡◌, ◌≢◌, ◌≤◌, ◌*◌, take, ◌⊎◌, inl, inr, ℕ, zero, suc, ◌+◌, ◌<◌, Bool, true, false, List, [], ◌∷◌, ◌++◌, length, map, refl, sym}
use Rattle.std.proofs.{Common.{ap, ◌∙◌, subst, arith, IsTrue}, lemmas.List.{length-map, get_or-map, get_or_append_left, get_or_push, ext_get_or}}
use Rattle.std.proofs.lemmas.{List.FromFn.{length-range_with_len, get_or-range_with_len}, Option.{slice_get-get_or}, Bool.{cases_eq, cases_Bool}}
use Rattle.std.{proofs.lemmas.Bool.Decides.{nat_tests}, specs.{Prelude.{slice_get, Some, replicate, slice_index_or, if◌then◌else◌}, List.{range_with_len}}}
use mathlib.Core.Bool.{false≢true}
use Rattle.lz_slot.specs.declared.slot.SlotRead.{SlotRead, TheVariants.{Closed as Closed_read, Member as Member_read, BadKey as BadKey_read}}
use Rattle.lz_slot.specs.{declared.format.Format.{Format}, Limits.{most_slots_of, most_buckets, most_passes}, Rooms.{largest_of}, Sets.{members}}
use Rattle.lz_slot.specs.{Bytes.{Holds, format_of, open_byte, header_body, slot_at, held, held_key}, Nodes.{has_node}}
use Rattle.lz_disk.specs.{Images.{AreBytes, at_rest}, Devices.{Device}}
use Rattle.lz_vault.specs.{declared.vault.Stage.TheVariants.{Open}, Stages.{Cell, AreSteady, Suits}, Vaults.{Vaulted}}
use Rattle.lz_vault.specs.{Opens.{IsCellOf, AreFound, AreTornIn, AreBlank, MayOpen}, Members.{member_in, member_at, no_cell}}
use Rattle.lz_vault.proofs.Members.{node_cases, are_distinct}
use Rattle.lz_allot.specs.{Uses.{Use, Free, Taken}, Allots.{Allotted}}
use Rattle.lz_list.{specs.{Lists.{Listed}, Traces.{Chain, IsFound, has_slot, words_of_trace, opening}}, proofs.Tables.WordTable.{length-table}}
use Rattle.lz_list.proofs.Chains.ChainNode.{node_slot}
use Rattle.lz_machine.specs.{declared.actor.Actor.{Actor}, Yards.{cell_read, use_read, slots_read, opened_yard}, Runs.{IsStart, keys_found}}
use Rattle.lz_machine.proofs.Open.{Texts.{text_of, text_size, text_head, text_format, text_says, text_bytes}, FirstNodes.{node_held, held_found}}
use Rattle.lz_machine.proofs.Open.ListedKeys.{holds_listed}
use Rattle.lz_yard.{specs.Filling.{AreTables, IsFirst}, proofs.Opening.{MemberNodes.{slot_node, are_found}, MemberOrder.{Within, same_words_after}}}
use Rattle.lz_yard.proofs.Opening.{FilledTables.{opened}, SlotReads.{read_length}}

append_cases : (k s : ℕ) (c d : Chain) → has_node k s (c ++ d) ≡ true → (has_node k s c ≡ true) ⊎ (has_node k s d ≡ true)
append_cases k s [] d there = inr there
append_cases k s (f ∷ c) d there = grind (arith, nat_tests, node_cases, append_cases k s c d)

-- what is said of a slot, and its cell
cell_same : (r : SlotRead) (cell : Cell) → IsCellOf r cell → (cell.stage ≢ Open → cell.key ≡ 0) → cell ≡ cell_read r
cell_same r cell is blank = grind arith

module _ (t : List ℕ) where
  read_at : (n i : ℕ) (d : SlotRead) → i < n → slice_index_or (slots_read t n) i d ≡ slot_at t i
  read_at zero i d low = absurd (omega (arith, low))
  read_at (suc n) i d low = elim (cases_eq i n) [
    | inl last ↦ get_or_push (slots_read t n) (slot_at t n) d i (omega (arith, last, read_length t n)) ∙ ap (slot_at t) (sym last)
    | inr other ↦
        let before : i < n = omega (arith, low, other) in
        get_or_append_left (slots_read t n) (slot_at t n ∷ []) d i (omega (arith, before, read_length t n)) ∙ read_at n i d before
  ]

  held_read : (n k s : ℕ) (r : SlotRead) → slot_at t n ≡ r → has_node k s (held_key r n) ≡ true → (s ≡ n) × (slot_at t s ≡ Member_read k)
  held_read n k s r at there = grind (arith, nat_tests)

  held_node : (n k s : ℕ) → has_node k s (held t n) ≡ true → (s < n) × (slot_at t s ≡ Member_read k)
  held_node zero k s there = absurd (false≢true there)
  held_node (suc n) k s there = grind (arith, nat_tests, append_cases, held_node n k s, held_read)

  module _ (vault : Vaulted) (B S : ℕ) (list : Listed) (allot : Allotted) (actors : List Actor) (are : AreTables vault.cells B S list allot actors)
      (fresh : (vault.syncs ≡ 0) × (vault.dead ≡ false)) (named : vault.format ≡ format_of t) (each : (i : ℕ) (cell : Cell) → slice_get vault.cells i ≡ Some cell → IsCellOf (slot_at t i) cell) (blank : AreBlank vault.cells) where
    abbrev cells : List Cell
    cells = vault.cells

    abbrev N : ℕ
    N = length vault.cells

    abbrev es : Chain
    es = are.members

    cell_is : (i : ℕ) → i < N → slice_index_or cells i no_cell ≡ cell_read (slot_at t i)
    cell_is i low =
        let there = slice_get-get_or cells i no_cell low in
        cell_same (slot_at t i) (slice_index_or cells i no_cell) (each i (slice_index_or cells i no_cell) there) (blank i (slice_index_or cells i no_cell) there)

    cells_are : cells ≡ map cell_read (slots_read t N)
    cells_are = ext_get_or no_cell cells (map cell_read (slots_read t N)) (sym (length-map (slots_read t N) cell_read ∙ read_length t N))
        (λ i low. cell_is i low ∙ sym (get_or-map cell_read (slots_read t N) i Closed_read no_cell (omega (arith, low, read_length t N)) ∙ ap cell_read (read_at N i Closed_read low)))

    member_is : (i k : ℕ) → i < N → member_at cells i ≡ Some k → slot_at t i ≡ Member_read k
    member_is i k low is = grind (arith, cell_is)

    is_member : (i k : ℕ) → i < N → slot_at t i ≡ Member_read k → member_at cells i ≡ Some k
    is_member i k low is = ap member_in (cell_is i low ∙ ap cell_read is)

    pub no_key_twice : (i j k : ℕ) → i < N → j < N → slot_at t i ≡ Member_read k → slot_at t j ≡ Member_read k → i ≡ j
    no_key_twice i j k low low' one two = are_distinct cells es are.found i j k low low' (is_member i k low one) (is_member j k low' two)

    within : Within (held t N) es
    within k s there = let node = held_node N k s there in are.found.all k s node.0 (is_member s k node.0 node.1)

    without : Within es (held t N)
    without k s there = grind (arith, node_held, member_is)

    found : IsFound N es
    found = are_found cells N es are.found.ascend are.found.each

    words_are : list.words ≡ words_of_trace N B S (opening B (held t N))
    words_are = are.words ∙ same_words_after N B S es (held t N) found (held_found t N N no_key_twice (omega arith)) without within

    locks_are : list.locks ≡ record { heads = replicate B 0; nodes = replicate N 0 }
    locks_are = grind (arith, length-table)

    vault_is : vault ≡ record { format = format_of t; cells = map cell_read (slots_read t N); syncs = 0; dead = false }
    vault_is = grind (arith, cells_are)

    use_same : (i : ℕ) → i < N → (b : Bool) → has_slot i es ≡ b → (r : SlotRead) → slot_at t i ≡ r → (if b then Taken else Free) ≡ use_read r
    use_same i low true has r is = grind (arith, slot_node, member_is)
    use_same i low false has r is = free r is
      where
        free : (r : SlotRead) → slot_at t i ≡ r → Free ≡ use_read r
        free (Member_read k) is = absurd (false≢true (sym has ∙ node_slot k i es (are.found.all k i low (is_member i k low is))))
        free _ is = refl

    uses_are : allot.uses ≡ map use_read (slots_read t N)
    uses_are = are.uses ∙ ext_get_or Taken (map use_of (range_with_len 0 N)) (map use_read (slots_read t N))
        (length-map (range_with_len 0 N) use_of ∙ length-range_with_len 0 N ∙ sym (length-map (slots_read t N) use_read ∙ read_length t N)) same
      where
        use_of : ℕ → Use
        use_of s = if has_slot s es then Taken else Free

        same : (i : ℕ) → i < length (map use_of (range_with_len 0 N)) → slice_index_or (map use_of (range_with_len 0 N)) i Taken ≡ slice_index_or (map use_read (slots_read t N)) i Taken
        same i in_it =
            let low : i < N = omega (arith, in_it, length-map (range_with_len 0 N) use_of, length-range_with_len 0 N) in
            let plus : 0 + i ≡ i = omega arith in
            get_or-map use_of (range_with_len 0 N) i 0 Taken (omega (arith, low, length-range_with_len 0 N)) ∙ ap use_of (get_or-range_with_len 0 N i 0 low ∙ plus)
            ∙ use_same i low (has_slot i es) refl (slot_at t i) refl
            ∙ sym (get_or-map use_read (slots_read t N) i Closed_read Taken (omega (arith, low, read_length t N)) ∙ ap use_read (read_at N i Closed_read low))

    yard_at : opened vault B S N list allot actors are refl ≡ opened_yard (record { slots = N; buckets = B; passes = S }) t
    yard_at = grind (arith, words_are, locks_are, vault_is, uses_are)

    pub yard_is : (slots : ℕ) (count : slots ≡ N) → opened vault B S slots list allot actors are count ≡ opened_yard (record { slots = slots; buckets = B; passes = S }) t
    yard_is slots count = grind (arith, yard_at)

-- a text that says what the cells of an open do begins a life
module _ (vault : Vaulted) (B S : ℕ) (list : Listed) (allot : Allotted) (actors : List Actor) (are : AreTables vault.cells B S list allot actors)
    (fresh : (vault.syncs ≡ 0) × (vault.dead ≡ false)) (blank : AreBlank vault.cells) (some : (1 ≤ B) × (B ≤ most_buckets)) (passes : (1 ≤ S) × (S ≤ most_passes))
    (count : (1 ≤ length vault.cells) × (length vault.cells ≤ most_slots_of vault.format)) (slots : ℕ) (slots_is : slots ≡ length vault.cells) where
  abbrev Begins : Bool → List ℕ → Type 0
  Begins b t = IsStart (record { bytewise = b; shape = record { slots = slots; buckets = B; passes = S }; text = t }) × (opened vault B S slots list allot actors are slots_is ≡ opened_yard (record { slots = slots; buckets = B; passes = S }) t)

  begins : (b : Bool) (t : List ℕ) → AreBytes t → Suits (format_of t) (at_rest b t) → vault.format ≡ format_of t → length t ≡ 16 + 16 * length vault.cells → take 16 t ≡ open_byte ∷ header_body (format_of t) (length vault.cells)
      → ((i : ℕ) (cell : Cell) → slice_get vault.cells i ≡ Some cell → IsCellOf (slot_at t i) cell) → Begins b t
  begins b t bytes suits named size head each = (
    record {
      buckets = some;
      passes = passes;
      bytes = bytes;
      text = subst (λ (n : ℕ). Holds t n (members (keys_found t n))) (sym slots_is) (holds_listed t (length vault.cells) count.0 few size head fine (no_key_twice t vault B S list allot actors are fresh named each blank));
      suits = suits;
    },
    yard_is t vault B S list allot actors are fresh named each blank slots slots_is,
  )
    where
      few : length vault.cells ≤ most_slots_of (format_of t)
      few = subst (λ (F : Format). length vault.cells ≤ most_slots_of F) named count.1

      bad_cell : (cell : Cell) (r : SlotRead) → r ≡ BadKey_read → IsCellOf r cell → ⊥
      bad_cell cell r bad is = subst (λ (q : SlotRead). IsCellOf q cell) bad is

      fine : (i : ℕ) → i < length vault.cells → slot_at t i ≢ BadKey_read
      fine i low bad =
          let mine : Cell = slice_index_or vault.cells i no_cell in
          bad_cell mine (slot_at t i) bad (each i mine (slice_get-get_or vault.cells i no_cell low))

  module _ (before : Device) (keys : (i : ℕ) (cell : Cell) → slice_get vault.cells i ≡ Some cell → cell.key ≤ largest_of vault.format) (steady : AreSteady vault.cells) (torn : AreTornIn vault.format vault.cells)
      (found : IsTrue before.honest → AreFound before.medium.seen vault.cells) (format : IsTrue before.honest → vault.format ≡ format_of before.medium.seen) (suits : MayOpen before) (bytes : IsTrue before.honest → AreBytes before.medium.seen) where
    pub first_yard : IsFirst before (opened vault B S slots list allot actors are slots_is)
    first_yard = elim (cases_Bool before.honest) [
      | inl honest ↦
          let told = found honest in
          let is = begins before.medium.bytewise before.medium.seen (bytes honest) (suits honest) (format honest) told.held.size told.held.head told.each in
          record { bytewise = before.medium.bytewise; text = before.medium.seen; read = λ yes. (refl, refl); starts = is.0; yard = is.1 }
      | inr other ↦
          let names = text_format vault.format vault.cells in
          let is = begins true (text_of vault.format vault.cells) (text_bytes vault.format vault.cells keys) (λ four. refl) (sym names) (text_size vault.format vault.cells)
          (text_head vault.format vault.cells ∙ ap (λ (F : Format). open_byte ∷ header_body F (length vault.cells)) (sym names)) (text_says vault.format vault.cells keys steady torn)
          in
          record { bytewise = true; text = text_of vault.format vault.cells; read = λ yes. absurd (false≢true (sym other ∙ yes)); starts = is.0; yard = is.1 }
    ]
