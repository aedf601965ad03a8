-- After a lawful trace the table of words is sorted, and has the trace's members.
use Rattle.std.proofs.Common.{◌≡◌, ◌↔◌, inl, inr, ℕ, zero, suc, ◌<◌, ◌≤◌, ◌^◌, Bool, true, false, not, List, [], ◌∷◌, length, refl, sym, ap, ◌∙◌, subst, arith}
use Rattle.std.{proofs.lemmas.Bool.{cases_eq, cases_Bool, Decides.{nat_tests}}, specs.Prelude.{◌==◌, if◌then◌else◌, slice_index}}
use mathlib.Core.Bool.{false≢true}
use Rattle.lz_slot.specs.Limits.{most_slots}
use Rattle.lz_list.specs.declared.{place.Place.TheVariants.{Node}, word.Word.TheVariants.{Head, Link, Key}}
use Rattle.lz_list.specs.{Words.{Words, get, is_marked_at, link_with, flags_of}, Traces.{Trace, Chain, on, rank_at, WordsShow, has_key, KeysBelong, Lawful}}
use Rattle.lz_list.specs.Traces.{chain, bucket_of, next_link, node_next, key_word, is_marked, member, flags_after, word_after, words_of_trace, table}
use Rattle.lz_list.specs.{Lists.{next_in, home, AreSlots, ShowsChain, IsSorted, IsMember, IsMemberIn, IsNodeIn, IsTable}, Members.{key_changes}}
use Rattle.lz_list.proofs.Chains.{PlaceRank.{adjacent, adjacent_next, shows_frame, shows_keys, on_start}, TraceChain.{words_show_chain}}
use Rattle.lz_list.proofs.{Chains.SortedChain.{slot_on, slots_insert, slots_without, bucket_below, node_on, node_home}, Traces.NodeBits.{node}}
use Rattle.lz_list.proofs.{Traces.Absence.{unlinked_is_settled}, Tables.{WordTable.{table_at, length-table}, PackedLink.{mark_of_link}}}

module _ (buckets slots b : ℕ) where
  pub chain_slots : (P : Trace) → Lawful buckets slots P → AreSlots slots (chain buckets b P)
  chain_slots [] law = tt
  chain_slots (e ∷ P) law = grind (arith, chain_slots P law.1, slots_insert, slots_without)

-- a key of a chain has a node there
pub node_of_key : (next keys : ℕ → ℕ) (k x : ℕ) (c : Chain) → WordsShow next keys x c → has_key k c ≡ true → (s : ℕ) × (on x c (suc s) ≡ true) × (keys s ≡ k)
node_of_key next keys k x [] h has = absurd (false≢true has)
node_of_key next keys k x (n ∷ c) h has = elim (cases_eq n.0 k) [
  | inl same ↦ (n.1, grind (arith, nat_tests, on_start (suc n.1) c), h.1 ∙ same)
  | inr other ↦
      let rest = node_of_key next keys k (suc n.1) c h.3 (grind (arith, nat_tests)) in
      (rest.0, grind (arith, nat_tests, rest.1), rest.2)
]

-- words whose heads, links and keys are those after a trace
module _ (slots buckets : ℕ) (P : Trace) (few : slots ≤ most_slots) (law : Lawful buckets slots P) (words : Words)
    (heads : words.heads ≡ table buckets (λ b. word_after buckets P (Head b)))
    (links : words.links ≡ table slots (λ s. word_after buckets P (Link s)))
    (key_words : words.keys ≡ table slots (λ s. word_after buckets P (Key s))) where
  abbrev keys : ℕ → ℕ
  keys t = key_word t P

  heads_are : length words.heads ≡ buckets
  heads_are = ap length heads ∙ length-table buckets (λ b. word_after buckets P (Head b))

  links_are : length words.links ≡ slots
  links_are = ap length links ∙ length-table slots (λ s. word_after buckets P (Link s))

  link_is : (s : ℕ) → s < slots → get words (Link s) ≡ link_with (node_next buckets s P) (flags_after s P)
  link_is s lt = ap (λ (xs : List ℕ). slice_index xs s) links ∙ table_at slots (λ t. word_after buckets P (Link t)) s 0 lt

  key_is : (s : ℕ) → s < slots → get words (Key s) ≡ key_word s P
  key_is s lt = ap (λ (xs : List ℕ). slice_index xs s) key_words ∙ table_at slots (λ t. word_after buckets P (Key t)) s 0 lt

  pub table_after : 0 < buckets → IsTable words
  table_after some = grind (arith, length-table)

  module _ (b : ℕ) where
    -- what stands on the chain is a slot, and leads to one or to the end
    slot_there : (s : ℕ) → on 0 (chain buckets b P) (suc s) ≡ true → s < slots
    slot_there s there = slot_on slots 0 (chain buckets b P) (chain_slots buckets slots b P law) s there (λ e. grind arith)

    small_next : (y : ℕ) → on 0 (chain buckets b P) y ≡ true → next_link buckets b P y < 2 ^ 32
    small_next y there = small (next_link buckets b P y) refl
      where
        small : (n : ℕ) → n ≡ next_link buckets b P y → next_link buckets b P y < 2 ^ 32
        small zero is = omega arith
        small (suc s) is =
            let adj = adjacent (next_link buckets b P) keys 0 (chain buckets b P) (words_show_chain buckets slots P law b).shows y there in
            let on_it = adjacent_next 0 (chain buckets b P) y (next_link buckets b P y) adj (λ e. omega arith) in
            let lt = slot_there s (ap (on 0 (chain buckets b P)) is ∙ on_it) in
            omega arith

    next_is : b < buckets → (y : ℕ) → on 0 (chain buckets b P) y ≡ true → next_in words b y ≡ next_link buckets b P y
    next_is lt y there = grind (arith, small_next, table_at, slot_there)

    mark_is : (t : ℕ) → on 0 (chain buckets b P) (suc t) ≡ true → is_marked_at words (Node t) ≡ is_marked t P
    mark_is t there = ap (λ (v : ℕ). (flags_of v).mark) (link_is t (slot_there t there)) ∙ mark_of_link (node_next buckets t P) (small_next (suc t) there) (flags_after t P)

    rank_is : (y : ℕ) → on 0 (chain buckets b P) y ≡ true → rank_at (λ t. get words (Key t)) y ≡ rank_at keys y
    rank_is y there = grind (arith, key_is, slot_there)

    pub shown_after : b < buckets → ShowsChain words b (chain buckets b P)
    shown_after lt = record {
      shows = shows_keys (next_in words b) (next_in words b) keys (λ t. get words (Key t)) 0 (chain buckets b P)
          (shows_frame (next_link buckets b P) (next_in words b) keys 0 (chain buckets b P) (words_show_chain buckets slots P law b).shows (next_is lt)) rank_is;
      within = subst (λ (n : ℕ). KeysBelong n b (chain buckets b P)) (sym heads_are) (words_show_chain buckets slots P law b).within;
      in_range = subst (λ (n : ℕ). AreSlots n (chain buckets b P)) (sym links_are) (chain_slots buckets slots b P law);
    }

  pub sorted_after : IsSorted words
  sorted_after b lt = (chain buckets b P, shown_after b (omega (arith, heads_are)))

  module _ (some : 0 < buckets) (k : ℕ) where
    abbrev bucket : ℕ
    bucket = bucket_of buckets k

    in_table : bucket < buckets
    in_table = omega (arith, bucket_below words k (table_after some), home_is, heads_are)
      where
        home_is : home words k ≡ bucket
        home_is = ap (λ (n : ℕ). bucket_of n k) heads_are

    at_home : home words k ≡ bucket
    at_home = ap (λ (n : ℕ). bucket_of n k) heads_are

    is_then : IsMember words k → member k P ≡ true
    is_then is =
        let there = node_on words bucket k is.0 (chain buckets bucket P) (shown_after bucket in_table) (subst (λ (b : ℕ). IsNodeIn words b k is.0) at_home is.1) in
        let tells = node buckets slots k is.0 P law there (sym (key_is is.0 (slot_there bucket is.0 there)) ∙ is.1.key) in
        tells.is_member ∙ ap not (sym (mark_is bucket is.0 there) ∙ is.2)

    then_is : member k P ≡ true → IsMember words k
    then_is is = elim (cases_Bool (has_key k (chain buckets bucket P))) [
      | inl has ↦
          let found = node_of_key (next_link buckets bucket P) keys k 0 (chain buckets bucket P) (words_show_chain buckets slots P law bucket).shows has in
          let tells = node buckets slots k found.0 P law found.1 found.2 in
          let bare : is_marked found.0 P ≡ false = grind (arith, nat_tests, tells.is_member, is) in (
            found.0,
            subst (λ (b : ℕ). IsNodeIn words b k found.0) (sym at_home) (record { chain = chain buckets bucket P; shown = shown_after bucket in_table; stands = found.1; key = key_is found.0 (slot_there bucket found.0 found.1) ∙ found.2 }),
            mark_is bucket found.0 found.1 ∙ bare,
          )
      | inr none ↦ absurd (false≢true (sym (unlinked_is_settled buckets k slots P law none).0 ∙ is))
    ]

    pub members_after : IsMember words k ↔ (member k P ≡ true)
    members_after = (is_then, then_is)
    -- a place of the key's bucket from there on to the key

-- the members hang on the keys linked and marked alone
member_of : ℕ → List (ℕ × Bool) → Bool
member_of k [] = false
member_of k (c ∷ cs) = if c.0 == k then c.1 else member_of k cs

member_is : (k : ℕ) (P : Trace) → member k P ≡ member_of k (key_changes P)
unfolding member_of
member_is k [] = refl
member_is k (e ∷ P) = grind (arith, member_is k P)

pub one_list : (slots buckets passes : ℕ) (P Q : Trace) → slots ≤ most_slots → 0 < buckets → Lawful buckets slots P → Lawful 1 slots Q → key_changes P ≡ key_changes Q
    → (k : ℕ) → IsMember (words_of_trace slots buckets passes P) k ↔ IsMember (words_of_trace slots 1 passes Q) k
one_list slots buckets passes P Q few some law law1 same k =
    let many = members_after slots buckets P few law (words_of_trace slots buckets passes P) refl refl refl some k in
    let one = members_after slots 1 Q few law1 (words_of_trace slots 1 passes Q) refl refl refl (omega arith) k in
    let agree : member k P ≡ member k Q = member_is k P ∙ ap (member_of k) same ∙ sym (member_is k Q) in
    ((λ is. one.1 (sym agree ∙ many.0 is)), (λ is. many.1 (agree ∙ one.0 is)))

pub union : (w : Words) → IsTable w → (k : ℕ) → IsMember w k ↔ (b : ℕ) × (b < length w.heads) × IsMemberIn w b k
union w table k = grind (arith, bucket_below, node_home)
