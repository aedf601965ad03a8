-- The words after an opening don't depend on the order in which its members stand.
use Rattle.std.proofs.Common.{◌≡◌, ◌⊎◌, inl, inr, ℕ, suc, ◌≤◌, Bool, true, false, ◌==◌, [], ◌∷◌, refl, sym, ap, ◌∙◌, arith}
use Rattle.std.proofs.lemmas.Bool.{cases_eq, cases_Bool, Decides.{nat_tests, leb_tells, eqb_tells}}
use mathlib.Core.Bool.{false≢true}
use Rattle.lz_list.specs.Traces.{Trace, Chain, WordsShow, rank_at, on, IsFound, insert, bucket_of, chain, chain_of, place_of, has_slot, head_word, node_next}
use Rattle.lz_list.specs.Traces.{next_link, key_word, has_added, has_removed, flags_after, words_of_trace, halt_word, opening}
use Rattle.lz_list.proofs.Chains.{PlaceRank.{before_on, on_start}, SortedChain.{same_pair}, TraceChain.{words_show_chain}, ChainNode.{node_slot}}
use Rattle.lz_list.proofs.Traces.OpeningTrace.{opening_lawful}
use Rattle.lz_slot.specs.Nodes.{has_node}
use Rattle.lz_vault.{specs.Members.{Ascends}, proofs.Members.{node_cases, node_first, node_later}}
use Rattle.lz_machine.proofs.Open.FirstNodes.{off_chains, none_marked}
use Rattle.lz_yard.proofs.Opening.MemberNodes.{slot_node}

-- the nodes of the first are nodes of the second
abbrev pub Within : Chain → Chain → Type 0
Within c d = (k s : ℕ) → has_node k s c ≡ true → has_node k s d ≡ true

-- lists that ascend and have the same nodes are one
pub same_list : (c d : Chain) → Ascends c → Ascends d → Within c d → Within d c → c ≡ d
same_list [] [] up up' in' out = refl
same_list [] (m ∷ d) up up' in' out = absurd (false≢true (out m.0 m.1 (node_first m d)))
same_list (n ∷ c) [] up up' in' out = absurd (false≢true (in' n.0 n.1 (node_first n c)))
same_list (n ∷ c) (m ∷ d) up up' in' out = elim (node_cases n.0 n.1 m d (in' n.0 n.1 (node_first n c))) [
  | inl same ↦ ap (λ (p : ℕ × ℕ). p ∷ c) (same_pair n m (sym same.0) (sym same.1)) ∙ ap (λ (l : Chain). m ∷ l) (same_list c d up.1 up'.1 (rest n m c d up in' same.0) (rest m n d c up' out (sym same.0)))
  | inr later ↦ elim (node_cases m.0 m.1 n c (out m.0 m.1 (node_first m d))) [
    | inl first ↦ absurd (omega (arith, up'.0 n.0 n.1 later, first.0))
    | inr after ↦ absurd (omega (arith, up'.0 n.0 n.1 later, up.0 m.0 m.1 after))
  ]
]
  where
    rest : (n m : ℕ × ℕ) (c d : Chain) → Ascends (n ∷ c) → Within (n ∷ c) (m ∷ d) → m.0 ≡ n.0 → Within c d
    rest n m c d up in' same k s there = grind (arith, nat_tests, node_cases, node_later)

-- a chain that is shown ascends
shown_above : (next keys : ℕ → ℕ) (x : ℕ) (c : Chain) → WordsShow next keys x c → (k s : ℕ) → has_node k s c ≡ true → rank_at keys x ≤ k
shown_above next keys x [] shows k s there = absurd (false≢true there)
shown_above next keys x (n ∷ c) shows k s there = grind (arith, nat_tests, node_cases, shown_above next keys (suc n.1) c shows.3 k s)

shown_ascends : (next keys : ℕ → ℕ) (x : ℕ) (c : Chain) → WordsShow next keys x c → Ascends c
shown_ascends next keys x [] shows = tt
shown_ascends next keys x (n ∷ c) shows = (
  (λ k s there. let high : suc (keys n.1) ≤ k = shown_above next keys (suc n.1) c shows.3 k s there in omega (arith, shows.1, high)),
  shown_ascends next keys (suc n.1) c shows.3,
)

-- what stands on a chain after an insertion
insert_cases : (k s j t : ℕ) (c : Chain) → has_node k s (insert j t c) ≡ true → ((j ≡ k) × (t ≡ s)) ⊎ (has_node k s c ≡ true)
insert_cases k s j t [] there = node_cases k s (j, t) [] there
insert_cases k s j t (n ∷ c) there = grind (arith, nat_tests, leb_tells, node_cases, node_first, insert_cases k s j t c, node_later)

insert_new : (j t : ℕ) (c : Chain) → has_node j t (insert j t c) ≡ true
insert_new j t [] = node_first (j, t) []
insert_new j t (n ∷ c) = grind (arith, insert_new j t c)

insert_old : (k s j t : ℕ) (c : Chain) → has_node k s c ≡ true → has_node k s (insert j t c) ≡ true
insert_old k s j t [] there = absurd (false≢true there)
insert_old k s j t (n ∷ c) there = grind (arith, nat_tests, leb_tells, node_cases, node_first, node_later, insert_old k s j t c)

-- a chain's next links are told by it
same_next : (next keys other keys' : ℕ → ℕ) (x : ℕ) (c : Chain) → WordsShow next keys x c → WordsShow other keys' x c → (y : ℕ) → on x c y ≡ true → next y ≡ other y
same_next next keys other keys' x [] shows shows' y there = grind arith
same_next next keys other keys' x (n ∷ c) shows shows' y there = grind (arith, nat_tests, cases_eq, same_next next keys other keys' (suc n.1) c shows.3 shows'.3 y)

node_stands : (k s x : ℕ) (c : Chain) → has_node k s c ≡ true → on x c (suc s) ≡ true
node_stands k s x [] there = absurd (false≢true there)
node_stands k s x (n ∷ c) there = grind (arith, nat_tests, node_cases, on_start, node_stands k s (suc n.1) c)

module _ (B : ℕ) where
  -- the nodes of a chain are those of its bucket
  chain_has : (b k s : ℕ) (F : Chain) → has_node k s (chain B b (opening B F)) ≡ true → (bucket_of B k ≡ b) × (has_node k s F ≡ true)
  chain_has b k s [] there = absurd (false≢true there)
  chain_has b k s (f ∷ F) there = grind (arith, nat_tests, eqb_tells, insert_cases, node_first, chain_has b k s F, node_later)

  has_chain : (b k s : ℕ) (F : Chain) → bucket_of B k ≡ b → has_node k s F ≡ true → has_node k s (chain B b (opening B F)) ≡ true
  has_chain b k s [] here there = absurd (false≢true there)
  has_chain b k s (f ∷ F) here there = grind (arith, nat_tests, eqb_tells, node_cases, insert_new, insert_old, has_chain b k s F here)

  -- the words of a slot that holds none
  none_next : (s : ℕ) (F : Chain) → has_slot s F ≡ false → node_next B s (opening B F) ≡ 0
  none_next s [] none = refl
  none_next s (f ∷ F) none =
      let rest : has_slot s F ≡ false = grind (arith, nat_tests) in
      let other : (f.1 == s) ≡ false = grind (arith, nat_tests) in
      let off : (place_of B f.0 (opening B F) == suc s) ≡ false = apart rest (place_of B f.0 (opening B F) == suc s) refl in
      grind (arith, nat_tests, other, off, none_next s F rest)
    where
      apart : has_slot s F ≡ false → (q : Bool) → (place_of B f.0 (opening B F) == suc s) ≡ q → (place_of B f.0 (opening B F) == suc s) ≡ false
      apart rest false is = is
      apart rest true is =
          let at : place_of B f.0 (opening B F) ≡ suc s = grind (arith, nat_tests, is) in
          absurd (false≢true (sym (off_chains B s F rest (bucket_of B f.0)) ∙ ap (on 0 (chain_of B f.0 (opening B F))) (sym at) ∙ before_on f.0 0 (chain_of B f.0 (opening B F))))

  none_key : (s : ℕ) (F : Chain) → has_slot s F ≡ false → key_word s (opening B F) ≡ 0
  none_key s [] none = refl
  none_key s (f ∷ F) none = grind (arith, none_key s F)

  -- and of one that holds a member
  some_key : (N k s : ℕ) (F : Chain) → IsFound N F → has_node k s F ≡ true → key_word s (opening B F) ≡ k
  some_key N k s [] found there = absurd (false≢true there)
  some_key N k s (f ∷ F) found there = grind (arith, nat_tests, node_cases, node_slot, some_key N k s F found.3, false≢true)

  added_slots : (s : ℕ) (F : Chain) → has_added s (opening B F) ≡ has_slot s F
  added_slots s [] = refl
  added_slots s (f ∷ F) = grind (arith, added_slots s F)

  none_gone : (s : ℕ) (F : Chain) → has_removed s (opening B F) ≡ false
  none_gone s [] = refl
  none_gone s (f ∷ F) = grind (arith, none_gone s F)

module _ (N B S : ℕ) (F G : Chain) (found : IsFound N F) (found' : IsFound N G) (in' : Within F G) (out : Within G F) where
  abbrev P : Trace
  P = opening B F

  abbrev Q : Trace
  Q = opening B G

  shows : (b : ℕ) → WordsShow (next_link B b P) (λ t. key_word t P) 0 (chain B b P)
  shows b = (words_show_chain B N P (opening_lawful B N F found) b).shows

  shows' : (b : ℕ) → WordsShow (next_link B b Q) (λ t. key_word t Q) 0 (chain B b Q)
  shows' b = (words_show_chain B N Q (opening_lawful B N G found') b).shows

  chains : (b : ℕ) → chain B b P ≡ chain B b Q
  chains b = grind (arith, same_list, shown_ascends, shows, shows', chain_has, has_chain)

  nexts : (b y : ℕ) → on 0 (chain B b P) y ≡ true → next_link B b P y ≡ next_link B b Q y
  nexts b y there = grind (arith, same_next, shows, chains, shows')

  heads : (b : ℕ) → head_word B b P ≡ head_word B b Q
  heads b = nexts b 0 (on_start 0 (chain B b P))

  slots : (s : ℕ) → has_slot s F ≡ has_slot s G
  slots s = grind (arith, slot_node, node_slot)

  links : (s : ℕ) → node_next B s P ≡ node_next B s Q
  links s = elim (cases_Bool (has_slot s F)) [
    | inl there ↦ let node = slot_node s F there in nexts (bucket_of B node.0) (suc s) (node_stands node.0 s 0 (chain_of B node.0 P) (has_chain B (bucket_of B node.0) node.0 s F refl node.1))
    | inr none ↦ none_next B s F none ∙ sym (none_next B s G (sym (slots s) ∙ none))
  ]

  keys : (s : ℕ) → key_word s P ≡ key_word s Q
  keys s = grind (arith, slot_node, some_key, none_key)

  flags : (s : ℕ) → flags_after s P ≡ flags_after s Q
  flags s = cc (none_marked B s F, none_marked B s G, added_slots B s F, added_slots B s G, slots s, none_gone B s F, none_gone B s G)

  halted : (H : Chain) → halt_word (opening B H) ≡ 0
  halted [] = refl
  halted (f ∷ H) = halted H

  pub same_words_after : words_of_trace N B S P ≡ words_of_trace N B S Q
  same_words_after = grind (arith, heads, links, flags, keys, halted)
