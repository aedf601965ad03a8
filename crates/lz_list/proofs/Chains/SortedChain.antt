-- Chains that words show: there is one for each bucket, and where its places stand.
use Rattle.std.proofs.{Common.{◌≡◌, ◌≢◌, inl, inr, ℕ, suc, ◌<◌, true, [], ◌∷◌, length, refl, sym, ap, ◌∙◌, subst, arith}, lemmas.Bool.{cases_eq}}
use Rattle.std.proofs.lemmas.Bool.Decides.{nat_tests}
use Rattle.lz_list.specs.{declared.{place.Place.{Place}, word.Word.TheVariants.{Key}}, Words.{Words, get, next_at, place_number}}
use Rattle.lz_list.specs.Traces.{Chain, insert, without, on, rank_at, WordsShow, bucket_of}
use Rattle.lz_list.{specs.Lists.{next_in, home, AreSlots, ShowsChain, IsNodeIn, IsOfBucket, IsTable}, proofs.Chains.{PlaceRank.{apart}, TraceChain.{bucket_on}}}
use Rattle.lz_list.proofs.Traces.NodeBits.{one_node}

pub same_pair : (n m : ℕ × ℕ) → n.0 ≡ m.0 → n.1 ≡ m.1 → n ≡ m
same_pair n m first second = ap (λ (a : ℕ). (a, n.1)) first ∙ ap (λ (b : ℕ). (m.0, b)) second

-- one chain is shown
pub same_chain : (next keys : ℕ → ℕ) (x : ℕ) (c d : Chain) → WordsShow next keys x c → WordsShow next keys x d → c ≡ d
same_chain next keys x [] [] h g = refl
same_chain next keys x [] (m ∷ d) h g = absurd (omega (arith, h, g.0))
same_chain next keys x (n ∷ c) [] h g = absurd (omega (arith, h.0, g))
same_chain next keys x (n ∷ c) (m ∷ d) h g =
    let slot : n.1 ≡ m.1 = omega (arith, h.0, g.0) in
    let key : n.0 ≡ m.0 = sym h.1 ∙ ap keys slot ∙ g.1 in
    let rest : c ≡ d = same_chain next keys (suc n.1) c d h.3 (subst (λ (s : ℕ). WordsShow next keys (suc s) d) (sym slot) g.3) in
    ap (λ (p : ℕ × ℕ). p ∷ c) (same_pair n m key slot) ∙ ap (λ (e : Chain). m ∷ e) rest

pub slot_on : (slots x : ℕ) (c : Chain) → AreSlots slots c → (s : ℕ) → on x c (suc s) ≡ true → suc s ≢ x → s < slots
slot_on slots x [] h s there other = absurd (other (grind (arith, nat_tests)))
slot_on slots x (n ∷ c) h s there other = elim (cases_eq s n.1) [
  | inl same ↦ omega (arith, h.0)
  | inr apart ↦ slot_on slots (suc n.1) c h.1 s (grind (arith, nat_tests)) (λ same. apart (omega arith))
]

pub slots_insert : (slots k s : ℕ) (c : Chain) → s < slots → AreSlots slots c → AreSlots slots (insert k s c)
slots_insert slots k s [] lt h = (lt, tt)
slots_insert slots k s (n ∷ c) lt h = grind (arith, slots_insert slots k s c lt h.1)

pub slots_without : (slots k : ℕ) (c : Chain) → AreSlots slots c → AreSlots slots (without k c)
slots_without slots k [] h = tt
slots_without slots k (n ∷ c) h = grind (arith, slots_without slots k c h.1)

-- a node of another key stays where one is put in or taken out
pub on_without_other : (next keys : ℕ → ℕ) (k x y : ℕ) (c : Chain) → WordsShow next keys x c → on x c y ≡ true → rank_at keys y ≢ suc k → on x (without k c) y ≡ true
on_without_other next keys k x y [] h there other = there
on_without_other next keys k x y (n ∷ []) h there other = grind arith
on_without_other next keys k x y (n ∷ m ∷ c) h there other = grind (arith, on_without_other next keys k (suc n.1) y (m ∷ c) h.3)

pub bucket_below : (w : Words) (k : ℕ) → IsTable w → home w k < length w.heads
unfolding bucket_of
bucket_below w k table = omega (arith, table.buckets)

module _ (w : Words) (b : ℕ) where
  pub one_chain : (c d : Chain) → ShowsChain w b c → ShowsChain w b d → c ≡ d
  one_chain c d h g = same_chain (next_in w b) (λ s. get w (Key s)) 0 c d h.shows g.shows

  -- a node stands on whatever chain is shown
  pub node_on : (k s : ℕ) (c : Chain) → ShowsChain w b c → IsNodeIn w b k s → on 0 c (suc s) ≡ true
  node_on k s c h node = ap (λ (d : Chain). on 0 d (suc s)) (one_chain c node.chain h node.shown) ∙ node.stands

  pub node_home : (k s : ℕ) → IsNodeIn w b k s → home w k ≡ b
  node_home k s node = subst (λ (j : ℕ). home w j ≡ b) node.key (bucket_on (length w.heads) (next_in w b) (λ t. get w (Key t)) b 0 node.chain node.shown.shows node.shown.within s node.stands (λ e. grind arith))

  pub node_slot : (k s : ℕ) → IsNodeIn w b k s → s < length w.links
  node_slot k s node = slot_on (length w.links) 0 node.chain node.shown.in_range s node.stands (λ e. grind arith)

  -- a key has one node
  pub same_node : (k s t : ℕ) → IsNodeIn w b k s → IsNodeIn w b k t → s ≡ t
  same_node k s t first second =
      let same : suc s ≡ suc t = one_node (next_in w b) (λ r. get w (Key r)) 0 first.chain first.shown.shows (suc s) (suc t) first.stands (node_on k t first.chain first.shown second) (omega (arith, first.key, second.key)) in
      omega arith

  pub next_of_place : (place : Place) → IsOfBucket b place → next_at w place ≡ next_in w b (place_number place)
  next_of_place place here = grind arith
