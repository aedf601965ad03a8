-- After a lawful trace the words of each bucket show its chain.
use Rattle.std.proofs.Common.{◌≡◌, ◌≢◌, inl, inr, ℕ, zero, suc, true, false, ◌==◌, [], ◌∷◌, refl, sym, ap, ◌∙◌, subst, arith}
use Rattle.std.proofs.lemmas.Bool.Decides.{nat_tests, eqb_tells}
use Rattle.lz_list.specs.declared.publishing.Publishing.TheVariants.{Linked as linked, Unlinked as unlinked, KeyPrepared as key_prepared}
use Rattle.lz_list.specs.{declared.publishing.Publishing.TheVariants.{LinkPrepared as link_prepared}, Traces.{Trace, Chain, insert, without, on, rank_at}}
use Rattle.lz_list.specs.Traces.{WordsShow, bucket_of, chain, chain_of, place_of, key_word, node_next, next_link, IsLoose, MayLink, MayUnlink, Lawful}
use Rattle.lz_list.specs.Traces.{KeysBelong, IsShown}
use Rattle.lz_list.proofs.Chains.PlaceRank.{before_on, shows_frame, shows_keys, shows_insert, shows_without, next_is_above, has_on}

module _ (buckets : ℕ) where
  pub within_insert : (b k s : ℕ) (c : Chain) → bucket_of buckets k ≡ b → KeysBelong buckets b c → KeysBelong buckets b (insert k s c)
  within_insert b k s [] here h = (here, tt)
  within_insert b k s (n ∷ c) here h = grind (arith, within_insert b k s c here h.1)

  pub within_without : (b k : ℕ) (c : Chain) → KeysBelong buckets b c → KeysBelong buckets b (without k c)
  within_without b k [] h = tt
  within_without b k (n ∷ c) h = grind (arith, within_without b k c h.1)

  -- the key of a node is of the chain's bucket
  pub bucket_on : (next keys : ℕ → ℕ) (b x : ℕ) (c : Chain) → WordsShow next keys x c → KeysBelong buckets b c → (t : ℕ) → on x c (suc t) ≡ true → suc t ≢ x → bucket_of buckets (keys t) ≡ b
  bucket_on next keys b x [] h in' t there other = absurd (other (grind (arith, nat_tests)))
  bucket_on next keys b x (n ∷ c) h in' t there other = elim (eqb_tells t n.1) [
    | inl e ↦ rw e.1 (rw h.1 in'.0)
    | inr f ↦ bucket_on next keys b (suc n.1) c h.3 in'.1 t (grind (arith, nat_tests)) (grind arith)
  ]

  module _ (k s p : ℕ) (P : Trace) where
    pub linked_at : (w : ℕ) → w ≡ place_of buckets k P → next_link buckets (bucket_of buckets k) (linked k s p ∷ P) w ≡ suc s
    linked_at w is = grind arith

    pub linked_off : (b y : ℕ) → y ≢ place_of buckets k P → next_link buckets b (linked k s p ∷ P) y ≡ next_link buckets b P y
    linked_off b y off = grind arith

    pub unlinked_at : (w : ℕ) → w ≡ place_of buckets k P → next_link buckets (bucket_of buckets k) (unlinked k s p ∷ P) w ≡ node_next buckets s P
    unlinked_at w is = grind arith

    pub unlinked_off : (b y : ℕ) → y ≢ place_of buckets k P → next_link buckets b (unlinked k s p ∷ P) y ≡ next_link buckets b P y
    unlinked_off b y off = grind arith

    -- a word of another bucket's chain isn't touched
    pub apart_bucket : ((b : ℕ) → IsShown buckets b P) → (b y : ℕ) → (b ≢ bucket_of buckets k) → on 0 (chain buckets b P) (suc y) ≡ true → suc y ≢ place_of buckets k P
    apart_bucket h b y other there same =
        let here = h (bucket_of buckets k) in
        let mine : on 0 (chain_of buckets k P) (suc y) ≡ true = ap (on 0 (chain_of buckets k P)) same ∙ before_on k 0 (chain_of buckets k P) in
        let first = bucket_on (next_link buckets b P) (λ t. key_word t P) b 0 (chain buckets b P) (h b).shows (h b).within y there (λ e. grind arith) in
        let second = bucket_on (next_link buckets (bucket_of buckets k) P) (λ t. key_word t P) (bucket_of buckets k) 0 (chain_of buckets k P) here.shows here.within y mine (λ e. grind arith) in
        other (sym first ∙ second)

    linked_here : (slots : ℕ) → IsShown buckets (bucket_of buckets k) P → MayLink buckets slots k s P → IsShown buckets (bucket_of buckets k) (linked k s p ∷ P)
    linked_here slots h may =
        let same : (bucket_of buckets k == bucket_of buckets k) ≡ true = grind (arith, nat_tests) in
        record {
          shows = rw same (shows_insert (next_link buckets (bucket_of buckets k) P) (next_link buckets (bucket_of buckets k) (linked k s p ∷ P))
              (λ t. key_word t P) k s 0 (chain_of buckets k P) may.key h.shows (omega arith) may.no_node may.link (place_of buckets k P) refl
              (linked_at (place_of buckets k P) refl) (linked_off (bucket_of buckets k)));
          within = rw same (within_insert (bucket_of buckets k) k s (chain_of buckets k P) refl h.within);
        }

    linked_shown : (slots : ℕ) → ((b : ℕ) → IsShown buckets b P) → MayLink buckets slots k s P → (b : ℕ) → IsShown buckets b (linked k s p ∷ P)
    linked_shown slots h may b = elim (eqb_tells (bucket_of buckets k) b) [
      | inl t ↦ subst (λ (c : ℕ). IsShown buckets c (linked k s p ∷ P)) t.1 (linked_here slots (h (bucket_of buckets k)) may)
      | inr f ↦ record {
        shows = rw f.0 (shows_frame (next_link buckets b P) (next_link buckets b (linked k s p ∷ P)) (λ t. key_word t P) 0 (chain buckets b P) (h b).shows (untouched f));
        within = rw f.0 (h b).within;
      }
    ]
      where
        untouched : ((bucket_of buckets k == b) ≡ false) × (bucket_of buckets k ≢ b) → (y : ℕ) → on 0 (chain buckets b P) y ≡ true → next_link buckets b (linked k s p ∷ P) y ≡ next_link buckets b P y
        untouched f zero there = grind (arith, nat_tests, f.0)
        untouched f (suc y) there = linked_off b (suc y) (apart_bucket h b y (λ e. f.1 (sym e)) there)

    unlinked_here : IsShown buckets (bucket_of buckets k) P → MayUnlink buckets k s P → IsShown buckets (bucket_of buckets k) (unlinked k s p ∷ P)
    unlinked_here h may =
        let same : (bucket_of buckets k == bucket_of buckets k) ≡ true = grind (arith, nat_tests) in
        let there = has_on (next_link buckets (bucket_of buckets k) P) (λ t. key_word t P) k s 0 (chain_of buckets k P) h.shows (omega arith) may.key may.stands in
        let next = next_is_above (next_link buckets (bucket_of buckets k) P) (λ t. key_word t P) k s 0 (chain_of buckets k P) h.shows (omega arith) may.key may.stands in
        record {
          shows = rw same (shows_without (next_link buckets (bucket_of buckets k) P) (next_link buckets (bucket_of buckets k) (unlinked k s p ∷ P))
              (λ t. key_word t P) k 0 (chain_of buckets k P) h.shows there (place_of buckets k P) refl (unlinked_at (place_of buckets k P) refl ∙ next)
              (unlinked_off (bucket_of buckets k)));
          within = rw same (within_without (bucket_of buckets k) k (chain_of buckets k P) h.within);
        }

    unlinked_shown : ((b : ℕ) → IsShown buckets b P) → MayUnlink buckets k s P → (b : ℕ) → IsShown buckets b (unlinked k s p ∷ P)
    unlinked_shown h may b = elim (eqb_tells (bucket_of buckets k) b) [
      | inl t ↦ subst (λ (c : ℕ). IsShown buckets c (unlinked k s p ∷ P)) t.1 (unlinked_here (h (bucket_of buckets k)) may)
      | inr f ↦ record {
        shows = rw f.0 (shows_frame (next_link buckets b P) (next_link buckets b (unlinked k s p ∷ P)) (λ t. key_word t P) 0 (chain buckets b P) (h b).shows (untouched f));
        within = rw f.0 (h b).within;
      }
    ]
      where
        untouched : ((bucket_of buckets k == b) ≡ false) × (bucket_of buckets k ≢ b) → (y : ℕ) → on 0 (chain buckets b P) y ≡ true → next_link buckets b (unlinked k s p ∷ P) y ≡ next_link buckets b P y
        untouched f zero there = grind (arith, nat_tests, f.0)
        untouched f (suc y) there = unlinked_off b (suc y) (apart_bucket h b y (λ e. f.1 (sym e)) there)

  -- a slot that no chain has is prepared
  key_shown : (s v b : ℕ) (P : Trace) → IsShown buckets b P → IsLoose buckets s P → IsShown buckets b (key_prepared s v ∷ P)
  key_shown s v b P h loose = record {
    shows = shows_keys (next_link buckets b P) (next_link buckets b P) (λ t. key_word t P) (λ t. key_word t (key_prepared s v ∷ P)) 0 (chain buckets b P) h.shows same;
    within = h.within;
  }
    where
      same : (y : ℕ) → on 0 (chain buckets b P) y ≡ true → rank_at (λ t. key_word t (key_prepared s v ∷ P)) y ≡ rank_at (λ t. key_word t P) y
      same zero there = refl
      same (suc t) there = grind (arith, nat_tests, loose b, λ (e : s ≡ t). ap (λ (q : ℕ). on 0 (chain buckets b P) (suc q)) e)

  link_shown : (s v b : ℕ) (P : Trace) → IsShown buckets b P → IsLoose buckets s P → IsShown buckets b (link_prepared s v ∷ P)
  link_shown s v b P h loose = record {
    shows = shows_frame (next_link buckets b P) (next_link buckets b (link_prepared s v ∷ P)) (λ t. key_word t P) 0 (chain buckets b P) h.shows same;
    within = h.within;
  }
    where
      same : (y : ℕ) → on 0 (chain buckets b P) y ≡ true → next_link buckets b (link_prepared s v ∷ P) y ≡ next_link buckets b P y
      same zero there = refl
      same (suc t) there = grind (arith, nat_tests, loose b, λ (e : s ≡ t). ap (λ (q : ℕ). on 0 (chain buckets b P) (suc q)) e)

  pub words_show_chain : (slots : ℕ) (P : Trace) → Lawful buckets slots P → (b : ℕ) → IsShown buckets b P
  words_show_chain slots [] law b = record { shows = refl; within = tt }
  words_show_chain slots (linked k s p ∷ P) law b = linked_shown k s p P slots (words_show_chain slots P law.1) law.0 b
  words_show_chain slots (unlinked k s p ∷ P) law b = unlinked_shown k s p P (words_show_chain slots P law.1) law.0 b
  words_show_chain slots (key_prepared s v ∷ P) law b = key_shown s v b P (words_show_chain slots P law.1 b) law.0
  words_show_chain slots (link_prepared s v ∷ P) law b = link_shown s v b P (words_show_chain slots P law.1 b) law.0
  words_show_chain slots (e ∷ P) law b = grind (arith, words_show_chain slots P)
