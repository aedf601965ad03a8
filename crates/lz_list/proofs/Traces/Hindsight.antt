-- What a walker read of a node that was taken out was so in a state since it was pinned.
use Rattle.std.proofs.Common.{◌≡◌, ◌≢◌, ◌⊎◌, inl, inr, ℕ, zero, suc, ◌<◌, ◌≤◌, Bool, true, false, [], ◌∷◌, refl, sym, ap, ◌∙◌, subst, arith}
use Rattle.std.proofs.lemmas.Bool.Decides.{nat_tests}
use Rattle.lz_list.specs.{declared.publishing.Publishing.{Publishing}, Traces.{Trace, Begins, Chain, insert, without, on, place_before, rank_at, Adjacent}}
use Rattle.lz_list.specs.Traces.{bucket_of, chain, chain_of, place_of, key_word, node_next, next_link, Lawful, SettledNo}
use Rattle.lz_list.{specs.Pinned.{Once, Stood, IsKept, IsQuiet}, proofs.Chains.PlaceRank.{before_on, on_start, adjacent, adjacent_on, adjacent_next}}
use Rattle.lz_list.proofs.{Chains.TraceChain.{bucket_on, words_show_chain}, Traces.Absence.{adjacent_is_absent}}

-- the place before k stays when k is put in or taken out
before_insert : (k s x : ℕ) (c : Chain) → on x (insert k s c) (place_before k x c) ≡ true
before_insert k s x [] = grind arith
before_insert k s x (n ∷ c) = grind (arith, before_insert k s (suc n.1) c)

before_without : (k x : ℕ) (c : Chain) → on x (without k c) (place_before k x c) ≡ true
before_without k x [] = grind arith
before_without k x (n ∷ c) = grind (arith, before_without k (suc n.1) c, on_start x c)

pub once_begins : (P0 P : Trace) (A : Trace → Type 0) → Once P0 P A → Begins P0 P
once_begins P0 [] A once = once.0
once_begins P0 (e ∷ P) A once = grind (arith, once_begins P0 P)

pub once_weaker : (P0 P : Trace) (A B : Trace → Type 0) → ((R : Trace) → Begins P0 R → Begins R P → A R → B R) → Once P0 P A → Once P0 P B
once_weaker P0 [] A B f once = (once.0, f [] once.0 refl once.1)
once_weaker P0 (e ∷ P) A B f once = grind (arith, once_weaker P0 P)

pub once_from : (P0 R P : Trace) (A : Trace → Type 0) → Begins P0 R → Begins R P → A R → Once P0 P A
once_from P0 R [] A from to a = (rw to at from, rw to at a)
once_from P0 R (e ∷ P) A from to a = grind (arith, once_from P0 R P)

pub lawful_begins : (buckets slots : ℕ) (R P : Trace) → Begins R P → Lawful buckets slots P → Lawful buckets slots R
lawful_begins buckets slots R [] to law = rw to law
lawful_begins buckets slots R (e ∷ P) to law = grind (arith, lawful_begins buckets slots R P)

-- what a walker may rely on it could rely on before
pub quiet_begins : (buckets : ℕ) (P0 R P : Trace) → Begins R P → IsQuiet buckets P0 P → IsQuiet buckets P0 R
quiet_begins buckets P0 R [] to quiet = subst (IsQuiet buckets P0) (sym to) quiet
quiet_begins buckets P0 R (e ∷ P) to quiet = grind (arith, quiet_begins buckets P0 R P)

module _ (buckets slots : ℕ) (P0 : Trace) where
  -- a key word stays
  pub key_stays : (b t : ℕ) (e : Publishing) (P : Trace) → IsKept buckets P0 e P → Stood buckets b P0 P (suc t) → key_word t (e ∷ P) ≡ key_word t P
  key_stays b t e P kept stood = grind arith

  -- and names the bucket
  pub stood_bucket : (b t : ℕ) (P : Trace) → Lawful buckets slots P → IsQuiet buckets P0 P → Stood buckets b P0 P (suc t) → bucket_of buckets (key_word t P) ≡ b
  stood_bucket b t [] law quiet stood = absurd (grind (arith, nat_tests, stood.1))
  stood_bucket b t (e ∷ P) law quiet (inl now) =
      let shown = words_show_chain buckets slots (e ∷ P) law b in
      bucket_on buckets (next_link buckets b (e ∷ P)) (λ t. key_word t (e ∷ P)) b 0 (chain buckets b (e ∷ P)) shown.shows shown.within t now.1 (λ same. grind arith)
  stood_bucket b t (e ∷ P) law quiet (inr before) = rw (key_stays b t e P quiet.0 before) (stood_bucket b t P law.1 quiet.1 before)

  -- the place at which a word changes is a node of the key's bucket, before and after
  changed_place : (k t : ℕ) (P : Trace) → Lawful buckets slots P → place_of buckets k P ≡ suc t → bucket_of buckets (key_word t P) ≡ bucket_of buckets k
  changed_place k t P law is =
      let shown = words_show_chain buckets slots P law (bucket_of buckets k) in
      bucket_on buckets (next_link buckets (bucket_of buckets k) P) (λ t. key_word t P) (bucket_of buckets k) 0 (chain_of buckets k P) shown.shows shown.within t (ap (on 0 (chain_of buckets k P)) (sym is) ∙ before_on k 0 (chain_of buckets k P)) (λ same. grind arith)

  -- the next link of a node that isn't on its chain stays
  link_stays : (b t : ℕ) (e : Publishing) (P : Trace) → Lawful buckets slots P → IsKept buckets P0 e P → Stood buckets b P0 P (suc t) → bucket_of buckets (key_word t P) ≡ b → on 0 (chain buckets b (e ∷ P)) (suc t) ≡ false → node_next buckets t (e ∷ P) ≡ node_next buckets t P
  link_stays b t e P law kept stood in' off = grind (arith, changed_place, before_insert, before_without)

  pub stands : (b x : ℕ) (P : Trace) → Lawful buckets slots P → on 0 (chain buckets b P) x ≡ true → Adjacent 0 (chain buckets b P) x (next_link buckets b P x)
  stands b x P law there = adjacent (next_link buckets b P) (λ t. key_word t P) 0 (chain buckets b P) (words_show_chain buckets slots P law b).shows x there

  next_stays : (b x : ℕ) (e : Publishing) (P : Trace) → Lawful buckets slots P → IsKept buckets P0 e P → IsQuiet buckets P0 P → Stood buckets b P0 P x → on 0 (chain buckets b (e ∷ P)) x ≡ false → next_link buckets b (e ∷ P) x ≡ next_link buckets b P x
  next_stays b x e P law kept quiet stood off = grind (arith, on_start, link_stays, stood_bucket)

  -- a place that stood on the chain and the place that its next link names now stood next to each other
  pub hindsight : (b x : ℕ) (P : Trace) → Lawful buckets slots P → IsQuiet buckets P0 P → Stood buckets b P0 P x → Once P0 P (λ R. Adjacent 0 (chain buckets b R) x (next_link buckets b P x))
  hindsight b x [] law quiet stood = (stood.0, stands b x [] law stood.1)
  hindsight b x (e ∷ P) law quiet (inl now) = inl (now.0, stands b x (e ∷ P) law now.1)
  hindsight b x (e ∷ P) law quiet (inr before) = go (on 0 (chain buckets b (e ∷ P)) x) refl (hindsight b x P law.1 quiet.1 before)
    where
      go : (there : Bool) → on 0 (chain buckets b (e ∷ P)) x ≡ there → Once P0 P (λ R. Adjacent 0 (chain buckets b R) x (next_link buckets b P x)) → Once P0 (e ∷ P) (λ R. Adjacent 0 (chain buckets b R) x (next_link buckets b (e ∷ P) x))
      go true is once = inl (inr (once_begins P0 P (λ R. on 0 (chain buckets b R) x ≡ true) before), stands b x (e ∷ P) law is)
      go false is once = inr (subst (λ (n : ℕ). Once P0 P (λ R. Adjacent 0 (chain buckets b R) x n)) (sym (next_stays b x e P law.1 quiet.0 quiet.1 before is)) once)

  -- so the place that it names stood on the chain too
  pub next_stood : (b x n : ℕ) (P : Trace) → Once P0 P (λ R. Adjacent 0 (chain buckets b R) x n) → n ≢ 0 → Stood buckets b P0 P n
  next_stood b x n P once more = once_weaker P0 P (λ R. Adjacent 0 (chain buckets b R) x n) (λ R. on 0 (chain buckets b R) n ≡ true) (λ R from to adj. adjacent_next 0 (chain buckets b R) x n adj more) once

  -- the key word of a node that stood on the chain at R is still the same
  pub key_since : (b x : ℕ) (R P : Trace) → IsQuiet buckets P0 P → Begins P0 R → Begins R P → on 0 (chain buckets b R) x ≡ true → rank_at (λ t. key_word t P) x ≡ rank_at (λ t. key_word t R) x
  key_since b zero R P quiet from to there = refl
  key_since b (suc t) R [] quiet from to there = rw to
  key_since b (suc t) R (e ∷ P) quiet from (inl here) there = rw here
  key_since b (suc t) R (e ∷ P) quiet from (inr to) there =
      ap suc (key_stays b t e P quiet.0 (once_from P0 R P (λ S. on 0 (chain buckets b S) (suc t) ≡ true) from to there)) ∙ key_since b (suc t) R P quiet.1 from to there

  -- a walk that passed k's place: k's absence was settled in a state since the pin
  pub absent_since : (k x n : ℕ) (P : Trace) → Lawful buckets slots P → IsQuiet buckets P0 P → Once P0 P (λ R. Adjacent 0 (chain_of buckets k R) x n) → rank_at (λ t. key_word t P) x ≤ k → (n ≡ 0) ⊎ (suc k < rank_at (λ t. key_word t P) n) → Once P0 P (λ R. SettledNo R R k)
  absent_since k x n P law quiet once low high = grind (arith, once_weaker, key_since, adjacent_next, adjacent_is_absent, lawful_begins, adjacent_on)
