-- A key between two places that stand next to each other is absent, and its absence is settled.
use Rattle.std.proofs.Common.{◌≡◌, ◌≢◌, ◌⊎◌, inl, ℕ, suc, ◌<◌, ◌≤◌, true, false, ◌==◌, ◌||◌, [], ◌∷◌, refl, arith}
use Rattle.lz_list.specs.{declared.publishing.Publishing.TheVariants.{Linked as linked, Unlinked as unlinked}, Traces.{Trace, Begins, Chain, insert, without}}
use Rattle.lz_list.specs.Traces.{has_key, rank_at, Adjacent, chain_of, key_word, member, linking, is_removed, MayUnlink, Lawful, SettledNo}
use Rattle.lz_list.proofs.Chains.{PlaceRank.{adjacent_none}, TraceChain.{words_show_chain}}

pub begins_itself : (P : Trace) → Begins P P
begins_itself [] = refl
begins_itself (e ∷ P) = inl refl

pub has_insert : (k j s : ℕ) (c : Chain) → has_key k (insert j s c) ≡ ((j == k) || has_key k c)
has_insert k j s [] = refl
has_insert k j s (n ∷ c) = grind (arith, has_insert k j s c)

has_without : (k j : ℕ) (c : Chain) → j ≢ k → has_key k (without j c) ≡ has_key k c
has_without k j [] other = refl
has_without k j (n ∷ c) other = grind (arith, has_without k j c other)

-- k is no member, and its last linking, if any, is settled as removed
abbrev pub IsGone : ℕ → Trace → Type 0
IsGone k P = (member k P ≡ false) × ((linking k P ≡ 0) ⊎ (is_removed (linking k P) P ≡ true))

module _ (buckets k : ℕ) where
  gone_unlinked : (j s p : ℕ) (P : Trace) → MayUnlink buckets j s P → (has_key k (chain_of buckets k P) ≡ false → IsGone k P) → has_key k (chain_of buckets k (unlinked j s p ∷ P)) ≡ false → IsGone k (unlinked j s p ∷ P)
  gone_unlinked j s p P may gone none = grind (arith, has_without)

  pub unlinked_is_settled : (slots : ℕ) (P : Trace) → Lawful buckets slots P → has_key k (chain_of buckets k P) ≡ false → IsGone k P
  unlinked_is_settled slots [] law none = (refl, inl refl)
  unlinked_is_settled slots (linked j s p ∷ P) law none = grind (arith, unlinked_is_settled slots P law.1, has_insert)
  unlinked_is_settled slots (unlinked j s p ∷ P) law none = gone_unlinked j s p P law.0 (unlinked_is_settled slots P law.1) none
  unlinked_is_settled slots (e ∷ P) law none = grind (arith, unlinked_is_settled slots P law.1 none)

  -- between two places that stand next to each other
  pub adjacent_is_absent : (slots : ℕ) (P : Trace) → Lawful buckets slots P → (x n : ℕ) → Adjacent 0 (chain_of buckets k P) x n → rank_at (λ t. key_word t P) x ≤ k → (n ≡ 0) ⊎ (suc k < rank_at (λ t. key_word t P) n) → SettledNo P P k
  adjacent_is_absent slots P law x n adj low high = grind (arith, words_show_chain, unlinked_is_settled, adjacent_none, begins_itself)
