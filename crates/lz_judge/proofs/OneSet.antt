-- Two files hold one set exactly where no flaw of a renewal is true of them.
use Rattle.std.proofs.Common.{◌≡◌, ◌↔◌, ℕ, ◌+◌, ◌*◌, ◌<◌, true, false, List, length, refl, sym, ◌∙◌, ap, subst, arith, IsTrue, Ok, Err, All}
use Rattle.std.{proofs.lemmas.Bool.{cases_lt}, specs.Cmp.{both_ways}}
use Rattle.lz_slot.specs.{Bytes.{Holds, header_read, slot_at}, Sets.{Keys}, declared.slot.SlotRead.TheVariants.{Member}}
use Rattle.lz_slot.proofs.Files.HeldSets.{holds_same_set}
use Rattle.lz_judge.specs.declared.{renewing.RenewFlaw.{RenewFlaw, TheVariants.{NotHeld, Missing, Extra}}, finding.Finding.{Finding}}
use Rattle.lz_judge.specs.Surveys.{AreFindings, found_keys}
use Rattle.lz_judge.specs.Renewals.{AreHeld, HoldOneSet, IsFirstOutside, IsLowestOutside, IsRenewFlaw, IsWithin, OneVerdict}
use Rattle.lz_judge.proofs.{Surveys.{SoundFile.{held_head}, SlotFinding.{set_found, sound_where}}, KeysOutside.{all_within, lowest_outside}}

-- the key of a slot is a member of each set that the file holds
pub held_member : (t : List ℕ) (N M : ℕ) (S : Keys) (i k : ℕ) → length t ≡ 16 + 16 * N → Holds t M S → i < N → slot_at t i ≡ Member k → IsTrue (S k)
held_member t N M S i k size held lt is = (held.set k).1 (i, omega (arith, size, held.size, lt), is)

-- two sets that one file holds are one
pub held_alike : (t : List ℕ) (N M : ℕ) (S T : Keys) → Holds t N S → Holds t M T → (k : ℕ) → IsTrue (S k) → IsTrue (T k)
held_alike t N M S T one other k is = let (i, lt, at) = (one.set k).0 is in held_member t N M T i k one.size other lt at

apart : (t u : List ℕ) (N M : ℕ) (T : Keys) (i : ℕ) → length t ≡ 16 + 16 * N → Holds u M T → IsLowestOutside t N T i
    → (S : Keys) (n m : ℕ) → Holds t n S → Holds u m S → ⊥
apart t u N M T i size other low S n m one same =
    let has : IsTrue (S low.outside.0) = held_member t N n S i low.outside.0 size one low.below low.outside.1 in
    let in_other : IsTrue (T low.outside.0) = held_alike u m M S T same other low.outside.0 has in
    let e : true ≡ false = sym in_other ∙ low.outside.2 in cc

-- no flaw is true of two files that hold one set
pub flaw_parts : (old new : List ℕ) (flaw : RenewFlaw) → IsRenewFlaw old new flaw → HoldOneSet old new → ⊥
flaw_parts old new NotHeld none (S, (N, one), (M, other)) = none (N, S, one) (M, S, other)
flaw_parts old new (Missing i) (N, M, S, T, kept, given, low) (R, (n, one), (m, other)) = apart old new N M T i kept.size given low R n m one other
flaw_parts old new (Extra j) (N, M, S, T, kept, given, within, low) (R, (n, one), (m, other)) = apart new old M N S j given.size kept low R m n other one

-- each set within the other is one set
pub one_set : (old new : List ℕ) (N M : ℕ) (S T : Keys) → Holds old N S → Holds new M T → ((k : ℕ) → IsTrue (S k) → IsTrue (T k)) → ((k : ℕ) → IsTrue (T k) → IsTrue (S k)) → HoldOneSet old new
one_set old new N M S T one other to from = (S, (N, one), (M, holds_same_set new M T S (λ k. both_ways (T k) (S k) (from k) (to k)) other))

-- the findings of a file that holds a set
pub held_found : (t : List ℕ) (found : List Finding) (N : ℕ) → header_read t (length t) ≡ Ok N → AreFindings (slot_at t) N found → (M : ℕ) (S : Keys) → Holds t M S → AreHeld t found
held_found t found N head findings M S held = record {
  slots = N;
  findings = findings;
  held = holds_same_set t N S (found_keys found) (λ k. both_ways (S k) (found_keys found k) (λ has. (is_found k).1 ((holds.set k).0 has)) (λ has. (holds.set k).1 ((is_found k).0 has))) holds;
}
  where
    same : M ≡ N
    same = let e : Ok M ≡ Ok N = sym (held_head t M S held) ∙ head in cc

    holds : Holds t N S
    holds = subst (λ (n : ℕ). Holds t n S) same held

    is_found : (k : ℕ) → IsTrue (found_keys found k) ↔ ((i : ℕ) × (i < N) × (slot_at t i ≡ Member k))
    is_found k = set_found (slot_at t) N found findings (sound_where (slot_at t) N found findings holds.no_bad_key holds.no_key_twice) k

-- what a search of the findings of two files tells
module _ (old new : List ℕ) (before after : List Finding) (kept : AreHeld old before) (given : AreHeld new after) where
  pub missing : (slot : ℕ) → IsFirstOutside (found_keys after) before slot → IsRenewFlaw old new (Missing slot)
  missing slot first = (
    kept.slots,
    given.slots,
    found_keys before,
    found_keys after,
    kept.held,
    given.held,
    lowest_outside old before kept (found_keys after) slot first,
  )

  -- each key of the old file is in the new one
  pub none_missing : All (IsWithin (found_keys after)) before → (k : ℕ) → IsTrue (found_keys before k) → IsTrue (found_keys after k)
  none_missing each = all_within old before kept (found_keys after) each

  pub extra : ((k : ℕ) → IsTrue (found_keys before k) → IsTrue (found_keys after k)) → (slot : ℕ) → IsFirstOutside (found_keys before) after slot → IsRenewFlaw old new (Extra slot)
  extra inside slot first = (
    kept.slots,
    given.slots,
    found_keys before,
    found_keys after,
    kept.held,
    given.held,
    inside,
    lowest_outside new after given (found_keys before) slot first,
  )

  pub none_extra : ((k : ℕ) → IsTrue (found_keys before k) → IsTrue (found_keys after k)) → All (IsWithin (found_keys before)) after → HoldOneSet old new
  none_extra inside each = one_set old new kept.slots given.slots (found_keys before) (found_keys after) kept.held given.held inside (all_within new after given (found_keys before) each)

-- One verdict alone
lowest_alone : (t : List ℕ) (N M : ℕ) (T U : Keys) (i j : ℕ) → ((k : ℕ) → IsTrue (T k) → IsTrue (U k)) → ((k : ℕ) → IsTrue (U k) → IsTrue (T k)) → IsLowestOutside t N T i → IsLowestOutside t M U j → i ≡ j
lowest_alone t N M T U i j to from one other = grind (arith, cases_lt)

-- a key of the old file that is missing, where the new one has each of its keys
not_both : (old new : List ℕ) (N M n m : ℕ) (S T R U : Keys) (i : ℕ) → Holds old N S → Holds new M T → Holds old n R → Holds new m U → ((k : ℕ) → IsTrue (R k) → IsTrue (U k)) → IsLowestOutside old N T i → ⊥
not_both old new N M n m S T R U i kept given kept' given' inside low =
    let has : IsTrue (R low.outside.0) = held_member old N n R i low.outside.0 kept.size kept' low.below low.outside.1 in
    let there : IsTrue (T low.outside.0) = held_alike new m M U T given' given low.outside.0 (inside low.outside.0 has) in
    let e : true ≡ false = sym there ∙ low.outside.2 in cc

flaw_alone : (old new : List ℕ) (one other : RenewFlaw) → IsRenewFlaw old new one → IsRenewFlaw old new other → one ≡ other
flaw_alone old new NotHeld NotHeld none also = refl
flaw_alone old new NotHeld (Missing j) none (N, M, S, T, kept, given, low) = absurd (none (N, S, kept) (M, T, given))
flaw_alone old new NotHeld (Extra j) none (N, M, S, T, kept, given, inside, low) = absurd (none (N, S, kept) (M, T, given))
flaw_alone old new (Missing i) NotHeld (N, M, S, T, kept, given, low) none = absurd (none (N, S, kept) (M, T, given))
flaw_alone old new (Extra i) NotHeld (N, M, S, T, kept, given, inside, low) none = absurd (none (N, S, kept) (M, T, given))
flaw_alone old new (Missing i) (Missing j) (N, M, S, T, kept, given, low) (n, m, R, U, kept', given', low') =
    ap Missing (lowest_alone old N n T U i j (held_alike new M m T U given given') (held_alike new m M U T given' given) low low')
flaw_alone old new (Extra i) (Extra j) (N, M, S, T, kept, given, inside, low) (n, m, R, U, kept', given', inside', low') =
    ap Extra (lowest_alone new M m S R i j (held_alike old N n S R kept kept') (held_alike old n N R S kept' kept) low low')
flaw_alone old new (Missing i) (Extra j) (N, M, S, T, kept, given, low) (n, m, R, U, kept', given', inside, low') = absurd (not_both old new N M n m S T R U i kept given kept' given' inside low)
flaw_alone old new (Extra i) (Missing j) (n, m, R, U, kept', given', inside, low') (N, M, S, T, kept, given, low) = absurd (not_both old new N M n m S T R U j kept given kept' given' inside low)

pub one_verdict : OneVerdict
one_verdict old new (Ok one) (Ok other) is also = refl
one_verdict old new (Ok one) (Err flaw) is also = absurd (flaw_parts old new flaw also is)
one_verdict old new (Err flaw) (Ok other) is also = absurd (flaw_parts old new flaw is also)
one_verdict old new (Err one) (Err other) is also = ap Err (flaw_alone old new one other is also)
