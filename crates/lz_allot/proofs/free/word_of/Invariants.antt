use Rattle.lz_allot.proofs.free.word_of.Given as goal
use Rattle.std.{proofs.Common.{◌≡◌, ℕ, ◌+◌, ◌<◌, ◌≤◌, if◌then◌else◌}, specs.Int.{bit_at}}
use Rattle.lz_allot.specs.Allots.{is_free_kind, kind_at}

abbrev pub invariant-loop-bit : goal.invariant-loop-bit
invariant-loop-bit l = record {
  told : (i : ℕ) → i < l.bit → bit_at l.word i ≡ (if is_free_kind (kind_at l.kinds (l.from + i)) then 1 else 0);
  rest : (i : ℕ) → l.bit ≤ i → i < 64 → bit_at l.word i ≡ 0;
}
