use Rattle.lz_list.proofs.table.Words.is_sorted.Given as goal
use Rattle.std.proofs.Common.{ℕ, ◌<◌}
use Rattle.lz_list.specs.{Traces.{Chain}, Lists.{ShowsChain}}

abbrev pub invariant-loop-bucket : goal.invariant-loop-bucket
invariant-loop-bucket l = (b : ℕ) → b < l.bucket → (c : Chain) × ShowsChain l.self b c
