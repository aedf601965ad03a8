use Rattle.lz_list.proofs.table.Words.is_sorted.Goals as goal
use borrow.Author.Count.{below_more}
use Rattle.std.proofs.Common.{ℕ}
use Rattle.lz_list.specs.{Traces.{Chain}, Lists.{ShowsChain}}

pub loop-bucket-preserved : goal.loop-bucket-preserved
loop-bucket-preserved c = below_more (λ (b : ℕ). (x : Chain) × ShowsChain c.args.self.now b x) c.loop-bucket.bucket c.loop-bucket.invariant (c.shows_chain.ensures.0 c.if-not-shows_chain.false)
