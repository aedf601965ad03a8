use Rattle.lz_scan_client.proofs.told.Told.add_all.Goals as goal
use Rattle.std.proofs.{Common.{ℕ, List, ◌++◌, subst}, lemmas.List.{take_all}}
use Rattle.lz_scan_client.{specs.Told.{AddsOnce, AreOnce}, proofs.OneEach.{keys_more}}

pub loop-rank-preserved : goal.loop-rank-preserved
loop-rank-preserved c =
    let old = c.loop-rank.self.keys.items in
    let new = c.add.new.self.keys.items in
    record {
      seen = c.in_default-add.ensures.seen;
      once = λ told are.
          keys_more 0 c.args.ranks.now told old new c.loop-rank.rank-index c.loop-rank-test.true (c.loop-rank.invariant.once told are)
          (subst (λ (k : ℕ). AddsOnce k old new) c.in-Some.ensures.rank c.in_default-add.ensures.once);
    }

pub returns-clause-once : goal.returns-clause-once
returns-clause-once c = λ told are.
    subst (λ (ks : List ℕ). AreOnce (told ++ ks) c.loop-rank.self.keys.items) (take_all c.loop-rank.rank-index c.args.ranks.now c.loop-rank-test.false)
    (c.loop-rank.invariant.once told are)
