use Rattle.lz_scan_client.proofs.told.Told.add_all.Given as goal
use Rattle.std.{proofs.Common.{ℕ, List, ◌++◌, take, Some}, specs.Prelude.{map}}
use Rattle.lz_judge.specs.Places.{IsTable}
use Rattle.lz_scan_client.specs.Told.{AreOnce}

abbrev pub invariant-loop-rank : goal.invariant-loop-rank
invariant-loop-rank l = record {
  seen : IsTable (map Some l.self.keys.items) l.self.seen;
  once : (told : List ℕ) → AreOnce told l.initial.self.keys.items → AreOnce (told ++ take l.rank-index l.ranks) l.self.keys.items;
}
