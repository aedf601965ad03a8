use Rattle.lz_judge.proofs.once.ranks_of.Given as goal
use Rattle.std.{proofs.Common.{◌≡◌, take}, specs.Prelude.{filter_map}}

abbrev pub invariant-loop-item : goal.invariant-loop-item
invariant-loop-item g l = l.ranks.items ≡ filter_map g.T.Keyed.key (take l.item-index l.items)
