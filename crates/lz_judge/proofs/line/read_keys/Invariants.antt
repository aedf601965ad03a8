use Rattle.lz_judge.proofs.line.read_keys.Given as goal
use Rattle.std.proofs.Common.{◌≡◌, ◌++◌, length, option_map}
use Rattle.lz_judge.specs.LinesRead.{keys_from, words_behind}

abbrev pub invariant-loop-rest : goal.invariant-loop-rest
invariant-loop-rest l = keys_from 0 (words_behind l.text) ≡ option_map (λ more. l.keys.items ++ more) (keys_from l.least (words_behind l.rest))

abbrev pub decreases-loop-rest : goal.decreases-loop-rest
decreases-loop-rest l = length (words_behind l.rest)
