use Rattle.lz_list.proofs.list.List.place_before.Given as goal
use Rattle.std.proofs.Common.{◌-◌}
use Rattle.lz_list.specs.{declared.word.Word.TheVariants.{Key}, Words.{get, place_number}, Traces.{rank_at}, Lists.{IsPredecessor}}

abbrev pub invariant-loop-slot : goal.invariant-loop-slot
invariant-loop-slot l = IsPredecessor l.self.words l.place l.key

abbrev pub decreases-loop-slot : goal.decreases-loop-slot
decreases-loop-slot l = l.key - rank_at (λ s. get l.self.words (Key s)) (place_number l.place)
