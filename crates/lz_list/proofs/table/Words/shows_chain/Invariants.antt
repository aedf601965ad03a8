use Rattle.lz_list.proofs.table.Words.shows_chain.Given as goal
use Rattle.std.proofs.Common.{◌-◌, ◌^◌}
use Rattle.lz_list.{specs.{declared.word.Word.TheVariants.{Key}, Words.{get, place_number}, Traces.{rank_at}}, proofs.Searches.ChainSearch.{Reached}}

abbrev pub invariant-loop-slot : goal.invariant-loop-slot
invariant-loop-slot l = Reached l.self l.bucket l.place

abbrev pub decreases-loop-slot : goal.decreases-loop-slot
decreases-loop-slot l = 2 ^ 64 - rank_at (λ s. get l.self (Key s)) (place_number l.place)
