-- Which passes may call a set. A set is named by its board.
use Rattle.lz_board.specs.{declared.pass.Pass.{Pass}, Seats.{BoardId, IsOf, part}}
use Rattle.lz_refinement.specs.Holds.{IsIdle}

-- the pass is one of this set, and outside: no call of it is under way
abbrev pub MayCall : BoardId → Pass → Type 0
MayCall b pass = IsOf b pass × IsIdle b.sizes (part pass)
