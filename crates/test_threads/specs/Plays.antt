-- A pass with a call under way, which it has begun and plays on.
use Rattle.lz_machine.specs.Orders.{Calling}
use Rattle.lz_board.specs.{declared.pass.Pass.{Pass}, Seats.{BoardId, IsOf, part}}
use Rattle.lz_refinement.specs.Counting.{IsCounted}

abbrev pub IsPlay : BoardId → Pass → Calling → Type 0
IsPlay b pass call = IsOf b pass × IsCounted b call (part pass)
