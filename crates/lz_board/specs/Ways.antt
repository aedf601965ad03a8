-- What a pass knows of what others did.
use Rattle.std.specs.Prelude.{ℕ, Bool}
use Rattle.lz_list.specs.Traces.{Trace, IsSettled}
use Rattle.lz_board.specs.Glances.{Between}

-- Yes or no for k was settled at some R since P0, as Q shows.
pub record Rests (k : ℕ) (side : Bool) (P0 Q : Trace) : Type 0 where
  pub then : Trace
  pub between : Between P0 then Q
  pub settled : IsSettled then Q k side
