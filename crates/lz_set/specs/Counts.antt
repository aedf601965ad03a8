-- How many members a set has for sure.
use Rattle.std.specs.Prelude.{◌≡◌, ℕ, Bool, List}
use Rattle.lz_disk.specs.Images.{Medium}
use Rattle.lz_vault.specs.Opens.{open_count}
use Rattle.lz_machine.specs.Yards.{Yard}
use Rattle.lz_board.specs.{declared.view.{Note.{Note}, Part.{Part}}, Notes.{Extends, trace_of}, Plays.{knowing}, Seats.{BoardId}}
use Rattle.lz_refinement.specs.NotedRuns.{IsTied}

-- So many slots are open for sure at a moment between what the pass had seen before and what it has seen after, which is all that was published by then.
-- A slot whose opening isn't durable yet is none of them, nor is one that is being closed.
pub record CountsOpen (b : BoardId) (before after : Part) (n : ℕ) : Type 0 where
  pub notes : List Note
  pub yard : Yard
  pub honest : Bool
  pub medium : Medium
  pub tied : IsTied b.opened notes yard honest medium
  pub since : Extends (trace_of b.opened notes) before.known
  pub seen : after ≡ knowing (trace_of b.opened notes) before
  pub count : n ≡ open_count yard.vault.cells
