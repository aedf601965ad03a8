-- What a pass has seen of its set's end, and what its calls were told of it.
use Rattle.std.specs.Prelude.{◌≡◌, Bool, false, All, List, Option, Some, None}
use Rattle.lz_list.specs.Traces.{Begins, halt_word}
use Rattle.lz_machine.specs.declared.event.Reply.{Reply}
use Rattle.lz_board.specs.{declared.{pass.Pass.{Pass}, view.Part.{Part}}, Notes.{shape_of_sizes}, Plays.{knowing}, Seats.{part}}
use Rattle.lz_refinement.specs.{OwnCalls.{told}, Sessions.{cuts_off}}

-- the pass has seen that the set was halted
abbrev pub SawHalt : Pass → Type 0
SawHalt pass = halt_word (part pass).known ≡ 1

-- a call with this reply, if it has one, was answered that the set is halted or that the device failed
abbrev pub was_cut : Option Reply → Bool
was_cut None = false
was_cut (Some reply) = cuts_off reply

-- none of the calls that the pass has made was answered so
abbrev pub IsCalm : Part → Type 0
IsCalm h = All (λ call. was_cut call.1 ≡ false) (told (shape_of_sizes h.sizes) h.steps)

-- the pass is calm where all of these were
abbrev pub IsCalmAfter : List Part → Pass → Type 0
IsCalmAfter given pass = All IsCalm given → IsCalm (part pass)

-- The pass has seen all that it had, and all else that belongs to it is as it was.
pub record SeesMore (old new : Pass) : Type 0 where
  pub grows : Begins (part old).known (part new).known
  pub kept : part new ≡ knowing (part new).known (part old)
