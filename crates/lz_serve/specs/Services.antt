-- How a service by some passes ends.
use Rattle.std.specs.{Prelude.{◌≡◌, All, List, false, map, true, vec_len}, List.{Any}}
use Rattle.std.specs.Global.{Vec}
use Rattle.lz_board.specs.{declared.{pass.Pass.{Pass}, view.Part.{Part}}, Seats.{BoardId, part}}
use Rattle.lz_set.specs.Names.{MayCall}
use Rattle.lz_serve.specs.{declared.server.Served.{Served}, Halts.{IsCalmAfter, SawHalt}}

-- what belongs to each of these passes
abbrev pub parts_of : List Pass → List Part
parts_of passes = map (λ pass. part pass) passes

-- It hands back as many passes as it was given, each of which may call: the same, as they were, where it served nobody. It tells of a halt
-- only where one of them has seen it, and of none only where no call of them was cut off, if none was of these parts.
pub record Serves (b : BoardId) (before : List Part) (given : Vec Pass) (served : Served) : Type 0 where
  pub may_call : All (MayCall b) served.passes.items
  pub count : vec_len served.passes ≡ vec_len given
  pub unserved : served.unserved ≡ true → served.passes.items ≡ given.items
  pub halted : served.halted ≡ true → Any SawHalt served.passes.items
  pub calm : served.halted ≡ false → All (IsCalmAfter before) served.passes.items
