-- What passes see of keys without a call.
use Rattle.std.specs.Prelude.{ℕ, Bool}
use Rattle.lz_board.specs.{declared.pass.Pass.{Pass}, Glances.{Glanced}, Seats.{part}}

-- Whether a key was seen as a member, and the pass that looked, as it was before and after.
pub record Sighting : Type 0 where
  pub key : ℕ
  pub member : Bool
  pub before : Pass
  pub after : Pass

-- it was so, and settled, at a moment between the two
abbrev pub IsSight : Sighting → Type 0
IsSight s = Glanced s.key (part s.before).known (part s.after).known s.member
