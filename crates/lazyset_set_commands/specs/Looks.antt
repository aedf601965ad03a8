-- A look of a pass at one key, before its calls.
use Rattle.std.specs.Prelude.{◌≡◌, ℕ, Bool, true, false, Result, Ok}
use Rattle.lz_board.specs.declared.{answer.{Glance.{Glance, TheVariants.{Yes}}, GlanceFault.{GlanceFault}}, view.Part.{Part}}
use Rattle.lz_board.specs.{Glances.{Glances}, Walkers.{KeepsCall}}

-- the glance has found the key
abbrev pub is_yes : Result Glance GlanceFault → Bool
is_yes (Ok Yes) = true
is_yes other = false

-- It has glanced at the key, and says whether that was there for sure. It has made no call.
pub record HasLooked (k : ℕ) (yes : Bool) (before after : Part) : Type 0 where
  pub answer : Result Glance GlanceFault
  pub says : yes ≡ is_yes answer
  pub glances : Glances k answer before after
  pub keeps : KeepsCall before after
