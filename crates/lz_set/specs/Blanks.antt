-- A set that was opened and has no name yet.
use Rattle.std.specs.Prelude.{◌≡◌, ◌≤◌, ℕ, All, List, [], length, map}
use Rattle.lz_slot.specs.{declared.format.Format.{Format}, Sets.{HasMembers}, Limits.{most_buckets, most_passes}}
use Rattle.lz_disk.specs.Devices.{Device}
use Rattle.lz_allot.specs.Uses.{counts}
use Rattle.lz_machine.specs.Yards.{Yard}
use Rattle.lz_board.specs.{declared.{board.Pen.{Pen}, pass.Pass.{Pass}}, Plays.{parts_from}, Seats.{BoardId, IsNew, IsPenOf, notes as notes_of, part}}
use Rattle.lz_refinement.specs.{Holds.{IsLocked}, Lives.{LivesOn}, Moments.{LeftSince}, RunningSets.{members_of}}

-- The board that its name will have, its yard and its disk.
pub record BlankOver (D : Type 0) : Type 0 where
  pub board : BoardId
  pub yard : Yard
  pub disk : D

-- How many buckets and passes a board has, as a call is told.
pub record IsSized (b : BoardId) (B S : ℕ) : Type 0 where
  pub buckets : (B ≡ b.sizes.buckets) × (1 ≤ B) × (B ≤ most_buckets)
  pub passes : (S ≡ b.sizes.passes) × (1 ≤ S) × (S ≤ most_passes)

-- The passes of a board, in the order of their numbers, of which none has done anything yet.
pub record AreNew (b : BoardId) (ps : List Pass) : Type 0 where
  pub new : All (IsNew b) ps
  pub parts : map (λ p. part p) ps ≡ parts_from b.sizes b.opened b.sizes.passes 1

-- The yard may go under the lock with the board's pen, the passes are the board's, and as many slots are taken as it has members.
pub record IsBlank (b : BoardId) (p : Pen) (y : Yard) (disk : Device) (ps : List Pass) (B : ℕ) : Type 0 where
  pub pen : IsPenOf b p
  pub notes : notes_of p ≡ []
  pub locked : IsLocked b [] y disk
  pub passes : AreNew b ps
  pub sized : IsSized b B (length ps)
  pub begins : HasMembers (members_of b.opened) (counts y.uses).taken

-- A name may be given to the set: its values are the set's board, the file's format, and the disk as it is or was before, since
-- when nothing else could be left of it.
pub record MayBeNamed {D : Type 0} (device : D → Device) (b : BoardId) (first : Device) (F : Format) (blank : BlankOver D) : Type 0 where
  pub board : blank.board ≡ b
  pub since : LeftSince b first [] (device blank.disk)
  pub life : LivesOn F first [] blank.yard (device blank.disk)
