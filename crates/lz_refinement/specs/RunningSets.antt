-- What a set that runs says of a crash: whatever is left of its disk explains what callers have seen.
use Rattle.std.specs.Prelude.{ℕ, IsTrue, List}
use Rattle.lz_slot.specs.{Bytes.{Holds}, Histories.{Fits}, Sets.{Keys}}
use Rattle.lz_disk.specs.{Devices.{Device}, Images.{IsImage}}
use Rattle.lz_list.specs.Traces.{Trace, member}
use Rattle.lz_machine.specs.Lasts.{Lasts}
use Rattle.lz_board.specs.{declared.view.Note.{Note}, Notes.{shape_of_sizes, trace_of}, Seats.{BoardId}}
use Rattle.lz_refinement.specs.Marks.{marks_in}

-- the set of a trace's members
abbrev pub members_of : Trace → Keys
members_of P k = member k P

-- The text holds a set. From the set with which the life began some of the calls lead to it, in an order that the history
-- allows, and each answered one with its answer; what was settled is in it.
pub record Explains (b : BoardId) (ns : List Note) (t : List ℕ) : Type 0 where
  pub found : Keys
  pub holds : Holds t b.sizes.slots found
  pub calls : List ℕ
  pub fits : Fits (members_of b.opened) (marks_in (shape_of_sizes b.sizes) ns) calls found
  pub lasts : Lasts (trace_of b.opened ns) (marks_in (shape_of_sizes b.sizes) ns) found

-- Whatever a crash leaves of an honest device's disk now explains what the notes show of calls and answers.
abbrev pub HasHistory : BoardId → List Note → Device → Type 0
HasHistory b ns disk = IsTrue disk.honest → (t : List ℕ) → IsImage disk.medium t → Explains b ns t
