-- What a set leaves that was closed.
use Rattle.std.specs.Prelude.{◌≡◌, ◌⊎◌, ◌+◌, ◌≤◌, ◌<◌, All, List, map}
use Rattle.lz_disk.specs.Devices.{Device}
use Rattle.lz_vault.specs.Vaults.{last_sync}
use Rattle.lz_list.specs.Traces.{halt_word}
use Rattle.lz_machine.specs.{Halts.{HaltLasts, told_device}, Marks.{IsTold}, Yards.{Yard}}
use Rattle.lz_board.specs.{declared.view.{Note.{Note}, Part.{Part}}, Notes.{Extends, shape_of_sizes, steps_of, trace_of}, Plays.{knowing}, Seats.{BoardId}}
use Rattle.lz_refinement.specs.{Holds.{IsLocked}, Marks.{AreOfPasses, marks_in}, Moments.{ExplainedSince, RepliesStay}, OwnCalls.{TellsOwn}, RunningSets.{HasHistory}}
use Rattle.lz_refinement.specs.Sessions.{TellsAlone}

-- Whatever a crash leaves of the disk now explains what these notes show of calls and answers, and each text that a crash might
-- have left since it was like `first` what a beginning of them shows; one that it might have left since a reply was noted explains that
-- reply and all that was seen before. Each call that they show was made by a pass of the set that had
-- none open, and has ended once at most; none that was made after another was cut off is answered. One call at most was told that the
-- device failed in it, and only where it has failed since. They are a run of the machine, which led to this yard; where the set was
-- halted in it, the disk's last sync was made, or the device has failed since.
pub record IsLeft (b : BoardId) (first : Device) (ns : List Note) (disk : Device) : Type 0 where
  pub now : HasHistory b ns disk
  pub ever : ExplainedSince b first ns disk
  pub stays : RepliesStay b disk ns ns
  pub honest : disk.honest ≡ first.honest
  pub told : IsTold (marks_in (shape_of_sizes b.sizes) ns)
  pub halts : HaltLasts (marks_in (shape_of_sizes b.sizes) ns)
  pub device : told_device (marks_in (shape_of_sizes b.sizes) ns) ≤ 1
  pub faults : first.faults + told_device (marks_in (shape_of_sizes b.sizes) ns) ≤ disk.faults
  pub passes : AreOfPasses b.sizes.passes (marks_in (shape_of_sizes b.sizes) ns)
  pub yard : Yard
  pub locked : IsLocked b ns yard disk
  pub over : halt_word (trace_of b.opened ns) ≡ 1 → (last_sync ≤ yard.vault.syncs) ⊎ (first.faults < disk.faults)

-- A pass with this part has seen all that was published; its steps are those of the notes, so its replies stay from the moments that
-- it knows; the notes' calls of it are those that it made, with the replies that it got; and in a set of one pass the notes show nothing
-- else.
pub record IsWelcome (b : BoardId) (ns : List Note) (h : Part) : Type 0 where
  pub noted : steps_of h.number ns ≡ h.steps
  pub own : TellsOwn b ns h
  pub alone : b.sizes.passes ≡ 1 → TellsAlone b ns h

-- Besides, these parts of passes, which had seen a beginning of what was published, have become such ones.
pub record IsLeftWith (b : BoardId) (first disk : Device) (before after : List Part) : Type 0 where
  pub notes : List Note
  pub left : IsLeft b first notes disk
  pub since : All (λ (h : Part). Extends (trace_of b.opened notes) h.known) before
  pub seen : after ≡ map (knowing (trace_of b.opened notes)) before
  pub welcome : All (IsWelcome b notes) after
