-- What a run leaves of a disk may be opened again.
use Rattle.std.proofs.Common.{inl, List, IsTrue, sym, subst}
use Rattle.lz_slot.specs.{declared.format.Format.{Format}, Bytes.{format_of}}
use Rattle.lz_disk.specs.{Images.{Medium, IsImage}, Devices.{Device}}
use Rattle.lz_vault.specs.{Stages.{Suits}, Opens.{MayOpen}}
use Rattle.lz_machine.specs.Runs.{State, Up, disk_of}
use Rattle.lz_machine.proofs.Theorem.{Formats.{formats_stay}, OneAdd.{run_sound}}
use Rattle.lz_board.specs.{declared.view.Note.{Note}, Notes.{shape_of_sizes, trace_of}, Seats.{BoardId}}
use Rattle.lz_refinement.{specs.Marks.{marks_in}, proofs.Marks.RunningSet.{locked_reached}}
use Rattle.lz_set.specs.Left.{IsLeft}

-- and what is read of an honest one is one of its images
pub left_seen : (b : BoardId) (first : Device) (ns : List Note) (disk : Device) → IsLeft b first ns disk → IsTrue disk.honest → IsImage disk.medium disk.medium.seen
left_seen b first ns disk left honest =
    let tie = left.locked.tied in
    let seen : IsImage tie.medium tie.medium.seen = subst (λ (w : State). IsImage (disk_of w) (disk_of w).seen) tie.state (run_sound tie.start tie.steps tie.starts tie.runs).seen in
    subst (λ (m : Medium). IsImage m m.seen) (sym (tie.device honest)) seen

pub left_may_open : (b : BoardId) (first : Device) (ns : List Note) (disk : Device) → IsLeft b first ns disk → MayOpen disk
left_may_open b first ns disk left honest =
    let tie = left.locked.tied in
    let same = tie.device honest in
    let reached = locked_reached b ns left.yard disk left.locked in
    let stays = formats_stay tie.start (Up tie.service tie.medium) (marks_in (shape_of_sizes b.sizes) ns) (trace_of b.opened ns) reached in
    let seen : IsImage tie.medium tie.medium.seen = subst (λ (m : Medium). IsImage m m.seen) same (left_seen b first ns disk left honest) in
    let suits : Suits (format_of tie.medium.seen) tie.medium = subst (λ (F : Format). Suits F tie.medium) (sym (stays.2 tie.medium.seen (inl seen))) stays.1 in
    subst (λ (m : Medium). Suits (format_of m.seen) m) (sym same) suits
