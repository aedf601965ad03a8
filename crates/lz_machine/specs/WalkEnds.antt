-- What the end of a walk tells: hindsight, in each state that is reached.
use Rattle.std.specs.Prelude.{◌≡◌, ℕ, true, false, List, Option, Some}
use Rattle.lz_slot.specs.Sets.{key_of}
use Rattle.lz_disk.specs.Images.{Medium}
use Rattle.lz_list.specs.{declared.walk.{Look.{Look}, Met.{Met, TheVariants.{Absent, Unmarked, Marked}}}, Words.{get}, Walks.{Hopped, More, End, wants, hopped}}
use Rattle.lz_list.specs.{Traces.{Trace, flags_after, IsNode, SettledYes, SettledNo}, Pinned.{Once}}
use Rattle.lz_machine.specs.declared.caller.Progress.TheVariants.{Walking}
use Rattle.lz_machine.specs.{Runs.{Start, IsStart, Service, Caller, Up, Transition, IsRun, run, first_point, caller_at}, CallsStand.{trace_outside}}

-- since the trace P0 there was one at which k was no member, and its last change covered
abbrev pub WasSurelyAbsent : ℕ → Trace → Trace → Type 0
WasSurelyAbsent k P0 P = Once P0 P (λ R. SettledNo R R k)

-- What a walk for k has met at its end. Past k's place: k was surely absent. An unmarked node: it is k's, and with the flag of
-- adding k is surely a member. A marked node: with the flag of removing k was surely absent, and without it the node is k's.
abbrev pub MetTells : ℕ → Trace → Trace → Met → Type 0
MetTells k P0 P Absent = WasSurelyAbsent k P0 P
MetTells k P0 P (Unmarked s flags) = (flags ≡ flags_after s P) × IsNode k s P × (flags.add_settled ≡ true → SettledYes P P k)
MetTells k P0 P (Marked s flags) =
    (flags ≡ flags_after s P) × (flags.remove_settled ≡ true → WasSurelyAbsent k P0 P) × (flags.remove_settled ≡ false → IsNode k s P)

-- a walk goes on, or has ended and tells this
abbrev pub HopTells : ℕ → Trace → Trace → Hopped → Type 0
HopTells k P0 P (More look) = Unit {0}
HopTells k P0 P (End pred curr met) = MetTells k P0 P met

-- In each state that is reached the next load of a walk tells this, with the trace at which the walk's pass went in.
abbrev pub WalkEnds : Type 0
WalkEnds =
    (start : Start) (steps : List Transition) (service : Service) (disk : Medium) (a : ℕ) (caller : Caller) (aim : Option ℕ) (look : Look)
    → IsStart start → IsRun (first_point start) steps → (run (first_point start) steps).state ≡ Up service disk
    → caller_at service.callers a ≡ Some caller → caller.progress ≡ Walking aim look
    → HopTells (key_of caller.command) (trace_outside (first_point start) steps a) (run (first_point start) steps).trace
    (hopped service.yard.shape.buckets (key_of caller.command) look (get service.yard.words (wants service.yard.shape.buckets (key_of caller.command) look)))
