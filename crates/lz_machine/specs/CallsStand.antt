-- What an open call rests on since its pass went in, in each state that is reached.
use Rattle.std.specs.Prelude.{◌≡◌, ℕ, suc, true, ◌%◌, ◌==◌, ◌&&◌, nat_le, if◌then◌else◌, Bool, List, [], ◌∷◌, length, Option, Some, None}
use Rattle.lz_disk.specs.Images.{Medium}
use Rattle.lz_vault.specs.declared.vault.Stage.TheVariants.{Closed}
use Rattle.lz_allot.specs.Uses.{is_outside}
use Rattle.lz_list.specs.{declared.publishing.Publishing.TheVariants.{Linked as linked, Marked as marked}, Pinned.{Stood}, Traces.{Trace, is_marked}}
use Rattle.lz_machine.specs.Runs.{Start, IsStart, Service, State, Up, Down, Transition, Point, IsRun, run, first_point, caller_at}
use Rattle.lz_machine.specs.{CallersSound.{CallerSound, view_of}, Table.{pin_of, is_sure}, Yards.{cell_at}}

-- the pass is outside
abbrev pub is_out : State → ℕ → Bool
is_out (Up service disk) a = is_outside (pin_of service.yard a)
is_out (Down shape disk) a = true

-- the trace of the newest state in which the pass was outside, which is that at which it went in
abbrev pub trace_outside : Point → List Transition → ℕ → Trace
trace_outside p [] a = p.trace
trace_outside p (step ∷ steps) a = if is_out (run p (step ∷ steps)).state a then (run p (step ∷ steps)).trace else trace_outside p steps a

-- the position of the newest linking or marking that was made for pass a, beyond the first n publishings
abbrev pub own_change : ℕ → ℕ → Trace → Option ℕ
own_change a n [] = None
own_change a n (linked k s p ∷ P) = if nat_le n (length P) && (p == a) then Some (length P) else own_change a n P
own_change a n (marked k s p ∷ P) = if nat_le n (length P) && (p == a) then Some (length P) else own_change a n P
own_change a n (_ ∷ P) = own_change a n P

-- Where a pass is inside, no slot that stood on a chain since it went in was prepared again; and its call, if it has one, may
-- rely on what `Relies` says of how far it has come, with the trace at which the pass went in: what its walk has met, the
-- change that was published for the pass since then, and what its answer rests on.
abbrev pub CallsStand : Type 0
CallsStand =
    (start : Start) (steps : List Transition) (service : Service) (disk : Medium) (a : ℕ)
    → IsStart start → IsRun (first_point start) steps → (run (first_point start) steps).state ≡ Up service disk
    → pin_of service.yard a % 2 ≡ 1
    → CallerSound (view_of service.yard.shape service.yard.vault service.yard.actors a) (pin_of service.yard a) (caller_at service.callers a)
    (trace_outside (first_point start) steps a) (run (first_point start) steps).trace
    (own_change a (length (trace_outside (first_point start) steps a)) (run (first_point start) steps).trace)

-- A slot that stood on a chain since a pass went in, and is marked with its last write durable, is closed: its settling is a
-- removal's.
abbrev pub MarkedIsClosed : Type 0
MarkedIsClosed =
    (start : Start) (steps : List Transition) (service : Service) (disk : Medium) (a b s : ℕ)
    → IsStart start → IsRun (first_point start) steps → (run (first_point start) steps).state ≡ Up service disk
    → pin_of service.yard a % 2 ≡ 1
    → Stood service.yard.shape.buckets b (trace_outside (first_point start) steps a) (run (first_point start) steps).trace (suc s)
    → is_marked s (run (first_point start) steps).trace ≡ true → is_sure service.yard s ≡ true
    → (cell_at service.yard s).stage ≡ Closed
