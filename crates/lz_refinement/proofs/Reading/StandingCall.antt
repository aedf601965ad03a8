-- What the open call of a pass that is inside may rely on, by the notes: with the trace at which the pass went in, and the
-- trace as it is.
use Rattle.std.proofs.Common.{◌≡◌, ℕ, ◌%◌, ◌≤◌, true, List, [], ◌∷◌, ◌++◌, map, length, refl, sym, ap, ◌∙◌, subst, Option, Some, None, is_some}
use Rattle.lz_refinement.proofs.Vocabulary.{Command, Medium, Trace, Progress, Shape, pin_of, CallerSound, view_of, own_change, Start, IsStart, Up, Service, Transition}
use Rattle.lz_refinement.proofs.Vocabulary.{run, IsRun, first_point, caller_at, Note, Load, trace_of, load_note, place, placed, pin_after, turned_at}
use Rattle.lz_refinement.{proofs.Reading.{TraceNotes.{trace_reads}, PinWords.{pin_in_state, pin_reads}, TurnedTrace.{turned_outside}}, specs.NotedRuns.{ReadsAs}}
use Rattle.lz_machine.{specs.declared.event.{Event.TheVariants.{Hop}, Outcome.TheVariants.{Value}}, proofs.Theorem.TraceOutside.{calls_stand}}
use Rattle.lz_board.specs.declared.view.What.TheVariants.{Played}

-- a call that is open after some loads was open before them
pub still_calling : (shape : Shape) (p : ℕ) (hs : List Load) (steps : List Note) → is_some (place shape (map (load_note p) hs ++ steps)) ≡ true → is_some (place shape steps) ≡ true
still_calling shape p [] steps is = is
still_calling shape p (h ∷ hs) steps is = still_calling shape p hs steps (before (place shape (map (load_note p) hs ++ steps)) is)
  where
    before : (at : Option (Command × Progress)) → is_some (placed shape (Played (Hop h.word) (Value h.value)) at) ≡ true → is_some at ≡ true
    before None is = is
    before (Some call) is = refl

pub call_relies : (start : Start) (starts : IsStart start) (ns : List Note) (steps : List Transition) (service : Service) (disk : Medium)
    → IsRun (first_point start) steps → ReadsAs (first_point start) ns steps → (run (first_point start) steps).state ≡ Up service disk
    → (q : ℕ) → 1 ≤ q → q ≤ start.shape.passes → pin_after q ns % 2 ≡ 1
    → CallerSound (view_of service.yard.shape service.yard.vault service.yard.actors q) (pin_of service.yard q) (caller_at service.callers q)
    (turned_at q (first_point start).trace ns) (trace_of (first_point start).trace ns)
    (own_change q (length (turned_at q (first_point start).trace ns)) (trace_of (first_point start).trace ns))
call_relies start starts ns steps service disk runs reads at q low high inside =
    let pin : pin_of service.yard q ≡ pin_after q ns = ap (λ w. pin_in_state start starts w q) (sym at) ∙ pin_reads start starts ns steps runs reads q low high in
    subst (λ (x : Trace × Trace). CallerSound (view_of service.yard.shape service.yard.vault service.yard.actors q) (pin_of service.yard q) (caller_at service.callers q) x.0 x.1 (own_change q (length x.0) x.1))
    (λ i. (turned_outside start starts ns steps runs reads q low high inside i, trace_reads (first_point start) ns steps reads i))
    (calls_stand start steps service disk q starts runs at (ap (λ v. v % 2) pin ∙ inside))
