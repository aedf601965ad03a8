-- Worked rows: what no notes of a run tell.
use Rattle.lz_machine.specs.declared.event.Event.TheVariants as event
use Rattle.lz_machine.specs.declared.event.Outcome.TheVariants as found
use Rattle.std.proofs.Common.{ℕ, Bool, List, [], ◌∷◌, Option, Some, None, subst}
use Rattle.lz_slot.specs.declared.{command.Command.TheVariants.{Add}, format.Format.TheVariants.{Two}}
use Rattle.lz_disk.specs.Images.{Medium}
use Rattle.lz_list.specs.{declared.publishing.Publishing.TheVariants.{Linked as linked}, Traces.{Trace}}
use Rattle.lz_machine.specs.Runs.{State, Up, Service, Caller, Start, Transition, Calls, Turn, Fails, caller_at, first_point, opened_service, run}
use Rattle.lz_machine.{specs.Yards.{Yard}, proofs.Open.FoundSlots.{pass_of}}
use Rattle.lz_board.specs.{declared.view.{Note.{Note}, What.TheVariants.{Called, Played}}, Notes.{note_by}}
use Rattle.lz_refinement.specs.NotedRuns.{IsTied, TellsOne, TellsStep, TellsTurn, TellsFault}

-- a reply where no call was made
abbrev pub unasked : Note
unasked = note_by 1 (Played event.Answer found.Done) None

none_replies : (start : Start) (step : Transition) → TellsStep (first_point start).state unasked step → ⊥
none_replies start (Calls a c) tells = let is = tells.1 in absurd cc
none_replies start (Turn a) tells =
    subst (λ (caller : Option Caller). TellsTurn (opened_service start.shape start.text) a caller unasked) (pass_of start.shape.passes a None) tells.1
none_replies start (Fails a new) tells =
    subst (λ (caller : Option Caller). TellsFault (opened_service start.shape start.text) caller unasked) (pass_of start.shape.passes a None) tells.1
none_replies start _ tells = tells

pub replies_unasked : (opened : Trace) (y : Yard) (honest : Bool) (disk : Medium) → IsTied opened (unasked ∷ []) y honest disk → ⊥
replies_unasked opened y honest disk tied =
    let (new, before, is, tells, none) = tied.reads in
    let one = subst (λ (steps : List Transition). TellsOne (run (first_point tied.start) steps).state unasked new) none tells in
    none_replies tied.start one.step one.tells

-- a call that publishes something as it begins
abbrev pub publishing_call : Note
publishing_call = note_by 1 (Called (Add 12) Two) (Some (linked 12 0 1))

none_turns : (service : Service) (a : ℕ) (caller : Option Caller) → TellsTurn service a caller publishing_call → ⊥
none_turns service a None tells = tells
none_turns service a (Some caller) tells = let is = tells.0 in absurd cc

none_fails : (service : Service) (caller : Option Caller) → TellsFault service caller publishing_call → ⊥
none_fails service None tells = tells
none_fails service (Some caller) tells = let is = tells.0 in absurd cc

none_calls : (w : State) (step : Transition) → TellsStep w publishing_call step → ⊥
none_calls (Up service disk) (Calls a c) tells = let is = tells.2 in absurd cc
none_calls (Up service disk) (Turn a) tells = none_turns service a (caller_at service.callers a) tells.1
none_calls (Up service disk) (Fails a new) tells = none_fails service (caller_at service.callers a) tells.1
none_calls w _ tells = tells

pub publishes_in_a_call : (opened : Trace) (ns : List Note) (y : Yard) (honest : Bool) (disk : Medium) → IsTied opened (publishing_call ∷ ns) y honest disk → ⊥
publishes_in_a_call opened ns y honest disk tied =
    let (new, before, is, tells, rest) = tied.reads in
    none_calls (run (first_point tied.start) before).state tells.step tells.tells
