-- What notes tell of the run that they are read as.
use Rattle.std.proofs.Common.{arith, ◌≡◌, ℕ, zero, suc, List, [], ◌∷◌, ◌++◌, refl, sym, ap, ◌∙◌, replicate, Option, Some, None}
use Rattle.std.proofs.lemmas.Bool.Decides.{nat_tests}
use Rattle.lz_refinement.proofs.Vocabulary.{Trace, State, Up, Service, Caller, Transition, Calls, Turn, Fails, Looks, Point, run, caller_at, trace_after}
use Rattle.lz_refinement.{proofs.Vocabulary.{turn_publishes, Note, as_list, trace_of}, specs.NotedRuns.{TellsTurn, TellsStep, NoteTells, ReadsAs}}

-- looks publish nothing
pub looks_trace : (p : Point) (k q : ℕ) (before : List Transition) → (run p (replicate k (Looks q) ++ before)).trace ≡ (run p before).trace
looks_trace p zero q before = refl
looks_trace p (suc k) q before = grind (arith, nat_tests, run, looks_trace p k q before, trace_after)

turn_trace : (service : Service) (a : ℕ) (caller : Option Caller) (n : Note) → TellsTurn service a caller n → turn_publishes service a caller ≡ as_list n.published
turn_trace service a None n t = absurd t
turn_trace service a (Some caller) n t = sym t.1

step_trace : (w : State) (P : Trace) (n : Note) (step : Transition) → TellsStep w n step → trace_after w P step ≡ as_list n.published ++ P
step_trace (Up service disk) P n (Calls a c) t = ap (λ x. as_list x ++ P) (sym t.2)
step_trace (Up service disk) P n (Turn a) t = ap (λ l. l ++ P) (turn_trace service a (caller_at service.callers a) n t.1)
step_trace (Up service disk) P n (Fails a new) t = grind (arith, nat_tests, caller_at, as_list)
step_trace _ P n _ t = absurd t

note_trace : (p : Point) (n : Note) (new before : List Transition) → NoteTells (run p before).state n new → (run p (new ++ before)).trace ≡ as_list n.published ++ (run p before).trace
note_trace p n new before t = grind (arith, nat_tests, run, as_list, step_trace, looks_trace)

-- the trace of the run is that of the notes
pub trace_reads : (p : Point) (ns : List Note) (steps : List Transition) → ReadsAs p ns steps → (run p steps).trace ≡ trace_of p.trace ns
trace_reads p [] steps r = ap (λ l. (run p l).trace) r
trace_reads p (n ∷ ns) steps (new, before, is, tells, rest) = ap (λ l. (run p l).trace) is ∙ note_trace p n new before tells ∙ ap (λ P. as_list n.published ++ P) (trace_reads p ns before rest)
