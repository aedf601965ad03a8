-- What lies under the lock has a history: the main theorem, over the run as which the notes are read.
use Rattle.std.proofs.{lemmas.Bool.Decides.{nat_tests}, Common.{◌≡◌, inl, ℕ, List, ◌∷◌, [], length, sym, ap, ◌∙◌, subst, arith}}
use Rattle.lz_refinement.proofs.Vocabulary.{Device, Medium, IsImage, Holds, History, Life, Runs, Fits, ChainTo, last_history, Keys, Same, after, reply, key_of, Trace}
use Rattle.lz_refinement.proofs.Vocabulary.{member, Lasts, State, Up, Service, Transition, Reached, Start, IsStart, run, IsRun, first_point, start_keys, Shape, Yard}
use Rattle.lz_refinement.proofs.{Vocabulary.{first_trace, Note, shape_of_sizes, trace_of, BoardId}, Reading.TraceNotes.{trace_reads}, Marks.OneLife.{one_life}}
use Rattle.lz_refinement.{proofs.Marks.RunMarks.{marks_read}, specs.{NotedRuns.{ReadsAs}, Holds.{sizes_of, IsLocked}, Marks.{marks_in}}}
use Rattle.lz_refinement.specs.RunningSets.{members_of, Explains, HasHistory}
use Rattle.lz_slot.proofs.Sets.{after_same}
use Rattle.lz_machine.{specs.Runs.{shape_of as shape_in}, proofs.{Ledger.Membership.{upto_all}, Open.{FirstPoint.{one_set}, FirstState.{opened_up}}}}
use Rattle.lz_machine.proofs.{Runs.Shape.{run_keeps_shape}, Theorem.Reached.{every_history, what_lasts}}

-- of two sets with the same keys
lasts_same : (P : Trace) (M : History) (S T : Keys) → Same S T → Lasts P M S → Lasts P M T
lasts_same P M S T same h = record { has = λ k settled none. sym (same k) ∙ h.has k settled none; lacks = λ k settled none. sym (same k) ∙ h.lacks k settled none }

-- the same calls fit from a set with the same keys
runs_from : (M : History) (L : List ℕ) (S T U : Keys) → Same S T → Runs M S L U → Runs M T L U
runs_from M [] S T U same runs = λ k. sym (same k) ∙ runs k
runs_from M (i ∷ L) S T U same runs = grind (arith, nat_tests, reply, key_of, runs_from M L (after runs.0 S) (after runs.0 T) U (after_same runs.0 S T same) runs.3, after, after_same)

fits_from : (M : History) (L : List ℕ) (S T U : Keys) → Same S T → Fits S M L U → Fits T M L U
fits_from M L S T U same fits = record { once = fits.once; answered = fits.answered; not_refused = fits.not_refused; order = fits.order; runs = runs_from M L S T U same fits.runs }

-- The notes are read as this run, of a life that began with the board's first trace, and the run has come to this state.
module _ (b : BoardId) (ns : List Note) (start : Start) (steps : List Transition) (sizes : b.sizes ≡ sizes_of start.shape) (starts : IsStart start) (runs : IsRun (first_point start) steps) (reads : ReadsAs (first_point start) ns steps)
    (begins : b.opened ≡ (first_point start).trace) (service : Service) (medium : Medium) (state : (run (first_point start) steps).state ≡ Up service medium) where
  abbrev marks : History
  marks = marks_in (shape_of_sizes b.sizes) ns

  shape_is : shape_of_sizes b.sizes ≡ start.shape
  shape_is = ap shape_of_sizes sizes

  pub reached : Reached start (Up service medium) marks (trace_of b.opened ns)
  reached = grind (arith, marks_read, shape_is, trace_reads)

  -- the life began with the members of the board's first trace
  began : Same (start_keys start) (members_of b.opened)
  began k =
      let P = first_trace start.shape start.text in
      let first = (opened_up start.shape start.text (start_keys start) starts.buckets.0 starts.text starts.bytes start.bytewise 0 starts.suits).began in
      sym (first.members k) ∙ ap (member k) (upto_all (length P) P (omega arith) ∙ sym begins)

  -- each text that a crash may leave there explains what the notes show
  pub explained : (t : List ℕ) → IsImage medium t → Explains b ns t
  explained t image =
      let w = Up service medium in
      let every = every_history start w marks (trace_of b.opened ns) t reached (inl image) in
      let lasting = what_lasts start w marks (trace_of b.opened ns) t reached (inl image) in
      let life = one_life (shape_of_sizes b.sizes) (start_keys start) ns in
      let chain = subst (λ (l : List Life). ChainTo l every.0) life every.2 in
      record {
        found = every.0;
        holds = subst (λ (s : Shape). Holds t s.slots every.0) (sym shape_is) every.1;
        calls = chain.0;
        fits = fits_from marks chain.0 (start_keys start) (members_of b.opened) every.0 began chain.1;
        lasts = lasts_same (trace_of b.opened ns) marks lasting.0 every.0 (one_set t start.shape.slots lasting.0 every.0 lasting.1 every.1)
            (subst (λ (l : List Life). Lasts (trace_of b.opened ns) (last_history l) lasting.0) life lasting.2);
      }

-- the lock's notes are read as the run that its invariant names
pub locked_sizes : (b : BoardId) (ns : List Note) (y : Yard) (dev : Device) (locked : IsLocked b ns y dev) → b.sizes ≡ sizes_of locked.tied.start.shape
locked_sizes b ns y dev locked =
    let tie = locked.tied in
    locked.sizes ∙ ap sizes_of (tie.yard.shape ∙ subst (λ (w : State). shape_in w ≡ tie.start.shape) tie.state (run_keeps_shape (first_point tie.start) tie.steps))

pub locked_reached : (b : BoardId) (ns : List Note) (y : Yard) (dev : Device) (locked : IsLocked b ns y dev) → Reached locked.tied.start (Up locked.tied.service locked.tied.medium) (marks_in (shape_of_sizes b.sizes) ns) (trace_of b.opened ns)
locked_reached b ns y dev locked = let tie = locked.tied in reached b ns tie.start tie.steps (locked_sizes b ns y dev locked) tie.starts tie.runs tie.reads tie.begins tie.service tie.medium tie.state

pub history_of : (b : BoardId) (ns : List Note) (y : Yard) (dev : Device) → IsLocked b ns y dev → HasHistory b ns dev
history_of b ns y dev locked = λ honest t image.
    let tie = locked.tied in
    explained b ns tie.start tie.steps (locked_sizes b ns y dev locked) tie.starts tie.runs tie.reads tie.begins tie.service tie.medium tie.state t (subst (λ (m : Medium). IsImage m t) (tie.device honest) image)
