-- Runs one after the other.
use Rattle.std.proofs.Common.{◌≡◌, List, [], ◌∷◌, ◌++◌, refl, ap}
use Rattle.lz_machine.specs.Runs.{Transition, Point, point_after, run}

-- the steps of a run after those before
pub run_append : (p : Point) (later before : List Transition) → run (run p before) later ≡ run p (later ++ before)
run_append p [] before = refl
run_append p (step ∷ later) before = ap (λ (q : Point). point_after q step) (run_append p later before)
