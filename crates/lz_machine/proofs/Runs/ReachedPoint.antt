-- Points that a run reaches.
use Rattle.std.proofs.Common.{◌≡◌, ◌∷◌, ap, sym, subst, arith}
use Rattle.lz_machine.specs.{Points.{IsReached}, Runs.{Start, State, Transition, MayStep, shape_of, Point, point_after, first_point, Reached}}
use Rattle.lz_machine.proofs.Runs.Shape.{run_keeps_shape}

-- a point that is reached leads to another by a step that may be taken
pub reach : (start : Start) (p : Point) (step : Transition) → IsReached start p → MayStep p.state step → IsReached start (point_after p step)
reach start p step h may = record {
  steps = step ∷ h.steps;
  starts = h.starts;
  runs = (subst (λ (q : Point). MayStep q.state step) (sym h.point) may, h.runs);
  point = ap (λ (q : Point). point_after q step) h.point;
}

-- the shape of a state that is reached is that of its start
pub shape_kept : (start : Start) (p : Point) → IsReached start p → shape_of p.state ≡ start.shape
shape_kept start p h = subst (λ (q : Point). shape_of q.state ≡ start.shape) h.point (run_keeps_shape (first_point start) h.steps)

-- in words of states
pub as_reached : (start : Start) (p : Point) (w : State) → IsReached start p → p.state ≡ w → Reached start w p.marks p.trace
as_reached start p w h there = grind arith
