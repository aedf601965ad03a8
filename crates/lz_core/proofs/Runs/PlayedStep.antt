-- A step of a play leads from a world to a world.
use Rattle.std.proofs.Common.{◌≡◌, arith, inl, List, [], ◌∷◌, ◌++◌, refl, ◌∙◌, ap, subst, ℕ}
use Rattle.lz_slot.specs.declared.history.HistoryEvent.{HistoryEvent}
use Rattle.lz_core.specs.{declared.play.Step.{Step as PlayStep}, Trips.{GoesAsTripped, tripped_after}, Worlds.{WorldOver, Goes, StopsEarly, HasRun, PlaysOn}}
use Rattle.lz_machine.specs.{Yards.{Shape}, Runs.{State, Transition, shape_of, point_after}, Points.{IsBetweenLooks}}
use Rattle.lz_machine.proofs.Runs.ReachedPoint.{reach, shape_kept}
use Rattle.lz_judge.specs.MarkLines.{AreMarksOfRun}

pub leads : (old new : WorldOver) (play : PlayStep) (step : Transition) (marks : List HistoryEvent) → Goes old play step marks new → AreMarksOfRun marks
    → GoesAsTripped old.state old.tripped step → tripped_after old.tripped step ≡ new.tripped → PlaysOn old (play ∷ []) marks new
leads old new play step marks goes of_run as_tripped tripped p at = record {
  played = record {
    steps = step ∷ [];
    one_for_one = (rw at.state goes.is, refl);
    runs = (rw at.state goes.may, tt);
    state = rw (at.state, at.calls) goes.to;
    all_marks = rw (at.state, at.calls) (ap (λ (M : List HistoryEvent). M ++ p.marks) goes.told);
  };
  calls = rw at.calls goes.counts;
  reached = λ start h. reach start p step h (rw at.state goes.may);
  of_run = of_run;
  as_tripped = (rw at.state as_tripped, tt);
  tripped = tripped;
}

-- so the world has a run to where it is now
pub runs_on : (shape : Shape) (old new : WorldOver) (play : PlayStep) (step : Transition) (marks : List HistoryEvent) → HasRun shape old.state old.calls → Goes old play step marks new → IsBetweenLooks new.state → HasRun shape new.state new.calls
runs_on shape old new play step marks ran goes quiet = record {
  start = ran.start;
  shape = ran.shape;
  point = point_after ran.point step;
  reached = reach ran.start ran.point step ran.reached (rw ran.at.state goes.may);
  at = record { state = rw (ran.at.state, ran.at.calls) goes.to; calls = rw ran.at.calls goes.counts };
  quiet = quiet;
}

-- the yard's shape is the world's
pub shape_is : (shape : Shape) (w : State) (calls : ℕ) → HasRun shape w calls → shape_of w ≡ shape
shape_is shape w calls ran = subst (λ (s : State). shape_of s ≡ shape) ran.at.state (shape_kept ran.start ran.point ran.reached ∙ ran.shape)

-- a world that goes on by no step
pub stays : (w : WorldOver) → PlaysOn w [] [] w
stays w p at = record {
  played = record { steps = []; one_for_one = refl; runs = tt; state = at.state; all_marks = refl };
  calls = at.calls;
  reached = λ start h. h;
  of_run = tt;
  as_tripped = tt;
  tripped = refl;
}

pub early : (w : WorldOver) (plays : List PlayStep) → StopsEarly w plays w
early w plays = record { count = 0; few = omega arith; marks = []; mid = w; before = stays w; last = inl refl }
