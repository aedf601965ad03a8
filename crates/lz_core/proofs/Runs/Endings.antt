-- A world is tripped, stopped or crashed.
use Rattle.std.proofs.{Common.{arith, ◌≡◌, ℕ, suc, Bool, List, [], ◌∷◌, Option, Some, None, refl, sym, ◌∙◌, ap}, lemmas.Bool.Decides.{nat_tests}}
use Rattle.lz_slot.specs.declared.history.HistoryEvent.{HistoryEvent, TheVariants.{Stop as stopped, Crash as crashed}}
use Rattle.lz_disk.specs.{Images.{IsImage, at_rest}, declared.memory.Pick.{Pick}, Picks.{left_by}, Records.{Past}}
use Rattle.lz_core.specs.declared.{play.Step.{Step as PlayStep, TheVariants.{Trip, Stop, Crash}}, open_calls.OpenCall.{OpenCall}}
use Rattle.lz_core.{specs.Worlds.{WorldOver, Goes, HasRun, HasOne, IsWorld, state_shown, world_shown, disk_shown}, proofs.Runs.PlayedStep.{runs_on, shape_is}}
use Rattle.lz_machine.specs.{Yards.{Shape}, Runs.{State, Up, Down, Transition, Trips, Stops, Crashes, MayStep, disk_of, state_after, marks_of, shape_of}}
use Rattle.lz_machine.specs.Points.{IsBetweenLooks}
use Rattle.lz_yard.specs.Parts.{YardOver}

-- what a world shows of its disk
pub disk_is : (shape : Shape) (yard : Option (YardOver Past)) (disk : Option Past) (callers : List (Option OpenCall)) → disk_of (state_shown shape yard disk callers) ≡ disk_shown yard disk
disk_is shape (Some over) disk callers = refl
disk_is shape None (Some disk) callers = refl
disk_is shape None None callers = refl

module _ (n : ℕ) where
  trip_may : (w : State) → MayStep w Trips
  trip_may (Up service disk) = tt
  trip_may (Down shape disk) = tt

  trip_to : (w : State) → state_after n w Trips ≡ w
  trip_to (Up service disk) = refl
  trip_to (Down shape disk) = refl

  trip_told : (w : State) → marks_of n w Trips ≡ []
  trip_told (Up service disk) = refl
  trip_told (Down shape disk) = refl

  stop_may : (w : State) → MayStep w Stops
  stop_may (Up service disk) = tt
  stop_may (Down shape disk) = tt

  stop_to : (w : State) → state_after n w Stops ≡ Down (shape_of w) (disk_of w)
  stop_to (Up service disk) = refl
  stop_to (Down shape disk) = refl

  stop_told : (w : State) → marks_of n w Stops ≡ stopped ∷ []
  stop_told (Up service disk) = refl
  stop_told (Down shape disk) = refl

  crash_may : (w : State) (t : List ℕ) → IsImage (disk_of w) t → MayStep w (Crashes t)
  crash_may (Up service disk) t image = image
  crash_may (Down shape disk) t image = image

  crash_to : (w : State) (t : List ℕ) → state_after n w (Crashes t) ≡ Down (shape_of w) (at_rest (disk_of w).bytewise t)
  crash_to (Up service disk) t = refl
  crash_to (Down shape disk) t = refl

  crash_told : (w : State) (t : List ℕ) → marks_of n w (Crashes t) ≡ crashed ∷ []
  crash_told (Up service disk) t = refl
  crash_told (Down shape disk) t = refl

pub trips : (old new : WorldOver) → new.state ≡ old.state → new.calls ≡ old.calls → Goes old Trip Trips [] new
trips old new same calls = grind (arith, nat_tests, trip_may, trip_to, trip_told)

pub stops : (shape : Shape) (old new : WorldOver) → HasRun shape old.state old.calls → new.state ≡ Down shape (disk_of old.state) → new.calls ≡ old.calls → Goes old Stop Stops (stopped ∷ []) new
stops shape old new ran down calls = record {
  is = refl;
  may = stop_may 0 old.state;
  to = stop_to (suc old.calls) old.state ∙ ap (λ (s : Shape). Down s (disk_of old.state)) (shape_is shape old.state old.calls ran) ∙ sym down;
  counts = sym calls;
  told = stop_told (suc old.calls) old.state;
}

pub crashes : (shape : Shape) (old new : WorldOver) (pick : Pick) → HasRun shape old.state old.calls → IsImage (disk_of old.state) (left_by pick (disk_of old.state)) → new.state ≡ Down shape (at_rest (disk_of old.state).bytewise (left_by pick (disk_of old.state))) → new.calls ≡ old.calls
    → Goes old (Crash pick) (Crashes (left_by pick (disk_of old.state))) (crashed ∷ []) new
crashes shape old new pick ran image down calls = record {
  is = refl;
  may = crash_may 0 old.state (left_by pick (disk_of old.state)) image;
  to = crash_to (suc old.calls) old.state (left_by pick (disk_of old.state)) ∙ ap (λ (s : Shape). Down s (at_rest (disk_of old.state).bytewise (left_by pick (disk_of old.state)))) (shape_is shape old.state old.calls ran) ∙ sym down;
  counts = sym calls;
  told = crash_told (suc old.calls) old.state (left_by pick (disk_of old.state));
}

-- a world that has gone down is one
module _ (shape : Shape) (yard : Option (YardOver Past)) (disk : Option Past) (callers : List (Option OpenCall)) (calls : ℕ) (tripped : Bool) (world : IsWorld shape yard disk callers calls) where
  pub now_at : (play : PlayStep) (step : Transition) (marks : List HistoryEvent) (yard' : Option (YardOver Past)) (disk' : Option Past) (now : Bool)
      → HasOne yard' disk' → Goes (world_shown shape yard disk callers calls tripped) play step marks (world_shown shape yard' disk' callers calls now)
      → IsBetweenLooks (state_shown shape yard' disk' callers) → IsWorld shape yard' disk' callers calls
  now_at play step marks yard' disk' now one goes quiet = record {
    one = one;
    count = world.count;
    on_it = world.on_it;
    ran = runs_on shape (world_shown shape yard disk callers calls tripped) (world_shown shape yard' disk' callers calls now) play step marks world.ran goes quiet;
  }
