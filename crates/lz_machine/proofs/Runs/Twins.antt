-- Two states that differ in how far one actor's call has come, and their steps.
use Rattle.std.proofs.Common.{◌≡◌, ◌≢◌, ℕ, zero, suc, ◌==◌, false, List, ◌++◌, length, get_or, set, Option, Some, None, refl, sym, ap, ◌∙◌, subst, arith}
use Rattle.std.proofs.{Common.{get_or-set_other, get_or-set_same, length-set}, lemmas.{Bool.{cases_eq, cases_lt, eq-eqb}, List.{get_or_past}}}
use Rattle.std.specs.Prelude.{IsNone}
use mathlib.Core.Bool.{false≢true}
use Rattle.lz_slot.{specs.Counted.{set_of_pass}, proofs.Counted.{length-set_of_pass}}
use Rattle.lz_disk.specs.Images.{Medium, at_rest}
use Rattle.lz_vault.specs.Vaults.{medium_after}
use Rattle.lz_list.specs.Traces.{Trace}
use Rattle.lz_machine.specs.{declared.event.Outcome.{Outcome}, Yards.{Yard}, Table.{line, line_failed, line_call}, Calls.{begun, progress_after}}
use Rattle.lz_machine.specs.Runs.{invoked, Caller, Service, State, Up, Down, Transition, Calls, Turn, Fails, Looks, Trips, Stops, Crashes, CrashesIn, caller_at}
use Rattle.lz_machine.specs.Runs.{next_event, reply_at, moved_on, after_turn, after_fault, looked, state_after, HasTurn, HasFault, LeftInside, MayStep}
use Rattle.lz_machine.specs.{Runs.{marks_of_turn, marks_of, turn_publishes, trace_after}, Laws.{is_of, outcome_of_turn, outcome_at}}

set_alike : {X : Type 0} (xs ys : List X) (i j : ℕ) (x d : X) → length xs ≡ length ys → get_or xs j d ≡ get_or ys j d → get_or (set xs i x) j d ≡ get_or (set ys i x) j d
set_alike xs ys i j x d count same = grind (arith, get_or-set_same, get_or_past, length-set, cases_lt, get_or-set_other, cases_eq)

-- The same yard and disk, and all callers but the actor's, or the same state.
pub data Twin (a : ℕ) : Type 0 where
  apart : (y : Yard) → (disk : Medium) → (one other : List (Option Caller)) → length one ≡ length other → ((b : ℕ) → b ≢ a → caller_at one b ≡ caller_at other b) → Twin a
  same : State → Twin a

abbrev serving : Yard → List (Option Caller) → Service
serving y callers = record { yard = y; callers = callers }

module _ (a : ℕ) where
  abbrev pub left : Twin a → State
  left (apart y disk one other count rest) = Up (record { yard = y; callers = one }) disk
  left (same w) = w

  abbrev pub right : Twin a → State
  right (apart y disk one other count rest) = Up (record { yard = y; callers = other }) disk
  right (same w) = w

  -- a step of both: what the second may do too, and what comes of it
  pub record Follows (n : ℕ) (t : Twin a) (P : Trace) (step : Transition) : Type 0 where
    pub may : MayStep (right t) step
    pub next : Twin a
    pub left_is : left next ≡ state_after n (left t) step
    pub right_is : right next ≡ state_after n (right t) step
    pub marks : marks_of n (left t) step ≡ marks_of n (right t) step
    pub trace : trace_after (left t) P step ≡ trace_after (right t) P step
    pub outcome : outcome_at (left t) step ≡ outcome_at (right t) step

  off : (b : ℕ) → (a == b) ≡ false → b ≢ a
  off b others here = false≢true (sym others ∙ eq-eqb a b (sym here))

  module _ (y : Yard) (disk : Medium) (one other : List (Option Caller)) (count : length one ≡ length other) (rest : (b : ℕ) → b ≢ a → caller_at one b ≡ caller_at other b) where
    set_rest : (b : ℕ) (x : Option Caller) (d : ℕ) → d ≢ a → caller_at (set_of_pass one b x) d ≡ caller_at (set_of_pass other b x) d
    set_rest zero x d away = rest d away
    set_rest (suc i) x zero away = refl
    set_rest (suc i) x (suc j) away = set_alike one other i j x None count (rest (suc j) away)

    set_count : (b : ℕ) (x : Option Caller) → length (set_of_pass one b x) ≡ length (set_of_pass other b x)
    set_count b x = length-set_of_pass one b x ∙ count ∙ sym (length-set_of_pass other b x)

    -- the yard and the disk change in one way, and so does a caller
    abbrev both : Yard → Medium → ℕ → Option Caller → Twin a
    both y' disk' b x = apart y' disk' (set_of_pass one b x) (set_of_pass other b x) (set_count b x) (set_rest b x)

    -- a call as it goes on after this line
    abbrev going : Caller → Yard × Outcome → Option Caller
    going caller line = moved_on (reply_at caller.progress) caller (progress_after line.0.shape caller.command caller.progress line.1)

    module _ (n : ℕ) (P : Trace) (b : ℕ) where
      turn_follows : (q : Option Caller) → caller_at one b ≡ q → caller_at other b ≡ q → HasTurn (serving y one) b q → Follows n (apart y disk one other count rest) P (Turn b)
      turn_follows None at at' may = absurd may
      turn_follows (Some caller) at at' may =
          let after = line y b (next_event y caller) in
          record {
            may = subst (HasTurn (serving y other) b) (sym at') may;
            next = both after.0 (medium_after (line_call y b (next_event y caller)) disk) b (going caller after);
            left_is = ap (after_turn (serving y one) disk b) (sym at);
            right_is = ap (after_turn (serving y other) disk b) (sym at');
            marks = ap marks_of_turn (at ∙ sym at');
            trace = ap (λ (q : Option Caller). turn_publishes (serving y one) b q ++ P) at ∙ ap (λ (q : Option Caller). turn_publishes (serving y other) b q ++ P) (sym at');
            outcome = ap (outcome_of_turn (serving y one) b) at ∙ ap (outcome_of_turn (serving y other) b) (sym at');
          }

      fault_follows : (new : Medium) (q : Option Caller) → caller_at one b ≡ q → caller_at other b ≡ q → HasFault (serving y one) disk b q new → Follows n (apart y disk one other count rest) P (Fails b new)
      fault_follows new None at at' may = absurd may
      fault_follows new (Some caller) at at' may =
          let after = line_failed y b (next_event y caller) in
          record {
            may = subst (λ (q : Option Caller). HasFault (serving y other) disk b q new) (sym at') may;
            next = both after.0 new b (going caller after);
            left_is = ap (after_fault (serving y one) new b) (sym at);
            right_is = ap (after_fault (serving y other) new b) (sym at');
            marks = refl;
            trace = refl;
            outcome = refl;
          }

      left_inside : (t : List ℕ) (q : Option Caller) → LeftInside (serving y one) disk b q t → LeftInside (serving y other) disk b q t
      left_inside t _ h = h

    module _ (n : ℕ) (P : Trace) where
      follows_apart : (step : Transition) → is_of a step ≡ false → MayStep (Up (serving y one) disk) step → Follows n (apart y disk one other count rest) P step
      follows_apart (Calls b c) others may = record {
        may = (may.0, subst (λ (q : Option Caller). IsNone q) (rest b (off b others)) may.1, may.2, may.3);
        next = both (invoked y b c) disk b (Some (record { number = n; command = c; progress = begun y.vault.format c }));
        left_is = refl;
        right_is = refl;
        marks = refl;
        trace = refl;
        outcome = refl;
      }
      follows_apart (Turn b) others may = turn_follows n P b (caller_at one b) refl (sym (rest b (off b others))) may
      follows_apart (Fails b new) others may = fault_follows n P b new (caller_at one b) refl (sym (rest b (off b others))) may
      follows_apart (Looks b) others may = record {
        may = (may.0, subst (λ (q : Option Caller). IsNone q) (rest b (off b others)) may.1, may.2);
        next = apart (looked y b) disk one other count rest;
        left_is = refl;
        right_is = refl;
        marks = refl;
        trace = refl;
        outcome = refl;
      }
      follows_apart Trips others may = record { may = tt; next = apart y disk one other count rest; left_is = refl; right_is = refl; marks = refl; trace = refl; outcome = refl }
      follows_apart Stops others may = record { may = tt; next = same (Down y.shape disk); left_is = refl; right_is = refl; marks = refl; trace = refl; outcome = refl }
      follows_apart (Crashes t) others may = record { may = may; next = same (Down y.shape (at_rest disk.bytewise t)); left_is = refl; right_is = refl; marks = refl; trace = refl; outcome = refl }
      follows_apart (CrashesIn b t) others may = record {
        may = subst (λ (q : Option Caller). LeftInside (serving y other) disk b q t) (rest b (off b others)) (left_inside n P b t (caller_at one b) may);
        next = same (Down y.shape (at_rest disk.bytewise t));
        left_is = refl;
        right_is = refl;
        marks = refl;
        trace = refl;
        outcome = refl;
      }
      follows_apart _ others may = absurd may

  -- a step that isn't the actor's
  pub follows : (n : ℕ) (t : Twin a) (P : Trace) (step : Transition) → is_of a step ≡ false → MayStep (left t) step → Follows n t P step
  follows n (apart y disk one other count rest) P step others may = follows_apart y disk one other count rest n P step others may
  follows n (same w) P step others may = record { may = may; next = same (state_after n w step); left_is = refl; right_is = refl; marks = refl; trace = refl; outcome = refl }
