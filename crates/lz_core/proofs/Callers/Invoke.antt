-- A world goes on by a call that is made: its Invoke is played.
use Rattle.std.proofs.Common.{◌≡◌, ◌≢◌, ◌≤◌, ◌+◌, ◌-◌, arith, if◌then◌else◌, IsNone, IsSome, IfSome, ℕ, suc, Bool, map, slice_index_or, slice_set, List, []}
use Rattle.std.proofs.{Common.{◌∷◌, Option, Some, None, refl, sym, ◌∙◌, ap, subst}, lemmas.Bool.{false≢true}}
use Rattle.lz_slot.specs.{declared.{command.Command.{Command}, history.HistoryEvent.TheVariants.{Call as called}}, Limits.{largest_key}, Numerals.{largest_read}}
use Rattle.lz_slot.specs.{Sets.{key_of}, Counted.{set_of_pass}}
use Rattle.lz_disk.specs.{Images.{Medium}, Records.{Past, after, device_of}}
use Rattle.lz_vault.specs.Vaults.{MayFail, medium_after}
use Rattle.lz_machine.specs.declared.{event.{Event.TheVariants.{Invoke}, Outcome.{Outcome, TheVariants.{Done, OldFile, Fault}}}, caller.Progress.{Progress}}
use Rattle.lz_machine.specs.{declared.course.Course.{Course}, Yards.{Shape, Yard, actor_at}, Table.{is_old, call_on, line_on}, Calls.{begun}}
use Rattle.lz_machine.{specs.Runs.{Caller, Service, Up, Calls, Reached, caller_at, invoked, state_after}, proofs.Runs.Course.{invoke_plays}}
use Rattle.lz_core.specs.declared.{play.Step.TheVariants.{Call as CallOf}, open_calls.OpenCall.{OpenCall}}
use Rattle.lz_core.specs.Worlds.{Goes, HasRun, HasOne, IsWorld, MayStepOn, StepsOn, call_shown, state_shown, world_shown}
use Rattle.lz_core.proofs.{Runs.PlayedStep.{runs_on, shape_is}, Callers.ShownCallers.{shown_caller, shown_set, no_call, on_set, same_count}}
use Rattle.lz_core.proofs.Callers.NextEvent.{quiet_goes}
use Rattle.lz_yard.{specs.{declared.told.Told.{Told}, Parts.{YardOver}, Steps.{Played}}, proofs.Events.PassPlaces.{set_at}}
use Rattle.lz_yard.{specs.Begun.{begun_after}, proofs.BegunCall.{begins}}

-- a call that was just made, and its Invoke's outcome
abbrev pub made : Shape → ℕ → Command → Outcome → OpenCall
made shape number c outcome = record { number = number; caller = record { command = c; buckets = shape.buckets; passes = shape.passes; progress = begun_after outcome } }

-- an actor of an open service makes a call
module _ (shape : Shape) (over : YardOver Past) (disk : Option Past) (callers : List (Option OpenCall)) (calls a : ℕ) (c : Command) (low : 1 ≤ a) (high : a ≤ shape.passes) (key : key_of c ≤ largest_key) (free : IsNone (slice_index_or callers (a - 1) None))
    (ran : HasRun shape (state_shown shape (Some over) disk callers) calls) (tripped : Bool) where
  abbrev served : Service
  served = record { yard = over.yard; callers = map call_shown callers }

  abbrev disk_then : Medium
  disk_then = after over.disk.bytewise over.disk.start over.disk.records

  none : IsNone (caller_at (map call_shown callers) a)
  none = subst IsNone (sym (shown_caller callers a low)) (no_call (slice_index_or callers (a - 1) None) free)

  in_range : (1 ≤ a) × (a ≤ over.yard.shape.passes)
  in_range = (low, subst (λ (s : Shape). a ≤ s.passes) (sym (shape_is shape (state_shown shape (Some over) disk callers) calls ran)) high)

  reached : Reached ran.start (Up served disk_then) ran.point.marks ran.point.trace
  reached = grind arith

  -- its Invoke may be played
  may_invoke_on : MayStepOn over a (Invoke c)
  may_invoke_on = grind (arith, in_range, reached, none)

  module _ (over' : YardOver Past) (outcome : Outcome) (news : Told) (event : Played over.yard a (Invoke c) outcome over'.yard news (device_of over.disk) (device_of over'.disk)) where
    abbrev disk_now : Medium
    disk_now = after over'.disk.bytewise over'.disk.start over'.disk.records

    -- it makes no device call
    no_fault : outcome ≢ Fault
    no_fault fault = subst (λ (taken : Course). MayFail (call_on taken over.yard (actor_at over.yard a) (Invoke c)) disk_then disk_now) (invoke_plays over.yard a c) ((event.failed fault).call.medium refl)

    yard_is : over'.yard ≡ invoked over.yard a c
    yard_is = (event.done no_fault).yard ∙ ap (λ (taken : Course). (line_on taken over.yard (actor_at over.yard a) a (Invoke c)).0) (invoke_plays over.yard a c)

    outcome_is : outcome ≡ (if is_old over.yard.vault.format c then OldFile else Done)
    outcome_is = (event.done no_fault).answer ∙ ap (λ (taken : Course). (line_on taken over.yard (actor_at over.yard a) a (Invoke c)).1) (invoke_plays over.yard a c)

    disk_is : disk_now ≡ disk_then
    disk_is = (event.done no_fault).call.medium refl ∙ ap (λ (taken : Course). medium_after (call_on taken over.yard (actor_at over.yard a) (Invoke c)) disk_then) (invoke_plays over.yard a c)

    begins_so : begun over.yard.vault.format c ≡ begun_after outcome
    begins_so = begins (is_old over.yard.vault.format c) ∙ ap begun_after (sym outcome_is)

    -- the callers with the new one
    abbrev calling : Progress → List (Option Caller)
    calling first = set_of_pass (map call_shown callers) a (Some (record { number = calls + 1; command = c; progress = first }))

    call_goes : Goes (world_shown shape (Some over) disk callers calls tripped) (CallOf a c) (Calls a c) (called (calls + 1) a c ∷ [])
        (world_shown shape (Some over') disk (slice_set callers (a - 1) (Some (made shape (calls + 1) c outcome))) (calls + 1) tripped)
    call_goes =
        let next : suc calls ≡ calls + 1 = omega arith in
        record {
          is = refl;
          may = (in_range, none, ran.quiet a none, key);
          to =
              ap (λ (n : ℕ). state_after n (state_shown shape (Some over) disk callers) (Calls a c)) next
              ∙ ap (λ (y : Yard). Up (record { yard = y; callers = calling (begun over.yard.vault.format c) }) disk_then) (sym yard_is)
              ∙ ap (λ (m : Medium). Up (record { yard = over'.yard; callers = calling (begun over.yard.vault.format c) }) m) (sym disk_is)
              ∙ ap (λ (first : Progress). Up (record { yard = over'.yard; callers = calling first }) disk_now) begins_so
              ∙ ap (λ (cs : List (Option Caller)). Up (record { yard = over'.yard; callers = cs }) disk_now) (set_at (map call_shown callers) a _ low ∙ sym (shown_set callers (a - 1) (Some (made shape (calls + 1) c outcome))));
          counts = next;
          told = ap (λ (n : ℕ). called n a c ∷ []) next;
        }

-- of a world
module _ (shape : Shape) (disk : Option Past) (callers : List (Option OpenCall)) (calls a : ℕ) (c : Command) (low : 1 ≤ a) (high : a ≤ shape.passes) (key : key_of c ≤ largest_key) (free : IsNone (slice_index_or callers (a - 1) None)) (tripped : Bool) (room : calls + 1 ≤ largest_read) where
  pub may_invoke : (yard : Option (YardOver Past)) → IsWorld shape yard disk callers calls → IfSome yard (λ over. MayStepOn over a (Invoke c))
  may_invoke None world = tt
  may_invoke (Some over) world = may_invoke_on shape over disk callers calls a c low high key free world.ran tripped

  pub call_runs : (yard yard' : Option (YardOver Past)) (outcome : Outcome) → IsSome yard → HasRun shape (state_shown shape yard disk callers) calls → StepsOn yard a (Invoke c) outcome yard'
      → Goes (world_shown shape yard disk callers calls tripped) (CallOf a c) (Calls a c) (called (calls + 1) a c ∷ [])
      (world_shown shape yard' disk (slice_set callers (a - 1) (Some (made shape (calls + 1) c outcome))) (calls + 1) tripped)
  call_runs None yard' outcome is ran steps = absurd (false≢true is)
  call_runs (Some over) None outcome is ran steps = absurd steps
  call_runs (Some over) (Some over') outcome is ran steps = call_goes shape over disk callers calls a c low high key free ran tripped over' outcome steps.0 steps.1

  pub call_world : (yard yard' : Option (YardOver Past)) (outcome : Outcome) → IsSome yard → IsWorld shape yard disk callers calls → StepsOn yard a (Invoke c) outcome yard'
      → IsWorld shape yard' disk (slice_set callers (a - 1) (Some (made shape (calls + 1) c outcome))) (calls + 1)
  call_world None yard' outcome is world steps = absurd (false≢true is)
  call_world (Some over) None outcome is world steps = absurd steps
  call_world (Some over) (Some over') outcome is world steps =
      let goes = call_runs (Some over) (Some over') outcome is world.ran steps in
      record {
        one = has_one disk world.one;
        count = same_count callers (a - 1) (Some (made shape (calls + 1) c outcome)) ∙ world.count;
        on_it = on_set shape callers (a - 1) (Some (made shape (calls + 1) c outcome)) (refl, refl, (omega arith, room)) world.on_it;
        ran = runs_on shape (world_shown shape (Some over) disk callers calls tripped)
            (world_shown shape (Some over') disk (slice_set callers (a - 1) (Some (made shape (calls + 1) c outcome))) (calls + 1) tripped) (CallOf a c) (Calls a c)
            (called (calls + 1) a c ∷ []) world.ran goes (quiet_goes shape (world_shown shape (Some over) disk callers calls tripped)
            (world_shown shape (Some over') disk (slice_set callers (a - 1) (Some (made shape (calls + 1) c outcome))) (calls + 1) tripped) (CallOf a c) (Calls a c)
            (called (calls + 1) a c ∷ []) world.ran goes refl);
      }
    where
      has_one : (d : Option Past) → HasOne (Some over) d → HasOne (Some over') d
      has_one None one = tt
      has_one (Some past) one = one
