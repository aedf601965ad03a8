-- Between its calls an actor's pin word is even, where no look is half done; a step that is no look leaves it so.
use Rattle.std.proofs.lemmas.Bool.Decides.{nat_tests}
use Rattle.std.proofs.Common.{◌≡◌, ◌≢◌, IsTrue, IsNone, ℕ, ◌≤◌, ◌%◌, Bool, true, false, List, length, Option, Some, None, refl, sym, subst, arith}
use mathlib.Core.Bool.{false≢true}
use Rattle.lz_slot.{specs.{declared.command.Command.{Command}, Counted.{set_of_pass}, Histories.{History}}, proofs.Counted.{of_pass_same, of_pass_other}}
use Rattle.lz_disk.specs.Images.{Medium}
use Rattle.lz_allot.specs.Uses.{is_outside}
use Rattle.lz_list.specs.Traces.{Trace}
use Rattle.lz_machine.specs.declared.{course.Course.{Course}, event.{Event.{Event, TheVariants.{Answer}}, Outcome.{Outcome, TheVariants.{NotNow, Fault}}}}
use Rattle.lz_machine.specs.{declared.{event.Reply.{Reply}, caller.Progress.{Progress, TheVariants.{Answering}}}, Yards.{Shape, Yard, actor_at}}
use Rattle.lz_machine.specs.{Table.{pin_of, course, line_on, line}, Calls.{progress_after}, Points.{IsBetweenLooks, IsReached}, Runs.{Start, State, Up, Down}}
use Rattle.lz_machine.specs.Runs.{Point, Transition, Looks, Service, Caller, caller_at, next_event, reply_at, moved_on, state_after, after_turn, after_fault}
use Rattle.lz_machine.{specs.{Runs.{HasTurn, HasFault, MayStep}, Notes.{Notes}, Sound.{Sound, IsSound}}, proofs.Steps.Hop.{call_at}}
use Rattle.lz_machine.proofs.Frames.{ActorTable.{by_actor}, OneActor.{caller_range}, Outside.{answered_pin, answered_even, outside_even}}
use Rattle.lz_machine.proofs.{Open.FoundSlots.{pass_of}, Runs.{CallerTable.{fault_no_reply}, Course.{answer_plays}}, Alone.Frame.{pins_other}}
use Rattle.lz_machine.proofs.Theorem.Reached.{reached_sound, up_at}

abbrev pub is_look : Transition → Bool
is_look (Looks a) = true
is_look _ = false

-- After its Answer an actor's pin word is even.
module _ (y : Yard) (a : ℕ) (low : 1 ≤ a) (high : a ≤ length y.words.pins) where
  abbrev QuietOn : Course → Type 0
  QuietOn taken = (line_on taken y (actor_at y a) a Answer).1 ≢ NotNow → pin_of (line_on taken y (actor_at y a) a Answer).0 a % 2 ≡ 0

  quiet_after : QuietOn (course y a Answer)
  quiet_after = grind (arith, answered_pin, answered_even, answer_plays)

-- An event changes no other actor's pin word.
module _ (y : Yard) (a b : ℕ) (other : b ≢ a) where
  on_other : (e : Event) (taken : Course) → pin_of (line_on taken y (actor_at y a) a e).0 b ≡ pin_of y b
  on_other e taken = grind (arith, nat_tests, pins_other)

  pin_other : (e : Event) → pin_of (line y a e).0 b ≡ pin_of y b
  pin_other e = on_other e (course y a e)

abbrev IsQuietAt : Option Caller → ℕ → Type 0
IsQuietAt caller pin = IsNone caller → IsTrue (is_outside pin)

module _ (n calls : ℕ) (y : Yard) (callers : List (Option Caller)) (disk : Medium) (M : History) (P : Trace) (notes : Notes) (sound : Sound n calls y callers disk M P notes) (quiet : IsBetweenLooks (Up (record { yard = y; callers = callers }) disk)) where
  abbrev serving : Service
  serving = record { yard = y; callers = callers }

  -- where one actor's call and pin change
  changes_one : (a : ℕ) (x : Option Caller) (y' : Yard) → 1 ≤ a → a ≤ length callers → IsQuietAt x (pin_of y' a) → ((b : ℕ) → b ≢ a → pin_of y' b ≡ pin_of y b)
      → (b : ℕ) → IsQuietAt (caller_at (set_of_pass callers a x) b) (pin_of y' b)
  changes_one a x y' low high own others = grind (arith, by_actor, of_pass_same, of_pass_other)

  module _ (a i : ℕ) (c : Command) where
    abbrev GoesTo : Progress → Yard × Outcome → Type 0
    GoesTo at after = IsQuietAt (moved_on (reply_at at) (call_at i c at) (progress_after after.0.shape c at after.1)) (pin_of after.0 a)

    goes : (at : Progress) → caller_at callers a ≡ Some (call_at i c at) → (line y a (next_event y (call_at i c at))).1 ≢ NotNow → GoesTo at (line y a (next_event y (call_at i c at)))
    goes (Answering reply) is now none =
        let range = caller_range callers a (call_at i c (Answering reply)) is in
        outside_even _ (quiet_after y a range.0 (omega (arith, range.1, sound.callers.count, sound.trace.pins)) now)
    goes _ is now none = absurd (false≢true (sym none))

  turn_quiet : (a : ℕ) (q : Option Caller) → caller_at callers a ≡ q → HasTurn serving a q → IsBetweenLooks (after_turn serving disk a q)
  turn_quiet a None is may = absurd may
  turn_quiet a (Some caller) is may =
      let range = caller_range callers a caller is in
      changes_one a _ (line y a (next_event y caller)).0 range.0 range.1 (goes a caller.number caller.command caller.progress is may) (λ b other. pin_other y a b other (next_event y caller))

  fault_quiet : (new : Medium) (a : ℕ) (q : Option Caller) → caller_at callers a ≡ q → HasFault serving disk a q new → IsBetweenLooks (after_fault serving new a q)
  fault_quiet new a None is may = absurd may
  fault_quiet new a (Some caller) is may =
      let range = caller_range callers a caller is in
      let next = progress_after y.shape caller.command caller.progress Fault in
      changes_one a _ y range.0 range.1
      (subst (λ (r : Option Reply). IsQuietAt (moved_on r caller next) (pin_of y a)) (sym (fault_no_reply y a caller.command caller.progress disk new may)) (λ none. absurd (false≢true (sym none)))) (λ b other. refl)

  up_quiet : (i : ℕ) (step : Transition) → MayStep (Up serving disk) step → is_look step ≡ false → IsBetweenLooks (state_after i (Up serving disk) step)
  up_quiet i step may other = grind (arith, nat_tests, changes_one, false≢true, turn_quiet, fault_quiet)

down_quiet : (i : ℕ) (shape : Shape) (disk : Medium) (step : Transition) → MayStep (Down shape disk) step → IsBetweenLooks (state_after i (Down shape disk) step)
down_quiet i shape disk step may = grind (arith, nat_tests, pass_of)

-- where no look was half done, none is after a step that isn't a look
pub quiet_step : (start : Start) (p : Point) → IsReached start p → (i : ℕ) (step : Transition) → MayStep p.state step → is_look step ≡ false → IsBetweenLooks p.state → IsBetweenLooks (state_after i p.state step)
quiet_step start p reached i step may other quiet = go p.state refl may quiet
  where
    go : (w : State) → p.state ≡ w → MayStep w step → IsBetweenLooks w → IsBetweenLooks (state_after i w step)
    go (Up service disk) is may quiet =
        let there = up_at start p service disk (subst (IsSound start) reached.point (reached_sound start reached.steps reached.starts reached.runs)) is in
        up_quiet there.n p.calls service.yard service.callers disk there.life.history p.trace there.notes there.up.sound quiet i step may other
    go (Down shape disk) is may quiet = down_quiet i shape disk step may
