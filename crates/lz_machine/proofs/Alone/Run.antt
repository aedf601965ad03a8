-- What runs of one actor keep: its calls end one after the other, and once a call was cut off, each later one loads the halt word.
use Rattle.std.proofs.lemmas.Bool.Decides.{nat_tests}
use Rattle.std.proofs.Common.{◌≡◌, ◌≢◌, ◌⊎◌, inl, inr, ℕ, ◌<◌, Bool, true, List, ◌∷◌, Option, Some, None, refl, sym, subst, arith}
use Rattle.std.specs.Prelude.{if◌then◌else◌}
use Rattle.lz_slot.specs.{declared.{command.Command.{Command}, history.HistoryEvent.TheVariants.{Call}}, Histories.{History}}
use Rattle.lz_disk.specs.Images.{Medium, IsImage}
use Rattle.lz_vault.specs.Vaults.{NoCall}
use Rattle.lz_list.specs.declared.word.Word.TheVariants.{Halt as halt_word}
use mathlib.Core.Bool.{false≢true}
use Rattle.lz_machine.{proofs.{Runs.Course.{course_by, each_course}, Alone.Service.{Ended}}, specs.declared.{course.Course.{Course}, actor.Actor.{Actor}}}
use Rattle.lz_machine.specs.declared.event.{Event.{Event, TheVariants.{Pin, Hop, Answer}}, Outcome.TheVariants.{NotNow}, Reply.{Reply}}
use Rattle.lz_machine.specs.declared.{event.Reply.TheVariants.{Worn as SaysWorn, OldFile as SaysOldFile, Halted}, caller.Sequence.TheVariants.{Pinning}}
use Rattle.lz_machine.specs.{declared.caller.Progress.{Progress, TheVariants.{Playing, LoadsHalt, Answering}}, Yards.{Yard, actor_at}}
use Rattle.lz_machine.specs.{Table.{course, line, line_on, line_call, call_on, call_of}, Calls.{event_at, loaded, progress_after, first_progress}}
use Rattle.lz_machine.specs.{Runs.{Caller, Service, Up, caller_at, next_event, MayLeave}, Alone.{has_cut}}

-- a call that finds the halt word
abbrev pub IsHalting : Progress → Type 0
IsHalting at = (at ≡ Playing Pinning 0) ⊎ (at ≡ LoadsHalt) ⊎ (at ≡ Answering Halted) ⊎ (at ≡ Answering SaysWorn) ⊎ (at ≡ Answering SaysOldFile)

-- a call begins so
pub begun_halting : (b : Bool) → IsHalting (if b then Answering SaysOldFile else first_progress)
begun_halting b = grind (arith, nat_tests)

abbrev pub HasHalting : Option Caller → Type 0
HasHalting None = Unit {0}
HasHalting (Some caller) = IsHalting caller.progress

-- the history is that of calls that have ended, and of the open one
abbrev pub IsTold : ℕ → ℕ → Option Caller → History → Type 0
IsTold a n None M = Ended n M
IsTold a n (Some caller) M = (M0 : History) × (M ≡ Call caller.number a caller.command ∷ M0) × (caller.number < n) × Ended caller.number M0

pub record AloneUp (a n : ℕ) (service : Service) (M : History) : Type 0 where
  pub others : (b : ℕ) → b ≢ a → caller_at service.callers b ≡ None
  pub told : IsTold a n (caller_at service.callers a) M
  pub halted : has_cut M ≡ true → (service.yard.words.halt ≡ 1) × HasHalting (caller_at service.callers a)

-- an event that makes no device call
abbrev pub IsQuietCall : Service → ℕ → Option Caller → Type 0
IsQuietCall service a None = Unit {0}
IsQuietCall service a (Some caller) = line_call service.yard a (next_event service.yard caller) ≡ NoCall

calls_nothing : (k : Course) (y : Yard) (actor : Actor) (e : Event) → call_of y actor e ≡ NoCall → call_on k y actor e ≡ NoCall
calls_nothing k y actor e none = grind (arith, nat_tests)

pub answer_is_quiet : (y : Yard) (a : ℕ) → line_call y a Answer ≡ NoCall
answer_is_quiet y a = calls_nothing (course y a Answer) y (actor_at y a) Answer refl

abbrev QuietAt : Yard → ℕ → Command → Progress → Type 0
QuietAt y a c at = line_call y a (loaded y.words (event_at y.shape c at)) ≡ NoCall

pub halting_quiet : (y : Yard) (a : ℕ) (c : Command) (at : Progress) → IsHalting at → QuietAt y a c at
halting_quiet y a c at h4 = grind arith

-- what a crash may leave where no device call comes next
pub only_images : (a : ℕ) (service : Service) (disk : Medium) → ((b : ℕ) → b ≢ a → caller_at service.callers b ≡ None) → IsQuietCall service a (caller_at service.callers a)
    → (t : List ℕ) → MayLeave (Up service disk) t → IsImage disk t
only_images a service disk others quiet t h6 = grind arith

-- the halt word after a turn of such a call, and how far it has come
abbrev StaysHalted : Yard → ℕ → Command → Progress → Type 0
StaysHalted y a c at =
    (line y a (loaded y.words (event_at y.shape c at))).1 ≢ NotNow
    → ((line y a (loaded y.words (event_at y.shape c at))).0.words.halt ≡ 1) × IsHalting (progress_after y.shape c at (line y a (loaded y.words (event_at y.shape c at))).1)

module _ (y : Yard) (a : ℕ) (c : Command) (halt : y.words.halt ≡ 1) where
  abbrev AfterPin : Course → Type 0
  AfterPin k = ((line_on k y (actor_at y a) a Pin).0.words.halt ≡ 1) × IsHalting (progress_after y.shape c (Playing Pinning 0) (line_on k y (actor_at y a) a Pin).1)

  abbrev AfterHop : Course → Type 0
  AfterHop k = ((line_on k y (actor_at y a) a (Hop halt_word)).0.words.halt ≡ 1) × IsHalting (progress_after y.shape c LoadsHalt (line_on k y (actor_at y a) a (Hop halt_word)).1)

  pin_halted : StaysHalted y a c (Playing Pinning 0)
  pin_halted =
      each_course (λ k. (line_on k y (actor_at y a) a Pin).1 ≢ NotNow → AfterPin k) y a Pin (λ dead stops. absurd (false≢true (sym stops))) (λ lacks now. absurd (now refl)) (λ pin last now. (halt, inr (inr (inr (inl refl))))) (λ s sync. absurd cc)
      (λ has fresh now. (halt, inr (inl refl)))

  hop_halted : StaysHalted y a c LoadsHalt
  hop_halted = grind (arith, nat_tests, course_by, false≢true)

  pub turn_halted : (at : Progress) → IsHalting at → ((reply : Reply) → at ≢ Answering reply) → StaysHalted y a c at
  turn_halted at (inl is) going = subst (StaysHalted y a c) (sym is) pin_halted
  turn_halted at (inr (inl is)) going = subst (StaysHalted y a c) (sym is) hop_halted
  turn_halted at (inr (inr (inl is))) going = absurd (going Halted is)
  turn_halted at (inr (inr (inr (inl is)))) going = absurd (going SaysWorn is)
  turn_halted at (inr (inr (inr (inr is)))) going = absurd (going SaysOldFile is)

-- an answer leaves the halt word
pub answer_halt : (y : Yard) (a : ℕ) → (line y a Answer).0.words.halt ≡ y.words.halt
answer_halt y a = grind arith
