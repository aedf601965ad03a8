-- What an event leaves of the other actors, where one actor is alone, and of the slots whose gate isn't durable to be open.
use Rattle.std.proofs.{lemmas.{Bool.{cases_eq, cases_lt, Decides.{nat_tests}}, List.{get_or_past}}, Common.{◌≡◌, ◌≢◌, ◌⊎◌, inl, inr, ℕ, zero, suc, ◌%◌, Bool}}
use Rattle.std.proofs.Common.{true, false, List, [], ◌∷◌, map, Option, None, refl, sym, ap, arith, length-set, get_or-set_same, get_or-set_other}
use Rattle.std.specs.Prelude.{slice_set}
use mathlib.Core.Bool.{false≢true}
use Rattle.lz_slot.{specs.Counted.{of_pass}, proofs.Counted.{of_pass_other}}
use Rattle.lz_vault.specs.{declared.vault.Stage.{Stage, TheVariants.{Opening}}, Stages.{Cell, cell_synced}}
use Rattle.lz_machine.specs.declared.{course.Course.{Course, TheVariants.{Refused, Dies, Plays}}, actor.{Actor.{Actor}, LockPhase.TheVariants.{Nothing}}}
use Rattle.lz_machine.specs.declared.event.{Event.{Event, TheVariants.{Reserve, WriteOpen, Retire, SeePin, Answer}}, Outcome.TheVariants.{NotNow, Dead}}
use Rattle.lz_machine.specs.Yards.{Yard, idle_actor, actor_at, cell_in, stage_in}
use Rattle.lz_machine.specs.Table.{course, course_alive, line, line_on, pin_of, is_played_dead, actors_after, words_after, cells_after, uses_after, reserved}
use Rattle.lz_machine.proofs.{Alone.Sights.{HasLeft, left_set, left_collect, left_seen}, Steps.{Unlink.{redirect_pins}, Sync.{not_opening}}}
use Rattle.lz_machine.proofs.{Frames.{BesideKey.{opened_shut}, Outside.{answered_other}, SlotWrite.{put_free}}, Runs.Course.{course_by}}
use Rattle.lz_allot.specs.Uses.{Use, collect, lowest_free}

-- the course of an event that was played at all
abbrev pub IsCourse : Yard → ℕ → Event → Type 0
IsCourse y a e = ((y.vault.dead ≡ true) × (is_played_dead e ≡ false) × (course y a e ≡ Refused Dead)) ⊎ (course y a e ≡ course_alive y a (pin_of y a) e)

pub course_is : (y : Yard) (a : ℕ) (e : Event) → (line y a e).1 ≢ NotNow → IsCourse y a e
course_is y a e now = course_by (λ k. course y a e ≡ k → IsCourse y a e) y a e (λ dead stops is. inl (dead, stops, is)) (λ lacks is. absurd (now (ap (λ (k : Course). (line_on k y (actor_at y a) a e).1) is))) (λ has lives is. inr is) refl

-- the hands and pins of others
actors_other : (y : Yard) (actor : Actor) (a b : ℕ) (e : Event) → b ≢ a → of_pass (actors_after y actor a e) b idle_actor ≡ of_pass y.actors b idle_actor
actors_other y actor a b e other = grind (arith, nat_tests, of_pass_other)

pub pins_other : (y : Yard) (actor : Actor) (a b : ℕ) (e : Event) → b ≢ a → of_pass (words_after y actor a e).pins b 0 ≡ of_pass y.words.pins b 0
pins_other y actor a b e other = grind (arith, nat_tests, of_pass_other, redirect_pins, answered_other)

-- an actor that does nothing
pub record IsIdleNow (y : Yard) (b : ℕ) : Type 0 where
  pub outside : of_pass y.words.pins b 0 % 2 ≡ 0
  pub slot : (of_pass y.actors b idle_actor).slot ≡ None
  pub hold : (of_pass y.actors b idle_actor).hold ≡ Nothing

pub idle_on : (k : Course) (y : Yard) (a b : ℕ) (e : Event) → b ≢ a → IsIdleNow y b → IsIdleNow (line_on k y (actor_at y a) a e).0 b
idle_on (Refused outcome) y a b e other h = h
idle_on Dies y a b e other h = record { outside = h.outside; slot = h.slot; hold = h.hold }
idle_on Plays y a b e other h = grind (arith, nat_tests, pins_other, actors_other)

-- no gate is being opened
abbrev pub NoneOpening : List Cell → Type 0
NoneOpening cells = (s : ℕ) → stage_in cells s ≢ Opening

-- one cell of a list
pub cell_cases : (cells : List Cell) (r s : ℕ) (x : Cell) → ((s ≡ r) × (cell_in (slice_set cells r x) s ≡ x)) ⊎ (cell_in (slice_set cells r x) s ≡ cell_in cells s)
cell_cases cells r s x = grind (arith, cases_eq, cases_lt, get_or-set_same, get_or_past, length-set, get_or-set_other)

pub synced_none : (cells : List Cell) → NoneOpening (map cell_synced cells)
synced_none [] s is = absurd cc
synced_none (c ∷ cells) zero is = not_opening c.stage is
synced_none (c ∷ cells) (suc s) is = synced_none cells s is

abbrev pub is_opening_event : Event → Bool
is_opening_event WriteOpen = true
is_opening_event _ = false

set_none : (cells : List Cell) (r k : ℕ) (stage : Stage) → stage ≢ Opening → NoneOpening cells → NoneOpening (slice_set cells r (record { stage = stage; key = k }))
set_none cells r k stage other none s is = grind (arith, cell_cases)

pub none_stays : (y : Yard) (actor : Actor) (e : Event) → is_opening_event e ≡ false → NoneOpening y.vault.cells → NoneOpening (cells_after y actor e)
none_stays y actor e other none = grind (arith, nat_tests, set_none, opened_shut, put_free, false≢true, synced_none)

-- the same by the event's course: a vault that lives after it lived before
pub none_on : (k : Course) (y : Yard) (a : ℕ) (e : Event) → is_opening_event e ≡ false → (line_on k y (actor_at y a) a e).0.vault.dead ≡ false → (y.vault.dead ≡ false → NoneOpening y.vault.cells) → NoneOpening (line_on k y (actor_at y a) a e).0.vault.cells
none_on k y a e other lives none = grind (arith, nat_tests, false≢true, none_stays)

-- events that retire a slot or give it back
abbrev pub is_use_event : Event → Bool
is_use_event Retire = true
is_use_event Answer = true
is_use_event _ = false

reserved_left : (uses : List Use) (found : Option ℕ) (b : ℕ) → HasLeft uses b → HasLeft (reserved uses found) b
reserved_left uses found b left = grind (arith, nat_tests, left_set)

left_plays : (y : Yard) (actor : Actor) (a b : ℕ) (e : Event) → is_use_event e ≡ false → HasLeft y.uses b → HasLeft (uses_after y actor a e) b
left_plays y actor a b Reserve calm left = reserved_left (collect y.uses) (lowest_free (collect y.uses)) b (left_collect y.uses b left)
left_plays y actor a b Retire calm left = absurd (false≢true (sym calm))
left_plays y actor a b (SeePin p value) calm left = left_seen y.uses p value b left
left_plays y actor a b Answer calm left = absurd (false≢true (sym calm))
left_plays y actor a b _ calm left = left

pub left_on : (k : Course) (y : Yard) (a b : ℕ) (e : Event) → is_use_event e ≡ false → HasLeft y.uses b → HasLeft (line_on k y (actor_at y a) a e).0.uses b
left_on k y a b e calm left = grind (arith, nat_tests, left_plays)
