-- What an event of a call needs it has, and its caller may take what it gives.
use Rattle.std.proofs.{lemmas.Bool.Decides.{nat_tests}, Common.{◌≡◌, ◌≢◌, ℕ, suc, ◌<◌, ◌≤◌, ◌%◌, ◌==◌, not, ◌&&◌, ◌||◌, Bool, true, false, List, Option, Some}}
use Rattle.std.{proofs.Common.{is_some, refl, sym, ap, ◌∙◌, subst, arith}, specs.Prelude.{unwrap_or}}
use mathlib.Core.Bool.{false≢true}
use Rattle.lz_slot.specs.{declared.command.Command.{Command}, Limits.{most_slots}, Sets.{key_of}, Histories.{History}}
use Rattle.lz_disk.specs.Images.{Medium}
use Rattle.lz_vault.specs.declared.vault.Stage.TheVariants.{Keyed}
use Rattle.lz_allot.specs.Uses.{is_outside}
use Rattle.lz_list.specs.{declared.{place.Place.TheVariants.{Node}, walk.Look.{Look, TheVariants.{AtHead, AtBelow}}}, Words.{get, is_marked_at}, Walks.{wants}}
use Rattle.lz_list.specs.{Hops.{LeadsOn}, Traces.{Trace, bucket_of, key_word, on, chain_of, is_marked, is_removed, linking}}
use Rattle.lz_machine.specs.declared.{actor.{Actor.{Actor}, LockPhase.{LockPhase, TheVariants.{Checked, Marked}}}, event.Event.{Event}}
use Rattle.lz_machine.specs.declared.event.{Event.TheVariants.{Hop, WriteOpen, WriteClose, Unlink, Answer}, Outcome.TheVariants.{NotNow, Fault}, Reply.{Reply}}
use Rattle.lz_machine.specs.declared.caller.{Sequence.{Sequence, TheVariants.{Adding, Removing}}, Progress.{Progress}}
use Rattle.lz_machine.specs.{declared.caller.Progress.TheVariants.{Playing, Walking, Answering}, Yards.{Yard, actor_at, actor_in, stage_in}}
use Rattle.lz_machine.specs.{Table.{last_pin, pin_of, needs, has_checked, line_on, line, stays_out}, Calls.{event_at, loaded}, Orders.{MayTake}, Runs.{Caller}}
use Rattle.lz_machine.specs.{Notes.{Notes}, CallersSound.{View, view_of, Relies, IsSide, is_before_pin, side_of, IsLooking}, LocksSound.{RestsOn, IsChecked}}
use Rattle.lz_machine.{specs.Sound.{Sound}, proofs.Frames.Ranges.{on_range, stood_range, head_range, few_slots}}
use Rattle.lz_machine.proofs.Frames.{LoadedWord.{bucket_range, head_next, link_next}, OtherCallers.{held_node}}
use Rattle.lz_machine.proofs.{Frames.Outside.{outside_even, worn_out, refused_out, out_needs}, Theorem.ShownChains.{mark_is}}
use Rattle.lz_machine.proofs.Runs.{Course.{course_by, each_course}, Outcomes.{not_done}}

-- what has what it needs comes in time
pub timely : (y : Yard) (a : ℕ) (e : Event) → needs y a e ≡ true → (line y a e).1 ≢ NotNow
timely y a e has = grind (arith, nat_tests, each_course, false≢true, not_done)

inside_odd : (pin : ℕ) → pin % 2 ≡ 1 → not (is_outside pin) ≡ true
inside_odd pin odd = ap (λ (q : ℕ). not (q == 0)) odd

module _ (n calls : ℕ) (y : Yard) (callers : List (Option Caller)) (disk : Medium) (M : History) (P : Trace) (notes : Notes) (sound : Sound n calls y callers disk M P notes) (a : ℕ) where
  abbrev actor : Actor
  actor = actor_in y.actors a

  abbrev pub v : View
  v = view_of y.shape y.vault y.actors a

  abbrev HasIn : Command → Sequence → ℕ → Type 0
  HasIn c sequence i =
      pin_of y a % 2 ≡ side_of (is_before_pin (Playing sequence i)) → Relies v c (Playing sequence i) (notes.begun a) P (notes.changed a)
      → needs y a (loaded y.words (event_at y.shape c (Playing sequence i))) ≡ true

  held_lt : (hold : actor.hold ≡ Checked) (s : ℕ) → actor.curr ≡ Some s → (s < y.shape.slots) × (is_marked s P ≡ false)
  held_lt hold s curr =
      let checked : IsChecked y.shape.buckets actor P = subst (λ (q : LockPhase). RestsOn y.shape.buckets q actor P) hold (sound.locks.rests a) in
      let there = held_node y.shape P Checked actor sound.trace.lawful checked s curr refl in
      (on_range y.shape.buckets y.shape.slots P (bucket_of y.shape.buckets (key_word s P)) s sound.trace.lawful there, (checked.before s curr).1)

  marked_on : actor.hold ≡ Marked → (s : ℕ) → actor.curr ≡ Some s → on 0 (chain_of y.shape.buckets (key_word s P) P) (suc s) ≡ true
  marked_on hold s curr = held_node y.shape P Marked actor sound.trace.lawful (subst (λ (q : LockPhase). RestsOn y.shape.buckets q actor P) hold (sound.locks.rests a)) s curr refl

  opens_now : (s : ℕ) → actor.hold ≡ Checked → actor.slot ≡ Some s → stage_in y.vault.cells s ≡ Keyed → needs y a WriteOpen ≡ true
  opens_now s hold slot stage = grind arith

  closes_now : (s : ℕ) → actor.hold ≡ Checked → actor.curr ≡ Some s → needs y a WriteClose ≡ true
  closes_now s hold curr =
      let held = held_lt hold s curr in
      ap (λ (q : LockPhase). has_checked q && is_some actor.curr && not (is_marked_at y.words (Node (unwrap_or actor.curr 0)))) hold
      ∙ ap (λ (q : Option ℕ). is_some q && not (is_marked_at y.words (Node (unwrap_or q 0)))) curr
      ∙ ap not (mark_is y.shape y.words P sound.trace (few_slots sound.images) y.words refl refl refl s held.0 ∙ held.1)

  unlinks_now : (k s : ℕ) → actor.hold ≡ Marked → actor.curr ≡ Some s → key_word s P ≡ k → is_removed (linking k P) P ≡ true → needs y a Unlink ≡ true
  unlinks_now k s hold curr key removed = grind (arith, marked_on, is_some)

  -- each event of each sequence
  add_has : (c : Command) (s i : ℕ) → HasIn c (Adding s) i
  add_has c s i pin h = grind (arith, nat_tests, opens_now)

  remove_has : (c : Command) (s i : ℕ) → HasIn c (Removing s) i
  remove_has c s i pin h = grind (arith, nat_tests, closes_now, unlinks_now)

  sequence_has : (c : Command) (sequence : Sequence) (i : ℕ) → HasIn c sequence i
  sequence_has c sequence i pin h = grind (arith, nat_tests, outside_even, is_some, add_has, remove_has)

  answers_inside : pin_of y a % 2 ≡ 1 → needs y a Answer ≡ true
  answers_inside odd = ap (λ (q : Bool). q || stays_out actor (pin_of y a)) (inside_odd (pin_of y a) odd)

  answers_worn : pin_of y a ≡ last_pin → needs y a Answer ≡ true
  answers_worn last = out_needs actor (pin_of y a) (worn_out actor (pin_of y a) last)

  answer_has : (c : Command) (reply : Reply) → IsSide (pin_of y a) (Answering reply) → Relies v c (Answering reply) (notes.begun a) P (notes.changed a) → needs y a Answer ≡ true
  answer_has c reply pin h = grind (arith, nat_tests, answers_worn, out_needs, refused_out, answers_inside)

  -- a call's next event has what it needs
  pub has_needs : (c : Command) (at : Progress) → IsSide (pin_of y a) at → Relies v c at (notes.begun a) P (notes.changed a)
      → needs y a (loaded y.words (event_at y.shape c at)) ≡ true
  has_needs c at pin h = grind (arith, nat_tests, sequence_has, is_some, answer_has, inside_odd)

-- What a caller takes is in range.
module _ (n calls : ℕ) (y : Yard) (callers : List (Option Caller)) (disk : Medium) (M : History) (P : Trace) (notes : Notes) (sound : Sound n calls y callers disk M P notes) (a : ℕ) (c : Command) where
  looks_on : (look : Look) → IsLooking y.shape.buckets (key_of c) (notes.begun a) P look → LeadsOn look (get y.words (wants y.shape.buckets (key_of c) look))
  looks_on AtHead h =
      let b = bucket_of y.shape.buckets (key_of c) in
      let is = head_next y.shape y.words P sound.trace (few_slots sound.images) b (bucket_range y.shape y.words P sound.trace (few_slots sound.images) (key_of c)) in
      subst (λ (q : ℕ). q ≤ most_slots) (sym is) (omega (arith, head_range y.shape.buckets y.shape.slots P b sound.trace.lawful, few_slots sound.images))
  looks_on (AtBelow s) h =
      let lt = stood_range y.shape.buckets y.shape.slots (notes.begun a) P (bucket_of y.shape.buckets (key_of c)) s sound.trace.lawful h.stood in
      subst (λ (q : ℕ). q ≤ most_slots) (sym (link_next y.shape y.words P sound.trace (few_slots sound.images) s lt)) (omega (arith, sound.trace.small s, few_slots sound.images))
  looks_on _ h = tt

  takes_hop : (aim : Option ℕ) (look : Look) → IsLooking y.shape.buckets (key_of c) (notes.begun a) P look → MayTake (Walking aim look) (line y a (Hop (wants y.shape.buckets (key_of c) look))).1
  takes_hop aim look h =
      let e : Event = Hop (wants y.shape.buckets (key_of c) look) in
      course_by (λ k. MayTake (Walking aim look) (line_on k y (actor_at y a) a e).1) y a e (λ dead stops. tt) (λ lacks. tt) (λ has lives. looks_on look h)

  pub takes : (at : Progress) → Relies (view_of y.shape y.vault y.actors a) c at (notes.begun a) P (notes.changed a) → MayTake at (line y a (loaded y.words (event_at y.shape c at))).1
  takes (Walking aim look) h = takes_hop aim look h.2
  takes _ h = tt

-- a device's fault may always be taken
pub may_take_fault : (at : Progress) → MayTake at Fault
may_take_fault (Walking aim look) = tt
may_take_fault _ = tt
