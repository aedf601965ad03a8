-- What an event rests on where it is played follows from the invariant.
use Rattle.std.proofs.{lemmas.{Bool.{cases_Bool, not-true, and_parts, Decides.{nat_tests}}, Option.{slice_get-get_or, same_Some}}, Common.{◌≡◌, inl, inr, ℕ}}
use Rattle.std.proofs.Common.{suc, ◌<◌, ◌≤◌, not, ◌&&◌, Bool, true, false, List, length, Option, Some, None, is_some, refl, sym, ap, ◌∙◌, subst, arith}
use Rattle.std.specs.Prelude.{unwrap_or, IsSomeAnd, IfSome}
use mathlib.Core.Bool.{false≢true}
use Rattle.lz_slot.specs.{Rooms.{largest_of}, Limits.{largest_key}, declared.command.Command.{Command}, Histories.{History}}
use Rattle.lz_slot.proofs.Files.ExactBytes.{key_of_format}
use Rattle.lz_disk.specs.Images.{Medium}
use Rattle.lz_vault.specs.{declared.vault.Stage.TheVariants.{Keyed}, Members.{no_cell}}
use Rattle.lz_allot.specs.Allots.{IsTakenAt}
use Rattle.lz_list.specs.{declared.{place.Place.{Place, TheVariants.{Node}}, word.Word.TheVariants.{Key as key_at, Pin as pin_at}}, Words.{Words, get}}
use Rattle.lz_list.specs.{Locks.{claimed_places}, Lists.{IsPlace, IsCurr}, Traces.{Trace, on, chain_of, key_word}}
use Rattle.lz_machine.specs.declared.{actor.{Actor.{Actor}, LockPhase.{LockPhase, TheVariants.{GateOpened, GateClosed, Marked}}}, caller.Sequence.{Sequence}}
use Rattle.lz_machine.specs.declared.{caller.Progress.{Progress, TheVariants.{Playing}}, course.Course.TheVariants.{Plays}, event.Event.{Event}}
use Rattle.lz_machine.specs.declared.event.Event.TheVariants.{Invoke, Pin, WriteKey, Check, WriteOpen, Link, WriteClose, Mark, Release, Unlink, Retire, Answer}
use Rattle.lz_machine.specs.Yards.{Shape, Yard, actor_at, cell_at, actor_in, stage_in, cell_in, pin_in}
use Rattle.lz_machine.specs.{Table.{needs, course, is_unused, has_stage, has_checked, has_opened, has_marked, is_old}, Calls.{event_at, loaded}}
use Rattle.lz_machine.specs.{Runs.{Point, Service, Caller, caller_at, next_event, with_words, first_point, run, IsNext, MayPlay}, Notes.{Notes}}
use Rattle.lz_machine.specs.{CallersSound.{View, view_of, Relies, is_before_pin, side_of}, SlotsSound.{opens, has_removed_node, IsHandStage, unlocks}}
use Rattle.lz_machine.specs.{LocksSound.{has_locks, HasPlace, RestsOn, HasOpened, HasClosed}, Sound.{Sound}, Ready.{IsEventOf, IsReadyFor, IsReady}}
use Rattle.lz_machine.proofs.Frames.{OneActor.{caller_range, mine}, FittingKeys.{key_written, writes_fitting}, OtherCallers.{held_node}}
use Rattle.lz_machine.proofs.{Frames.{BesideKey.{opened_shut}, Ranges.{few_slots}, Outside.{side_even}}, Steps.Unlink.{first_place, node_place}}
use Rattle.lz_machine.proofs.{Steps.{ReturnedSlot.{closed_unused}, WriteClose.{checked_node}}, Runs.Course.{fresh_pin, plays_alive, plays_needs}}
use Rattle.lz_machine.proofs.Theorem.ShownChains.{links_are, key_is, keeps_key, keeps_link, may_link_at, may_unlink_at, owned_place, is_curr}
use Rattle.lz_machine.proofs.Theorem.{Reached.{reached_sound, IsUpAt, up_at}, Needs.{Knows, check_locks, is_checked, is_closed, is_keyed, is_marking}}
use Rattle.lz_machine.proofs.{Theorem.Needs.{is_opened, is_released, opens_alive, release_locks, some_of}, Crash.ImageSlots.{node_stands}}

-- the yard of a sound service, with words of which only pins differ, and not the actor's own
module _ (n calls : ℕ) (y : Yard) (callers : List (Option Caller)) (disk : Medium) (M : History) (P : Trace) (notes : Notes) (sound : Sound n calls y callers disk M P notes)
    (w : Words) (heads : w.heads ≡ y.words.heads) (links : w.links ≡ y.words.links) (keys : w.keys ≡ y.words.keys)
    (a : ℕ) (low : 1 ≤ a) (pin : get w (pin_at a) ≡ get y.words (pin_at a)) where
  abbrev z : Yard
  z = with_words y w

  abbrev actor : Actor
  actor = actor_in y.actors a

  -- what the actor has locked is in range
  has_place : has_locks actor.hold ≡ true → (place : Place) → HasPlace place (claimed_places actor.pred actor.curr) → IsPlace w place
  has_place locks place among =
      owned_place y.shape y.words P sound.trace (few_slots sound.images) w heads links keys y.locks a place sound.locks.heads sound.locks.nodes low (sound.locks.has a place (record { locks = locks; among = among }))

  pred_place : has_locks actor.hold ≡ true → IsPlace w actor.pred
  pred_place locks = has_place locks actor.pred (first_place actor.pred actor.curr)

  node_there : has_locks actor.hold ≡ true → (s : ℕ) → actor.curr ≡ Some s → IsPlace w (Node s)
  node_there locks s is = has_place locks (Node s) (node_place actor.pred actor.curr s is)

  curr_there : has_locks actor.hold ≡ true → IsCurr w actor.curr
  curr_there locks = is_curr y.shape y.words P sound.trace (few_slots sound.images) w heads links keys actor.curr (node_there locks)

  -- the key word of a slot is a key, where it is that of the slot's cell
  is_key : (s : ℕ) → s < y.shape.slots → (cell_in y.vault.cells s).key ≡ key_word s P → get w (key_at s) ≤ largest_key
  is_key s lt same =
      let fits = sound.images.keys s (cell_in y.vault.cells s) (slice_get-get_or y.vault.cells s no_cell (omega (arith, lt, sound.images.count))) in
      omega (arith, key_of_format y.vault.format _ fits, same, key_is y.shape y.words P sound.trace (few_slots sound.images) w heads links keys s lt)

  -- as it is on a chain
  node_key : (s : ℕ) → s < y.shape.slots → on 0 (chain_of y.shape.buckets (key_word s P) P) (suc s) ≡ true → get w (key_at s) ≤ largest_key
  node_key s lt there = is_key s lt (node_stands n calls y callers disk M P notes sound s lt there).0.key

  -- and in the hand of an actor that has opened its gate
  opened_key : (s : ℕ) → actor.slot ≡ Some s → actor.hold ≡ GateOpened → get w (key_at s) ≤ largest_key
  opened_key s slot hold = by_hand (sound.slots.hand a s slot).stage
    where
      by_hand : IsHandStage y.vault.cells y.vault.dead actor P s → get w (key_at s) ≤ largest_key
      by_hand (inl shut) = absurd (opened_shut (stage_in y.vault.cells s) (sound.slots.opened a s slot (ap unlocks hold)) shut)
      by_hand (inr opened) = is_key s (sound.slots.hand a s slot).in_range opened.2

  abbrev Follows : Event → Type 0
  Follows e = needs z a e ≡ true → course z a e ≡ Plays → IsReadyFor z actor a e

  ready_pin : Follows Pin
  ready_pin has plays = omega (arith, pin, sound.reuse.worn a, fresh_pin z a plays)

  ready_key : (k : ℕ) → k ≤ largest_of y.vault.format → Follows (WriteKey k)
  ready_key k fits has plays =
      let two = and_parts (is_some actor.slot) (not (has_opened actor.hold)) has in
      let slot = some_of actor.slot two.0 in
      let hand = sound.slots.hand a slot.0 slot.1 in
      ((slot.0, slot.1, (hand.in_range, unused slot.0 hand.stage (not-true (has_opened actor.hold) two.1), keeps_key y.shape y.words P sound.trace (few_slots sound.images) w heads links keys slot.0 k hand.loose)), fits)
    where
      unused : (s : ℕ) → IsHandStage y.vault.cells y.vault.dead actor P s → has_opened actor.hold ≡ false → is_unused (stage_in y.vault.cells s) ≡ true
      unused s (inl closed) shut = closed_unused (stage_in y.vault.cells s) closed
      unused s (inr opened) shut = absurd (false≢true (sym shut ∙ opens_alive actor.hold (ap (λ (q : Bool). opens q actor.hold) (sym (plays_alive z a (WriteKey k) refl plays)) ∙ opened.0)))

  ready_check : Follows Check
  ready_check has plays = let locks = check_locks actor.hold has in (pred_place locks, curr_there locks)

  ready_open : Knows (view_of y.shape y.vault y.actors a) P WriteOpen → Follows WriteOpen
  ready_open knows has plays =
      let two = and_parts (has_checked actor.hold && is_some actor.slot) (has_stage Keyed (cell_at z (unwrap_or actor.slot 0)).stage) has in
      let first = and_parts (has_checked actor.hold) (is_some actor.slot) two.0 in
      let slot = some_of actor.slot first.1 in
      let hand = sound.slots.hand a slot.0 slot.1 in (
        slot.0,
        slot.1,
        (
          hand.in_range,
          is_keyed (stage_in y.vault.cells slot.0) (ap (λ (q : Option ℕ). has_stage Keyed (stage_in y.vault.cells (unwrap_or q 0))) (sym slot.1) ∙ two.1),
          keeps_link y.shape y.words P sound.trace (few_slots sound.images) w heads links keys slot.0 _ hand.loose,
          curr_there (ap has_locks (is_checked actor.hold first.0)),
          key_same slot.0 slot.1 hand.in_range,
          is_key slot.0 hand.in_range (cell_key slot.0 slot.1),
        ),
      )
    where
      cell_key : (s : ℕ) → actor.slot ≡ Some s → (cell_in y.vault.cells s).key ≡ key_word s P
      cell_key s slot = subst (λ (q : ℕ). (cell_in y.vault.cells q).key ≡ key_word q P) (same_Some _ _ (sym knows.1 ∙ slot)) knows.2

      key_same : (s : ℕ) → actor.slot ≡ Some s → s < y.shape.slots → (cell_in y.vault.cells s).key ≡ get w (key_at s)
      key_same s slot lt = cell_key s slot ∙ sym (key_is y.shape y.words P sound.trace (few_slots sound.images) w heads links keys s lt)

  ready_link : Follows Link
  ready_link has plays =
      let hold = is_opened actor.hold has in
      let rests : HasOpened y.shape.buckets actor P = subst (λ (q : LockPhase). RestsOn y.shape.buckets q actor P) hold (sound.locks.rests a) in
      let hand = sound.slots.hand a rests.own rests.slot in
      (rests.own, rests.slot, (pred_place (ap has_locks hold), may_link_at y.shape y.words P sound.trace (few_slots sound.images) w heads links keys actor.pred actor.curr rests.own hand.in_range rests.beside rests.ready, opened_key rests.own rests.slot hold))

  slot_lt : has_locks actor.hold ≡ true → (s : ℕ) → actor.curr ≡ Some s → s < y.shape.slots
  slot_lt locks s is = omega (arith, node_there locks s is, links_are y.shape y.words P sound.trace (few_slots sound.images) w heads links keys)

  ready_close : Follows WriteClose
  ready_close has plays =
      let two = and_parts (has_checked actor.hold && is_some actor.curr) _ has in
      let first = and_parts (has_checked actor.hold) (is_some actor.curr) two.0 in
      let node = some_of actor.curr first.1 in
      let hold = is_checked actor.hold first.0 in
      let lt = slot_lt (ap has_locks hold) node.0 node.1 in
      (node.0, node.1, (lt, (checked_node n calls y callers disk M P notes sound a node.0 hold (plays_alive z a WriteClose refl plays) node.1).1))

  ready_mark : Follows Mark
  ready_mark has plays =
      let hold = is_closed actor.hold has in
      let rests : HasClosed y.shape.buckets false actor P = subst (λ (q : LockPhase). RestsOn y.shape.buckets q actor P) hold (sound.locks.rests a) in
      let lt = slot_lt (ap has_locks hold) rests.node rests.curr in
      (rests.node, rests.curr, (lt, node_key rests.node lt (held_node y.shape P GateClosed actor sound.trace.lawful rests rests.node rests.curr refl)))

  ready_release : Follows Release
  ready_release has plays = let locks = release_locks actor.hold has in (pred_place locks, curr_there locks)

  ready_unlink : Follows Unlink
  ready_unlink has plays =
      let two = and_parts (has_marked actor.hold && is_some actor.curr) _ has in
      let first = and_parts (has_marked actor.hold) (is_some actor.curr) two.0 in
      let hold = is_marking actor.hold first.0 in
      let rests : HasClosed y.shape.buckets true actor P = subst (λ (q : LockPhase). RestsOn y.shape.buckets q actor P) hold (sound.locks.rests a) in
      let lt = slot_lt (ap has_locks hold) rests.node rests.curr in
      let leads = may_unlink_at y.shape y.words P sound.trace (few_slots sound.images) w heads links keys actor.pred rests.node rests.before in
      (rests.node, rests.curr, (lt, pred_place (ap has_locks hold), leads, node_key rests.node lt (held_node y.shape P Marked actor sound.trace.lawful rests rests.node rests.curr refl)))

  -- of the node that was claimed, which a call that retires it knows
  ready_retire : (s : ℕ) → actor.curr ≡ Some s → Follows Retire
  ready_retire s node has plays =
      let gone = sound.slots.out a s (record { node = node; removed = ap has_removed_node (is_released actor.hold has) }) in
      (s, node, (omega (arith, gone.in_range, sound.slots.count), gone.taken))

  ready_answer : Follows Answer
  ready_answer has plays = (omega (arith, pin, sound.reuse.worn a), slot_kept actor.slot refl)
    where
      slot_kept : (slot : Option ℕ) → actor.slot ≡ slot → IfSome slot (λ s. (s < y.shape.slots) × (is_unused (cell_at z s).stage ≡ true → IsTakenAt y.uses s))
      slot_kept None is = tt
      slot_kept (Some s) is =
          let hand = sound.slots.hand a s is in
          (hand.in_range, λ unused. (omega (arith, hand.in_range, sound.slots.count), hand.taken))

  ready_for : (e : Event) → Knows (view_of y.shape y.vault y.actors a) P e → Follows e
  ready_for Pin knows has plays = ready_pin has plays
  ready_for (WriteKey k) knows has plays = ready_key k knows has plays
  ready_for Check knows has plays = ready_check has plays
  ready_for WriteOpen knows has plays = ready_open knows has plays
  ready_for Link knows has plays = ready_link has plays
  ready_for WriteClose knows has plays = ready_close has plays
  ready_for Mark knows has plays = ready_mark has plays
  ready_for Release knows has plays = ready_release has plays
  ready_for Unlink knows has plays = ready_unlink has plays
  ready_for Retire knows has plays = ready_retire knows.0 knows.1 has plays
  ready_for Answer knows has plays = ready_answer has plays
  ready_for _ knows has plays = tt

-- A call that opens a slot knows its key.
abbrev is_write_open : Event → Bool
is_write_open WriteOpen = true
is_write_open _ = false

-- A call that retires knows the node.
abbrev is_retire : Event → Bool
is_retire Retire = true
is_retire _ = false

module _ (words : Words) (shape : Shape) (v : View) (c : Command) (P0 P : Trace) (changed : Option ℕ) where
  abbrev Retires : Progress → Type 0
  Retires at = is_retire (loaded words (event_at shape c at)) ≡ true

  retires_in : (sequence : Sequence) (i : ℕ) → Relies v c (Playing sequence i) P0 P changed → Retires (Playing sequence i) → (s : ℕ) × (v.actor.curr ≡ Some s)
  retires_in sequence i h is = grind arith

  retires_node : (at : Progress) → Relies v c at P0 P changed → Retires at → (s : ℕ) × (v.actor.curr ≡ Some s)
  retires_node (Playing sequence i) h is = retires_in sequence i h is
  retires_node _ h is = absurd (false≢true is)

  abbrev Opens : Progress → Type 0
  Opens at = is_write_open (loaded words (event_at shape c at)) ≡ true

  opens_in : (sequence : Sequence) (i : ℕ) → Relies v c (Playing sequence i) P0 P changed → Opens (Playing sequence i) → Knows v P WriteOpen
  opens_in sequence i h is = grind arith

  opens_slot : (at : Progress) → Relies v c at P0 P changed → Opens at → Knows v P WriteOpen
  opens_slot (Playing sequence i) h is = opens_in sequence i h is
  opens_slot _ h is = absurd (false≢true is)

  caller_knows : (at : Progress) → (is_before_pin at ≡ false → is_old v.format c ≡ false) → Relies v c at P0 P changed → (e : Event) → loaded words (event_at shape c at) ≡ e → Knows v P e
  caller_knows = grind (arith, nat_tests, opens_slot, retires_node, writes_fitting, key_written)

-- an event that begins a call
abbrev pub is_invoke : Event → Bool
is_invoke (Invoke c) = true
is_invoke _ = false

called : (caller : Option Caller) (A : Caller → Type 0) → IsSomeAnd caller A → (x : Caller) × (caller ≡ Some x) × A x
called caller A h = grind (arith, nat_tests)

-- any other one is the next of a caller
abbrev pub NextOf : Service → ℕ → Event → Type 0
NextOf service a e = (x : Caller) × (caller_at service.callers a ≡ Some x) × (next_event service.yard x ≡ e)

pub next_of : (service : Service) (a : ℕ) (e : Event) → is_invoke e ≡ false → IsNext service a e → NextOf service a e
next_of service a (Invoke c) other next = absurd (false≢true (sym other))
next_of service a e other next = called (caller_at service.callers a) (λ x. next_event service.yard x ≡ e) next

-- a yard, by its parts
by_parts : (y other : Yard) → y.shape ≡ other.shape → y.locks ≡ other.locks → y.vault ≡ other.vault → y.uses ≡ other.uses → y.actors ≡ other.actors → y ≡ with_words other y.words
by_parts y other shape locks vault uses actors = grind arith

module _ (y : Yard) (honest : Bool) (disk : Medium) (a : ℕ) (e : Event) (may : MayPlay y honest disk a e) where
  -- the point that was reached
  abbrev pub last : Point
  last = run (first_point may.start) may.reached.steps

  pub sound_there : IsUpAt last.calls may.service may.medium last.trace
  sound_there = up_at may.start last may.service may.medium (reached_sound may.start may.reached.steps may.reached.starts may.reached.runs) may.reached.state

  -- the yard is that of the service, with its own pin words
  pub same_yard : y ≡ with_words may.service.yard y.words
  same_yard = by_parts y may.service.yard may.yard.shape may.yard.locks may.yard.vault may.yard.uses may.yard.actors

  actors_are : length y.actors ≡ may.service.yard.shape.passes
  actors_are = ap (λ (l : List Actor). length l) may.yard.actors ∙ sound_there.up.sound.callers.hands

  -- a caller is one of the yard's actors
  pub next_in_range : is_invoke e ≡ false → (1 ≤ a) × (a ≤ length y.actors)
  next_in_range other =
      let caller = next_of may.service a e other may.next in
      let range = caller_range may.service.callers a caller.0 caller.1 in
      (range.0, omega (arith, range.1, actors_are, sound_there.up.sound.callers.count))

  knows : Knows (view_of may.service.yard.shape may.service.yard.vault may.service.yard.actors a) last.trace e
  knows = elim (cases_Bool (is_invoke e)) [
    | inl invokes ↦ begins_knowing e invokes
    | inr other ↦
        let caller = next_of may.service a e other may.next in
        let sound = sound_there.up.sound in
        let own = mine may.service.yard.shape may.service.yard.vault may.service.yard.words.pins may.service.yard.actors may.service.callers last.trace sound_there.notes a caller.0 caller.1 sound.callers in
        caller_knows may.service.yard.words may.service.yard.shape (view_of may.service.yard.shape may.service.yard.vault may.service.yard.actors a) caller.0.command
        (sound_there.notes.begun a) last.trace (sound_there.notes.changed a) caller.0.progress
        (λ after. own.stands.1 (side_even (pin_in may.service.yard.words.pins a) caller.0.progress own.stands.0 ∙ ap side_of after)) own.stands.2 e caller.2
  ]
    where
      begins_knowing : (e' : Event) → is_invoke e' ≡ true → Knows (view_of may.service.yard.shape may.service.yard.vault may.service.yard.actors a) last.trace e'
      begins_knowing e' is = grind (arith, nat_tests, false≢true)

  -- an event of an actor of the yard that is played has what its calls ask for
  pub ready_in_range : (1 ≤ a) × (a ≤ length y.actors) → IsEventOf y e → needs y a e ≡ true → course y a e ≡ Plays → IsReady y a e
  ready_in_range range event has plays =
      let there = sound_there in
      record {
        actor = range;
        event = event;
        calls = subst (λ (q : Yard). IsReadyFor q (actor_at q a) a e) (sym same_yard)
            (ready_for there.n last.calls may.service.yard may.service.callers may.medium there.life.history last.trace there.notes there.up.sound y.words may.yard.heads may.yard.links may.yard.keys a range.0 may.yard.pin e knows
            (subst (λ (q : Yard). needs q a e ≡ true) same_yard has) (subst (λ (q : Yard). course q a e ≡ Plays) same_yard plays));
      }

-- What is played in a reached state has what its calls ask for. An Invoke may come of any number, so its actor's range is
-- asked for.
pub ready : (y : Yard) (honest : Bool) (disk : Medium) (a : ℕ) (e : Event) → MayPlay y honest disk a e → (is_invoke e ≡ true → (1 ≤ a) × (a ≤ length y.actors)) → IsEventOf y e → needs y a e ≡ true → course y a e ≡ Plays → IsReady y a e
ready y honest disk a e may invoker = ready_in_range y honest disk a e may (in_range (is_invoke e) refl)
  where
    in_range : (b : Bool) → is_invoke e ≡ b → (1 ≤ a) × (a ≤ length y.actors)
    in_range true is = invoker is
    in_range false is = next_in_range y honest disk a e may is

-- The same of an actor in range, from the course alone.
pub ready_to_play : (y : Yard) (honest : Bool) (disk : Medium) (a : ℕ) (e : Event) → MayPlay y honest disk a e → 1 ≤ a → a ≤ length y.actors → IsEventOf y e → course y a e ≡ Plays → IsReady y a e
ready_to_play y honest disk a e may low high event plays = ready_in_range y honest disk a e may (low, high) event (plays_needs y a e plays) plays
