-- A turn of a call that goes on keeps the invariant of an open service, whatever the call plays next.
use Rattle.std.proofs.Common.{◌≡◌, ◌≢◌, inl, inr, ℕ, zero, suc, ◌≤◌, ◌==◌, Bool, true, false, List, [], length, Option, Some, None, refl, sym, subst, arith}
use Rattle.std.proofs.lemmas.{Bool.Decides.{eqb_tells}, Option.{none-some}}
use Rattle.lz_slot.specs.{declared.command.Command.{Command, TheVariants.{Add, Remove}}, Sets.{Keys, key_of}, Histories.{History}}
use Rattle.lz_disk.specs.Images.{Medium}
use Rattle.lz_list.specs.declared.{place.Place.{Place, TheVariants.{Node}}, walk.Look.{Look}, word.Word.TheVariants.{Pin as pin_at, Halt as halt_word_at}}
use Rattle.lz_list.specs.{Words.{get, next_at, link_to}, Walks.{wants}, Traces.{Trace}}
use Rattle.lz_machine.specs.declared.event.Event.TheVariants.{Pin, Hop, Reserve, WriteKey, Claim, Check, WriteOpen, Link, WriteClose, Mark, Release, Settle}
use Rattle.lz_machine.specs.declared.event.{Event.TheVariants.{Unlink, Retire, SeePin, Halt}, Outcome.TheVariants.{Done, Worn, NotNow}, Reply.{Reply}}
use Rattle.lz_machine.specs.declared.{course.Course.TheVariants.{Refused, Plays}, caller.Sequence.{Sequence}}
use Rattle.lz_machine.specs.declared.caller.{Sequence.TheVariants.{Pinning, Resting, Writing, Adding, Removing, Releasing, Halting}, Progress.{Progress}}
use Rattle.lz_machine.specs.declared.caller.Progress.TheVariants.{Playing, LoadsHalt, Walking, Reserving, SeeingPins, Claiming, Checking, Answering}
use Rattle.lz_machine.specs.{Yards.{Yard, actor_at}, Table.{last_pin, node_of, words_after, publishes, yard_done, course_alive, course, line, pin_of}}
use Rattle.lz_machine.specs.{Runs.{Caller, caller_at, next_event, reply_at}, Notes.{Notes, entries}}
use Rattle.lz_machine.specs.{CallersSound.{view_of, Relies, ReliesOn, ReliesAdding, ReliesRemoving, ReliesWriting}, Sound.{UpSound}}
use Rattle.lz_machine.proofs.Frames.{OneActor.{moving, caller_range, moved_other, same_entries}, PinNotes.{noted_same, noted_in}}
use Rattle.lz_machine.proofs.Frames.{ChangeNotes.{told_same, told_link, told_mark}, PinOrder.{since_pin, turn_after, adds_change, pin_after}}
use Rattle.lz_machine.proofs.Steps.{Hop.{call_at, own, hop_keeps, halt_load_keeps}, Claim.{claim_keeps}, Check.{check_keeps}}
use Rattle.lz_machine.proofs.Steps.{Release.{release_keeps, linked_release_keeps, unlinked_release_keeps}, Reserve.{see_pin_keeps, reserve_keeps}}
use Rattle.lz_machine.proofs.Steps.{Pin.{begins_now, pin_keeps, worn_keeps}, Sync.{sync_written_keeps, sync_added_keeps, sync_marked_keeps, sync_rest_keeps}}
use Rattle.lz_machine.proofs.Steps.{Halt.{halt_keeps}, Retire.{retire_keeps}, Unlink.{unlink_keeps, redirect_pins}, Mark.{mark_keeps}, Link.{link_keeps}}
use Rattle.lz_machine.proofs.Steps.{WriteClose.{write_close_keeps}, WriteKey.{write_key_keeps}, WriteOpen.{write_open_keeps}}
use Rattle.lz_machine.proofs.{Steps.Settle.{settle_added_keeps, settle_marked_keeps, settle_rest_keeps}, Ledger.Change.{changes_at}}
use Rattle.lz_machine.proofs.Runs.NextEvent.{since_same, Goes, turned, turned_same, by_course, by_course_too, plays_turn, plays_turn_too, sync_turn}

-- a settling changes no pin
pub settled_pins : (y : Yard) (a s : ℕ) → (words_after y (actor_at y a) a (Settle s)).pins ≡ y.words.pins
settled_pins y a s = grind arith

module _ (n calls : ℕ) (y : Yard) (callers : List (Option Caller)) (disk : Medium) (M : History) (P : Trace) (start : Keys) (notes : Notes) (up : UpSound n calls (record { yard = y; callers = callers }) disk (record { start = start; history = M }) P notes) (a i : ℕ) where
  -- the call's next turn, where it has come so far
  abbrev pub Turns : Command → Progress → Type 0
  Turns c at =
      (line y a (next_event y (call_at i c at))).1 ≢ NotNow → Goes n calls y callers disk M P start notes a (call_at i c at) (next_event y (call_at i c at)) (course y a (next_event y (call_at i c at)))

  abbrev IsAt : Command → Progress → Type 0
  IsAt c at = caller_at callers a ≡ Some (call_at i c at)

  -- what the call relies on
  known : (c : Command) (at : Progress) → IsAt c at → Relies (view_of y.shape y.vault y.actors a) c at (notes.begun a) P (notes.changed a)
  known c at is = (own n calls y callers disk M P notes a i c at is up.sound).stands.2

  in_range : (c : Command) (at : Progress) → IsAt c at → (1 ≤ a) × (a ≤ y.shape.passes)
  in_range c at is = let r = caller_range callers a (call_at i c at) is in (r.0, omega (arith, r.1, up.sound.callers.count))

  -- a call pins, or its pass is worn
  pin_turn : (c : Command) → IsAt c (Playing Pinning 0) → Turns c (Playing Pinning 0)
  pin_turn c is now = by_course_too n calls y callers disk M P start notes up a i c (Playing Pinning 0) is refl Pin refl now (elim (eqb_tells (pin_of y a) last_pin) [
    | inl last ↦ subst (Goes n calls y callers disk M P start notes a (call_at i c (Playing Pinning 0)) Pin) (sym (worn last.0)) (
      notes,
      turned_same n calls y callers disk M P start notes up a i c (Playing Pinning 0) is refl y Worn disk [] refl refl (worn_keeps n calls y callers disk M P notes a i c is last.1 up.sound),
      noted_same y.words.pins y.words.pins P notes.begun refl,
      told_same y.words.pins P notes.changed,
    )
    | inr fresh ↦ subst (Goes n calls y callers disk M P start notes a (call_at i c (Playing Pinning 0)) Pin) (sym (plays fresh.0)) (
      begins_now notes a P,
      turned n calls y callers disk M P start notes up a i c (Playing Pinning 0) is refl (begins_now notes a P) (yard_done y (actor_at y a) a Pin) Done disk []
          (pin_keeps n calls y callers disk M P notes up.sound a (in_range c (Playing Pinning 0) is).0 (in_range c (Playing Pinning 0) is).1 fresh.1 i c is)
          (pin_after n calls y.shape.passes callers P M notes up.sound.ledger y.words.pins a _ (moving callers a (call_at i c (Playing Pinning 0)) LoadsHalt) (moved_other callers a (call_at i c (Playing Pinning 0)) is LoadsHalt)
          (entries y.shape.passes (moving callers a (call_at i c (Playing Pinning 0)) LoadsHalt) (begins_now notes a P)) (same_entries callers a (call_at i c (Playing Pinning 0)) is LoadsHalt y.shape.passes notes) up.after)
          (since_pin n y.words.pins P notes a _ up.sound.ledger.opened up.since),
      noted_in y.words.pins a P notes.begun (own n calls y callers disk M P notes a i c (Playing Pinning 0) is up.sound).stands.0,
      told_same (yard_done y (actor_at y a) a Pin).words.pins P notes.changed,
    )
  ])
    where
      worn : (pin_of y a == last_pin) ≡ true → course_alive y a (pin_of y a) Pin ≡ Refused Worn
      worn last = rw last refl

      plays : (pin_of y a == last_pin) ≡ false → course_alive y a (pin_of y a) Pin ≡ Plays
      plays fresh = rw fresh refl

  -- a call rests on a node
  rest_turn : (c : Command) (s : ℕ) (reply : Reply) (j : ℕ) → IsAt c (Playing (Resting s reply) j) → ReliesOn (view_of y.shape y.vault y.actors a) c (Resting s reply) j (notes.begun a) P (notes.changed a) → Turns c (Playing (Resting s reply) j)
  rest_turn c s reply zero is relies now =
      sync_turn n calls y callers disk M P start notes up a i c (Playing (Resting s reply) 0) is refl s refl now (λ alive. sync_rest_keeps n calls y callers disk M P notes up.sound a i c s reply alive is)
  rest_turn c s reply (suc zero) is relies now =
      plays_turn n calls y callers disk M P start notes up a i c (Playing (Resting s reply) 1) is refl (Settle s) refl refl refl (settled_pins y a s) refl now (λ alive. settle_rest_keeps n calls y callers disk M P notes up.sound a s i c reply is)
  rest_turn c s reply (suc (suc j)) is relies now = absurd relies

  -- a call writes its key
  write_turn : (c : Command) (s j : ℕ) → IsAt c (Playing (Writing s) j) → ReliesWriting (view_of y.shape y.vault y.actors a) c s j P (notes.changed a) → Turns c (Playing (Writing s) j)
  write_turn c s zero is relies now =
      plays_turn n calls y callers disk M P start notes up a i c (Playing (Writing s) 0) is refl (WriteKey (key_of c)) refl refl refl refl refl now (λ alive. write_key_keeps n calls y callers disk M P notes up.sound a i c s is alive)
  write_turn c s (suc zero) is relies now =
      sync_turn n calls y callers disk M P start notes up a i c (Playing (Writing s) 1) is refl s refl now (λ alive. sync_written_keeps n calls y callers disk M P notes up.sound a i c s alive is)
  write_turn c s (suc (suc j)) is relies now = absurd relies

  -- an adder puts its node on the chain
  link_turn : (k s : ℕ) → IsAt (Add k) (Playing (Adding s) 1) → Turns (Add k) (Playing (Adding s) 1)
  link_turn k s is now = by_course n calls y callers disk M P start notes up a i (Add k) (Playing (Adding s) 1) is refl Link refl refl now (λ alive. (
    changes_at notes a (length P),
    turned n calls y callers disk M P start notes up a i (Add k) (Playing (Adding s) 1) is refl (changes_at notes a (length P)) (yard_done y (actor_at y a) a Link) Done disk (publishes y (actor_at y a) a Link) (link_keeps n calls y callers disk M P notes up.sound a i k s is)
        (turn_after y.words.pins (yard_done y (actor_at y a) a Link).words.pins callers a (call_at i (Add k) (Playing (Adding s) 1)) is (Playing (Adding s) 2) (entries y.shape.passes callers notes)
        (entries y.shape.passes (moving callers a (call_at i (Add k) (Playing (Adding s) 1)) (Playing (Adding s) 2)) (changes_at notes a (length P))) M notes.begun
        (redirect_pins y.words (actor_at y a).pred (link_to (actor_at y a).slot))
        (adds_change n calls y.shape.passes callers P M notes a (length P) (call_at i (Add k) (Playing (Adding s) 1)) is (Playing (Adding s) 2) (known (Add k) (Playing (Adding s) 1) is).3 (in_range (Add k) (Playing (Adding s) 1) is).1 up.sound.ledger) up.after)
        (since_same n calls y callers disk M P start notes up a i (Add k) (Playing (Adding s) 1) is refl (redirect_pins y.words (actor_at y a).pred (link_to (actor_at y a).slot))),
    noted_same y.words.pins (yard_done y (actor_at y a) a Link).words.pins P notes.begun (redirect_pins y.words (actor_at y a).pred (link_to (actor_at y a).slot)),
    told_link (yard_done y (actor_at y a) a Link).words.pins y a P notes,
  ))

  add_turn : (k s j : ℕ) → IsAt (Add k) (Playing (Adding s) j) → ReliesAdding (view_of y.shape y.vault y.actors a) k s j (notes.begun a) P (notes.changed a) → Turns (Add k) (Playing (Adding s) j)
  add_turn k s zero is relies now =
      plays_turn n calls y callers disk M P start notes up a i (Add k) (Playing (Adding s) 0) is refl WriteOpen refl refl refl refl refl now (λ alive. write_open_keeps n calls y callers disk M P notes up.sound a i k s is alive)
  add_turn k s (suc zero) is relies now = link_turn k s is now
  add_turn k s (suc (suc zero)) is relies now =
      plays_turn n calls y callers disk M P start notes up a i (Add k) (Playing (Adding s) 2) is refl Release refl refl refl refl refl now (λ alive. linked_release_keeps n calls y callers disk M P notes a i up.sound k s is)
  add_turn k s (suc (suc (suc zero))) is relies now =
      sync_turn n calls y callers disk M P start notes up a i (Add k) (Playing (Adding s) 3) is refl s refl now (λ alive. sync_added_keeps n calls y callers disk M P notes up.sound a i k s alive is)
  add_turn k s (suc (suc (suc (suc zero)))) is relies now =
      plays_turn n calls y callers disk M P start notes up a i (Add k) (Playing (Adding s) 4) is refl (Settle s) refl refl refl (settled_pins y a s) refl now (λ alive. settle_added_keeps n calls y callers disk M P notes up.sound a s i k is)
  add_turn k s (suc (suc (suc (suc (suc j))))) is relies now = absurd relies

  -- a remover marks its node
  mark_turn : (k s : ℕ) → IsAt (Remove k) (Playing (Removing s) 1) → Turns (Remove k) (Playing (Removing s) 1)
  mark_turn k s is now = by_course n calls y callers disk M P start notes up a i (Remove k) (Playing (Removing s) 1) is refl Mark refl refl now (λ alive. (
    changes_at notes a (length P),
    turned n calls y callers disk M P start notes up a i (Remove k) (Playing (Removing s) 1) is refl (changes_at notes a (length P)) (yard_done y (actor_at y a) a Mark) Done disk (publishes y (actor_at y a) a Mark) (mark_keeps n calls y callers disk M P notes up.sound a i k s is)
        (turn_after y.words.pins (yard_done y (actor_at y a) a Mark).words.pins callers a (call_at i (Remove k) (Playing (Removing s) 1)) is (Playing (Removing s) 2) (entries y.shape.passes callers notes)
        (entries y.shape.passes (moving callers a (call_at i (Remove k) (Playing (Removing s) 1)) (Playing (Removing s) 2)) (changes_at notes a (length P))) M notes.begun refl
        (adds_change n calls y.shape.passes callers P M notes a (length P) (call_at i (Remove k) (Playing (Removing s) 1)) is (Playing (Removing s) 2) (known (Remove k) (Playing (Removing s) 1) is).2.2 (in_range (Remove k) (Playing (Removing s) 1) is).1 up.sound.ledger) up.after)
        (since_same n calls y callers disk M P start notes up a i (Remove k) (Playing (Removing s) 1) is refl refl),
    noted_same y.words.pins y.words.pins P notes.begun refl,
    told_mark y.words.pins y a P notes,
  ))

  remove_turn : (k s j : ℕ) → IsAt (Remove k) (Playing (Removing s) j) → ReliesRemoving (view_of y.shape y.vault y.actors a) k s j P (notes.changed a) → Turns (Remove k) (Playing (Removing s) j)
  remove_turn k s zero is relies now =
      plays_turn n calls y callers disk M P start notes up a i (Remove k) (Playing (Removing s) 0) is refl WriteClose refl refl refl refl refl now (λ alive. write_close_keeps n calls y callers disk M P notes up.sound a i k s is alive)
  remove_turn k s (suc zero) is relies now = mark_turn k s is now
  remove_turn k s (suc (suc zero)) is relies now =
      sync_turn n calls y callers disk M P start notes up a i (Remove k) (Playing (Removing s) 2) is refl s refl now (λ alive. sync_marked_keeps n calls y callers disk M P notes up.sound a i k s alive is)
  remove_turn k s (suc (suc (suc zero))) is relies now =
      plays_turn n calls y callers disk M P start notes up a i (Remove k) (Playing (Removing s) 3) is refl (Settle s) refl refl refl (settled_pins y a s) refl now (λ alive. settle_marked_keeps n calls y callers disk M P notes up.sound a s i k is)
  remove_turn k s (suc (suc (suc (suc zero)))) is relies now =
      plays_turn n calls y callers disk M P start notes up a i (Remove k) (Playing (Removing s) 4) is refl Unlink refl refl refl
      (redirect_pins y.words (actor_at y a).pred (next_at y.words (Node (node_of (actor_at y a))))) refl now
      (λ alive. unlink_keeps n calls y callers disk M P notes up.sound a i k s is)
  remove_turn k s (suc (suc (suc (suc (suc zero))))) is relies now =
      plays_turn n calls y callers disk M P start notes up a i (Remove k) (Playing (Removing s) 5) is refl Release refl refl refl refl refl now (λ alive. unlinked_release_keeps n calls y callers disk M P notes a i up.sound k s is)
  remove_turn k s (suc (suc (suc (suc (suc (suc zero)))))) is relies now =
      plays_turn n calls y callers disk M P start notes up a i (Remove k) (Playing (Removing s) 6) is refl Retire refl refl refl refl refl now (λ alive. retire_keeps n calls y callers disk M P notes up.sound a i k s is)
  remove_turn k s (suc (suc (suc (suc (suc (suc (suc j))))))) is relies now = absurd relies

  -- a call gives its locks back
  release_turn : (c : Command) (aim : Option ℕ) → IsAt c (Playing (Releasing aim) 0) → Turns c (Playing (Releasing aim) 0)
  release_turn c aim is now =
      plays_turn n calls y callers disk M P start notes up a i c (Playing (Releasing aim) 0) is refl Release refl refl refl refl refl now (λ alive. release_keeps n calls y callers disk M P notes a i up.sound c aim is)

  -- a call sets the halt word
  halt_turn : (c : Command) (reply : Reply) → IsAt c (Playing (Halting reply) 0) → Turns c (Playing (Halting reply) 0)
  halt_turn c reply is now =
      plays_turn_too n calls y callers disk M P start notes up a i c (Playing (Halting reply) 0) is refl Halt refl refl refl refl now (halt_keeps n calls y callers disk M P notes up.sound a i c reply is)

  -- each event of each sequence
  sequence_turn : (c : Command) (sequence : Sequence) (j : ℕ) → IsAt c (Playing sequence j) → ReliesOn (view_of y.shape y.vault y.actors a) c sequence j (notes.begun a) P (notes.changed a) → Turns c (Playing sequence j)
  sequence_turn c Pinning zero is relies now = pin_turn c is now
  sequence_turn c (Resting s reply) j is relies now = rest_turn c s reply j is relies now
  sequence_turn c (Writing s) j is relies now = write_turn c s j is relies now
  sequence_turn (Add k) (Adding s) j is relies now = add_turn k s j is relies now
  sequence_turn (Remove k) (Removing s) j is relies now = remove_turn k s j is relies.2 now
  sequence_turn c (Releasing aim) zero is relies now = release_turn c aim is now
  sequence_turn c (Halting reply) zero is relies now = halt_turn c reply is now
  sequence_turn _ _ _ is relies now = absurd relies

  -- a call loads the halt word before its first walk
  load_turn : (c : Command) → IsAt c LoadsHalt → Turns c LoadsHalt
  load_turn c is now = plays_turn_too n calls y callers disk M P start notes up a i c LoadsHalt is refl (Hop halt_word_at) refl refl refl refl now (halt_load_keeps n calls y callers disk M P notes a i c up.sound is)

  -- a call walks
  walk_turn : (c : Command) (aim : Option ℕ) (look : Look) → IsAt c (Walking aim look) → Turns c (Walking aim look)
  walk_turn c aim look is now =
      plays_turn_too n calls y callers disk M P start notes up a i c (Walking aim look) is refl (Hop (wants y.shape.buckets (key_of c) look)) refl refl refl refl now (hop_keeps n calls y callers disk M P notes a i c up.sound aim look is)

  -- a call asks for a slot, and looks at pins
  reserve_turn : (c : Command) (again : Bool) → IsAt c (Reserving again) → Turns c (Reserving again)
  reserve_turn c again is now = plays_turn n calls y callers disk M P start notes up a i c (Reserving again) is refl Reserve refl refl refl refl refl now (λ alive. reserve_keeps n calls y callers disk M P notes up.sound a i c again is)

  see_turn : (c : Command) (p : ℕ) → IsAt c (SeeingPins p) → Turns c (SeeingPins p)
  see_turn c p is now = plays_turn n calls y callers disk M P start notes up a i c (SeeingPins p) is refl (SeePin p (get y.words (pin_at p))) refl refl refl refl refl now (λ alive. see_pin_keeps n calls y callers disk M P notes up.sound a i c p is)

  -- a call claims a pair, and tests it
  claim_turn : (c : Command) (aim : Option ℕ) (pred : Place) (curr : Option ℕ) → IsAt c (Claiming aim pred curr) → Turns c (Claiming aim pred curr)
  claim_turn c aim pred curr is now = plays_turn n calls y callers disk M P start notes up a i c (Claiming aim pred curr) is refl (Claim pred curr) refl refl refl refl refl now (λ alive. claim_keeps n calls y callers disk M P notes a i c up.sound aim pred curr is)

  check_turn : (c : Command) (aim curr : Option ℕ) → IsAt c (Checking aim curr) → Turns c (Checking aim curr)
  check_turn c aim curr is now = plays_turn n calls y callers disk M P start notes up a i c (Checking aim curr) is refl Check refl refl refl refl refl now (λ alive. check_keeps n calls y callers disk M P notes a i c up.sound aim curr is)

  -- each turn of a call that isn't answering
  pub turn_up : (c : Command) (at : Progress) → IsAt c at → reply_at at ≡ None → Turns c at
  turn_up c (Playing sequence j) is goes_on = sequence_turn c sequence j is (known c (Playing sequence j) is)
  turn_up c LoadsHalt is goes_on = load_turn c is
  turn_up c (Walking aim look) is goes_on = walk_turn c aim look is
  turn_up c (Reserving again) is goes_on = reserve_turn c again is
  turn_up c (SeeingPins p) is goes_on = see_turn c p is
  turn_up c (Claiming aim pred curr) is goes_on = claim_turn c aim pred curr is
  turn_up c (Checking aim curr) is goes_on = check_turn c aim curr is
  turn_up c (Answering reply) is goes_on = absurd (none-some _ (sym goes_on))
