-- One turn of a pass that has joined the pen: what it asks of the yard, what its note tells, and what it leaves.
use Rattle.lz_refinement.proofs.Hold.NextStep as holding
use Rattle.std.proofs.Common.{◌≡◌, ◌≢◌, ⊎_elim, ℕ, suc, ◌≤◌, ◌<◌, Bool, true, false, List, [], ◌++◌, map, length, refl, sym, ap, ◌∙◌, subst, arith, eq-eqb}
use Rattle.std.proofs.{Common.{is_some, if◌then◌else◌, Option, Some, None, IfSome}, lemmas.Bool.{not-true}}
use mathlib.Core.Bool.{false≢true}
use Rattle.lz_slot.proofs.Counted.{of_pass_same, length-set_of_pass}
use Rattle.lz_refinement.proofs.Vocabulary.{Device, Taken, use_of, Word, get, set, IsWord, Trace, Lawful, IsLoose, Event, Outcome, Course, Shape, Yard, actor_at}
use Rattle.lz_refinement.proofs.Vocabulary.{course, line, line_on, line_failed, line_publishes, published_on, outcome_of, yard_done, uses_after, actors_after, pin_of}
use Rattle.lz_refinement.proofs.Vocabulary.{last_pin, stays_out, pin_answered, event_at, Calling, HasPass, IsEventOf, IsReadyFor, MayPlay, with_words, Told, value_of}
use Rattle.lz_refinement.proofs.Vocabulary.{Sizes, Note, Part, note_by, stamped, as_list, own, trace_of, steps_of, load_note, splice, AllShown, place, pin_after}
use Rattle.lz_refinement.proofs.Vocabulary.{pin_after_what, pin_after_played, shape_of_sizes, is_calling, shows_played, Sighting, MayNote, MayPrepare, KeepsPin}
use Rattle.lz_refinement.proofs.{Vocabulary.{MovesPin, Writes, noted, found_note, BoardId}, Hold.Exchanges.{Exchange, IsExchange}}
use Rattle.lz_refinement.proofs.Hold.{OneWord.{IsWalked, line_others, line_own, pin_changed, counting_silent}, NoteCondition.{listed_is, listed_none, alike_tied}}
use Rattle.lz_refinement.proofs.Hold.{NoteCondition.{tied_loose, tied_held, tied_shared, noting_writes, noting_nothing, noting_lawful}, NotedStep.{NotedStep}}
use Rattle.lz_refinement.proofs.{Hold.PreparedSlot.{prepared, prepared_hand, prepares_left}, Reuse.{SightUpkeep.{noted_same}, EventUpkeep.{is_reusing}}}
use Rattle.lz_refinement.proofs.Reuse.EventUpkeep.{reusing_silent, leaves, slot_in, silent_told, plain_told, reserve_told, retired_told, seen_told, answered_told}
use Rattle.lz_refinement.proofs.Reading.{PinWords.{is_counting, line_count, own_pin, moved_pin, fault_pin}, StandingCall.{still_calling}}
use Rattle.lz_refinement.specs.{NotedRuns.{AreNext, SameButAllPins, IsTied, seen_event}, Holds.{sizes_of, IsLocked, InHold, IsTurn, SeesPin, Turned}}
use Rattle.lz_refinement.specs.Reuse.{ReuseTold}
use Rattle.lz_list.specs.declared.word.Word.TheVariants.{Head as head_at, Link as link_at, Key as key_at, Pin as pin_at, Halt as halt_word}
use Rattle.lz_machine.specs.declared.event.{Event.TheVariants.{Pin, Answer, Reserve, Retire, SeePin}, Outcome.TheVariants.{Done, Fault}}
use Rattle.lz_machine.{specs.declared.course.Course.TheVariants.{Plays}, proofs.{Frames.Outside.{answered_pin, worn_out}, Runs.EventRange.{is_event}}}
use Rattle.lz_machine.proofs.{Runs.Course.{plays_needs}, Theorem.Readiness.{is_invoke, ready}}
use Rattle.lz_yard.{specs.Steps.{Played as PlayedOver}, proofs.Events.KeptFit.{fault_or_not}}
use Rattle.lz_board.{specs.declared.view.What.TheVariants.{Played}, proofs.Upkeep.Splice.{trace_splice, pin_splice}}

module _ (b : BoardId) (ns : List Note) (y : Yard) (dev : Device) (h : Part) (hold : InHold b ns y dev h) (c : Calling) (e : Event) (turn : IsTurn ns h c e) where
  abbrev a : ℕ
  a = h.number

  -- the yard that was told of the pass's pin word
  abbrev z : Yard
  z = with_words y (set y.words (pin_at a) h.pin)

  shape_is : shape_of_sizes h.sizes ≡ y.shape
  shape_is = ap shape_of_sizes (hold.knows.sized ∙ hold.locked.sizes)

  calling : is_calling b.sizes h.steps ≡ true
  calling = subst (λ (s : Sizes). is_calling s h.steps ≡ true) hold.knows.sized (still_calling (shape_of_sizes h.sizes) h.number h.loads h.steps (ap is_some turn.call.at))

  pin_now : pin_after a ns ≡ h.pin
  pin_now = hold.told.calling (subst (λ l. is_calling b.sizes l ≡ true) (sym hold.knows.noted) calling)

  alike : SameButAllPins z y
  alike = record { shape = refl; heads = refl; links = refl; keys = refl; halt = refl; locks = refl; vault = refl; uses = refl; actors = refl }

  -- the pass is one of the yard's
  in_range : (1 ≤ a) × (a ≤ y.shape.passes)
  in_range = let high = hold.knows.numbered.1 in let passes = ap (λ (s : Sizes). s.passes) hold.locked.sizes in (hold.knows.numbered.0, omega (arith, high, passes))

  pin_same : pin_of z a ≡ h.pin
  pin_same = let high = in_range.1 in let pins = hold.locked.pins in of_pass_same y.words.pins a h.pin 0 in_range.0 (omega (arith, high, pins))

  counted : length z.words.pins ≡ y.shape.passes
  counted = length-set_of_pass y.words.pins a h.pin ∙ hold.locked.pins

  shown : AllShown (sizes_of y.shape) (trace_of b.opened ns) h.loads
  shown = subst (λ s. AllShown s (trace_of b.opened ns) h.loads) hold.locked.sizes hold.knows.shown

  next : AreNext y.shape a h.loads (steps_of a ns)
  next = subst (λ (x : Shape × List Note). AreNext x.0 a h.loads x.1) (λ i. (shape_is i, sym hold.knows.noted i)) turn.call.next

  place_is : place y.shape (map (load_note a) h.loads ++ steps_of a ns) ≡ Some (c.command, c.progress)
  place_is = subst (λ (x : Shape × List Note). place x.0 (map (load_note a) h.loads ++ x.1) ≡ Some (c.command, c.progress)) (λ i. (shape_is i, sym hold.knows.noted i)) turn.call.at

  event_is : e ≡ seen_event (λ q. pin_after q ns) (event_at y.shape c.command c.progress)
  event_is = turn.event ∙ ap (λ s. seen_event (λ q. pin_after q ns) (event_at s c.command c.progress)) shape_is

  pass_is : HasPass y.shape.passes (event_at y.shape c.command c.progress)
  pass_is = subst (λ s. HasPass s.passes (event_at s c.command c.progress)) shape_is turn.call.pass

  -- so the yard plays the event
  pub plays : MayPlay z dev.honest dev.medium a e
  plays = holding.may_play b.opened ns y dev hold.locked.tied h in_range.0 hold.knows.quiet hold.knows.least hold.knows.order shown next c.command c.progress place_is z alike (pin_same ∙ sym pin_now) e event_is pass_is

  asks : IsEventOf z e
  asks = is_event z dev.honest dev.medium a e plays

  z_tied : IsTied b.opened ns z dev.honest dev.medium
  z_tied = alike_tied b.opened ns y z dev hold.locked.tied alike

  -- What it gave.
  module _ (o : Outcome) (z' : Yard) (told : Told) (dev' : Device) (played : PlayedOver z a e o z' told dev dev') (shape : z'.shape ≡ z.shape) where
    abbrev n : Note
    n = stamped dev'.moment (note_by a (Played e o) told.published)

    done : o ≢ Fault → as_list told.published ≡ line_publishes z a e
    done ok = listed_is told.published ∙ (played.done ok).published

    failed : o ≡ Fault → told.published ≡ None
    failed bad = ap (λ (t : Told). t.published) (played.failed bad).nothing

    tied : IsTied b.opened (noted b.opened ns h n) z' dev'.honest dev'.medium
    tied = holding.holds_on b.opened ns y dev hold.locked.tied h in_range.0 hold.knows.quiet hold.knows.least hold.knows.order shown next c.command c.progress place_is z alike (pin_same ∙ sym pin_now) e event_is pass_is
        turn.load o z' told dev' played n refl refl done failed

    pub turned : Turned b.opened ns h c.command c.progress e o told.published
    turned = holding.turned b.opened ns y dev hold.locked.tied h in_range.0 hold.knows.quiet hold.knows.least hold.knows.order shown next c.command c.progress place_is z alike (pin_same ∙ sym pin_now) e event_is pass_is
        turn.load o z' told dev' played n refl refl done failed shape_is pin_now (λ inside. hold.knows.turned inside calling)

    -- a word that wasn't told of is as it was
    stays : (v : Word) → told.changed ≢ Some v → get z'.words v ≡ get z.words v
    stays v away = ⊎_elim
        (λ bad. ap (λ (q : Yard). get q.words v) (played.failed bad).yard)
        (λ ok. ap (λ (q : Yard). get q.words v) (played.done ok).yard ∙ line_others z a e v (λ is. away ((played.done ok).word ∙ is)))
        (fault_or_not o)

    -- where a word was told of, the event was done
    was_done : (v : Word) → told.changed ≡ Some v → o ≢ Fault
    was_done v is bad = absurd (false≢true (sym (ap (λ (t : Told). is_some t.changed) (played.failed bad).nothing) ∙ ap is_some is))

    pins_counted : length z'.words.pins ≡ y.shape.passes
    pins_counted = ⊎_elim
        (λ bad. ap (λ (q : Yard). length q.words.pins) (played.failed bad).yard ∙ counted)
        (λ ok. ap (λ (q : Yard). length q.words.pins) (played.done ok).yard ∙ line_count z a e (course z a e) ∙ counted)
        (fault_or_not o)

    no_publishing : line_publishes z a e ≡ [] → told.published ≡ None
    no_publishing silent = ⊎_elim (λ bad. failed bad) (λ ok. listed_none told.published (done ok ∙ silent)) (fault_or_not o)

    -- a slot that isn't taken stood on no chain before
    was_loose : (s : ℕ) → use_of y.uses s ≢ Taken → IsLoose b.sizes.buckets s (trace_of b.opened ns)
    was_loose s other = subst (λ (k : Sizes). IsLoose k.buckets s (trace_of b.opened ns)) (sym hold.locked.sizes) (tied_loose b.opened ns y dev.honest dev.medium hold.locked.tied s other)

    -- an event that changes what slots are used for
    module _ (ok : o ≢ Fault) (plays_it : course z a e ≡ Plays) where
      by_reuse : (e' : Event) → e ≡ e' → is_reusing e' ≡ true → told.published ≡ None → ReuseTold b.sizes b.opened (noted b.opened ns h n) (uses_after z (actor_at z a) a e') (actors_after z (actor_at z a) a e')
      by_reuse Reserve same reuses none = reserve_told b.sizes b.opened a h.loads ns n z hold.locked.reuse none
      by_reuse Retire same reuses none = retired_told b.sizes b.opened a h.loads ns n z hold.locked.reuse none (ap (λ (s : Sizes). s.passes) (sym hold.locked.sizes))
      by_reuse (SeePin q v) same reuses none =
          let f = subst (SeesPin ns) same turn.found in
          let x : Sighting b.opened ns q = record { note = found_note q v; rest = f.0; within = ([], f.1); shown = eq-eqb q q refl } in
          let there = noted_same b.opened a h.loads ns n q x in
          let range = subst (IsEventOf z) same asks in
          let high = range.1 in
          let passes = ap (λ (s : Sizes). s.passes) hold.locked.sizes in
          seen_told b.sizes b.opened a h.loads ns n z hold.locked.reuse none was_loose q v range.0 (omega (arith, high, passes)) there.seen
          (there.value ∙ ap (λ t. if t then v else pin_after q f.0) (eq-eqb q q refl))
          (there.trace ∙ sym (ap (trace_of b.opened) f.1) ∙ sym (same_trace none))
        where
          same_trace : told.published ≡ None → trace_of b.opened (noted b.opened ns h n) ≡ trace_of b.opened ns
          same_trace none = ap (λ l. as_list l ++ trace_of b.opened (splice b.opened a h.loads ns)) none ∙ trace_splice b.opened a h.loads ns
      by_reuse Answer same reuses none =
          let high = in_range.1 in
          let passes = ap (λ (s : Sizes). s.passes) hold.locked.sizes in
          let done_is : o ≡ Done = (played.done ok).answer ∙ ap (λ (k : Course). (line_on k z (actor_at z a) a e).1) plays_it ∙ ap (outcome_of z (actor_at z a)) same in
          let rest = splice b.opened a h.loads ns in
          let x : Sighting b.opened (noted b.opened ns h n) a = record {
            note = n;
            rest = rest;
            within = ([], refl);
            shown = ap (λ t. if t then shows_played e o else false) (eq-eqb a a refl) ∙ (λ i. shows_played (same i) (done_is i));
          } in
          let value = ap (λ t. if t then pin_after_played e o (pin_after a rest) else pin_after a rest) (eq-eqb a a refl)
          ∙ (λ i. pin_after_played e ((played.done ok).answer i) ((pin_splice b.opened a a h.loads ns ∙ pin_now ∙ sym pin_same) i))
          ∙ sym (own_pin z a in_range.0 (omega (arith, high, counted)) e).own ∙ (λ i. pin_of (line_on (plays_it i) z (actor_at z a) a (same i)).0 a) ∙ answered_pin z (actor_at z a) a in_range.0 (omega (arith, high, counted)) in
          answered_told b.sizes b.opened a h.loads ns n z hold.locked.reuse none was_loose a (pin_answered (actor_at z a) (pin_of z a)) in_range.0 (omega (arith, high, passes)) x value (sym (ap (λ l. as_list l ++ trace_of b.opened rest) none)) refl refl
      by_reuse e' same reuses none = absurd (false≢true reuses)

      now_is : z' ≡ yard_done z (actor_at z a) a e
      now_is = (played.done ok).yard ∙ ap (λ (k : Course). (line_on k z (actor_at z a) a e).0) plays_it

      as_board : (s : ℕ) → IsLoose z'.shape.buckets s (trace_of b.opened (noted b.opened ns h n)) → IsLoose b.sizes.buckets s (as_list told.published ++ trace_of b.opened ns)
      as_board s loose = subst (λ (q : Sizes × Trace). IsLoose q.0.buckets s q.1) (λ i. ((ap sizes_of shape ∙ sym hold.locked.sizes) i, ap (λ l. as_list told.published ++ l) (trace_splice b.opened a h.loads ns) i)) loose

      played_reuse : ReuseTold b.sizes b.opened (noted b.opened ns h n) (uses_after z (actor_at z a) a e) (actors_after z (actor_at z a) a e)
      played_reuse = go (is_reusing e) refl
        where
          go : (reuses : Bool) → is_reusing e ≡ reuses → ReuseTold b.sizes b.opened (noted b.opened ns h n) (uses_after z (actor_at z a) a e) (actors_after z (actor_at z a) a e)
          go true reuses = by_reuse e refl reuses (no_publishing (reusing_silent z a e reuses))
          go false plain = plain_told b.sizes b.opened a h.loads ns n z hold.locked.reuse e plain
              (λ s other. as_board s (tied_loose b.opened (noted b.opened ns h n) z' dev'.honest dev'.medium tied s (λ taken. other (ap (λ us. use_of us s) (sym (leaves z a e plain) ∙ sym (ap (λ (q : Yard). q.uses) now_is)) ∙ taken))))
              (λ d s held. as_board s (tied_held b.opened (noted b.opened ns h n) z' dev'.honest dev'.medium tied d s (ap (λ (q : Yard). slot_in q.actors d) now_is ∙ held)))

    reuse : ReuseTold b.sizes b.opened (noted b.opened ns h n) z'.uses z'.actors
    reuse = ⊎_elim
        (λ bad. at_yard (line_failed z a e).0 (played.failed bad).yard (silent (failed bad)))
        (λ ok. at_yard (line z a e).0 (played.done ok).yard (by_course ok (course z a e) refl))
        (fault_or_not o)
      where
        at_yard : (q : Yard) → z' ≡ q → ReuseTold b.sizes b.opened (noted b.opened ns h n) q.uses q.actors → ReuseTold b.sizes b.opened (noted b.opened ns h n) z'.uses z'.actors
        at_yard q is told = subst (λ (r : Yard). ReuseTold b.sizes b.opened (noted b.opened ns h n) r.uses r.actors) (sym is) told

        silent : told.published ≡ None → ReuseTold b.sizes b.opened (noted b.opened ns h n) z.uses z.actors
        silent none = silent_told b.sizes b.opened a h.loads ns n z hold.locked.reuse none

        by_course : o ≢ Fault → (k : Course) → course z a e ≡ k → ReuseTold b.sizes b.opened (noted b.opened ns h n) (line_on k z (actor_at z a) a e).0.uses (line_on k z (actor_at z a) a e).0.actors
        by_course ok Plays is = played_reuse ok is
        by_course ok _ is = silent (no_publishing (ap (λ (k : Course). published_on k z (actor_at z a) a e) is))

    locked : IsLocked b (noted b.opened ns h n) z' dev'
    locked = record { sizes = hold.locked.sizes ∙ ap sizes_of (sym shape); pins = pins_counted ∙ ap (λ (s : Shape). s.passes) (sym shape); tied = tied; reuse = reuse }

    lawful : Lawful b.sizes.buckets b.sizes.slots (as_list told.published ++ trace_of b.opened ns)
    lawful = subst (λ (s : Sizes). Lawful s.buckets s.slots (as_list told.published ++ trace_of b.opened ns)) (ap sizes_of shape ∙ sym hold.locked.sizes) (noting_lawful b.opened ns z' dev'.honest dev'.medium a h.loads n tied)

    made : (q : ℕ) → q ≢ a → own q (as_list told.published) ≡ []
    made q away = ⊎_elim
        (λ bad. ap (λ x. own q (as_list x)) (failed bad))
        (λ ok. ap (own q) (done ok) ∙ line_own z a q e away)
        (fault_or_not o)

    prepares : MayPrepare b.sizes b.opened ns told.published
    prepares = ⊎_elim
        (λ bad. subst (MayPrepare b.sizes b.opened ns) (sym (failed bad)) tt)
        (λ ok. prepares_left b.sizes b.opened ns told.published (λ s is. hold.locked.reuse.hands a s (prepared_hand z a e s (sym (ap prepared (done ok)) ∙ is))))
        (fault_or_not o)

    may_note : MayNote b.sizes b.opened ns h n
    may_note = record { by = refl; step = tt; pin = pin_now; inside = λ _. calling; lawful = lawful; made = made; prepares = prepares }

    -- what the own pin word becomes, as the note tells
    own_is : o ≢ Fault → pin_of z' a ≡ pin_after_played e o h.pin
    own_is ok =
        let high = in_range.1 in
        ap (λ (q : Yard). pin_of q a) (played.done ok).yard ∙ (own_pin z a in_range.0 (omega (arith, high, counted)) e).own ∙ (λ i. pin_after_played e (sym (played.done ok).answer i) (pin_same i))

    by_itself : (m : ℕ) → pin_after_played e o h.pin ≡ m → pin_after_what a a n.what h.pin ≡ m
    by_itself m is = ap (λ t. if t then pin_after_played e o h.pin else h.pin) (eq-eqb a a refl) ∙ is

    -- The exchange is of a word that walkers load.
    module _ (x : Exchange) (is : IsExchange z'.words told.changed told.before (Some x)) where
      no_pin : told.changed ≢ Some (pin_at a)
      no_pin at = subst (λ w. IsExchange z'.words w told.before (Some x)) at is

      keeps : KeepsPin h n
      keeps = by_itself h.pin (⊎_elim
          (λ bad. ap (λ r. pin_after_played e r h.pin) bad ∙ fault_pin e h.pin)
          (λ ok. sym (own_is ok) ∙ stays (pin_at a) no_pin ∙ pin_same)
          (fault_or_not o))

      as_sizes : Writes (sizes_of z.shape) (trace_of b.opened ns) x.word x.before x.after told.published → Writes b.sizes (trace_of b.opened ns) x.word x.before x.after told.published
      as_sizes w = subst (λ (s : Sizes). Writes s (trace_of b.opened ns) x.word x.before x.after told.published) (sym hold.locked.sizes) w

      of_word : (w : Word) → IsWalked w → told.changed ≡ Some w → (x.word ≡ w) × (x.before ≡ told.before) × (x.after ≡ get z'.words w) → Writes (sizes_of z.shape) (trace_of b.opened ns) x.word x.before x.after told.published
      of_word w walked at fields =
          let d = played.done (was_done w at) in
          let before : told.before ≡ get z.words w = d.was ∙ ap (value_of z.words) (sym d.word ∙ at) in
          let there = subst (λ q. IfSome q (IsWord z.words)) at d.there in
          subst (λ (q : Word × ℕ × ℕ). Writes (sizes_of z.shape) (trace_of b.opened ns) q.0 q.1 q.2 told.published) (λ i. (sym fields.0 i, sym (fields.1 ∙ before) i, sym fields.2 i))
          (noting_writes b.opened ns z z' dev.honest dev'.honest dev.medium dev'.medium a h.loads n z_tied tied shape w (tied_shared b.opened ns z dev.honest dev.medium z_tied w walked there)
          (λ v away shared. stays v (λ here. away (some_same v w (sym here ∙ at)))))
        where
          or_else : Word → Option Word → Word
          or_else v None = v
          or_else v (Some w) = w

          some_same : (v w : Word) → Some v ≡ Some w → v ≡ w
          some_same v w same = ap (λ (q : Option Word). or_else v q) same

      of_none : told.changed ≡ None → (x.word ≡ link_at 0) × (x.before ≡ 2) × (x.after ≡ 2) → Writes (sizes_of z.shape) (trace_of b.opened ns) x.word x.before x.after told.published
      of_none at fields =
          subst (λ (q : Word × ℕ × ℕ). Writes (sizes_of z.shape) (trace_of b.opened ns) q.0 q.1 q.2 told.published) (λ i. (sym fields.0 i, sym fields.1 i, sym fields.2 i))
          (noting_nothing b.opened ns z z' dev.honest dev'.honest dev.medium dev'.medium a h.loads n 2 z_tied tied shape (λ v shared. stays v (λ here. absurd (false≢true (ap is_some (sym at ∙ here))))))

      writes : Writes b.sizes (trace_of b.opened ns) x.word x.before x.after told.published
      writes = as_sizes (go told.changed refl is)
        where
          go : (w : Option Word) → told.changed ≡ w → IsExchange z'.words w told.before (Some x) → Writes (sizes_of z.shape) (trace_of b.opened ns) x.word x.before x.after told.published
          go None at f = of_none at f
          go (Some (pin_at q)) at f = absurd f
          go (Some (head_at i)) at f = of_word (head_at i) tt at f
          go (Some (link_at i)) at f = of_word (link_at i) tt at f
          go (Some (key_at i)) at f = of_word (key_at i) tt at f
          go (Some halt_word) at f = of_word halt_word tt at f

    -- The pass's own pin word was changed.
    module _ (is : IsExchange z'.words told.changed told.before None) where
      own_word : (w : Option Word) → IsExchange z'.words w told.before None → (q : ℕ) × (w ≡ Some (pin_at q))
      own_word (Some (pin_at q)) f = (q, refl)
      own_word _ f = absurd f

      its_word : (q : ℕ) × (told.changed ≡ Some (pin_at q))
      its_word = own_word told.changed is

      ok : o ≢ Fault
      ok = was_done (pin_at its_word.0) its_word.1

      pins : (is_counting z a e ≡ true) × (course z a e ≡ Plays)
      pins = pin_changed z a its_word.0 e (sym (played.done ok).word ∙ its_word.1)

      none : told.published ≡ None
      none = listed_none told.published (done ok ∙ counting_silent z a e pins.0)

      below : h.pin < last_pin
      below = subst (λ m. m < last_pin) pin_same (go e pins.0 (ready z dev.honest dev.medium a e plays (λ invokes. absurd (not_both e pins.0 invokes)) asks (plays_needs z a e pins.1) pins.1).calls)
        where
          go : (e : Event) → is_counting z a e ≡ true → IsReadyFor z (actor_at z a) a e → pin_of z a < last_pin
          go Pin counting calls = calls
          go Answer counting calls =
              let fresh : pin_of z a ≢ last_pin = λ last. false≢true (sym (not-true (stays_out (actor_at z a) (pin_of z a)) counting) ∙ worn_out (actor_at z a) (pin_of z a) last) in
              omega (arith, calls.0, fresh)
          go e counting calls = absurd (false≢true counting)

          not_both : (e : Event) → is_counting z a e ≡ true → is_invoke e ≡ true → ⊥
          not_both Pin counting invokes = false≢true invokes
          not_both Answer counting invokes = false≢true invokes
          not_both e counting invokes = false≢true counting

      moves : MovesPin h n
      moves =
          let high = in_range.1 in
          let more = moved_pin z a in_range.0 (omega (arith, high, counted)) e pins.0 pins.1 in
          (by_itself (suc h.pin) ((λ i. pin_after_played e ((played.done ok).answer i) (sym pin_same i)) ∙ more ∙ ap suc pin_same), below, none)

    pub noted_turn : NotedStep b ns h z' told dev' n
    noted_turn = record { may = may_note; locked = locked; keeps = keeps; writes = writes; moves = moves }
