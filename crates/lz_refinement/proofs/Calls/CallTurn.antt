-- A call that is under way goes on by a turn of its pass.
use Rattle.std.proofs.Common.{◌≡◌, ◌≢◌, ◌⊎◌, inl, inr, ⊎_elim, ℕ, zero, suc, ◌%◌, ◌≤◌, Bool, true, false, List, [], ◌++◌, map, refl, sym, ap, ◌∙◌, subst, arith}
use Rattle.std.proofs.Common.{eq-eqb, if◌then◌else◌, is_some, Option, Some, None}
use mathlib.Core.Bool.{false≢true}
use Rattle.lz_refinement.proofs.Vocabulary.{Command, Format, HasMembers, Counts, collect, lowest_free, counts, NoCall, Publishing, Trace, halt_word, member, Course}
use Rattle.lz_refinement.proofs.Vocabulary.{Event, Outcome, Progress, Shape, Yard, actor_at, pin_in, course, line, line_on, line_call, line_publishes, published_on}
use Rattle.lz_refinement.proofs.Vocabulary.{publishes, outcome_of, slot_found, event_at, loaded, progress_after, View, view_of, Relies, IsCaller, is_before_pin}
use Rattle.lz_refinement.proofs.Vocabulary.{side_of, hop_of, HasPass, Caller, run, first_point, reply_at, IsLate, Sizes, Note, Part, note_by, as_list, own, trace_of}
use Rattle.lz_refinement.proofs.{Vocabulary.{load_note, shape_of_sizes, pin_after_played, BoardId}, Reading.PinWords.{is_pinning, still_pin}}
use Rattle.lz_refinement.proofs.Calls.{OwnChanges.{calm, calm_none, worn_none, full_none}, TurnResult.{IsRefused, played_or_refused, pin_gives}}
use Rattle.lz_refinement.proofs.Calls.{NextPlace.{Onward, is_full, IsPlain, halting_onward, plays_onward}, PartAfter.{known_after, steps_since, goes}}
use Rattle.lz_refinement.proofs.Calls.InnerEvents.{plain_within, plain_loaded, plain_event, plain_going, plain_inside, plain_unlate}
use Rattle.lz_refinement.specs.{Answers.{IsWithin, last_reserve, reserved_by}, Holds.{HoldNotes, Turned}, UnderWay.{OwnAt, FoundFull, UnderWay}}
use Rattle.lz_machine.specs.declared.{course.Course.TheVariants.{Plays}, event.Event.TheVariants.{Pin, Reserve}}
use Rattle.lz_machine.specs.declared.event.Outcome.TheVariants.{Done, Slot, NoSlot, Worn, NotNow, Fault, Dead}
use Rattle.lz_machine.specs.declared.{event.Reply.TheVariants.{Full, Worn as SaysWorn, OldFile, Halted, Device}, caller.Sequence.TheVariants.{Pinning, Writing}}
use Rattle.lz_machine.{specs.declared.caller.Progress.TheVariants.{Playing, LoadsHalt, Walking, Reserving, Answering}, proofs.Alone.FullSet.{full_of_one_pass}}
use Rattle.lz_machine.proofs.{Frames.OneActor.{caller_range}, Theorem.{NoSlotCounts.{counts_are_right}, Reached.{reached_sound, IsUpAt, up_at}}}
use Rattle.lz_machine.proofs.Theorem.Timeliness.{never_late}
use Rattle.lz_board.specs.declared.view.What.TheVariants.{Played}
use Rattle.lz_yard.proofs.Events.KeptFit.{fault_or_not}

-- which answer a place gives
abbrev pub says_old : Progress → Bool
says_old (Answering OldFile) = true
says_old at = false

-- the counts of an answer that tells some
abbrev told_in : Counts → Progress → Counts
told_in other (Answering (Full counts)) = counts
told_in other at = other

pub not_old : (at : Progress) → is_before_pin at ≡ false → at ≢ Answering OldFile
not_old at inside is = absurd (false≢true (sym inside ∙ ap is_before_pin is))

pub not_full : (at : Progress) (counts : Counts) → is_full at ≡ false → at ≢ Answering (Full counts)
not_full at counts room is = absurd (false≢true (sym room ∙ ap is_full is))

-- the turn was cut off
abbrev IsCutOff : Outcome → Type 0
IsCutOff o = (o ≡ Fault) ⊎ (o ≡ Dead)

module _ (b : BoardId) (c : Command) (format : Format) (before : Part) (at : Progress) (h : Part) (U : UnderWay b c format before at h) (opened : Trace) (was is : List Note) (e : Event) (o : Outcome) (x : Option Publishing) (h' : Part)
    (H : HoldNotes opened was is (note_by h.number (Played e o) x) h h') (T : Turned opened was h c at e o x) where
  abbrev a : ℕ
  a = h.number

  abbrev y : Yard
  y = T.service.yard

  abbrev next : Progress
  next = progress_after (shape_of_sizes h.sizes) c at o

  event_is : loaded y.words (event_at y.shape c at) ≡ e
  event_is = (λ i. loaded y.words (event_at y.shape (sym T.command i) (sym T.progress i))) ∙ T.next

  in_time : (line y a e).1 ≢ NotNow
  in_time = subst (λ (q : Event). (line y a q).1 ≢ NotNow) T.next (never_late T.start T.service T.medium T.history (trace_of opened was) a T.caller T.reached T.call)

  there : IsUpAt (run (first_point T.start) T.reached.steps).calls T.service T.medium (run (first_point T.start) T.reached.steps).trace
  there = up_at T.start (run (first_point T.start) T.reached.steps) T.service T.medium (reached_sound T.start T.reached.steps T.reached.starts T.reached.runs) T.reached.state

  abbrev P : Trace
  P = (run (first_point T.start) T.reached.steps).trace

  abbrev v : View
  v = view_of y.shape y.vault y.actors a

  relies : Relies v c at (there.notes.begun a) P (there.notes.changed a)
  relies = subst (λ (q : Command × Progress). Relies v q.0 q.1 (there.notes.begun a) P (there.notes.changed a)) (λ i. (T.command i, T.progress i))
      (subst (λ (q : Option Caller). IsCaller v (pin_in y.words.pins a) q (there.notes.begun a) P (there.notes.changed a)) T.call (there.up.sound.callers.each a).stands).2

  some : 1 ≤ y.shape.passes
  some = let range = caller_range T.service.callers a T.caller T.call in let count = there.up.sound.callers.count in let low = range.0 in let high = range.1 in omega (arith, low, high, count)

  -- an event that moves no pin word was played, or cut off
  gave : is_pinning e ≡ false → (IsCutOff o × (own a (as_list x) ≡ [])) ⊎ ((o ≡ outcome_of y (actor_at y a) e) × (as_list x ≡ publishes y (actor_at y a) a e))
  gave plain = ⊎_elim
      (λ (bad : o ≡ Fault). inl (inl bad, ap (λ (q : Option Publishing). own a (as_list q)) (T.failed bad).0))
      (λ (ok : o ≢ Fault). let d = T.done ok in ⊎_elim
      (λ (plays : course y a e ≡ Plays). inr (d.0 ∙ ap (λ (k : Course). (line_on k y (actor_at y a) a e).1) plays, d.1 ∙ ap (λ (k : Course). published_on k y (actor_at y a) a e) plays))
      (λ (refused : IsRefused y a e). inl (inr (d.0 ∙ refused.0), ap (own a) (d.1 ∙ refused.1)))
      (played_or_refused y a e plain in_time))
      (fault_or_not o)

  cut_onward : IsCutOff o → own a (as_list x) ≡ [] → Onward y.shape a c (progress_after y.shape c at o) (own a (as_list x) ++ U.own)
  cut_onward cut none = subst (λ (l : Trace). Onward y.shape a c (progress_after y.shape c at o) (l ++ U.own)) (sym none) (⊎_elim
      (λ fault. subst (λ (q : Outcome). Onward y.shape a c (progress_after y.shape c at q) U.own) (sym fault) (halting_onward y.shape a c U.own Device at own_at))
      (λ dead. subst (λ (q : Outcome). Onward y.shape a c (progress_after y.shape c at q) U.own) (sym dead) (halting_onward y.shape a c U.own Halted at own_at))
      cut)
    where
      own_at : OwnAt a c at U.own
      own_at = U.is_own

  -- where it comes to another place inside
  comes_onward : is_pinning e ≡ false → reply_at at ≡ None → is_before_pin at ≡ false → ¬ IsLate at → Onward y.shape a c (progress_after y.shape c at o) (own a (as_list x) ++ U.own) → UnderWay b c format before next h'
  comes_onward plain going inside unlate f =
      let g : Onward (shape_of_sizes h.sizes) a c next (own a (as_list x) ++ U.own) = subst (λ (s : Shape). Onward s a c (progress_after s c at o) (own a (as_list x) ++ U.own)) (sym T.shape) f in
      goes b c format before at h U opened was is e o x h' H going (plain_within e o plain) g.pass (side plain inside g.inside) g.is_own (λ halted. absurd (unlate (U.late halted)))
      (λ old. absurd (not_old next g.inside old)) (λ counts full. absurd (not_full next counts g.room full))
    where
      side : is_pinning e ≡ false → is_before_pin at ≡ false → is_before_pin next ≡ false → h'.pin % 2 ≡ side_of (is_before_pin next)
      side plain here there =
          ap (λ (q : ℕ). q % 2) (H.pin ∙ ap (λ (t : Bool). if t then pin_after_played e o h.pin else h.pin) (eq-eqb a a refl) ∙ still_pin e o h.pin plain)
          ∙ U.side ∙ ap side_of (here ∙ sym there)

  pub plain_turn : IsPlain at → UnderWay b c format before next h'
  plain_turn plain =
      let still : is_pinning e ≡ false = subst (λ (q : Event). is_pinning q ≡ false) event_is (plain_loaded y.words (event_at y.shape c at) (plain_event y.shape c at plain)) in
      comes_onward still (plain_going at plain) (plain_inside at plain) (plain_unlate at plain) (⊎_elim
      (λ cut. cut_onward cut.0 cut.1)
      (λ played. subst (λ (q : Outcome × Trace). Onward y.shape a c (progress_after y.shape c at q.0) (own a q.1 ++ U.own))
      (λ i. (sym (played.0 ∙ ap (outcome_of y (actor_at y a)) (sym event_is)) i, sym (played.1 ∙ ap (publishes y (actor_at y a) a) (sym event_is)) i))
      (plays_onward there.n (run (first_point T.start) T.reached.steps).calls y T.service.callers T.medium there.life.history P there.notes there.up.sound a some (there.notes.begun a) (there.notes.changed a) U.own c at plain relies U.is_own))
      (gave still))

  -- Where it comes to the place k.
  comes_to : (k : Progress) → next ≡ k → reply_at at ≡ None → IsWithin (Played e o) → HasPass h.sizes.passes (event_at (shape_of_sizes h.sizes) c k) → h'.pin % 2 ≡ side_of (is_before_pin k) → OwnAt a c k (own a (as_list x) ++ U.own)
      → (halt_word before.known ≡ 1 → IsLate k) → k ≢ Answering OldFile → ((counts : Counts) → k ≡ Answering (Full counts) → FoundFull b.sizes.slots b.sizes.passes counts (steps_since b c format before at h U opened was is e o x h' H) h'.known)
      → UnderWay b c format before next h'
  comes_to k is_k going inside pass side is_own late old full =
      goes b c format before at h U opened was is e o x h' H going inside
      (subst (λ (q : Progress). HasPass h.sizes.passes (event_at (shape_of_sizes h.sizes) c q)) (sym is_k) pass)
      (side ∙ ap (λ (q : Progress). side_of (is_before_pin q)) (sym is_k))
      (subst (λ (q : Progress). OwnAt a c q (own a (as_list x) ++ U.own)) (sym is_k) is_own)
      (λ halted. subst IsLate (sym is_k) (late halted))
      (λ same. absurd (old (sym is_k ∙ same)))
      (λ counts same. full counts (sym is_k ∙ same))

  -- its Pin
  pub pin_turn : (i : ℕ) → at ≡ Playing Pinning i → UnderWay b c format before next h'
  pin_turn (suc i) same = absurd (subst (λ (q : Progress). Relies v c q (there.notes.begun a) P (there.notes.changed a)) same relies)
  pin_turn zero same = ⊎_elim pinned worn gives.0
    where
      e_is : Pin ≡ e
      e_is = ap (λ (q : Progress). loaded y.words (event_at y.shape c q)) (sym same) ∙ event_is

      gives : (((line y a Pin).1 ≡ Done) ⊎ ((line y a Pin).1 ≡ Worn)) × (line_publishes y a Pin ≡ []) × (line_call y a Pin ≡ NoCall)
      gives = pin_gives y a (subst (λ (q : Event). (line y a q).1 ≢ NotNow) (sym e_is) in_time)

      done : (o ≡ (line y a e).1) × (as_list x ≡ line_publishes y a e)
      done = T.done (λ bad. (T.failed bad).1 (ap (line_call y a) (sym e_is) ∙ gives.2))

      answer : o ≡ (line y a Pin).1
      answer = done.0 ∙ ap (λ (q : Event). (line y a q).1) (sym e_is)

      none : own a (as_list x) ++ U.own ≡ []
      none = (λ i. own a ((done.1 ∙ ap (line_publishes y a) (sym e_is) ∙ gives.1) i) ++ U.own) ∙ calm_none a c (Playing Pinning 0) U.own refl (subst (λ (q : Progress). OwnAt a c q U.own) same U.is_own)

      pin_is : h'.pin ≡ pin_after_played Pin o h.pin
      pin_is = H.pin ∙ ap (λ (t : Bool). if t then pin_after_played e o h.pin else h.pin) (eq-eqb a a refl) ∙ ap (λ (q : Event). pin_after_played q o h.pin) (sym e_is)

      outside : h.pin % 2 ≡ 0
      outside = U.side ∙ ap (λ (q : Progress). side_of (is_before_pin q)) same

      within : IsWithin (Played e o)
      within = subst (λ (q : Event). IsWithin (Played q o)) e_is tt

      pinned : (line y a Pin).1 ≡ Done → UnderWay b c format before next h'
      pinned is =
          let pin = pin_is ∙ ap (λ (q : Outcome). pin_after_played Pin q h.pin) (answer ∙ is) in
          comes_to LoadsHalt (λ i. progress_after (shape_of_sizes h.sizes) c (same i) ((answer ∙ is) i)) (ap reply_at same) within tt (omega (arith, pin, outside)) (calm a c LoadsHalt (own a (as_list x) ++ U.own) refl none)
          (λ halted. tt) (not_old LoadsHalt refl) (λ counts full. absurd (not_full LoadsHalt counts refl full))

      worn : (line y a Pin).1 ≡ Worn → UnderWay b c format before next h'
      worn is =
          comes_to (Answering SaysWorn) (λ i. progress_after (shape_of_sizes h.sizes) c (same i) ((answer ∙ is) i)) (ap reply_at same) within tt
          (ap (λ (q : ℕ). q % 2) (pin_is ∙ ap (λ (q : Outcome). pin_after_played Pin q h.pin) (answer ∙ is)) ∙ outside) (worn_none a c (own a (as_list x) ++ U.own) none)
          (λ halted. tt) (λ old. absurd (false≢true (ap says_old old))) (λ counts full. absurd (not_full (Answering SaysWorn) counts refl full))

  -- its second Reserve
  pub reserve_turn : at ≡ Reserving true → UnderWay b c format before next h'
  reserve_turn same = ⊎_elim
      (λ cut. comes_onward plain going inside unlate (cut_onward cut.0 cut.1))
      (λ played. reserved (lowest_free (collect y.uses)) refl played.0 played.1)
      (gave plain)
    where
      e_is : Reserve ≡ e
      e_is = ap (λ (q : Progress). loaded y.words (event_at y.shape c q)) (sym same) ∙ event_is

      plain : is_pinning e ≡ false
      plain = ap is_pinning (sym e_is)

      going : reply_at at ≡ None
      going = ap reply_at same

      inside : is_before_pin at ≡ false
      inside = ap is_before_pin same

      unlate : ¬ IsLate at
      unlate late = subst IsLate same late

      calm_now : U.own ≡ []
      calm_now = calm_none a c (Reserving true) U.own refl (subst (λ (q : Progress). OwnAt a c q U.own) same U.is_own)

      pin_same : h'.pin % 2 ≡ 1
      pin_same = ap (λ (q : ℕ). q % 2) (H.pin ∙ ap (λ (t : Bool). if t then pin_after_played e o h.pin else h.pin) (eq-eqb a a refl) ∙ still_pin e o h.pin plain) ∙ U.side ∙ ap side_of inside

      slots_are : y.shape.slots ≡ b.sizes.slots
      slots_are = ap (λ (s : Shape). s.slots) (sym T.shape) ∙ ap (λ (s : Sizes). s.slots) U.sizes

      passes_are : y.shape.passes ≡ b.sizes.passes
      passes_are = ap (λ (s : Shape). s.passes) (sym T.shape) ∙ ap (λ (s : Sizes). s.passes) U.sizes

      found_full : (found : Option ℕ) → lowest_free (collect y.uses) ≡ found → found ≡ None → o ≡ NoSlot (counts (collect y.uses)) → o ≢ Fault → as_list x ≡ [] → (told : Counts) → Answering (Full (counts (collect y.uses))) ≡ Answering (Full told)
          → FoundFull b.sizes.slots b.sizes.passes told (steps_since b c format before at h U opened was is e o x h' H) h'.known
      found_full found lowest none answer ok nothing told full =
          let is_told : counts (collect y.uses) ≡ told = ap (told_in (counts (collect y.uses))) full in
          let right = counts_are_right T.start T.service T.medium T.history (trace_of opened was) a told T.reached (ap (λ (q : Event). (line y a q).1) e_is ∙ sym (T.done ok).0 ∙ answer ∙ ap NoSlot is_told) in
          record {
            reserve = (λ i. reserved_by (Played (sym e_is i) ((answer ∙ ap NoSlot is_told) i)) (last_reserve (map (load_note h.number) h.loads ++ U.within)));
            free = right.0;
            sum = right.1 ∙ slots_are;
            alone = λ one. subst (λ (q : Trace × ℕ). HasMembers (λ j. member j q.0) q.1)
                (λ i. (sym (known_after opened was is (note_by h.number (Played e o) x) h h' H ∙ ap (λ (l : Trace). l ++ trace_of opened was) nothing) i, slots_are i))
                (full_of_one_pass T.start T.service T.medium T.history (trace_of opened was) a T.caller T.reached (passes_are ∙ one) T.call (T.progress ∙ same) (lowest ∙ none));
          }

      reserved : (found : Option ℕ) → lowest_free (collect y.uses) ≡ found → o ≡ outcome_of y (actor_at y a) e → as_list x ≡ publishes y (actor_at y a) a e → UnderWay b c format before next h'
      reserved (Some s) lowest answer published =
          let o_is : o ≡ Slot s = answer ∙ ap (outcome_of y (actor_at y a)) (sym e_is) ∙ ap (λ (q : Option ℕ). slot_found q (collect y.uses)) lowest in
          let none = (λ i. own a ((published ∙ ap (publishes y (actor_at y a) a) (sym e_is)) i) ++ U.own) ∙ calm_now in
          comes_to (Playing (Writing s) 0) (λ i. progress_after (shape_of_sizes h.sizes) c (same i) (o_is i)) going (plain_within e o plain) tt pin_same (calm a c (Playing (Writing s) 0) (own a (as_list x) ++ U.own) refl none)
          (λ halted. absurd (unlate (U.late halted))) (not_old (Playing (Writing s) 0) refl) (λ counts full. absurd (not_full (Playing (Writing s) 0) counts refl full))
      reserved None lowest answer published =
          let told = counts (collect y.uses) in
          let o_is : o ≡ NoSlot told = answer ∙ ap (outcome_of y (actor_at y a)) (sym e_is) ∙ ap (λ (q : Option ℕ). slot_found q (collect y.uses)) lowest in
          let nothing : as_list x ≡ [] = published ∙ ap (publishes y (actor_at y a) a) (sym e_is) in
          let none = (λ i. own a (nothing i) ++ U.own) ∙ calm_now in
          comes_to (Answering (Full told)) (λ i. progress_after (shape_of_sizes h.sizes) c (same i) (o_is i)) going (plain_within e o plain) tt pin_same (full_none a c told (own a (as_list x) ++ U.own) none)
          (λ halted. absurd (unlate (U.late halted))) (λ old. absurd (false≢true (ap says_old old))) (found_full None lowest refl o_is (λ bad. no_fault (sym o_is ∙ bad)) nothing)
        where
          no_fault : {told : Counts} → NoSlot told ≡ Fault → ⊥
          no_fault is = absurd cc

-- A call that is under way goes on by a turn of its pass, its loads and its Answer aside.
pub turned : (b : BoardId) (c : Command) (format : Format) (before : Part) (at : Progress) (h : Part) → UnderWay b c format before at h → (opened : Trace) (was is : List Note) (e : Event) (o : Outcome) (x : Option Publishing) (h' : Part)
    → HoldNotes opened was is (note_by h.number (Played e o) x) h h' → Turned opened was h c at e o x → hop_of e ≡ None → reply_at at ≡ None → UnderWay b c format before (progress_after (shape_of_sizes h.sizes) c at o) h'
turned b c format before (Playing Pinning i) h U opened was is e o x h' H T no_load going = pin_turn b c format before (Playing Pinning i) h U opened was is e o x h' H T i refl
turned b c format before (Reserving true) h U opened was is e o x h' H T no_load going = reserve_turn b c format before (Reserving true) h U opened was is e o x h' H T refl
turned b c format before (Answering reply) h U opened was is e o x h' H T no_load going = absurd (false≢true (sym (ap is_some going)))
turned b c format before LoadsHalt h U opened was is e o x h' H T no_load going = absurd (false≢true (sym (ap is_some (ap hop_of (event_is b c format before LoadsHalt h U opened was is e o x h' H T) ∙ no_load))))
turned b c format before (Walking aim look) h U opened was is e o x h' H T no_load going = absurd (false≢true (sym (ap is_some (ap hop_of (event_is b c format before (Walking aim look) h U opened was is e o x h' H T) ∙ no_load))))
turned b c format before at h U opened was is e o x h' H T no_load going = plain_turn b c format before at h U opened was is e o x h' H T tt
