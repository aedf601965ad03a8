-- The pin words of a run are those that the notes give.
use Rattle.std.proofs.{lemmas.Bool.{cases_eq, not-true, Decides.{nat_tests}}, Common.{◌≡◌, ◌≢◌, ◌⊎◌, ⊎_elim, ℕ, zero, suc, ◌+◌, ◌≤◌, ◌==◌, Bool, true, false}}
use Rattle.std.proofs.Common.{List, [], ◌∷◌, ◌++◌, length, refl, sym, ap, ◌∙◌, subst, arith, eq-eqb, ne_eqb, replicate, Option, Some, None, if◌then◌else◌, not}
use Rattle.std.proofs.Common.{◌||◌}
use mathlib.Core.Bool.{false≢true}
use Rattle.lz_refinement.proofs.Vocabulary.{of_pass, set_of_pass, Medium, is_outside, Words, get, set, Course, Actor, Event, Outcome, Shape, Yard, actor_at, course}
use Rattle.lz_refinement.proofs.Vocabulary.{line, line_on, words_after, pin_of, last_pin, is_sure, stays_out, needs, pin_answered, Start, IsStart, State, Up, Down}
use Rattle.lz_refinement.proofs.Vocabulary.{Service, Caller, Transition, Calls, Turn, Fails, Looks, Point, run, IsRun, MayStep, first_point, caller_at, next_event}
use Rattle.lz_refinement.proofs.Vocabulary.{state_after, after_turn, after_fault, looked, What, Note, pin_after_played, pin_after_what, pin_after}
use Rattle.lz_refinement.{proofs.Reading.CallPlaces.{place_reads, run_before}, specs.NotedRuns.{TellsTurn, TellsFault, TellsStep, TellsOne, TellsOf, ReadsAs}}
use Rattle.lz_slot.proofs.Counted.{of_pass_same, of_pass_other, length-set_of_pass}
use Rattle.lz_list.specs.declared.word.Word.TheVariants.{Pin as pin_word}
use Rattle.lz_machine.specs.declared.{course.Course.TheVariants.{Refused, Plays}, event.Event.TheVariants.{Invoke, Pin, Link, Settle, Unlink, Answer}}
use Rattle.lz_machine.{specs.declared.event.Outcome.TheVariants.{Done, Worn, NotNow, Fault}, proofs.Runs.Course.{answer_plays}}
use Rattle.lz_machine.proofs.{Theorem.Reached.{reached_sound, up_at}, Frames.OneActor.{caller_range}}
use Rattle.lz_machine.proofs.{Frames.Outside.{out_even, answered_pin, answered_other, outside_even}, Steps.Unlink.{redirect_pins}}
use Rattle.lz_board.specs.declared.view.What.TheVariants.{Played, Found}

-- events that may change a pin word
abbrev pub is_pinning : Event → Bool
is_pinning Pin = true
is_pinning Answer = true
is_pinning e = false

-- and those that do, where they are played
abbrev pub is_counting : Yard → ℕ → Event → Bool
is_counting y a Pin = true
is_counting y a Answer = not (stays_out (actor_at y a) (pin_of y a))
is_counting y a e = false

if_pins : (b : Bool) (x y : Words) (ps : List ℕ) → x.pins ≡ ps → y.pins ≡ ps → (if b then x else y).pins ≡ ps
if_pins true x y ps one other = one
if_pins false x y ps one other = other

words_pins : (y : Yard) (actor : Actor) (a : ℕ) (e : Event) → is_pinning e ≡ false → (words_after y actor a e).pins ≡ y.words.pins
words_pins y actor a Pin not_one = absurd (false≢true (sym not_one))
words_pins y actor a Link not_one = redirect_pins y.words actor.pred _
words_pins y actor a (Settle s) not_one = if_pins (is_sure y s) _ _ y.words.pins refl refl
words_pins y actor a Unlink not_one = redirect_pins y.words actor.pred _
words_pins y actor a Answer not_one = absurd (false≢true (sym not_one))
words_pins y actor a _ not_one = refl

-- there are as many pin words as before
pub line_count : (y : Yard) (a : ℕ) (e : Event) (c : Course) → length (line_on c y (actor_at y a) a e).0.words.pins ≡ length y.words.pins
line_count y a Pin Plays = length-set_of_pass y.words.pins a (get y.words (pin_word a) + 1)
line_count y a Answer Plays = grind (arith, nat_tests, stays_out, actor_at, pin_of, set, length-set_of_pass)
line_count y a e Plays = ap length (words_pins y (actor_at y a) a e refl)
line_count y a e _ = refl

pub line_pins : (y : Yard) (a : ℕ) (e : Event) → is_pinning e ≡ false → (c : Course) → (line_on c y (actor_at y a) a e).0.words.pins ≡ y.words.pins
line_pins y a e not_one Plays = words_pins y (actor_at y a) a e not_one
line_pins y a e not_one _ = refl

pub fault_pin : (e : Event) (pin : ℕ) → pin_after_played e Fault pin ≡ pin
fault_pin (Invoke c) pin = refl
fault_pin _ pin = refl

pub still_pin : (e : Event) (o : Outcome) (pin : ℕ) → is_pinning e ≡ false → pin_after_played e o pin ≡ pin
still_pin Pin o pin not_one = absurd (false≢true (sym not_one))
still_pin Answer o pin not_one = absurd (false≢true (sym not_one))
still_pin _ o pin not_one = refl

module _ (y : Yard) (a : ℕ) (low : 1 ≤ a) (high : a ≤ length y.words.pins) where
  -- what the actor's pin word becomes, and the other words stay
  pub record OwnPin (e : Event) : Type 0 where
    pub own : pin_of (line y a e).0 a ≡ pin_after_played e (line y a e).1 (pin_of y a)
    pub others : (q : ℕ) → q ≢ a → pin_of (line y a e).0 q ≡ pin_of y q

  by_course : (e : Event) (c : Course) → course y a e ≡ c → pin_of (line_on c y (actor_at y a) a e).0 a ≡ pin_after_played e (line_on c y (actor_at y a) a e).1 (pin_of y a) → ((q : ℕ) → q ≢ a → pin_of (line_on c y (actor_at y a) a e).0 q ≡ pin_of y q) → OwnPin e
  by_course e c is own others = grind (arith, others)

  more : pin_of (record { shape = y.shape; words = set y.words (pin_word a) (get y.words (pin_word a) + 1); locks = y.locks; vault = y.vault; uses = y.uses; actors = y.actors }) a ≡ suc (pin_of y a)
  more = of_pass_same y.words.pins a (of_pass y.words.pins a 0 + 1) 0 low high ∙ omega arith

  rest : (q : ℕ) → q ≢ a → of_pass (set_of_pass y.words.pins a (of_pass y.words.pins a 0 + 1)) q 0 ≡ of_pass y.words.pins q 0
  rest q away = of_pass_other y.words.pins a q (of_pass y.words.pins a 0 + 1) 0 away

  pin_course : (course y a Pin ≡ Plays) ⊎ ((course y a Pin ≡ Refused NotNow) ⊎ (course y a Pin ≡ Refused Worn))
  pin_course = grind (arith, nat_tests, is_outside, pin_of, last_pin, course)

  pin_own : OwnPin Pin
  pin_own = ⊎_elim (λ is. by_course Pin Plays is more rest) (λ r. ⊎_elim (λ is. by_course Pin (Refused NotNow) is refl (λ q away. refl)) (λ is. by_course Pin (Refused Worn) is refl (λ q away. refl)) r) pin_course

  answer_own : OwnPin Answer
  answer_own = ⊎_elim
      (λ plays. by_course Answer Plays plays.1 (answered_pin y actor a low high ∙ counts plays.0) (λ q away. answered_other y actor a q away))
      (λ late. by_course Answer (Refused NotNow) late refl (λ q away. refl))
      (answer_plays y a)
    where
      actor : Actor
      actor = actor_at y a

      -- only the pass of a call that went without a pin is outside
      counts : needs y a Answer ≡ true → pin_answered actor (pin_of y a) ≡ pin_after_played Answer Done (pin_of y a)
      counts = go (is_outside (pin_of y a)) (stays_out actor (pin_of y a)) refl refl
        where
          go : (o s : Bool) → is_outside (pin_of y a) ≡ o → stays_out actor (pin_of y a) ≡ s → (not o || s) ≡ true → (if s then pin_of y a else pin_of y a + 1) ≡ (if o then pin_of y a else suc (pin_of y a))
          go true true o s may = refl
          go true false o s may = absurd (false≢true may)
          go false true o s may = absurd (false≢true (sym o ∙ outside_even (pin_of y a) (out_even actor (pin_of y a) s)))
          go false false o s may = omega arith

  other_own : (e : Event) → is_pinning e ≡ false → OwnPin e
  other_own e not_one = grind (arith, nat_tests, line_pins, course, of_pass, still_pin, line, pin_of)

  pub own_pin : (e : Event) → OwnPin e
  own_pin e = go e (is_pinning e) refl
    where
      pinning : (e : Event) → is_pinning e ≡ true → OwnPin e
      pinning Pin is = pin_own
      pinning Answer is = answer_own
      pinning _ is = absurd (false≢true is)

      go : (e : Event) (b : Bool) → is_pinning e ≡ b → OwnPin e
      go e true is = pinning e is
      go e false is = other_own e is

  -- an event that is played and changes its actor's pin word counts it up
  pub moved_pin : (e : Event) → is_counting y a e ≡ true → course y a e ≡ Plays → pin_after_played e (line y a e).1 (pin_of y a) ≡ suc (pin_of y a)
  moved_pin e is plays = sym (own_pin e).own ∙ ap (λ (c : Course). pin_of (line_on c y (actor_at y a) a e).0 a) plays ∙ go e is
    where
      go : (e : Event) → is_counting y a e ≡ true → pin_of (line_on Plays y (actor_at y a) a e).0 a ≡ suc (pin_of y a)
      go Pin is = more
      go Answer is = answered_pin y (actor_at y a) a low high ∙ ap (λ (b : Bool). if b then pin_of y a else pin_of y a + 1) (not-true (stays_out (actor_at y a) (pin_of y a)) is) ∙ omega arith
      go e is = absurd (false≢true is)

-- the pin words are as many as the passes, in each state of a run
module _ (start : Start) (starts : IsStart start) where
  abbrev p : Point
  p = first_point start

  pub count_pins : (steps : List Transition) (service : Service) (disk : Medium) → IsRun p steps → (run p steps).state ≡ Up service disk → length service.yard.words.pins ≡ service.yard.shape.passes
  count_pins steps service disk runs at = (up_at start (run p steps) service disk (reached_sound start steps starts runs) at).up.sound.trace.pins

  abbrev pub pin_in_state : State → ℕ → ℕ
  pin_in_state (Up service disk) q = pin_of service.yard q
  pin_in_state (Down shape disk) q = 0

  abbrev pub Pinned : List Transition → List Note → Type 0
  Pinned steps ns = (q : ℕ) → 1 ≤ q → q ≤ start.shape.passes → pin_in_state (run p steps).state q ≡ pin_after q ns

  first_pins : (n q : ℕ) → of_pass (replicate n zero) q zero ≡ zero
  first_pins n zero = refl
  first_pins zero (suc i) = refl
  first_pins (suc n) (suc zero) = refl
  first_pins (suc n) (suc (suc i)) = first_pins n (suc i)

  -- looks of one pass
  pub record Looked (k r : ℕ) (service : Service) (w : State) : Type 0 where
    pub after : Service
    pub disk : Medium
    pub at : w ≡ Up after disk
    pub own : pin_of after.yard r ≡ pin_of service.yard r + k
    pub others : (q : ℕ) → q ≢ r → pin_of after.yard q ≡ pin_of service.yard q

  pub looks_pins : (k r : ℕ) (before : List Transition) (service : Service) (disk : Medium) → IsRun p (replicate k (Looks r) ++ before) → (run p before).state ≡ Up service disk → Looked k r service (run p (replicate k (Looks r) ++ before)).state
  looks_pins zero r before service disk runs at = record { after = service; disk = disk; at = at; own = omega arith; others = λ q away. refl }
  looks_pins (suc k) r before service disk runs at =
      let l = looks_pins k r before service disk runs.1 at in
      let actor = (subst (λ (w : State). MayStep w (Looks r)) l.at runs.0).0 in
      let count = count_pins (replicate k (Looks r) ++ before) l.after l.disk runs.1 l.at in
      let v = pin_of l.after.yard r + 1 in
      let own = of_pass_same l.after.yard.words.pins r v 0 actor.0 (omega (arith, actor.1, count)) in
      record {
        after = record { yard = looked l.after.yard r; callers = l.after.callers };
        disk = l.disk;
        at = ap (λ w. state_after (suc (run p (replicate k (Looks r) ++ before)).calls) w (Looks r)) l.at;
        own = own ∙ ap (λ n. n + 1) l.own ∙ omega arith;
        others = λ q away. of_pass_other l.after.yard.words.pins r q v 0 away ∙ l.others q away;
      }

  either_same : (b : Bool) (n : ℕ) → n ≡ (if b then n else n)
  either_same true n = refl
  either_same false n = refl

  -- an event with this outcome
  event_pins : (y : Yard) (b : ℕ) (e : Event) (n : Note) (ns : List Note) → 1 ≤ b → b ≤ length y.words.pins → n.by ≡ b → n.what ≡ Played e (line y b e).1 → (q : ℕ) → pin_of y q ≡ pin_after q ns → pin_of (line y b e).0 q ≡ pin_after q (n ∷ ns)
  event_pins y b e n ns low high by what q before = ⊎_elim
      (λ (same : q ≡ b).
      let own = (own_pin y b low high e).own in
      ap (λ q. pin_of (line y b e).0 q) same ∙ own ∙ ap (λ q. pin_after_played e (line y b e).1 (pin_of y q)) (sym same) ∙ ap (pin_after_played e (line y b e).1) before
      ∙ ap (λ c. if c then pin_after_played e (line y b e).1 (pin_after q ns) else pin_after q ns) (sym (eq-eqb n.by q (by ∙ sym same)))
      ∙ ap (λ w. pin_after_what q n.by w (pin_after q ns)) (sym what))
      (λ (away : q ≢ b).
      (own_pin y b low high e).others q away ∙ before
      ∙ ap (λ c. if c then pin_after_played e (line y b e).1 (pin_after q ns) else pin_after q ns) (sym (ne_eqb n.by q (λ is. away (sym is ∙ by))))
      ∙ ap (λ w. pin_after_what q n.by w (pin_after q ns)) (sym what))
      (cases_eq q b)

  fault_pins : (e : Event) (n : Note) (ns : List Note) → n.what ≡ Played e Fault → (q : ℕ) → pin_after q ns ≡ pin_after q (n ∷ ns)
  fault_pins e n ns what q = either_same (n.by == q) (pin_after q ns) ∙ ap (λ v. if n.by == q then v else pin_after q ns) (sym (fault_pin e (pin_after q ns))) ∙ ap (λ w. pin_after_what q n.by w (pin_after q ns)) (sym what)

  turn_pins : (service : Service) (b : ℕ) (disk : Medium) (n : Note) (ns : List Note) (c : Option Caller) → length service.yard.words.pins ≡ length service.callers → caller_at service.callers b ≡ c → n.by ≡ b → TellsTurn service b c n
      → (q : ℕ) → pin_of service.yard q ≡ pin_after q ns → pin_in_state (after_turn service disk b c) q ≡ pin_after q (n ∷ ns)
  turn_pins service b disk n ns None count at by t q before = absurd t
  turn_pins service b disk n ns (Some caller) count at by t q before =
      let range = caller_range service.callers b caller at in
      event_pins service.yard b (next_event service.yard caller) n ns range.0 (omega (arith, range.1, count)) by t.0 q before

  failed_pins : (service : Service) (b : ℕ) (new : Medium) (n : Note) (ns : List Note) (c : Option Caller) → TellsFault service c n → (q : ℕ) → pin_of service.yard q ≡ pin_after q ns → pin_in_state (after_fault service new b c) q ≡ pin_after q (n ∷ ns)
  failed_pins service b new n ns None t q before = absurd t
  failed_pins service b new n ns (Some caller) t q before = before ∙ fault_pins (next_event service.yard caller) n ns t.0 q

  step_pins : (i : ℕ) (service : Service) (disk : Medium) (n : Note) (ns : List Note) (step : Transition) → length service.yard.words.pins ≡ length service.callers → TellsStep (Up service disk) n step
      → (q : ℕ) → pin_of service.yard q ≡ pin_after q ns → pin_in_state (state_after i (Up service disk) step) q ≡ pin_after q (n ∷ ns)
  step_pins i service disk n ns (Calls b c) count t q before = before ∙ ap (λ w. pin_after_what q n.by w (pin_after q ns)) (sym t.1)
  step_pins i service disk n ns (Turn b) count t q before = turn_pins service b disk n ns (caller_at service.callers b) count refl t.0 t.1 q before
  step_pins i service disk n ns (Fails b new) count t q before = failed_pins service b new n ns (caller_at service.callers b) t.1 q before
  step_pins i service disk n ns _ count t q before = absurd t

  pub pin_reads : (ns : List Note) (steps : List Transition) → IsRun p steps → ReadsAs p ns steps → Pinned steps ns
  pin_reads [] steps runs reads q low high = ap (λ l. pin_in_state (run p l).state q) reads ∙ first_pins start.shape.passes q
  pin_reads (n ∷ ns) steps runs (new, before, is, tells, reads) q low high =
      let runs' = subst (IsRun p) is runs in
      let past = run_before p new before runs' in
      let was = pin_reads ns before past reads q low high in
      let pl = place_reads start ns before past reads in
      let now = ap (λ w. pin_in_state w q) (sym pl.state) ∙ was in
      let count : length pl.service.yard.words.pins ≡ length pl.service.callers = count_pins before pl.service pl.disk past pl.state ∙ ap (λ (s : Shape). s.passes) pl.shape ∙ sym pl.count in
      ap (λ l. pin_in_state (run p l).state q) is ∙ go pl.service pl.disk pl.state count now runs' n.what refl tells
    where
      one : (service : Service) (disk : Medium) → (run p before).state ≡ Up service disk → length service.yard.words.pins ≡ length service.callers → pin_of service.yard q ≡ pin_after q ns → TellsOne (run p before).state n new → pin_in_state (run p (new ++ before)).state q ≡ pin_after q (n ∷ ns)
      one service disk at count now t =
          ap (λ l. pin_in_state (run p (l ++ before)).state q) t.steps ∙ ap (λ w. pin_in_state (state_after (suc (run p before).calls) w t.step) q) at
          ∙ step_pins (suc (run p before).calls) service disk n ns t.step count (subst (λ w. TellsStep w n t.step) at t.tells) q now

      go : (service : Service) (disk : Medium) → (run p before).state ≡ Up service disk → length service.yard.words.pins ≡ length service.callers
          → pin_of service.yard q ≡ pin_after q ns → IsRun p (new ++ before) → (what : What) → n.what ≡ what → TellsOf (run p before).state n what new → pin_in_state
          (run p (new ++ before)).state q ≡ pin_after q (n ∷ ns)
      go service disk at count now runs (Found r v) same t =
          let l = looks_pins t.2.looks r before service disk (subst (λ l. IsRun p (l ++ before)) t.2.steps runs) at in
          ap (λ l. pin_in_state (run p (l ++ before)).state q) t.2.steps ∙ ap (λ w. pin_in_state w q) l.at
          ∙ ⊎_elim
          (λ (here : r ≡ q). ap (λ r. pin_of l.after.yard r) (sym here) ∙ l.own ∙ t.2.found service disk at ∙ ap (λ c. if c then v else pin_after q ns) (sym (eq-eqb r q here)))
          (λ (away : r ≢ q). l.others q (λ is. away (sym is)) ∙ now ∙ ap (λ c. if c then v else pin_after q ns) (sym (ne_eqb r q away)))
          (cases_eq r q)
          ∙ ap (λ w. pin_after_what q n.by w (pin_after q ns)) (sym same)
      go service disk at count now runs _ same t = one service disk at count now t
