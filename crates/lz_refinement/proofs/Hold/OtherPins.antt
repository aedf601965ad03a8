-- Of a yard's copies of pin words an event reads its own actor's alone, but for a load.
use Rattle.std.proofs.Common.{arith, ◌≡◌, ℕ, Bool, true, false, List, refl, sym, ap, ◌∙◌, subst, not, ◌&&◌, if◌then◌else◌, Option, Some, None}
use Rattle.std.proofs.lemmas.Bool.Decides.{nat_tests}
use Rattle.lz_refinement.proofs.Vocabulary.{of_pass, see_pin, Place, Words, redirect, set, check, Course, Actor, Event, Yard, actor_at, course, course_alive, needs_of}
use Rattle.lz_refinement.proofs.Vocabulary.{is_played_dead, line, line_on, line_failed, line_call, call_on, call_of, line_publishes, published_on, publishes}
use Rattle.lz_refinement.proofs.Vocabulary.{yard_done, outcome_of, words_after, given_back, kept_slot, vault_failed, is_sure, set_actor, with_hold, with_slot, pin_of}
use Rattle.lz_refinement.{proofs.Vocabulary.{stays_out, pin_answered, hop_of}, specs.NotedRuns.{SameButAllPins}}
use Rattle.lz_list.specs.declared.place.Place.TheVariants.{Bucket, Node}
use Rattle.lz_machine.specs.declared.{course.Course.TheVariants.{Refused, Dies, Plays}, actor.LockPhase.TheVariants.{Checked, Locks}}
use Rattle.lz_machine.specs.declared.event.Event.TheVariants.{Invoke, Hop, Check, Link, Settle, Unlink, Answer}
use Rattle.lz_machine.specs.declared.event.Outcome.TheVariants.{Dead, NotNow, True, False}

abbrev pub with_pins : Yard → List ℕ → Yard
with_pins y ps = record {
  shape = y.shape;
  words = record { heads = y.words.heads; links = y.words.links; keys = y.words.keys; pins = ps; halt = y.words.halt };
  locks = y.locks;
  vault = y.vault;
  uses = y.uses;
  actors = y.actors;
}

abbrev pins_of : Words → List ℕ → Words
pins_of w ps = record { heads = w.heads; links = w.links; keys = w.keys; pins = ps; halt = w.halt }

-- words that are the same but for pin words
record SameWords (one other : Words) : Type 0 where
  heads : one.heads ≡ other.heads
  links : one.links ≡ other.links
  keys : one.keys ≡ other.keys
  halt : one.halt ≡ other.halt

redirect_same : (w : Words) (ps : List ℕ) (place : Place) (next : ℕ) → SameWords (redirect (pins_of w ps) place next) (redirect w place next)
redirect_same w ps (Bucket b) next = record { heads = refl; links = refl; keys = refl; halt = refl }
redirect_same w ps (Node s) next = record { heads = refl; links = refl; keys = refl; halt = refl }

check_same : (w : Words) (ps : List ℕ) (place : Place) (curr : Option ℕ) → check (pins_of w ps) place curr ≡ check w place curr
check_same w ps (Bucket b) None = refl
check_same w ps _ None = refl
check_same w ps _ _ = refl

if_same : (b : Bool) (x y x' y' : Words) → SameWords x y → SameWords x' y' → SameWords (if b then x else x') (if b then y else y')
if_same true x y x' y' one other = one
if_same false x y x' y' one other = other

module _ (y : Yard) (ps : List ℕ) (a : ℕ) (pin : of_pass ps a 0 ≡ of_pass y.words.pins a 0) where
  abbrev z : Yard
  z = with_pins y ps

  abbrev actor : Actor
  actor = actor_at y a

  abbrev course_at : Event → ℕ → Course
  course_at e v =
      if y.vault.dead && not (is_played_dead e) then Refused Dead
      else if needs_of y actor v e then course_alive y a v e
      else Refused NotNow

  course_same : (e : Event) → course z a e ≡ course y a e
  course_same (Invoke c) = ap (course_at (Invoke c)) pin
  course_same x = ap (course_at x) pin

  given_same : (slot : Option ℕ) → given_back z slot ≡ given_back y slot
  given_same None = refl
  given_same (Some s) = refl

  kept_same : (slot : Option ℕ) → kept_slot z slot ≡ kept_slot y slot
  kept_same None = refl
  kept_same (Some s) = refl

  -- events that don't touch words in a way that depends on a place
  whole : SameButAllPins z y
  whole = record { shape = refl; heads = refl; links = refl; keys = refl; halt = refl; locks = refl; vault = refl; uses = refl; actors = refl }

  with_same : (w w' : Words) → SameWords w w' → (x x' : Yard) → x.words ≡ w → x'.words ≡ w' → x.shape ≡ x'.shape → x.locks ≡ x'.locks → x.vault ≡ x'.vault → x.uses ≡ x'.uses → x.actors ≡ x'.actors → SameButAllPins x x'
  with_same w w' same x x' is is' shape locks vault uses actors = grind (arith, nat_tests)

  words_same : (e : Event) → SameWords (words_after z actor a e) (words_after y actor a e)
  words_same Link = redirect_same y.words ps actor.pred _
  words_same (Settle s) = if_same (is_sure y s) _ _ _ _ record { heads = refl; links = refl; keys = refl; halt = refl } record { heads = refl; links = refl; keys = refl; halt = refl }
  words_same Unlink = redirect_same y.words ps actor.pred _
  words_same Answer = grind (arith, nat_tests, stays_out, pin_of, set)
  words_same _ = record { heads = refl; links = refl; keys = refl; halt = refl }

  yard_same : (e : Event) → SameButAllPins (yard_done z actor a e) (yard_done y actor a e)
  yard_same Check = with_same _ _ (words_same Check) _ _ refl refl refl refl refl refl (ap (λ b. set_actor y a (with_hold actor (if b then Checked else Locks))) (check_same y.words ps actor.pred actor.curr))
  yard_same Answer = grind (arith, nat_tests, with_same, words_same, see_pin, pin_answered, given_back, pin_of, given_same, set_actor, with_slot, kept_same)
  yard_same x = with_same _ _ (words_same x) _ _ refl refl refl refl refl refl refl

  outcome_same : (e : Event) → hop_of e ≡ None → outcome_of z actor e ≡ outcome_of y actor e
  outcome_same (Hop w) none = absurd cc
  outcome_same Check none = ap (λ b. if b then True else False) (check_same y.words ps actor.pred actor.curr)
  outcome_same _ none = refl

  call_same : (e : Event) → call_of z actor e ≡ call_of y actor e
  call_same (Invoke c) = refl
  call_same _ = refl

  failed_same : (e : Event) → vault_failed z actor e ≡ vault_failed y actor e
  failed_same (Invoke c) = refl
  failed_same _ = refl

  publishes_same : (e : Event) → publishes z actor a e ≡ publishes y actor a e
  publishes_same (Invoke c) = refl
  publishes_same _ = refl

  -- the whole line
  pub record SameLine (e : Event) : Type 0 where
    pub yard : SameButAllPins (line z a e).0 (line y a e).0
    pub outcome : (line z a e).1 ≡ (line y a e).1
    pub call : line_call z a e ≡ line_call y a e
    pub published : line_publishes z a e ≡ line_publishes y a e
    pub failed : SameButAllPins (line_failed z a e).0 (line_failed y a e).0

  on_same : (e : Event) → hop_of e ≡ None → (c : Course) → SameButAllPins (line_on c z actor a e).0 (line_on c y actor a e).0 × ((line_on c z actor a e).1 ≡ (line_on c y actor a e).1) × (call_on c z actor e ≡ call_on c y actor e) × (published_on c z actor a e ≡ published_on c y actor a e)
  on_same e none (Refused o) = (whole, refl, refl, refl)
  on_same e none Dies = (record { shape = refl; heads = refl; links = refl; keys = refl; halt = refl; locks = refl; vault = refl; uses = refl; actors = refl }, refl, refl, refl)
  on_same e none Plays = (yard_same e, outcome_same e none, call_same e, publishes_same e)

  pub line_same : (e : Event) → hop_of e ≡ None → SameLine e
  line_same e none =
      let c = course y a e in
      let s = course_same e in
      let r = on_same e none c in
      record {
        yard = subst (λ (c : Course). SameButAllPins (line_on c z actor a e).0 (line y a e).0) (sym s) r.0;
        outcome = ap (λ (c : Course). (line_on c z actor a e).1) s ∙ r.1;
        call = ap (λ (c : Course). call_on c z actor e) s ∙ r.2;
        published = ap (λ (c : Course). published_on c z actor a e) s ∙ r.3;
        failed = record { shape = refl; heads = refl; links = refl; keys = refl; halt = refl; locks = refl; vault = failed_same e; uses = refl; actors = refl };
      }
