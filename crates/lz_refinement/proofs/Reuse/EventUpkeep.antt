-- What the notes show of slots and hands stays right through each event.
use Rattle.std.proofs.Common.{arith, ◌≡◌, ◌≢◌, ◌⊎◌, inl, inr, ⊎_elim, ℕ, zero, suc, ◌≤◌, Bool, true, false, List, [], ◌∷◌, ◌++◌, refl, sym, ap, ◌∙◌, subst}
use Rattle.std.proofs.{Common.{if◌then◌else◌, replicate, slice_set, slice_index_or, Option, Some, None, is_some}, lemmas.Bool.Decides.{nat_tests}}
use Rattle.std.proofs.lemmas.List.Quantifiers.{position-Some}
use mathlib.Core.Bool.{false≢true}
use Rattle.lz_refinement.proofs.Vocabulary.{of_pass, set_of_pass, Sight, Use, Free, Taken, Limbo, use_of, is_free, collect_at, collect, lowest_free, give_back}
use Rattle.lz_refinement.proofs.Vocabulary.{see_pin_at, see_pin, check, is_pair_free, Trace, IsLoose, Actor, Event, Yard, actor_at, cell_at, idle_actor}
use Rattle.lz_refinement.proofs.Vocabulary.{line_publishes, publishes, uses_after, actors_after, given_back, kept_slot, is_unused, is_old, node_of, set_actor}
use Rattle.lz_refinement.proofs.Vocabulary.{with_hold, with_slot, released, reserved, pin_of, pin_answered, Sizes, Note, Load, as_list, trace_of, splice, pin_after}
use Rattle.lz_refinement.proofs.{Vocabulary.{Sighting, AllLeft}, Reuse.SightUpkeep.{silent_stays, loose_stays, all_left_more, use_more}}
use Rattle.lz_refinement.{proofs.{Reuse.UseUpkeep.{set_use, collect_told, retire_told, see_told}, Hold.OneWord.{line_silent}}, specs.Reuse.{UseTold, ReuseTold}}
use Rattle.lz_allot.specs.declared.sight.Sight.TheVariants.{Unseen}
use Rattle.lz_machine.specs.declared.actor.LockPhase.TheVariants.{Nothing, Locks, Checked, GateOpened, Linked, GateClosed, Marked, Unlinked}
use Rattle.lz_machine.specs.declared.event.Event.TheVariants.{Invoke, Reserve, Claim, Check, WriteOpen, Link, WriteClose, Mark, Release, Unlink, Retire, SeePin}
use Rattle.lz_machine.{specs.declared.event.Event.TheVariants.{Answer}, proofs.Frames.Uses.{use_map}}
use Rattle.lz_board.proofs.Upkeep.Splice.{trace_splice}

-- events that change what slots are used for
abbrev pub is_reusing : Event → Bool
is_reusing Reserve = true
is_reusing Retire = true
is_reusing (SeePin q v) = true
is_reusing Answer = true
is_reusing e = false

-- they publish nothing
pub reusing_silent : (y : Yard) (a : ℕ) (e : Event) → is_reusing e ≡ true → line_publishes y a e ≡ []
reusing_silent y a e is = grind (arith, nat_tests, line_silent, publishes, actor_at, false≢true)

-- and no other event changes a use
pub leaves : (y : Yard) (a : ℕ) (e : Event) → is_reusing e ≡ false → uses_after y (actor_at y a) a e ≡ y.uses
leaves y a Reserve plain = absurd (false≢true (sym plain))
leaves y a Retire plain = absurd (false≢true (sym plain))
leaves y a (SeePin q v) plain = absurd (false≢true (sym plain))
leaves y a Answer plain = absurd (false≢true (sym plain))
leaves y a e plain = refl

-- what a pass has after one was set
set_pass : {X : Type 0} (xs : List X) (a : ℕ) (x : X) (b : ℕ) (d : X) → ((b ≡ a) × (of_pass (set_of_pass xs a x) b d ≡ x)) ⊎ (of_pass (set_of_pass xs a x) b d ≡ of_pass xs b d)
set_pass xs zero x b d = inr refl
set_pass xs (suc i) x zero d = inr refl
set_pass {X} xs (suc i) x (suc j) d = ⊎_elim (λ here. inl (ap suc here.0, here.1)) (λ away. inr away) (go xs i j)
  where
    go : (xs : List X) (i j : ℕ) → ((j ≡ i) × (slice_index_or (slice_set xs i x) j d ≡ x)) ⊎ (slice_index_or (slice_set xs i x) j d ≡ slice_index_or xs j d)
    go [] i j = inr refl
    go (v ∷ vs) zero zero = inl (refl, refl)
    go (v ∷ vs) zero (suc j) = inr refl
    go (v ∷ vs) (suc i) zero = inr refl
    go (v ∷ vs) (suc i) (suc j) = ⊎_elim (λ here. inl (ap suc here.0, here.1)) (λ away. inr away) (go vs i j)

-- the slot in a hand
abbrev pub slot_in : List Actor → ℕ → Option ℕ
slot_in actors b = (of_pass actors b idle_actor).slot

-- where one actor's hand gets no new slot, no hand does
set_slot : (actors : List Actor) (a : ℕ) (x : Actor) → ((s : ℕ) → x.slot ≡ Some s → slot_in actors a ≡ Some s) → (b s : ℕ) → slot_in (set_of_pass actors a x) b ≡ Some s → slot_in actors b ≡ Some s
set_slot actors a x kept b s is = grind (arith, nat_tests, set_pass, idle_actor)

none_some : (s : ℕ) → None ≡ Some s → ⊥
none_some s is = false≢true (ap is_some is)

module _ (y : Yard) (a : ℕ) where
  kept : (slot : Option ℕ) (s : ℕ) → kept_slot y slot ≡ Some s → slot ≡ Some s
  kept None s is = absurd (none_some s is)
  kept (Some t) s is = grind (arith, nat_tests, is_unused, cell_at, none_some)

  -- no event but a Reserve puts a slot in a hand
  pub hands_after : (e : Event) → (e ≢ Reserve) → (b s : ℕ) → slot_in (actors_after y (actor_at y a) a e) b ≡ Some s → slot_in y.actors b ≡ Some s
  hands_after Reserve other b s is = absurd (other refl)
  hands_after (Invoke c) other b s is = set_slot y.actors a (record (actor_at y a) { refused = is_old y.vault.format c }) (λ t held. held) b s is
  hands_after (Claim pred curr) other b s is = go (is_pair_free y.locks pred curr) is
    where
      go : (free : Bool) → slot_in (if free then set_actor y a (record (actor_at y a) { hold = Locks; pred = pred; curr = curr }) else y.actors) b ≡ Some s → slot_in y.actors b ≡ Some s
      go true is = set_slot y.actors a (record (actor_at y a) { hold = Locks; pred = pred; curr = curr }) (λ t held. held) b s is
      go false is = is
  hands_after Check other b s is = set_slot y.actors a (with_hold (actor_at y a) (if check y.words (actor_at y a).pred (actor_at y a).curr then Checked else Locks)) (λ t held. held) b s is
  hands_after WriteOpen other b s is = set_slot y.actors a (with_hold (actor_at y a) GateOpened) (λ t held. held) b s is
  hands_after Link other b s is = set_slot y.actors a (record (actor_at y a) { slot = None; hold = Linked }) (λ t held. absurd (none_some t held)) b s is
  hands_after WriteClose other b s is = set_slot y.actors a (with_hold (actor_at y a) GateClosed) (λ t held. held) b s is
  hands_after Mark other b s is = set_slot y.actors a (with_hold (actor_at y a) Marked) (λ t held. held) b s is
  hands_after Release other b s is = set_slot y.actors a (with_hold (actor_at y a) (released (actor_at y a).hold)) (λ t held. held) b s is
  hands_after Unlink other b s is = set_slot y.actors a (with_hold (actor_at y a) Unlinked) (λ t held. held) b s is
  hands_after Retire other b s is = set_slot y.actors a (with_hold (actor_at y a) Nothing) (λ t held. held) b s is
  hands_after Answer other b s is = set_slot y.actors a (with_slot (actor_at y a) (kept_slot y (actor_at y a).slot)) (λ t held. kept (actor_at y a).slot t held) b s is
  hands_after _ other b s is = is

-- what holds of a taken slot is nothing
not_taken : (u : Use) → u ≡ Free → u ≢ Taken
not_taken u free taken = grind (arith, nat_tests)

limbo_taken : (u : Use) (sights : List Sight) → u ≡ Limbo sights → u ≢ Taken
limbo_taken u sights limbo taken = grind (arith, nat_tests)

module _ (z : Sizes) (opened : Trace) (a : ℕ) (hs : List Load) (ns : List Note) (n : Note) (y : Yard) (told : ReuseTold z opened ns y.uses y.actors) where
  abbrev now : List Note
  now = n ∷ splice opened a hs ns

  -- a step that publishes nothing and leaves uses and hands
  pub silent_told : n.published ≡ None → ReuseTold z opened now y.uses y.actors
  silent_told none = record {
    each = λ s. use_more z opened a hs ns n s (silent_stays z.buckets (trace_of opened ns) n.published s none) (use_of y.uses s) (told.each s);
    hands = λ b s is. all_left_more z opened a hs ns n s (silent_stays z.buckets (trace_of opened ns) n.published s none) (told.hands b s is);
  }

  abbrev actor : Actor
  actor = actor_at y a

  -- an event that leaves the uses: no slot that is free, in limbo or in a hand comes to a chain
  pub plain_told : (e : Event) → is_reusing e ≡ false
      → ((s : ℕ) → use_of y.uses s ≢ Taken → IsLoose z.buckets s (as_list n.published ++ trace_of opened ns))
      → ((b s : ℕ) → slot_in (actors_after y actor a e) b ≡ Some s → IsLoose z.buckets s (as_list n.published ++ trace_of opened ns))
      → ReuseTold z opened now (uses_after y actor a e) (actors_after y actor a e)
  plain_told e plain loose held = record {
    each = λ s. subst (λ us. UseTold z opened now s (use_of us s)) (sym (leaves y a e plain)) (by_use s (use_of y.uses s) refl (told.each s));
    hands = λ b s is. all_left_more z opened a hs ns n s (loose_stays z.buckets (trace_of opened ns) n.published s (held b s is)) (told.hands b s (hands_after y a e (λ same. false≢true (sym plain ∙ ap is_reusing same)) b s is));
  }
    where
      by_use : (s : ℕ) (u : Use) → use_of y.uses s ≡ u → UseTold z opened ns s u → UseTold z opened now s u
      by_use s Taken is told = tt
      by_use s Free is told = use_more z opened a hs ns n s (loose_stays z.buckets (trace_of opened ns) n.published s (loose s (not_taken (use_of y.uses s) is))) Free told
      by_use s (Limbo sights) is told = use_more z opened a hs ns n s (loose_stays z.buckets (trace_of opened ns) n.published s (loose s (limbo_taken (use_of y.uses s) sights is))) (Limbo sights) told

  module _ (none : n.published ≡ None) where
    t : ReuseTold z opened now y.uses y.actors
    t = silent_told none

    collected : (s : ℕ) → UseTold z opened now s (use_of (collect y.uses) s)
    collected s = subst (UseTold z opened now s) (sym (use_map collect_at y.uses s refl)) (collect_told z opened now s (use_of y.uses s) (t.each s))

    pub reserve_told : ReuseTold z opened now (uses_after y actor a Reserve) (actors_after y actor a Reserve)
    reserve_told = record {
      each = taken (lowest_free (collect y.uses));
      hands = λ b s is. ⊎_elim
          (λ here. free s (sym (ap (λ (q : Actor). q.slot) here.1) ∙ is))
          (λ away. t.hands b s (sym (ap (λ (q : Actor). q.slot) away) ∙ is))
          (set_pass y.actors a (with_slot actor (lowest_free (collect y.uses))) b idle_actor);
    }
      where
        taken : (low : Option ℕ) (s : ℕ) → UseTold z opened now s (use_of (reserved (collect y.uses) low) s)
        taken None s = collected s
        taken (Some r) s = ⊎_elim
            (λ here. subst (UseTold z opened now s) (sym here.1) tt)
            (λ away. subst (UseTold z opened now s) (sym away) (collected s))
            (set_use (collect y.uses) r Taken s)

        as_free : (s : ℕ) (u : Use) → is_free u ≡ true → UseTold z opened now s u → AllLeft z opened now s
        as_free s Free is told = told
        as_free s _ is told = absurd (false≢true is)

        free : (s : ℕ) → lowest_free (collect y.uses) ≡ Some s → AllLeft z opened now s
        free s found = as_free s (use_of (collect y.uses) s) (position-Some is_free (collect y.uses) s Taken found).1 (collected s)

    pub retired_told : y.shape.passes ≡ z.passes → ReuseTold z opened now (uses_after y actor a Retire) (actors_after y actor a Retire)
    retired_told passes = record {
      each = λ s. ⊎_elim
          (λ here. subst (UseTold z opened now s) (sym here.1) (retire_told z opened now s y.shape.passes passes))
          (λ away. subst (UseTold z opened now s) (sym away) (t.each s))
          (set_use y.uses (node_of actor) (Limbo (replicate y.shape.passes Unseen)) s);
      hands = λ b s is. t.hands b s (hands_after y a Retire (λ same. absurd cc) b s is);
    }

    -- a pin word was seen, on uses that the notes tell
    module _ (loose : (s : ℕ) → use_of y.uses s ≢ Taken → IsLoose z.buckets s (trace_of opened ns)) (q v : ℕ) (low : 1 ≤ q) (high : q ≤ z.passes)
        (x : Sighting opened now q) (value : pin_after q (x.note ∷ x.rest) ≡ v) (at : trace_of opened x.rest ≡ trace_of opened now) where
      same_trace : trace_of opened now ≡ trace_of opened ns
      same_trace = ap (λ l. as_list l ++ trace_of opened (splice opened a hs ns)) none ∙ trace_splice opened a hs ns

      seen : (us : List Use) → ((s : ℕ) (sights : List Sight) → use_of us s ≡ Limbo sights → use_of y.uses s ≡ Limbo sights) → ((s : ℕ) → UseTold z opened now s (use_of us s)) → (s : ℕ) → UseTold z opened now s (use_of (see_pin q v us) s)
      seen us limbo each s = subst (UseTold z opened now s) (sym (use_map (see_pin_at q v) us s refl))
          (see_told z opened now s q v low high x value at (use_of us s) (λ sights is. subst (IsLoose z.buckets s) (sym same_trace) (loose s (limbo_taken (use_of y.uses s) sights (limbo s sights is)))) (each s))

      pub seen_told : ReuseTold z opened now (see_pin q v y.uses) y.actors
      seen_told = record { each = seen y.uses (λ s sights is. is) t.each; hands = t.hands }

      pub answered_told : a ≡ q → pin_answered actor (pin_of y a) ≡ v → ReuseTold z opened now (uses_after y actor a Answer) (actors_after y actor a Answer)
      answered_told same pin = record {
        each = λ s. subst (λ (r : ℕ × ℕ). UseTold z opened now s (use_of (see_pin r.0 r.1 (given_back y actor.slot)) s)) (λ i. (sym same i, sym pin i)) (seen (given_back y actor.slot) (still actor.slot) (given actor.slot refl) s);
        hands = λ b s is. t.hands b s (hands_after y a Answer (λ same. absurd cc) b s is);
      }
        where
          free_limbo : (sights : List Sight) → Free ≡ Limbo sights → ⊥
          free_limbo sights e = absurd cc

          still : (slot : Option ℕ) (s : ℕ) (sights : List Sight) → use_of (given_back y slot) s ≡ Limbo sights → use_of y.uses s ≡ Limbo sights
          still None s sights is = is
          still (Some r) s sights is = go (is_unused (cell_at y r).stage) is
            where
              go : (b : Bool) → use_of (if b then give_back y.uses r else y.uses) s ≡ Limbo sights → use_of y.uses s ≡ Limbo sights
              go true is = ⊎_elim (λ here. absurd (free_limbo sights (sym here.1 ∙ is))) (λ away. sym away ∙ is) (set_use y.uses r Free s)
              go false is = is

          given : (slot : Option ℕ) → slot ≡ actor.slot → (s : ℕ) → UseTold z opened now s (use_of (given_back y slot) s)
          given None held s = t.each s
          given (Some r) held s = go (is_unused (cell_at y r).stage)
            where
              go : (b : Bool) → UseTold z opened now s (use_of (if b then give_back y.uses r else y.uses) s)
              go true = ⊎_elim
                  (λ here. subst (UseTold z opened now s) (sym here.1) (subst (AllLeft z opened now) (sym here.0) (t.hands a r (sym held))))
                  (λ away. subst (UseTold z opened now s) (sym away) (t.each s))
                  (set_use y.uses r Free s)
              go false = t.each s
