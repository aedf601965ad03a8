-- Where all calls that name a key were made one after the other, nobody else changed it meanwhile.
use Rattle.std.proofs.Common.{arith, ◌≡◌, inl, inr, ℕ, ◌==◌, if◌then◌else◌, Bool, true, false, List, [], ◌∷◌, filter, refl, sym, subst, eqb-true}
use Rattle.std.proofs.lemmas.Bool.Decides.{nat_tests, eqb_tells}
use Rattle.lz_refinement.proofs.{Vocabulary.{Command, Format, key_of, Publishing, Trace, Begins, Since, own}, Replies.KeyByKey.{own_keys}}
use Rattle.lz_refinement.proofs.Replies.{KeyChanges.{no_sooner, sooner, each_since, changed_for}, SeenMore.{own_of_call, seen_more}}
use Rattle.lz_refinement.specs.{Answers.{Answers, MayHaveChanged}, KeyByKey.{AreFor, ChangedFor, ServedKey, about}, LoneClient.{MadeCall, AreMade, made_by, naming}}
use Rattle.lz_refinement.specs.LoneClient.{told_in, PublishedIn, InTurn, IsChange, IsInCall, SomeCall, ChangedIn, TurnsServeKey, InTurnServesKey, LoneClientIsPlain}
use Rattle.lz_refinement.specs.Sessions.{AnsweredCalls}
use Rattle.lz_slot.specs.declared.command.Command.TheVariants.{Add, Remove, Has}
use Rattle.lz_list.specs.declared.publishing.Publishing.TheVariants.{Linked as linked, Marked as marked, Unlinked as unlinked}
use Rattle.lz_list.proofs.Traces.WalkEnd.{begins_before}
use Rattle.lz_board.proofs.Upkeep.Growth.{begins_of}

-- a pass that has published nothing of key k since has not changed it
not_own : (p k : ℕ) (since : Trace) → AreFor (λ q. ⊥) k (own p since) → AreFor (λ q. ¬ (q ≡ p)) k since
not_own p k [] none = tt
not_own p k (linked j s q ∷ since) none = grind (arith, nat_tests, eqb_tells, own, not_own p k since)
not_own p k (marked j s q ∷ since) none = grind (arith, nat_tests, eqb_tells, own, not_own p k since)
not_own p k (unlinked j s q ∷ since) none = not_own p k since (unlinking (q == p) none)
  where
    unlinking : (b : Bool) → AreFor (λ r. ⊥) k (if b then unlinked j s q ∷ own p since else own p since) → AreFor (λ r. ⊥) k (own p since)
    unlinking true are = are
    unlinking false are = are
not_own p k (e ∷ since) none = not_own p k since none

none_since : (p k : ℕ) (P Q : Trace) → Since p Q P → ChangedFor (λ q. ¬ (q ≡ p)) k P Q
none_since p k P Q h = record { since = h.0; goes_on = h.1; all = not_own p k h.0 (subst (AreFor (λ q. ⊥) k) (sym h.2) tt) }

-- a call changes no key but its own
pub no_other_key : (p : ℕ) (c : Command) (own : Trace) (k : ℕ) → (key_of c ≡ k → ⊥) → MayHaveChanged p c own → AreFor (λ q. ⊥) k own
no_other_key p (Has j) own k other none = subst (AreFor (λ q. ⊥) k) (sym none) tt
no_other_key p (Add j) own k other (inr (s, is)) = subst (AreFor (λ q. ⊥) k) (sym is) (other, tt)
no_other_key p (Remove j) own k other (inr (s, inl is)) = subst (AreFor (λ q. ⊥) k) (sym is) (other, tt)
no_other_key p (Remove j) own k other (inr (s, inr is)) = subst (AreFor (λ q. ⊥) k) (sym is) (other, tt)
no_other_key p _ own k other (inl none) = subst (AreFor (λ q. ⊥) k) (sym none) tt

abbrev WasAnswered : Format → MadeCall → Type 0
WasAnswered F m = Answers F m.command m.reply m.before m.after

leaves_others : (F : Format) (m : MadeCall) (k : ℕ) → WasAnswered F m → (key_of m.command ≡ k → ⊥) → ChangedFor (λ q. ¬ (q ≡ m.before.number)) k m.before.known m.after.known
leaves_others F m k answers other =
    let h = own_of_call F m.command m.reply m.before m.after answers in
    let none = no_other_key m.before.number m.command h.own k other h.may in
    record { since = h.changes.since; goes_on = h.changes.goes_on; all = not_own m.before.number k h.changes.since (subst (AreFor (λ q. ⊥) k) (sym h.changes.own) none) }

-- the change after R was made in this call
abbrev IsIn : Publishing → Trace → MadeCall → Type 0
IsIn e R m = Begins m.before.known R × Begins (e ∷ R) m.after.known

module _ (F : Format) (test : MadeCall → Bool) where
  made_filter : (calls : List MadeCall) → AreMade F calls → AreMade F (filter test calls)
  made_filter [] made = tt
  made_filter (m ∷ calls) made = grind (arith, nat_tests, made_filter calls made.1)

  some_filtered : (A : MadeCall → Type 0) (calls : List MadeCall) → SomeCall A (filter test calls) → SomeCall (λ m. A m × (test m ≡ true)) calls
  some_filtered A [] some = elim some [ ]
  some_filtered A (m ∷ calls) some = grind (arith, nat_tests, some_filtered A calls)

  -- what is so of one of them is so of one that passes the test, where it follows from its answer
  some_kept : (A B : MadeCall → Type 0) → ((m : MadeCall) → WasAnswered F m → A m → B m × (test m ≡ true)) → (calls : List MadeCall) → AreMade F calls → SomeCall A calls → SomeCall B (filter test calls)
  some_kept A B follows [] made some = elim some [ ]
  some_kept A B follows (m ∷ calls) made (inl here) = grind (arith, nat_tests)
  some_kept A B follows (m ∷ calls) made (inr later) = grind (arith, nat_tests, some_kept A B follows calls made.1 later)

-- a call's part before it begins its part after it
within : (F : Format) (m : MadeCall) → WasAnswered F m → Begins m.before.known m.after.known
within F m answers = begins_of m.before.known m.after.known (seen_more F m.command m.reply m.before m.after answers)

chain_begins : (p : ℕ) (F : Format) (calls : List MadeCall) (P Q : Trace) → AreMade F calls → PublishedIn p calls P Q → Begins P Q
chain_begins p F [] P Q made all = begins_of P Q (all.0, all.1)
chain_begins p F (m ∷ calls) P Q made all =
    begins_before P m.before.known Q (begins_of P m.before.known (all.0.0, all.0.1))
    (begins_before m.before.known m.after.known Q (within F m made.0) (chain_begins p F calls m.after.known Q made.1 all.1))

-- what a pass changed it changed in one of its calls
in_its_calls : (p k : ℕ) (F : Format) (calls : List MadeCall) (P Q : Trace) (e : Publishing) (R : Trace) → AreMade F calls → PublishedIn p calls P Q → IsChange k p e → Begins P R → Begins (e ∷ R) Q → SomeCall (IsIn e R) calls
in_its_calls p k F [] P Q e R made all is from upto = absurd (each_since (λ q. ¬ (q ≡ p)) k P Q (none_since p k P Q all) p e R is from upto refl)
in_its_calls p k F (m ∷ calls) P Q e R made all is from upto =
    let after = chain_begins p F calls m.after.known Q made.1 all.1 in
    let before = begins_before m.before.known m.after.known Q (within F m made.0) after in
    elim (sooner e R m.before.known Q upto before) [
      | inl early ↦ absurd (each_since (λ q. ¬ (q ≡ p)) k P m.before.known (none_since p k P m.before.known all.0) p e R is from early refl)
      | inr since ↦ elim (sooner e R m.after.known Q upto after) [
        | inl here ↦ inl (since, here)
        | inr late ↦ inr (in_its_calls p k F calls m.after.known Q e R made.1 all.1 is late upto)
      ]
    ]

in_turn_begins : (F : Format) (calls : List MadeCall) (P Q : Trace) → AreMade F calls → InTurn calls P Q → Begins P Q
in_turn_begins F [] P Q made turn = turn
in_turn_begins F (m ∷ calls) P Q made turn =
    begins_before P m.before.known Q turn.0 (begins_before m.before.known m.after.known Q (within F m made.0) (in_turn_begins F calls m.after.known Q made.1 turn.1))

-- none of the calls that came later had made a change by P
not_later : (F : Format) (calls : List MadeCall) (P Q : Trace) (q : ℕ) (e : Publishing) (R : Trace) → AreMade F calls → InTurn calls P Q → Begins (e ∷ R) P → SomeCall (IsInCall q e R) calls → ⊥
not_later F [] P Q q e R made turn early some = elim some [ ]
not_later F (m ∷ calls) P Q q e R made turn early (inl here) = no_sooner e R P early (begins_before P m.before.known R turn.0 here.since)
not_later F (m ∷ calls) P Q q e R made turn early (inr later) = grind (arith, nat_tests, not_later F calls m.after.known Q q e R made.1 turn.1 (begins_before (e ∷ R) P m.after.known early (begins_before P m.before.known m.after.known turn.0 (within F m made.0))) later, begins_before, within)

pub serve : TurnsServeKey
serve F k [] P Q made turn all = changed_for (λ q. ⊥) k P Q turn all
serve F k (m ∷ calls) P Q made turn all =
    let inside = within F m made.0 in
    let after = in_turn_begins F calls m.after.known Q made.1 turn.1 in
    let before = begins_before m.before.known m.after.known Q inside after in
    let since : Begins P m.after.known = begins_before P m.before.known m.after.known turn.0 inside in (
      m.before,
      m.after,
      changed_for (λ q. ⊥) k P m.before.known turn.0 (λ q e R is from upto. elim (all q e R is from (begins_before (e ∷ R) m.before.known Q upto before)) [
        | inl here ↦ no_sooner e R m.before.known upto here.since
        | inr later ↦ not_later F calls m.after.known Q q e R made.1 turn.1 (begins_before (e ∷ R) m.before.known m.after.known upto inside) later
      ]),
      made.0,
      changed_for (λ q. q ≡ m.before.number) k m.before.known m.after.known inside
          (λ q e R is from upto. elim (all q e R is (begins_before P m.before.known R turn.0 from) (begins_before (e ∷ R) m.after.known Q upto after)) [
            | inl here ↦ sym here.by
            | inr later ↦ absurd (not_later F calls m.after.known Q q e R made.1 turn.1 upto later)
          ]),
      serve F k calls m.after.known Q made.1 turn.1 (λ q e R is from upto. elim (all q e R is (begins_before P m.after.known R since from) upto) [
        | inl here ↦ absurd (no_sooner e R m.after.known here.upto from)
        | inr later ↦ later
      ]),
    )

-- the calls that name a key, and what was told of them
pub told_naming : (k : ℕ) (calls : List MadeCall) → about k (told_in calls) ≡ told_in (naming k calls)
told_naming k [] = refl
told_naming k (m ∷ calls) = grind (arith, nat_tests, told_naming k calls, key_of)

pub in_turn_serves : InTurnServesKey
in_turn_serves F k calls P Q h turn =
    let all : ChangedIn k (naming k calls) P Q = λ q e R is from upto.
    some_kept F (λ m. key_of m.command == k) (λ m. IsIn e R m × ((m.before.number == q) ≡ true)) (IsInCall q e R) (follows q e R is) calls h.made
    (some_filtered F (λ m. m.before.number == q) (IsIn e R) calls
    (in_its_calls q k F (made_by q calls) P Q e R (made_filter F (λ m. m.before.number == q) calls h.made) (h.all q) is from upto)) in
    subst (λ (l : AnsweredCalls). ServedKey F k l P Q) (sym (told_naming k calls))
    (serve F k (naming k calls) P Q (made_filter F (λ m. key_of m.command == k) calls h.made) turn all)
  where
    -- the call that made it names its key
    follows : (q : ℕ) (e : Publishing) (R : Trace) → IsChange k q e → (m : MadeCall) → WasAnswered F m → IsIn e R m × ((m.before.number == q) ≡ true) → IsInCall q e R m × ((key_of m.command == k) ≡ true)
    follows q e R is m answers here =
        let by : m.before.number ≡ q = eqb-true m.before.number q here.1 in
        elim (eqb_tells (key_of m.command) k) [
          | inl t ↦ (record { by = by; since = here.0.0; upto = here.0.1 }, t.0)
          | inr f ↦ absurd (each_since (λ r. ¬ (r ≡ m.before.number)) k m.before.known m.after.known (leaves_others F m k answers f.1) q e R is here.0.0 here.0.1 (sym by))
        ]

pub lone_client : LoneClientIsPlain
lone_client F calls P Q h turn = own_keys F (told_in calls) (λ k. P) (λ k. Q) (λ k. in_turn_serves F k calls P Q h (turn k))
