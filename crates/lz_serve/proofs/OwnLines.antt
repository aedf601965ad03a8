-- The calls of some grants, and what a plain set tells of their keys.
use Rattle.lz_set.specs.declared.fault.Fault.TheVariants as fault
use Rattle.std.proofs.Common.{◌≡◌, ◌⊎◌, inl, inr, ℕ, zero, suc, ◌==◌, if◌then◌else◌, All, Bool, true, false, List, [], ◌∷◌, ◌++◌, Result, Ok, Err, Some, refl}
use Rattle.std.proofs.{Common.{sym, ap, ◌∙◌, subst, append_assoc, slice_index_or}, lemmas.{Bool.Decides.{eqb_tells}, List.Elements.{All-head, All-tail}}}
use mathlib.Core.Bool.{true≢false}
use Rattle.lz_slot.specs.{declared.{command.Command.{Command}, format.Format.{Format}}, Sets.{key_of}}
use Rattle.lz_list.{specs.{declared.publishing.Publishing.{Publishing}, Traces.{Trace, Begins}}, proofs.Traces.Absence.{begins_itself}}
use Rattle.lz_list.proofs.Traces.WalkEnd.{begins_before}
use Rattle.lz_proto.specs.declared.request.Request.{Request, TheVariants.{Add, Remove, Has, Quit}}
use Rattle.lz_board.{specs.{declared.pass.Pass.{Pass}, Seats.{BoardId, part}}, proofs.Upkeep.Growth.{begins_of}}
use Rattle.lz_refinement.specs.{KeyByKey.{ServedKey}, LoneClient.{AreMade, InTurn, IsInCall, MadeCall, SomeCall, naming, told_in}, Sessions.{AnsweredCalls}}
use Rattle.lz_refinement.proofs.Replies.{KeyByKey.{own_keys}, KeyChanges.{no_sooner, sooner}, LoneClient.{serve, told_naming}, SeenMore.{seen_more}}
use Rattle.lz_set.specs.{declared.fault.Fault.{Fault}, Answers.{reply_of}}
use Rattle.lz_serve.specs.{Grants.{AreInTurn, Grant, IsAfter, IsGrant, key_asked}, OwnLines.{AreFull, IsFor, IsIn, OwnLinesArePlain, SomeFor, TellOf}}
use Rattle.lz_serve.specs.Replies.{AreAskedAgain, IsCallAnswered, asks_again, client_reply, command_of}

-- lists of calls

made_both : (F : Format) (xs ys : List MadeCall) → AreMade F xs → AreMade F ys → AreMade F (xs ++ ys)
made_both F [] ys one two = two
made_both F (m ∷ xs) ys one two = (one.0, made_both F xs ys one.1 two)

told_both : (xs ys : List MadeCall) → told_in (xs ++ ys) ≡ told_in xs ++ told_in ys
told_both [] ys = refl
told_both (m ∷ xs) ys = ap (λ (l : AnsweredCalls). (m.command, m.reply) ∷ l) (told_both xs ys)

naming_both : (k : ℕ) (xs ys : List MadeCall) → naming k (xs ++ ys) ≡ naming k xs ++ naming k ys
naming_both k [] ys = refl
naming_both k (m ∷ xs) ys =
    let rest = naming_both k xs ys in
    elim (key_of m.command == k) as (λ b. (if b then m ∷ naming k (xs ++ ys) else naming k (xs ++ ys)) ≡ (if b then m ∷ naming k xs else naming k xs) ++ naming k ys) [
      | true ↦ ap (λ (l : List MadeCall). m ∷ l) rest
      | false ↦ rest
    ]

naming_made : (F : Format) (k : ℕ) (calls : List MadeCall) → AreMade F calls → AreMade F (naming k calls)
naming_made F k [] made = tt
naming_made F k (m ∷ calls) made =
    let rest = naming_made F k calls made.1 in
    elim (key_of m.command == k) as (λ b. AreMade F (if b then m ∷ naming k calls else naming k calls)) [ true ↦ (made.0, rest) | false ↦ rest ]

turn_from : (calls : List MadeCall) (P B Q : Trace) → Begins P B → InTurn calls B Q → InTurn calls P Q
turn_from [] P B Q from turn = begins_before P B Q from turn
turn_from (m ∷ calls) P B Q from turn = (begins_before P B m.before.known from turn.0, turn.1)

turn_both : (xs ys : List MadeCall) (P B Q : Trace) → InTurn xs P B → InTurn ys B Q → InTurn (xs ++ ys) P Q
turn_both [] ys P B Q one two = turn_from ys P B Q one two
turn_both (m ∷ xs) ys P B Q one two = (one.0, turn_both xs ys m.after.known B Q one.1 two)

some_left : (A : MadeCall → Type 0) (xs ys : List MadeCall) → SomeCall A xs → SomeCall A (xs ++ ys)
some_left A [] ys some = absurd some
some_left A (m ∷ xs) ys (inl here) = inl here
some_left A (m ∷ xs) ys (inr later) = inr (some_left A xs ys later)

some_right : (A : MadeCall → Type 0) (xs ys : List MadeCall) → SomeCall A ys → SomeCall A (xs ++ ys)
some_right A [] ys some = some
some_right A (m ∷ xs) ys some = inr (some_right A xs ys some)

full_both : (c : Command) (xs ys : AnsweredCalls) → AreFull c xs → AreFull c ys → AreFull c (xs ++ ys)
full_both c [] ys one two = two
full_both c (call ∷ xs) ys one two = (one.0, one.1, full_both c xs ys one.2 two)

-- each is for this command
abbrev AreOf : Command → List MadeCall → Type 0
AreOf c [] = Unit {0}
AreOf c (m ∷ calls) = (m.command ≡ c) × AreOf c calls

of_both : (c : Command) (xs ys : List MadeCall) → AreOf c xs → AreOf c ys → AreOf c (xs ++ ys)
of_both c [] ys one two = two
of_both c (m ∷ xs) ys one two = (one.0, of_both c xs ys one.1 two)

naming_all : (k : ℕ) (c : Command) (calls : List MadeCall) → AreOf c calls → (key_of c == k) ≡ true → naming k calls ≡ calls
naming_all k c [] of is = refl
naming_all k c (m ∷ calls) of is =
    subst (λ (b : Bool). (if b then m ∷ naming k calls else naming k calls) ≡ m ∷ calls) (sym (ap (λ (d : Command). key_of d == k) of.0 ∙ is)) (ap (λ (l : List MadeCall). m ∷ l) (naming_all k c calls of.1 is))

naming_none : (k : ℕ) (c : Command) (calls : List MadeCall) → AreOf c calls → (key_of c == k) ≡ false → naming k calls ≡ []
naming_none k c [] of is = refl
naming_none k c (m ∷ calls) of is =
    subst (λ (b : Bool). (if b then m ∷ naming k calls else naming k calls) ≡ []) (sym (ap (λ (d : Command). key_of d == k) of.0 ∙ is)) (naming_none k c calls of.1 is)

-- the calls of a seat

told_full : (c : Command) (b : BoardId) (tries : ℕ) (earlier : Bool) (answer : Result Bool Fault) → asks_again b tries earlier answer ≡ true → AreFull c ((c, reply_of answer) ∷ [])
told_full c b tries earlier (Ok is) again = absurd (true≢false (sym again))
told_full c b tries earlier (Err (fault.Full counts)) again = (refl, tt, tt)
told_full c b tries earlier (Err fault.Worn) again = absurd (true≢false (sym again))
told_full c b tries earlier (Err fault.OldFile) again = absurd (true≢false (sym again))
told_full c b tries earlier (Err fault.Halted) again = absurd (true≢false (sym again))
told_full c b tries earlier (Err fault.Device) again = absurd (true≢false (sym again))

-- each change from P to Q by a pass of this number was made in one of these
abbrev Catch : ℕ → List MadeCall → Trace → Trace → Type 0
Catch p calls P Q = (e : Publishing) (R : Trace) → Begins P R → Begins (e ∷ R) Q → SomeCall (IsInCall p e R) calls

module _ (b : BoardId) (F : Format) (beside : Bool) (c : Command) where
  abbrev made : Result Bool Fault → Pass → Pass → MadeCall
  made answer p q = record { command = c; reply = reply_of answer; before = part p; after = part q }

  grown : (answer : Result Bool Fault) (p q : Pass) → IsCallAnswered b F c answer p q → Begins (part p).known (part q).known
  grown answer p q is = begins_of (part p).known (part q).known (seen_more F c (reply_of answer) (part p) (part q) is.call)

  -- calls of a pass from one moment to another: the first ones, of the command, told full
  record Run (old new : Pass) : Type 0 where
    calls : List MadeCall
    are : AreMade F calls
    of : AreOf c calls
    turn : InTurn calls (part old).known (part new).known
    begins : Begins (part old).known (part new).known
    number : (part new).number ≡ (part old).number
    catch : Catch (part old).number calls (part old).known (part new).known

  one_more : (old middle new : Pass) (answer : Result Bool Fault) → Run old middle → IsCallAnswered b F c answer middle new → Run old new
  one_more old middle new answer run is =
      let m = made answer middle new in
      let more = grown answer middle new is in
      record {
        calls = run.calls ++ m ∷ [];
        are = made_both F run.calls (m ∷ []) run.are (is.call, tt);
        of = of_both c run.calls (m ∷ []) run.of (refl, tt);
        turn = turn_both run.calls (m ∷ []) (part old).known (part middle).known (part new).known run.turn (begins_itself (part middle).known, begins_itself (part new).known);
        begins = begins_before (part old).known (part middle).known (part new).known run.begins more;
        number = is.call.number ∙ run.number;
        catch = λ e R from upto. elim (sooner e R (part middle).known (part new).known upto more) [
          | inl early ↦ some_left (IsInCall (part old).number e R) run.calls (m ∷ []) (run.catch e R from early)
          | inr since ↦ some_right (IsInCall (part old).number e R) run.calls (m ∷ []) (inl (record { by = run.number; since = since; upto = upto }))
        ];
      }

  -- those after each of which one more was made
  again_run : (tries : ℕ) (old new : Pass) → AreAskedAgain b F beside c tries old new → (run : Run old new) × AreFull c (told_in run.calls)
  unfolding one_more
  again_run zero old new same =
      let here : Run old old =
      record {
        calls = [];
        are = tt;
        of = tt;
        turn = begins_itself (part old).known;
        begins = begins_itself (part old).known;
        number = refl;
        catch = λ e R from upto. absurd (no_sooner e R (part old).known upto from);
      } in
      subst (λ (p : Pass). (run : Run old p) × AreFull c (told_in run.calls)) (sym same) (here, tt)
  again_run (suc n) old new (middle, before, last) =
      let run = again_run n old middle before in
      let m = made last.answer middle new in (
        one_more old middle new last.answer run.0 last.answered,
        subst (AreFull c) (sym (told_both run.0.calls (m ∷ []))) (full_both c (told_in run.0.calls) ((c, reply_of last.answer) ∷ []) run.1 (told_full c b n beside last.answer last.again)),
      )

-- the command is for the request's key
key_is : (request : Request) (c : Command) → command_of request ≡ Some c → key_asked request ≡ Some (key_of c)
key_is (Add k) c is = cc
key_is (Remove k) c is = cc
key_is (Has k) c is = cc
key_is Quit c is = absurd (cc)

both_are : (grants : List Grant) (A B C : Grant → Type 0) → ((g : Grant) → A g → B g → C g) → All A grants → All B grants → All C grants
both_are grants A B C each one two = λ i d low. each (slice_index_or grants i d) (one i d low) (two i d low)

module _ (b : BoardId) (F : Format) where
  -- the calls of a grant
  module _ (g : Grant) (is : IsGrant b F g) where
    asked : (run : Run b F g.question.earlier is.c g.question.before is.middle) × AreFull is.c (told_in run.calls)
    asked = again_run b F g.question.earlier is.c is.tries g.question.before is.middle is.before

    run : Run b F g.question.earlier is.c g.question.before g.after
    run = one_more b F g.question.earlier is.c g.question.before is.middle g.after is.answer asked.0 is.last

    last_told : told_in run.calls ≡ told_in asked.0.calls ++ (is.c, reply_of is.answer) ∷ []
    unfolding run asked one_more
    last_told = told_both asked.0.calls (made b F g.question.earlier is.c is.answer is.middle g.after ∷ [])

    -- those for a key are all of them or none
    for_key : (k : ℕ) → (IsFor k g × (naming k run.calls ≡ run.calls)) ⊎ ((IsFor k g → ⊥) × (naming k run.calls ≡ []))
    for_key k =
        let key = key_is g.question.request is.c is.asked in
        elim (eqb_tells (key_of is.c) k) [
          | inl t ↦ inl (key ∙ ap Some t.1, naming_all k is.c run.calls run.of t.0)
          | inr f ↦ inr ((λ for. let both = sym key ∙ for in absurd (f.1 (cc))), naming_none k is.c run.calls run.of f.0)
        ]

  calls_of : (grants : List Grant) → All (IsGrant b F) grants → List MadeCall
  calls_of [] all = []
  calls_of (g ∷ grants) all = (run g (All-head (IsGrant b F) g grants all)).calls ++ calls_of grants (All-tail (IsGrant b F) g grants all)

  are_made : (grants : List Grant) (all : All (IsGrant b F) grants) → AreMade F (calls_of grants all)
  unfolding calls_of
  are_made [] all = tt
  are_made (g ∷ grants) all =
      made_both F (run g (All-head (IsGrant b F) g grants all)).calls (calls_of grants (All-tail (IsGrant b F) g grants all)) (run g (All-head (IsGrant b F) g grants all)).are (are_made grants (All-tail (IsGrant b F) g grants all))

  tell_more : (g : Grant) (grants : List Grant) (calls : AnsweredCalls) (c : Command) (full : AnsweredCalls) (answer : Result Bool Fault) (rest : AnsweredCalls) → calls ≡ full ++ (c, reply_of answer) ∷ rest
      → command_of g.question.request ≡ Some c → AreFull c full → g.reply ≡ client_reply answer → TellOf grants rest → TellOf (g ∷ grants) calls
  tell_more g grants calls c full answer rest split asked are told later = (c, full, answer, rest, split, asked, are, told, later)

  -- the grants tell of the calls
  tell_of : (grants : List Grant) (all : All (IsGrant b F) grants) → TellOf grants (told_in (calls_of grants all))
  unfolding calls_of
  tell_of [] all = refl
  tell_of (g ∷ grants) all =
      let is = All-head (IsGrant b F) g grants all in
      let rest = calls_of grants (All-tail (IsGrant b F) g grants all) in
      let full = told_in (asked g is).0.calls in
      let split : told_in ((run g is).calls ++ rest) ≡ full ++ (is.c, reply_of is.answer) ∷ told_in rest =
      told_both (run g is).calls rest ∙ ap (λ (l : AnsweredCalls). l ++ told_in rest) (last_told g is) ∙ append_assoc full ((is.c, reply_of is.answer) ∷ []) (told_in rest) in
      tell_more g grants (told_in ((run g is).calls ++ rest)) is.c full is.answer (told_in rest) split is.asked (asked g is).1 is.told (tell_of grants (All-tail (IsGrant b F) g grants all))

  module _ (k : ℕ) where
    -- those for the key were made one after the other
    in_turn : (grants : List Grant) (all : All (IsGrant b F) grants) (P Q : Trace) → AreInTurn grants → Begins P Q → All (λ g. IsFor k g → Begins P (part g.question.before).known × Begins (part g.after).known Q) grants
        → InTurn (naming k (calls_of grants all)) P Q
    unfolding calls_of
    in_turn [] all P Q turn goes within = goes
    in_turn (g ∷ grants) all P Q turn goes within =
        let is = All-head (IsGrant b F) g grants all in
        let rest = calls_of grants (All-tail (IsGrant b F) g grants all) in
        let its = run g is in
        let later = All-tail (λ h. IsFor k h → Begins P (part h.question.before).known × Begins (part h.after).known Q) g grants within in
        subst (λ (calls : List MadeCall). InTurn calls P Q) (sym (naming_both k its.calls rest)) (elim (for_key g is k) [
          | inl (for, same) ↦
              let here = All-head (λ h. IsFor k h → Begins P (part h.question.before).known × Begins (part h.after).known Q) g grants within for in
              let next : All (λ h. IsFor k h → Begins (part g.after).known (part h.question.before).known × Begins (part h.after).known Q) grants =
              both_are grants (λ h. IsAfter g h) (λ h. IsFor k h → Begins P (part h.question.before).known × Begins (part h.after).known Q) (λ h. IsFor k h → Begins (part g.after).known (part h.question.before).known × Begins (part h.after).known Q)
              (λ h after was too. (after (for ∙ sym too), (was too).1)) turn.0 later in
              subst (λ (calls : List MadeCall). InTurn (calls ++ naming k rest) P Q) (sym same)
              (turn_both its.calls (naming k rest) P (part g.after).known Q (turn_from its.calls P (part g.question.before).known (part g.after).known here.0 its.turn)
              (in_turn grants (All-tail (IsGrant b F) g grants all) (part g.after).known Q turn.1 here.1 next))
          | inr (other, none) ↦
              subst (λ (calls : List MadeCall). InTurn (calls ++ naming k rest) P Q) (sym none) (in_turn grants (All-tail (IsGrant b F) g grants all) P Q turn.1 goes later)
        ])

    -- a change in a grant for the key was made in one of its calls
    changed : (grants : List Grant) (all : All (IsGrant b F) grants) (q : ℕ) (e : Publishing) (R : Trace) → SomeFor k (IsIn q e R) grants → SomeCall (IsInCall q e R) (naming k (calls_of grants all))
    unfolding calls_of run
    changed [] all q e R some = absurd some
    changed (g ∷ grants) all q e R some =
        let is = All-head (IsGrant b F) g grants all in
        let rest = calls_of grants (All-tail (IsGrant b F) g grants all) in
        let its = run g is in
        subst (SomeCall (IsInCall q e R)) (sym (naming_both k its.calls rest)) (elim some [
          | inl (for, here) ↦ some_left (IsInCall q e R) (naming k its.calls) (naming k rest) (elim (for_key g is k) [
            | inl (too, same) ↦ subst (SomeCall (IsInCall q e R)) (sym same) (subst (λ (p : ℕ). SomeCall (IsInCall p e R) its.calls) here.by (its.catch e R here.since here.upto))
            | inr (other, none) ↦ absurd (other for)
          ])
          | inr later ↦ some_right (IsInCall q e R) (naming k its.calls) (naming k rest) (changed grants (All-tail (IsGrant b F) g grants all) q e R later)
        ])

pub own_lines : OwnLinesArePlain
own_lines b F grants P Q granted own =
    let calls = calls_of b F grants granted.0 in
    let made = are_made b F grants granted.0 in (
      told_in calls,
      tell_of b F grants granted.0,
      own_keys F (told_in calls) P Q (λ k.
          subst (λ (l : AnsweredCalls). ServedKey F k l (P k) (Q k)) (sym (told_naming k calls))
          (serve F k (naming k calls) (P k) (Q k) (naming_made F k calls made)
          (in_turn b F k grants granted.0 (P k) (Q k) granted.1 (own k).goes_on (own k).within)
          (λ q e R is from upto. changed b F k grants granted.0 q e R ((own k).own q e R is from upto)))),
    )
