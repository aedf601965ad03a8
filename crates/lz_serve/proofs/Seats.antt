-- What a seat answers, call after call, and its session.
use Rattle.lz_proto.specs.declared.reply.Reply.TheVariants as reply
use Rattle.lz_set.specs.declared.fault.Fault.TheVariants as fault
use Rattle.std.proofs.Common.{◌≡◌, ◌==◌, ℕ, zero, suc, ◌+◌, nat_lt, All, Bool, true, false, not, ◌&&◌, ◌||◌, List, Option, Some, Result, Ok, Err, refl, sym, ap}
use Rattle.std.proofs.{Common.{◌∙◌, subst, arith}, lemmas.List.Elements.{All-cons, All-same}}
use mathlib.Core.Bool.{true≢false}
use Rattle.lz_slot.specs.declared.{command.Command.{Command}, format.Format.{Format}}
use Rattle.lz_list.{specs.{Traces.{Begins, halt_word}, declared.layout.Sizes.{Sizes}}, proofs.Traces.{Absence.{begins_itself}, WalkEnd.{begins_before}}}
use Rattle.lz_machine.specs.declared.event.Reply.{Reply as Given}
use Rattle.lz_proto.specs.{declared.{request.Request.{Request}, reply.Reply.{Reply}, fault.SessionFault.{SessionFault}, end.End.{End}}, Sessions.{SessionTells}}
use Rattle.lz_board.{specs.{declared.pass.Pass.{Pass}, Notes.{shape_of_sizes}, Seats.{BoardId, part}}, proofs.Upkeep.Growth.{begins_of}}
use Rattle.lz_board.proofs.Walk.GlanceAnswer.{halt_since}
use Rattle.lz_set.specs.{declared.fault.Fault.{Fault}, Answers.{reply_of}}
use Rattle.lz_refinement.{specs.{OwnCalls.{told}, Sessions.{cuts_off}}, proofs.{Marks.ToldCalls.{answers_told}, Replies.SeenMore.{seen_more}}}
use Rattle.lz_serve.specs.Halts.{IsCalm, was_cut}
use Rattle.lz_serve.specs.Replies.{AreAskedAgain, IsCallAnswered, SeatAnswers, asks_again, client_reply, command_of, most_tries, says_halted}
use Rattle.lz_serve.proofs.{Halting.{answer_word}, Mapped.{known_session}}

-- an answer of which a client isn't told that the service halted doesn't cut its call off
uncut : (answer : Result Bool Fault) → says_halted (client_reply answer) ≡ false → cuts_off (reply_of answer) ≡ false
uncut (Ok true) is = refl
uncut (Ok false) is = refl
uncut (Err (fault.Full counts)) is = refl
uncut (Err fault.Worn) is = refl
uncut (Err fault.OldFile) is = refl
uncut (Err fault.Halted) is = absurd (true≢false is)
uncut (Err fault.Device) is = absurd (true≢false is)

-- so the pass stays calm
calm_after : (b : BoardId) (F : Format) (c : Command) (answer : Result Bool Fault) (old new : Pass) → IsCallAnswered b F c answer old new → (part new).sizes ≡ b.sizes → says_halted (client_reply answer) ≡ false → IsCalm (part old) → IsCalm (part new)
calm_after b F c answer old new is sized quiet calm =
    let P = λ (call : Command × Option Given). was_cut call.1 ≡ false in
    let newest : All P (told (shape_of_sizes (part old).sizes) (part new).steps) =
    All-same P _ _ (answers_told F c (reply_of answer) (part old) (part new) is.call) (All-cons P (c, Some (reply_of answer)) (told (shape_of_sizes (part old).sizes) (part old).steps) (uncut answer quiet) calm) in
    subst (λ (z : Sizes). All P (told (shape_of_sizes z) (part new).steps)) (is.sized ∙ sym sized) newest

-- an answer after which one more call is made is told as full
pub told_full : (b : BoardId) (tries : ℕ) (earlier : Bool) (answer : Result Bool Fault) → asks_again b tries earlier answer ≡ true → client_reply answer ≡ reply.Full
told_full b tries earlier (Ok is) again = absurd (true≢false (sym again))
told_full b tries earlier (Err (fault.Full counts)) again = refl
told_full b tries earlier (Err fault.Worn) again = absurd (true≢false (sym again))
told_full b tries earlier (Err fault.OldFile) again = absurd (true≢false (sym again))
told_full b tries earlier (Err fault.Halted) again = absurd (true≢false (sym again))
told_full b tries earlier (Err fault.Device) again = absurd (true≢false (sym again))

not_one : (x y : Bool) (n : ℕ) → n ≡ 1 → (x && y && not (n == 1)) ≡ false
not_one true true n one = ap (λ (m : ℕ). not (m == 1)) one
not_one true false n one = refl
not_one false y n one = refl

no_more : (x y h z : Bool) → (x && (y || h) && z) ≡ false → (x && (y || false) && z) ≡ false
no_more true true h z is = is
no_more true false h z is = refl
no_more false y h z is = refl

-- where none is made though an earlier line wasn't answered, none is where each was
unasked : (b : BoardId) (tries : ℕ) (earlier : Bool) (answer : Result Bool Fault) → asks_again b tries earlier answer ≡ false → asks_again b tries false answer ≡ false
unasked b tries earlier (Ok is) final = refl
unasked b tries earlier (Err (fault.Full counts)) final = no_more (nat_lt tries most_tries) (not (counts.limbo == 0)) earlier (not (b.sizes.passes == 1)) final
unasked b tries earlier (Err fault.Worn) final = refl
unasked b tries earlier (Err fault.OldFile) final = refl
unasked b tries earlier (Err fault.Halted) final = refl
unasked b tries earlier (Err fault.Device) final = refl

more_beside : (x y h g z : Bool) → (h ≡ true → g ≡ true) → (x && (y || h) && z) ≡ true → (x && (y || g) && z) ≡ true
more_beside true true h g z so is = is
more_beside true false true g z so is = subst (λ (w : Bool). (w && z) ≡ true) (sym (so refl)) is
more_beside true false false g z so is = absurd (true≢false (sym is))
more_beside false y h g z so is = is

-- where one is made, one is with an earlier line that wasn't answered wherever that one was so
still_asked : (b : BoardId) (tries : ℕ) (earlier beside : Bool) (answer : Result Bool Fault) → (earlier ≡ true → beside ≡ true) → asks_again b tries earlier answer ≡ true → asks_again b tries beside answer ≡ true
still_asked b tries earlier beside (Ok is) so again = again
still_asked b tries earlier beside (Err (fault.Full counts)) so again = more_beside (nat_lt tries most_tries) (not (counts.limbo == 0)) earlier beside (not (b.sizes.passes == 1)) so again
still_asked b tries earlier beside (Err fault.Worn) so again = again
still_asked b tries earlier beside (Err fault.OldFile) so again = again
still_asked b tries earlier beside (Err fault.Halted) so again = again
still_asked b tries earlier beside (Err fault.Device) so again = again

-- a set of one pass is asked once
pub alone_once : (b : BoardId) (tries : ℕ) (earlier : Bool) (answer : Result Bool Fault) → b.sizes.passes ≡ 1 → asks_again b tries earlier answer ≡ true → ⊥
alone_once b tries earlier (Ok is) one again = true≢false (sym again)
alone_once b tries earlier (Err (fault.Full counts)) one again = true≢false (sym again ∙ not_one (nat_lt tries most_tries) (not (counts.limbo == 0) || earlier) b.sizes.passes one)
alone_once b tries earlier (Err fault.Worn) one again = true≢false (sym again)
alone_once b tries earlier (Err fault.OldFile) one again = true≢false (sym again)
alone_once b tries earlier (Err fault.Halted) one again = true≢false (sym again)
alone_once b tries earlier (Err fault.Device) one again = true≢false (sym again)

module _ (b : BoardId) (F : Format) (beside : Bool) (c : Command) where
  -- what each call keeps, after which one more is made, all of them keep
  all_keep : (P : Pass → Type 0) → ((tries : ℕ) (answer : Result Bool Fault) (p q : Pass) → IsCallAnswered b F c answer p q → asks_again b tries beside answer ≡ true → P p → P q)
      → (tries : ℕ) (old new : Pass) → AreAskedAgain b F beside c tries old new → P old → P new
  all_keep P each zero old new same holds = subst P (sym same) holds
  all_keep P each (suc n) old new (middle, before, last) holds = each n last.answer middle new last.answered last.again (all_keep P each n old middle before holds)

  none_alone : (tries : ℕ) (old new : Pass) → b.sizes.passes ≡ 1 → AreAskedAgain b F beside c tries old new → new ≡ old
  none_alone zero old new one same = same
  none_alone (suc n) old new one (middle, before, last) = absurd (alone_once b n beside last.answer one last.again)

-- Up to now so many calls were made for this command after its first one, and the last of them all was answered so.
pub record AskedUpTo (b : BoardId) (F : Format) (beside : Bool) (c : Command) (tries : ℕ) (old : Pass) (answer : Result Bool Fault) (new : Pass) : Type 0 where
  pub middle : Pass
  pub before : AreAskedAgain b F beside c tries old middle
  pub last : IsCallAnswered b F c answer middle new

module _ {b : BoardId} {F : Format} {beside : Bool} {c : Command} {tries : ℕ} {old : Pass} {answer : Result Bool Fault} {new : Pass} (upto : AskedUpTo b F beside c tries old answer new) where
  pub one_more : (earlier : Bool) → (earlier ≡ true → beside ≡ true) → asks_again b tries earlier answer ≡ true → AreAskedAgain b F beside c (tries + 1) old new
  one_more earlier so again = grind (arith, still_asked)

  -- one more is made
  pub asked_more : (earlier : Bool) {next : Result Bool Fault} {newest : Pass} → (earlier ≡ true → beside ≡ true) → asks_again b tries earlier answer ≡ true → IsCallAnswered b F c next new newest
      → AskedUpTo b F beside c (tries + 1) old next newest
  asked_more earlier {next} {newest} so again last = record { middle = new; before = one_more earlier so again; last = last }

  -- or the answer is told
  pub seat_told : {request : Request} {r : Reply} (earlier : Bool) → command_of request ≡ Some c → asks_again b tries earlier answer ≡ false → r ≡ client_reply answer → SeatAnswers b F beside old request r new
  seat_told earlier asked final told = record { c = c; asked = asked; tries = tries; middle = upto.middle; before = upto.before; answer = answer; last = upto.last; final = unasked b tries earlier answer final; told = told }

-- the last call that may be made is
pub told_at_last : (b : BoardId) (earlier : Bool) (answer : Result Bool Fault) → asks_again b most_tries earlier answer ≡ false
told_at_last b earlier (Ok is) = refl
told_at_last b earlier (Err (fault.Full counts)) = refl
told_at_last b earlier (Err fault.Worn) = refl
told_at_last b earlier (Err fault.OldFile) = refl
told_at_last b earlier (Err fault.Halted) = refl
told_at_last b earlier (Err fault.Device) = refl

module _ (b : BoardId) (F : Format) (beside : Bool) (old new : Pass) (request : Request) (r : Reply) (answers : SeatAnswers b F beside old request r new) where
  -- in a set of one pass there was no other call
  pub only_call : b.sizes.passes ≡ 1 → IsCallAnswered b F answers.c answers.answer old new
  only_call one = subst (λ (p : Pass). IsCallAnswered b F answers.c answers.answer p new) (none_alone b F beside answers.c answers.tries old answers.middle one answers.before) answers.last

  -- it has seen all that it had
  pub grows : Begins (part old).known (part new).known
  grows =
      more answers.answer answers.middle new answers.last
      (all_keep b F beside answers.c (λ p. Begins (part old).known (part p).known) (λ tries answer p q is again from. more answer p q is from) answers.tries old answers.middle answers.before (begins_itself (part old).known))
    where
      more : (answer : Result Bool Fault) (p q : Pass) → IsCallAnswered b F answers.c answer p q → Begins (part old).known (part p).known → Begins (part old).known (part q).known
      more answer p q is from = begins_before (part old).known (part p).known (part q).known from (begins_of (part p).known (part q).known (seen_more F answers.c (reply_of answer) (part p) (part q) is.call))

  -- a pass that has seen the halt still has after its answer
  pub saw_before : halt_word (part old).known ≡ 1 → halt_word (part new).known ≡ 1
  saw_before seen = saw_more answers.answer answers.middle new answers.last (all_keep b F beside answers.c (λ p. halt_word (part p).known ≡ 1) (λ tries answer p q is again. saw_more answer p q is) answers.tries old answers.middle answers.before seen)
    where
      saw_more : (answer : Result Bool Fault) (p q : Pass) → IsCallAnswered b F answers.c answer p q → halt_word (part p).known ≡ 1 → halt_word (part q).known ≡ 1
      saw_more answer p q is = halt_since (part p).known (part q).known (seen_more F answers.c (reply_of answer) (part p) (part q) is.call)

  -- and so has one that was answered so
  pub saw_now : says_halted r ≡ true → halt_word (part new).known ≡ 1
  saw_now says = told_so r answers.told says
    where
      told_so : (s : Reply) → s ≡ client_reply answers.answer → says_halted s ≡ true → halt_word (part new).known ≡ 1
      told_so reply.Halted told says = answer_word F answers.c answers.answer (part answers.middle) (part new) told answers.last.call
      told_so s told says = absurd (true≢false (sym says))

  -- it stays calm where it wasn't
  pub stays_calm : (part new).sizes ≡ b.sizes → says_halted r ≡ false → IsCalm (part old) → IsCalm (part new)
  stays_calm sized quiet calm =
      calm_after b F answers.c answers.answer answers.middle new answers.last sized (subst (λ (s : Reply). says_halted s ≡ false) answers.told quiet)
      (all_keep b F beside answers.c (λ p. (part p).sizes ≡ b.sizes → IsCalm (part p)) still answers.tries old answers.middle answers.before (λ _. calm) answers.last.sized)
    where
      still : (tries : ℕ) (answer : Result Bool Fault) (p q : Pass) → IsCallAnswered b F answers.c answer p q → asks_again b tries beside answer ≡ true → ((part p).sizes ≡ b.sizes → IsCalm (part p)) → (part q).sizes ≡ b.sizes → IsCalm (part q)
      still tries answer p q is again was sized = calm_after b F answers.c answer p q is sized (ap says_halted (told_full b tries beside answer again)) (was is.sized)

module _ {X : Type 0} (pass_of : X → Pass) (b : BoardId) (F : Format) where
  -- the session of a seat is one of its pass
  pub seat_session : (input after : Option (List ℕ)) (old new : X) (p q : Pass) (r : Result End SessionFault) (written : List ℕ) → pass_of old ≡ p → pass_of new ≡ q
      → SessionTells (λ o request reply n. SeatAnswers b F false (pass_of o) request reply (pass_of n)) input after old new written r → SessionTells (SeatAnswers b F false) input after p q written r
  seat_session = known_session pass_of (λ o request reply n. SeatAnswers b F false (pass_of o) request reply (pass_of n)) (SeatAnswers b F false) (λ old request reply new so. so)
