-- A pass of a loop that answers a request: how its call is played on, and its reply.
use Rattle.std.proofs.Common.{◌≡◌, ◌+◌, ◌&&◌, ◌↔◌, ℕ, true, false, if◌then◌else◌, inl, inr, List, Result, Bool, IfSome, IsSomeAnd, IsTrue, Option, Some, None}
use Rattle.std.proofs.Common.{refl, sym, ap, ◌∙◌, subst}
use Rattle.lz_slot.specs.declared.{command.Command.{Command}, format.Format.{Format}}
use Rattle.lz_machine.specs.Orders.{Calling}
use Rattle.lz_proto.specs.declared.{request.Request.{Request}, reply.Reply.{Reply}}
use Rattle.lz_board.specs.{declared.{pass.Pass.{Pass}, view.Part.{Part}}, Seats.{BoardId, IsOf, part}}
use Rattle.lz_refinement.specs.{Answers.{Answers}, Counting.{Counts, CountsOn}, OneCaller.{IsPlainAnswer, keys_in}}
use Rattle.lz_set.specs.{declared.fault.Fault.{Fault}, Answers.{reply_of}, Names.{MayCall}}
use Rattle.lz_serve.specs.{Halts.{IsCalmAfter}, Replies.{AreAskedAgain, SeatAnswers, asks_again, client_reply, says_halted, told_of}}
use Rattle.lz_serve.specs.{Clients.{Askers, AwaitsBeforeAt, IsHeardAt}, Grants.{Posed}, Askings.{Asked, HasAnswered, IsAnsweredAt, IsAnsweredWith, IsAnswering}}
use Rattle.lz_serve.specs.{Askings.{IsCounting, IsMadeAgain, IsResting, IsSameQuestion, RestsOrAnswers}, Desks.{GoesAnew, IsReplied}}
use Rattle.lz_serve.proofs.Seats.{AskedUpTo, one_more, saw_now, stays_calm}

module _ (b : BoardId) (F : Format) (given : List Part) where
  -- what answers a question doesn't rest
  pub answering : (question : Option Posed) (q : Posed) (pass : Pass) (halted : Bool) (call : Option Calling) (tries : ℕ) → question ≡ Some q → RestsOrAnswers b F given question pass halted call tries
      → IsAnswering b F given q pass call tries
  answering question q pass halted call tries is so = subst (λ (o : Option Posed). RestsOrAnswers b F given o pass halted call tries) is so

  -- what rests answers none
  pub resting : (question : Option Posed) (pass : Pass) (halted : Bool) (call : Option Calling) (tries : ℕ) → question ≡ None → RestsOrAnswers b F given question pass halted call tries → IsResting b given pass halted call
  resting question pass halted call tries is so = subst (λ (o : Option Posed). RestsOrAnswers b F given o pass halted call tries) is so

  pub has_rested : (question : Option Posed) (pass : Pass) (halted : Bool) (call : Option Calling) (tries : ℕ) → question ≡ None → IsResting b given pass halted call → RestsOrAnswers b F given question pass halted call tries
  has_rested question pass halted call tries is so = subst (λ (o : Option Posed). RestsOrAnswers b F given o pass halted call tries) (sym is) so

  module _ {q : Posed} {pass : Pass} {call : Option Calling} {tries : ℕ} (is : IsAnswering b F given q pass call tries) where
    -- a call that begins, or is played on, is for the same request
    pub plays_on : {new : Pass} {k : Calling} → IsOf b new → Counts b is.c F (part is.middle) k (part new) → IsAnswering b F given q new (Some k) tries
    plays_on {new} {k} seated counts = record {
      seated = seated;
      c = is.c;
      asked = is.asked;
      middle = is.middle;
      earlier = is.earlier;
      sized = is.sized;
      counts = counts;
      calm = is.calm;
    }

    -- it counts the call that has begun
    pub counted : {k : Calling} → call ≡ Some k → Counts b is.c F (part is.middle) k (part pass)
    counted {k} begun = subst (λ (o : Option Calling). IsCounting b F is.c is.middle o pass) begun is.counts

    -- so much is told of its answer
    pub answered_with : (asked : Asked) (earlier beside : Bool) (answer : Result Bool Fault) (new : Pass) (reply : Option Reply) → asked.question ≡ Some q → AskedUpTo b F q.earlier is.c asked.tries q.before answer new → beside ≡ (earlier && q.earlier)
        → reply ≡ told_of b asked.tries beside answer → IsAnsweredWith b F earlier asked reply new
    answered_with asked earlier beside answer new reply asks upto so told = record {
      question = q;
      asks = asks;
      c = is.c;
      asks_for = is.asked;
      middle = upto.middle;
      before = upto.before;
      answer = answer;
      last = upto.last;
      told = subst (λ (e : Bool). reply ≡ told_of b asked.tries e answer) so told;
    }

    module _ {k : Calling} (begun : call ≡ Some k) (answer : Result Bool Fault) (new : Pass) where
      -- what each call that this may count is answered, its own is
      pub answered : ((c : Command) (format : Format) (before : Part) → before.sizes ≡ b.sizes → Counts b c format before k (part pass) → Answers format c (reply_of answer) before (part new))
          → (b.sizes.passes ≡ 1 → (c : Command) (format : Format) (before : Part) → before.sizes ≡ b.sizes → Counts b c format before k (part pass)
          → IsPlainAnswer format b.sizes.slots c (reply_of answer) (keys_in before.known) (keys_in (part new).known))
          → AskedUpTo b F q.earlier is.c tries q.before answer new
      answered answers plain = record {
        middle = is.middle;
        before = is.earlier;
        last = record {
          sized = is.sized;
          call = answers is.c F (part is.middle) is.sized (counted begun);
          plain = λ one. plain one is.c F (part is.middle) is.sized (counted begun);
        };
      }

      -- one more is to begin
      pub asked_again : (earlier : Bool) → (earlier ≡ true → q.earlier ≡ true) → AskedUpTo b F q.earlier is.c tries q.before answer new → asks_again b tries earlier answer ≡ true → MayCall b new
          → IsAnswering b F given q new None (tries + 1)
      asked_again earlier so upto again may_call = record {
        seated = may_call.0;
        c = is.c;
        asked = is.asked;
        middle = new;
        earlier = one_more upto earlier so again;
        sized = may_call.0.2.sized;
        counts = (refl, may_call);
        calm = is.calm;
      }

  -- a call that is played on
  pub still_played : (question : Option Posed) (pass new : Pass) (halted : Bool) (call : Option Calling) (k k' : Calling) (tries : ℕ) → call ≡ Some k → RestsOrAnswers b F given question pass halted call tries
      → CountsOn b k (part pass) k' (part new) → IsOf b new → RestsOrAnswers b F given question new halted (Some k') tries
  still_played None pass new halted call k k' tries begun so on seated = let none = so.none in absurd (cc)
  still_played (Some q) pass new halted call k k' tries begun so on seated = plays_on so seated (on so.c F (part so.middle) (counted so begun))

  module _ {earlier : Bool} {old : Pass} {request : Request} {reply : Reply} {new : Pass} (seat : SeatAnswers b F earlier old request reply new) where
    -- a pass that has replied rests
    pub rests_now : MayCall b new → IsCalmAfter given old → IsResting b given new (says_halted reply) None
    rests_now may_call calm = record {
      may_call = may_call;
      seen = λ halted. saw_now b F earlier old new request reply seat halted;
      calm = λ quiet all. stays_calm b F earlier old new request reply seat may_call.0.2.sized quiet (calm all);
      none = refl;
    }

-- what is told of an answer
module _ (b : BoardId) (tries : ℕ) (earlier : Bool) (answer : Result Bool Fault) where
  pub told_to_nobody : asks_again b tries earlier answer ≡ true → None ≡ told_of b tries earlier answer
  told_to_nobody again = sym (ap (λ (x : Bool). if x then None else Some (client_reply answer)) again)

  pub told_so : (reply : Reply) → asks_again b tries earlier answer ≡ false → reply ≡ client_reply answer → Some reply ≡ told_of b tries earlier answer
  told_so reply final is = ap (λ (r : Reply). Some r) is ∙ sym (ap (λ (x : Bool). if x then None else Some (client_reply answer)) final)

-- it is answered the same however far its call was played before that
pub same_answered : (b : BoardId) (F : Format) (a : Askers) (old new : Asked) (reply : Option Reply) (after : Pass) → IsSameQuestion old new → IsAnsweredAt b F a new reply after → IsAnsweredAt b F a old reply after
same_answered b F a old new reply after same (earlier, so, with) = (
  earlier,
  subst (λ (o : Option Posed). IsTrue earlier ↔ IsSomeAnd o (λ q. (q.earlier ≡ true) × AwaitsBeforeAt a old.token q.line)) same.question
      (subst (λ (t : ℕ). IsTrue earlier ↔ IsSomeAnd new.question (λ q. (q.earlier ≡ true) × AwaitsBeforeAt a t q.line)) same.token so),
  record {
    question = with.question;
    asks = sym same.question ∙ with.asks;
    c = with.c;
    asks_for = with.asks_for;
    middle = with.middle;
    before = subst (λ (n : ℕ). AreAskedAgain b F with.question.earlier with.c n with.question.before with.middle) same.tries with.before;
    answer = with.answer;
    last = with.last;
    told = subst (λ (n : ℕ). reply ≡ told_of b n (earlier && with.question.earlier) with.answer) same.tries with.told;
  },
)

-- and so is one more call made, or none
pub same_made : (b : BoardId) (F : Format) (a : Askers) (old middle new : Asked) → IsSameQuestion old middle → IsMadeAgain b F a middle new → IsMadeAgain b F a old new
same_made b F a old middle new same again = record {
  question = again.question ∙ same.question;
  token = again.token ∙ same.token;
  more = subst (λ (n : ℕ). new.tries ≡ n + 1) same.tries again.more;
  answered = same_answered b F a old middle None new.pass same again.answered;
}

pub same_told : (b : BoardId) (F : Format) (a : Askers) (old middle : Asked) → IsSameQuestion old middle → HasAnswered b F a middle → HasAnswered b F a old
same_told b F a old middle same (reply, after, so) = (reply, after, same_answered b F a old middle (Some reply) after same so)

pub same_replied : (now : Askers) (old middle : Asked) → IsSameQuestion old middle → IsReplied now middle → IsReplied now old
same_replied now old middle same replied = subst (λ (t : ℕ). IfSome old.question (IsHeardAt now t)) same.token (subst (λ (o : Option Posed). IfSome o (IsHeardAt now middle.token)) same.question replied)

pub same_anew : (b : BoardId) (F : Format) (was now : Askers) (old middle new : Asked) → IsSameQuestion old middle → GoesAnew b F was now middle new → GoesAnew b F was now old new
same_anew b F was now old middle new same (inl again) = inl (same_made b F was old middle new same again)
same_anew b F was now old middle new same (inr (told, replied, (question, next, later))) = inr (
  same_told b F was old middle same told,
  same_replied now old middle same replied,
  (question, next, λ before asks token. later before (same.question ∙ asks) (token ∙ sym same.token)),
)
