-- A pass of a loop, and the request that it answers, if it answers one.
use Rattle.std.specs.Prelude.{◌≡◌, ◌⊎◌, ◌↔◌, ◌+◌, ◌<◌, ◌&&◌, ℕ, Bool, true, false, List, Option, Some, None, Result, IfSome, IsSomeAnd, IsTrue, is_none, nat_lt}
use Rattle.lz_slot.specs.declared.{command.Command.{Command}, format.Format.{Format}}
use Rattle.lz_machine.specs.{Orders.{Calling}, Yards.{Yard}}
use Rattle.lz_proto.specs.declared.reply.Reply.{Reply}
use Rattle.lz_board.specs.{declared.{pass.Pass.{Pass}, view.Part.{Part}}, Seats.{BoardId, IsOf, part}}
use Rattle.lz_refinement.specs.Counting.{Counts}
use Rattle.lz_set.specs.{declared.{fault.Fault.{Fault}, underway.Blocked.{Blocked}}, Names.{MayCall}, Stages.{StandsAt, StandsBefore}}
use Rattle.lz_serve.specs.{Clients.{Askers, AwaitsBeforeAt}, Grants.{Posed}, Halts.{IsCalmAfter, SawHalt}}
use Rattle.lz_serve.specs.Replies.{AreAskedAgain, IsCallAnswered, command_of, told_of}

-- The question that it answers, if it answers one, and the token of its client; the pass as it is now, and whether its last reply told that the service halted; the call
-- under way, if it has begun, how many were made before it, and where it stands, if it was played on.
pub record Asked : Type 0 where
  pub question : Option Posed
  pub token : ℕ
  pub pass : Pass
  pub halted : Bool
  pub call : Option Calling
  pub tries : ℕ
  pub stage : Option Blocked

-- The call is counted since the pass was `middle`, or is yet to begin there.
abbrev pub IsCounting : BoardId → Format → Command → Pass → Option Calling → Pass → Type 0
IsCounting b F c middle (Some call) pass = Counts b c F (part middle) call (part pass)
IsCounting b F c middle None pass = (pass ≡ middle) × MayCall b pass

-- The pass answers nothing. It has seen the halt where a reply of it told so, and else no call of it was cut off, if none was of these
-- parts.
pub record IsResting (b : BoardId) (given : List Part) (pass : Pass) (halted : Bool) (call : Option Calling) : Type 0 where
  pub may_call : MayCall b pass
  pub seen : halted ≡ true → SawHalt pass
  pub calm : halted ≡ false → IsCalmAfter given pass
  pub none : call ≡ None

-- The call is for what the request asks. Since the question was put the pass has made no other but so many after each of which one more
-- is made. It was calm then, if all these parts were.
pub record IsAnswering (b : BoardId) (F : Format) (given : List Part) (question : Posed) (pass : Pass) (call : Option Calling) (tries : ℕ) : Type 0 where
  pub seated : IsOf b pass
  pub c : Command
  pub asked : command_of question.request ≡ Some c
  pub middle : Pass
  pub earlier : AreAskedAgain b F question.earlier c tries question.before middle
  pub sized : (part middle).sizes ≡ b.sizes
  pub counts : IsCounting b F c middle call pass
  pub calm : IsCalmAfter given question.before

-- it rests, or answers this question
abbrev pub RestsOrAnswers : BoardId → Format → List Part → Option Posed → Pass → Bool → Option Calling → ℕ → Type 0
RestsOrAnswers b F given None pass halted call tries = IsResting b given pass halted call
RestsOrAnswers b F given (Some question) pass halted call tries = IsAnswering b F given question pass call tries

-- the call stands there, if that is known
abbrev pub StandsWhere : Option Blocked → Option Calling → Type 0
StandsWhere stage call = IfSome stage (λ s. IsSomeAnd call (λ k. StandsAt s k))

-- it rests, or answers its question, and its call stands where it was played to
abbrev pub IsAsking : BoardId → Format → List Part → Asked → Type 0
IsAsking b F given a = RestsOrAnswers b F given a.question a.pass a.halted a.call a.tries × StandsWhere a.stage a.call

-- It is the same question, with as many calls answered, and the last reply is the one before it.
pub record IsSameQuestion (old new : Asked) : Type 0 where
  pub question : new.question ≡ old.question
  pub token : new.token ≡ old.token
  pub tries : new.tries ≡ old.tries
  pub halted : new.halted ≡ old.halted

-- it waits for slots: its next call is yet to begin, and isn't the second one, which nothing is to wait for
abbrev pub waits_for_slots : Asked → Bool
waits_for_slots a = is_none a.call && nat_lt 1 a.tries

-- it answers another question, which came after the one before if both are of the same client
abbrev pub IsAnother : Asked → Asked → Type 0
IsAnother old new =
    (question : Posed) × (new.question ≡ Some question) × ((before : Posed) → old.question ≡ Some before → new.token ≡ old.token → before.connection ≡ question.connection → before.line < question.line)

-- it has begun no line: it answers the same question still, or none
abbrev pub AnswersNoOther : Asked → Asked → Type 0
AnswersNoOther old new = (new.question ≡ None) ⊎ ((new.question ≡ old.question) × (new.token ≡ old.token))

-- The call for its question, after as many that were made again, was answered, and the pass is so after it. So much is told of the answer, if
-- it is so (`earlier`) that an earlier line of its connection isn't answered yet, as one wasn't when the question was put.
pub record IsAnsweredWith (b : BoardId) (F : Format) (earlier : Bool) (asked : Asked) (reply : Option Reply) (after : Pass) : Type 0 where
  pub question : Posed
  pub asks : asked.question ≡ Some question
  pub c : Command
  pub asks_for : command_of question.request ≡ Some c
  pub middle : Pass
  pub before : AreAskedAgain b F question.earlier c asked.tries question.before middle
  pub answer : Result Bool Fault
  pub last : IsCallAnswered b F c answer middle after
  pub told : reply ≡ told_of b asked.tries (earlier && question.earlier) answer

-- a line of its client before that of its question awaits its reply, as one did when the question was put
abbrev pub StillAwaits : Askers → Asked → Type 0
StillAwaits a asked = IsSomeAnd asked.question (λ q. (q.earlier ≡ true) × AwaitsBeforeAt a asked.token q.line)

-- its call was answered, and so much is told of the answer, by whether such a line does
abbrev pub IsAnsweredAt : BoardId → Format → Askers → Asked → Option Reply → Pass → Type 0
IsAnsweredAt b F a asked reply after = (earlier : Bool) × (IsTrue earlier ↔ StillAwaits a asked) × IsAnsweredWith b F earlier asked reply after

-- nothing is told of it: one more call is to be made for the same question
pub record IsMadeAgain (b : BoardId) (F : Format) (a : Askers) (old new : Asked) : Type 0 where
  pub question : new.question ≡ old.question
  pub token : new.token ≡ old.token
  pub more : new.tries ≡ old.tries + 1
  pub answered : IsAnsweredAt b F a old None new.pass

-- its reply is told, and no more call is to be made
abbrev pub HasAnswered : BoardId → Format → Askers → Asked → Type 0
HasAnswered b F a asked = (reply : Reply) × (after : Pass) × IsAnsweredAt b F a asked (Some reply) after

-- Why a call isn't played on now; none of it asks whose call it is, or whether its client is still there.

-- it stands before a Sync that would call the device, or before the Claim of a node that another call holds
abbrev pub IsStopped : Yard → Asked → Type 0
IsStopped yard a = IsSomeAnd a.stage (λ stage. IsSomeAnd a.call (λ k. StandsBefore yard stage k))

-- it waits for slots: it was answered since, or none may be made again (`tries`)
abbrev pub WaitsForSlots : BoardId → Format → Askers → Bool → Asked → Asked → Type 0
WaitsForSlots b F a tries old new = (waits_for_slots new ≡ true) × ((tries ≡ false) ⊎ IsMadeAgain b F a old new)
