-- What a loop works at: its clients, its passes, and the calls under way. One of several passes makes no call, and meets the others.
use Rattle.std.specs.{Prelude.{◌≡◌, ◌⊎◌, ◌+◌, ◌≤◌, ℕ, max, All, Bool, List, [], Option, Some, None, IfSome, length}, List.{Any}}
use Rattle.lz_slot.specs.declared.format.Format.{Format}
use Rattle.lz_list.specs.Traces.{Trace}
use Rattle.lz_board.specs.Seats.{BoardId, part}
use Rattle.lz_serve.specs.{Askings.{Asked, HasAnswered, IsAnother, IsMadeAgain}, Clients.{Askers, HaveSeenIn, IsAwaited, IsHeardAt}, Grants.{Posed}}

-- How many passes were taken in, for how many there is room, and how many answer nothing; the calls under way; whether no further line
-- is to be begun; how many turns of clients gave a line, how many more may before connections are heard, and how many clients wait for one.
pub record Passes : Type 0 where
  pub given : ℕ
  pub most : ℕ
  pub free : ℕ
  pub calls : List Asked
  pub ends : Bool
  pub begun : ℕ
  pub left : ℕ
  pub waiting : ℕ

-- it begins no more lines than were left
abbrev pub BeginsWithin : Passes → Passes → Type 0
BeginsWithin old new = new.begun + new.left ≤ old.begun + old.left

-- how many lines are begun at least, where so many wait, before connections are heard
abbrev pub fewest_begun : ℕ
fewest_begun = 64

-- how many are begun at most, by so many passes, where so many clients wait
abbrev pub most_begun : ℕ → ℕ → ℕ
most_begun passes waiting = max fewest_begun (max passes waiting)

-- it answers the question of one of these calls
abbrev pub AnswersOneOf : List Asked → Asked → Type 0
AnswersOneOf calls asked = Any (λ a. a.question ≡ asked.question) calls

-- what any client has seen the pass has that meets the others, or where there is none, was seen here
abbrev pub Knows : Askers → Option Trace → Trace → Type 0
Knows a None known = HaveSeenIn a known
Knows a (Some met) known = HaveSeenIn a met

-- It answers a question that is awaited by the client of its token, which was put when its pass had seen what any client had, if no pass meets it.
pub record IsCalled (a : Askers) (meeting : Option Trace) (asked : Asked) : Type 0 where
  pub question : Posed
  pub asks : asked.question ≡ Some question
  pub awaited : IsAwaited a asked.token question
  pub knows : Knows a meeting (part question.before).known

-- the client of its token, if it is still there, has the reply to its question
abbrev pub IsReplied : Askers → Asked → Type 0
IsReplied a asked = IfSome asked.question (IsHeardAt a asked.token)

-- One more call is to be made for its question, or that has its reply and it answers another. The clients were so when its call was
-- answered, and are so now.
abbrev pub GoesAnew : BoardId → Format → Askers → Askers → Asked → Asked → Type 0
GoesAnew b F was now old new = IsMadeAgain b F was old new ⊎ (HasAnswered b F was old × IsReplied now old × IsAnother old new)

-- how many these are
abbrev pub count_of : {X : Type 0} → Option X → ℕ
count_of None = 0
count_of (Some x) = 1

-- The calls and the free passes, by what these have seen, are joined to the clients so. With no pass that meets the others there is one at
-- most; while no pass was given no client has seen anything.
pub record AreJoined (a : Askers) (given : ℕ) (meeting : Option Trace) (calls : List Asked) (free : List Trace) : Type 0 where
  pub called : All (IsCalled a meeting) calls
  pub know : All (Knows a meeting) free
  pub met : IfSome meeting (HaveSeenIn a)
  pub alone : meeting ≡ None → length calls + length free ≤ 1
  pub unseen : given ≡ 0 → HaveSeenIn a []

-- No pass is lost: so many are free, the others answer something, and there is room for each.
pub record IsDesk (given most idle room_free room_calls : ℕ) (a : Askers) (meeting : Option Trace) (calls : List Asked) (free : List Trace) : Type 0 where
  pub fit : given ≤ most
  pub count : idle + length calls ≡ given
  pub spare_free : most ≤ room_free
  pub spare_calls : most ≤ room_calls
  pub joined : AreJoined a given meeting calls free
