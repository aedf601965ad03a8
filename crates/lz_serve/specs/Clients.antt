-- Clients as their owner sees them, and which questions are those of their lines.
use Rattle.lz_serve.specs.declared.turn.Turn.TheVariants as turn
use Rattle.std.specs.Prelude.{◌≡◌, ◌≢◌, ◌⊎◌, ⊤, ◌+◌, ◌-◌, ◌<◌, ◌≤◌, ◌++◌, ℕ, suc, All, Bool, true, false, List, [], ◌∷◌, drop, length, map, Option, Some, None}
use Rattle.std.specs.{Prelude.{IfSome, IsSomeAnd, slice_get, take}, declared.snapshot.Snapshot.{Snapshot}}
use Rattle.lz_list.specs.Traces.{Trace, Begins}
use Rattle.lz_board.specs.{declared.pass.Pass.{Pass}, Seats.{part}}
use Rattle.lz_resp.specs.{Queries.{IsClear}, declared.{query.Query.{Query}, scan.Scan.{Scan}}}
use Rattle.lz_serve.specs.{declared.{line.Line.{Line}, turn.Turn.{Turn}}, Conversations.{IsReady, IsText}, Grants.{Posed, key_asked}}
use Rattle.lz_serve.specs.{Lines.{AreReplied, IsFree, StandsAt}, Queues.{is_in}, Refusals.{cut_turns, kept_waiting}}
use Rattle.lz_proto.specs.declared.{request.Request.{Request}, end.End.{End, TheVariants.{Done}}}

-- The number of its connection; how many lines were handed out, and how many of them were told their replies; the others; the pass to which
-- each of these was put, as it was then; what the passes had seen that answered it; the turns of the exchanges that weren't told, and the
-- requests that wait; and how its conversation has ended, `Done` while it goes on, and whether the connection is lost.
pub record Asker : Type 0 where
  pub connection : ℕ
  pub lines : ℕ
  pub told : ℕ
  pub under : List Line
  pub puts : List Pass
  pub seen : Trace
  pub turns : List Turn
  pub waiting : List Request
  pub ended : End
  pub lost : Bool

-- the passes as they were
abbrev pub passes_of : List (Snapshot Pass) → List Pass
passes_of snapshots = map (λ (s : Snapshot Pass). s.value) snapshots

-- what the pass had seen, if there was one
abbrev pub seen_by : Option (Snapshot Pass) → Trace
seen_by None = []
seen_by (Some s) = (part s.value).known

-- A question of this connection is for a line that was handed out. Where that wasn't told its reply, it was put to this pass.
abbrev pub IsOwn : Asker → Posed → Type 0
IsOwn a q = q.connection ≡ a.connection → (q.line ≤ a.lines) × (a.told < q.line → slice_get a.puts (q.line - suc a.told) ≡ Some q.before)

-- it is so of the client, if there is one
abbrev pub IsOwnOf : Option Asker → Posed → Type 0
IsOwnOf client q = IfSome client (λ a. IsOwn a q)

-- what was so of the client that was there is so of the one that is there now
abbrev pub KeepsOwn : Option Asker → Option Asker → Type 0
KeepsOwn old new = (q : Posed) → IsOwnOf old q → IsOwnOf new q

-- its lines are the same
abbrev pub KeepsLines : Asker → Asker → Type 0
KeepsLines old new = new ≡ record old { turns = new.turns; waiting = new.waiting; ended = new.ended; lost = new.lost }

-- a client is there where one was, whose lines are the same
abbrev pub KeepsLinesOf : Option Asker → Option Asker → Type 0
KeepsLinesOf None None = ⊤
KeepsLinesOf (Some old) (Some new) = KeepsLines old new
KeepsLinesOf old new = ⊥

-- a client is there where one was, of the same connection
abbrev pub Remains : Option Asker → Option Asker → Type 0
Remains None None = ⊤
Remains (Some old) (Some new) = new.connection ≡ old.connection
Remains old new = ⊥

-- It has a line for a pass: it goes on, this request waits first and may have a number, and no line under way awaits the reply for its key.
pub record HasLine (a : Asker) : Type 0 where
  pub there : a.lost ≡ false
  pub goes : a.ended ≡ Done
  pub request : Request
  pub waits : a.waiting ≡ request ∷ drop 1 a.waiting
  pub numbered : a.lines ≢ 18446744073709551615
  pub free : IsFree a.under (key_asked request)

-- Each exchange was refused of which no request is under way, nor of one after it. The requests of the others wait as they did, and nothing else has
-- changed, unless the client is lost.
abbrev pub Refuses : Asker → Asker → Type 0
Refuses old new =
    new.lost ≡ false
    → new ≡ record old { turns = cut_turns (length old.under) old.turns; waiting = take (kept_waiting (length old.under) old.turns) old.waiting }

-- it is so of the client that is there, if one was there before
abbrev pub RefusesOf : Option Asker → Option Asker → Type 0
RefusesOf old new = IfSome old (λ a. IfSome new (λ b. Refuses a b))

-- the client, if there is one, has none
abbrev pub HasNone : Option Asker → Type 0
HasNone client = IfSome client (λ a. HasLine a → ⊥)

-- no line of it awaits this question's reply
abbrev pub IsHeard : Asker → Posed → Type 0
IsHeard a q = q.connection ≡ a.connection → StandsAt a.told q.line q.request a.under → ⊥

-- it is so of the client, if there is one
abbrev pub IsHeardOf : Option Asker → Posed → Type 0
IsHeardOf client q = IfSome client (λ a. IsHeard a q)

-- where no line awaited the reply to a question of the client's own before, none does now
abbrev pub KeepsHeard : Option Asker → Option Asker → Type 0
KeepsHeard old new = (q : Posed) → IsOwnOf old q → IsHeardOf old q → IsHeardOf new q

-- while it goes on, its first exchange isn't one that has its replies, or asks for none
abbrev pub HasNoReady : Asker → Type 0
HasNoReady a = a.ended ≡ Done → (first : Turn) → a.turns ≡ first ∷ drop 1 a.turns → IsReady first a.under → ⊥

-- nor one that asks the service itself, unless a room is to be cleared
abbrev pub HasNoQuery : Asker → Type 0
HasNoQuery a = a.ended ≡ Done → (query : Query) → a.turns ≡ turn.Tells query ∷ drop 1 a.turns → IsClear query

-- nor one that is a text, which asks for nothing
abbrev pub HasNoText : Asker → Type 0
HasNoText a = a.ended ≡ Done → (first : Turn) → a.turns ≡ first ∷ drop 1 a.turns → IsText first → ⊥

-- It has told each exchange that asks for no key, up to one that does, a page or a room that is to be cleared, unless it is lost.
abbrev pub HasToldTexts : Asker → Type 0
HasToldTexts a = a.lost ≡ false → HasNoText a × HasNoQuery a

-- It has told each exchange that may be told, unless it is lost. (A page is told once a pass has listed it, and of a room once it is cleared.)
abbrev pub HasTold : Asker → Type 0
HasTold a = a.lost ≡ false → HasNoReady a × HasNoQuery a

-- the client is there no more, or has told what it may where a line of it awaited this question's reply before
abbrev pub TellsOf : Option Asker → Posed → Option Asker → Type 0
TellsOf old q new = (IsHeardOf old q → ⊥) → IfSome new HasTold

-- it goes on, and its first exchange asks for this page
abbrev pub AwaitsPage : Asker → Scan → Type 0
AwaitsPage a scan = (a.lost ≡ false) × (a.ended ≡ Done) × (a.turns ≡ turn.Lists scan ∷ drop 1 a.turns)

-- it awaits none
abbrev pub AwaitsNoPage : Asker → Type 0
AwaitsNoPage a = (scan : Scan) → AwaitsPage a scan → ⊥

-- where it awaited this page, that exchange was told, unless it is lost
abbrev pub TellsPage : Asker → Scan → Asker → Type 0
TellsPage old scan new = AwaitsPage old scan → new.lost ≡ false → length new.turns < length old.turns

-- it is so of the client that is there, if one was there before
abbrev pub TellsPageOf : Option Asker → Scan → Option Asker → Type 0
TellsPageOf old scan new = IfSome old (λ a. IfSome new (λ b. TellsPage a scan b))

-- the client, if there is one, is of one of so many connections, and all that it has seen was seen here
abbrev pub HasSeenIn : ℕ → Trace → Option Asker → Type 0
HasSeenIn admitted known client = IfSome client (λ a. (a.connection ≤ admitted) × Begins a.seen known)

-- the client that is there now has seen no more than the one that was there
abbrev pub KeepsSeen : Option Asker → Option Asker → Type 0
KeepsSeen old new = (admitted : ℕ) (known : Trace) → HasSeenIn admitted known old → HasSeenIn admitted known new

-- no line of it before the one of this number awaits its reply
abbrev pub HasRepliedBefore : ℕ → Asker → Type 0
HasRepliedBefore line a = AreReplied (take (line - suc a.told) a.under)

-- a client is there, and one of them does
abbrev pub AwaitsBefore : ℕ → Option Asker → Type 0
AwaitsBefore line client = IsSomeAnd client (λ a. HasRepliedBefore line a → ⊥)

-- the question is one of the client that is there
abbrev pub IsAskedBy : Option Asker → Posed → Type 0
IsAskedBy client q = IsSomeAnd client (λ a. (q.connection ≡ a.connection) × IsOwn a q)

-- the question comes after each that is the client's own, if it is of the same connection
abbrev pub ComesAfter : Option Asker → Posed → Type 0
ComesAfter client question = (q : Posed) → IsOwnOf client q → q.connection ≡ question.connection → q.line < question.line

-- How many clients were admitted; the client at each place, if it has one; the places, by their tokens, that wait for their turn, and
-- those that wait for a page; and how many turns gave a line, up to 2^64 - 1.
pub record Askers : Type 0 where
  pub admitted : ℕ
  pub clients : List (Option Asker)
  pub queue : List ℕ
  pub scans : List ℕ
  pub begun : ℕ

-- one more is counted, up to 2^64 - 1
pub record CountsOne (old new : ℕ) : Type 0 where
  pub more : old < 18446744073709551615 → new ≡ old + 1
  pub least : old ≤ new
  pub most : new ≤ old + 1

-- each is of a connection that was admitted, and all that it has seen was seen here
abbrev pub HaveSeenIn : Askers → Trace → Type 0
HaveSeenIn a known = All (HasSeenIn a.admitted known) a.clients

-- A question for the client at this place is of a connection that was admitted, and where that is still there, it is one of its own.
pub record IsAwaited (a : Askers) (token : ℕ) (q : Posed) : Type 0 where
  pub admitted : q.connection ≤ a.admitted
  pub own : IfSome (slice_get a.clients token) (λ client. IsOwnOf client q)

-- the question comes after each that is awaited by the client at this place, if it is of the same connection
abbrev pub IsNext : Askers → ℕ → Posed → Type 0
IsNext a token question = (q : Posed) → IsAwaited a token q → q.connection ≡ question.connection → q.line < question.line

-- no line of the client at this place, if there is one, awaits the question's reply
abbrev pub IsHeardAt : Askers → ℕ → Posed → Type 0
IsHeardAt a token q = IfSome (slice_get a.clients token) (λ client. IsHeardOf client q)

-- no line before the one of this number, of the client at this place, if there is one, awaits its reply
abbrev pub HasRepliedBeforeAt : Askers → ℕ → ℕ → Type 0
HasRepliedBeforeAt a token line = IfSome (slice_get a.clients token) (λ client. IfSome client (HasRepliedBefore line))

-- a client is at this place, and one of them does
abbrev pub AwaitsBeforeAt : Askers → ℕ → ℕ → Type 0
AwaitsBeforeAt a token line = IsSomeAnd (slice_get a.clients token) (AwaitsBefore line)

-- where a line of the client at this place awaited the reply before, that has told what it may, if it is still there
abbrev pub TellsAt : Askers → ℕ → Posed → Askers → Type 0
TellsAt old token q new = (IsHeardAt old token q → ⊥) → IfSome (slice_get new.clients token) (λ client. IfSome client HasTold)

-- where the client at this place awaited this page, it was told, unless it is lost or has left
abbrev pub TellsPageAt : Askers → ℕ → Scan → Askers → Type 0
TellsPageAt old token scan new = IfSome (slice_get old.clients token) (λ was. IfSome (slice_get new.clients token) (λ client. TellsPageOf was scan client))

-- the client at this place, if there was one, was refused what it had that wasn't begun, unless it is lost
abbrev pub RefusesAt : Askers → ℕ → Askers → Type 0
RefusesAt old token new = IfSome (slice_get old.clients token) (λ was. IfSome (slice_get new.clients token) (λ client. RefusesOf was client))

-- a client is at this place, and awaits this page
abbrev pub AwaitsPageAt : Askers → ℕ → Scan → Type 0
AwaitsPageAt a token scan = IsSomeAnd (slice_get a.clients token) (λ client. IsSomeAnd client (λ b. AwaitsPage b scan))

-- none that awaits a page is there
abbrev pub AwaitsNoneAt : Askers → ℕ → Type 0
AwaitsNoneAt a token = IfSome (slice_get a.clients token) (λ client. IfSome client AwaitsNoPage)

-- no client but the one at this place has come, changed or left
abbrev pub ChangesAt : ℕ → Askers → Askers → Type 0
ChangesAt token old new = (t : ℕ) → t ≢ token → slice_get new.clients t ≡ slice_get old.clients t

-- A client at this place awaited this page: it was told it, unless it is lost or has left. No other has changed.
pub record IsPaged (old new : Askers) (token : ℕ) (scan : Scan) : Type 0 where
  pub awaited : AwaitsPageAt old token scan
  pub told : TellsPageAt old token scan new
  pub others : ChangesAt token old new

-- The one at this place doesn't wait for a page any more, and nothing else has changed.
pub record TakesScan (old new : Askers) (token : ℕ) : Type 0 where
  pub stood : old.scans ≡ new.scans ++ token ∷ []
  pub same : new ≡ record old { scans = new.scans }

-- A pass, as it was and as it is, may have listed a page for one of those that wait for one, which waits no more then. Where none waits, or
-- that one awaited none, it listed nothing.
pub data MayTellPage (old new : Askers) (before after : Pass) : Type 0 where
  nobody : old.scans ≡ [] → new ≡ old → after ≡ before → MayTellPage old new before after
  left : (token : ℕ) → TakesScan old new token → AwaitsNoneAt old token → after ≡ before → MayTellPage old new before after
  listed : (token : ℕ) (scan : Scan) → old.scans ≡ new.scans ++ token ∷ [] → IsPaged old new token scan → MayTellPage old new before after

-- the client at this place, if there is one, has no line for a pass
abbrev pub HasNoneAt : Askers → ℕ → Type 0
HasNoneAt a token = IfSome (slice_get a.clients token) HasNone

-- where it has one, it waits for its turn
abbrev pub IsInTurn : Askers → ℕ → Type 0
IsInTurn a token = IfSome (slice_get a.clients token) (λ client. IfSome client (λ c. HasLine c → is_in token a.queue ≡ true))

-- One that waited first has had its turn, with this question, if it had one. Of the others those have none that had none.
pub record Turned (old new : Askers) (token : ℕ) (question : Option Posed) : Type 0 where
  pub rest : List ℕ
  pub stood : old.queue ≡ token ∷ rest
  pub once : is_in token rest ≡ false
  pub others : (t : ℕ) → t ≢ token → HasNoneAt old t → HasNoneAt new t
  pub behind : (new.queue ≡ rest) ⊎ (new.queue ≡ rest ++ token ∷ [])
  pub waits : IsInTurn new token
  pub none : question ≡ None → (new.queue ≡ rest) × HasNoneAt new token

-- Whose turn it is has waited longest of those that have a line. Where it has one more, it waits behind all others.
pub record TakesTurn (old new : Askers) (token : ℕ) : Type 0 where
  pub passed : List ℕ
  pub rest : List ℕ
  pub stood : old.queue ≡ passed ++ token ∷ rest
  pub none : All (HasNoneAt new) passed
  pub behind : (new.queue ≡ rest) ⊎ (new.queue ≡ rest ++ token ∷ [])
  pub waits : IsInTurn new token

-- No client has come or changed; some may have left.
pub record OnlyLeave (old new : Askers) : Type 0 where
  pub admitted : new.admitted ≡ old.admitted
  pub begun : new.begun ≡ old.begun
  pub stay : (token : ℕ) (a : Asker) → slice_get new.clients token ≡ Some (Some a) → slice_get old.clients token ≡ Some (Some a)

-- each question that was awaited is
abbrev pub KeepsAwaited : Askers → Askers → Type 0
KeepsAwaited old new = (token : ℕ) (q : Posed) → IsAwaited old token q → IsAwaited new token q

-- each that was heard is
abbrev pub KeepsReplies : Askers → Askers → Type 0
KeepsReplies old new = (token : ℕ) (q : Posed) → IsAwaited old token q → IsHeardAt old token q → IsHeardAt new token q

-- Each question that was awaited is, and heard where it was, and no client has seen more.
pub record Keeps (old new : Askers) : Type 0 where
  pub awaited : KeepsAwaited old new
  pub heard : KeepsReplies old new
  pub seen : (known : Trace) → HaveSeenIn old known → HaveSeenIn new known
