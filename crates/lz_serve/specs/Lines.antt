-- The lines of a connection that are under way.
use Rattle.std.specs.Prelude.{◌≡◌, ◌≢◌, ◌-◌, ◌<◌, ◌≤◌, ℕ, suc, All, List, [], ◌∷◌, ◌++◌, Option, Some, None, IfSome, map, option_and_then, option_map}
use Rattle.std.specs.Prelude.{slice_get, length, take, ⊤}
use Rattle.lz_proto.specs.declared.{request.Request.{Request}, reply.Reply.{Reply}}
use Rattle.lz_list.specs.Traces.{Trace, Begins}
use Rattle.lz_board.specs.{declared.pass.Pass.{Pass}, Seats.{part}}
use Rattle.lz_serve.specs.{declared.line.Line.{Line}, Grants.{Grant, IsLater, IsOfLine, key_asked}}

-- a line whose reply is awaited, and one whose reply was granted
abbrev pub awaited : Request → Line
awaited request = record { request = request; reply = None }

abbrev pub replied : Request → Reply → Line
replied request reply = record { request = request; reply = Some reply }

-- none of these lines that awaits its reply asked for the key of the request
abbrev pub IsFree : List Line → Option ℕ → Type 0
IsFree under key = All (λ line. line.reply ≡ None → key_asked line.request ≢ key) under

-- none of these lines awaits its reply
abbrev pub AreReplied : List Line → Type 0
AreReplied under = All (λ line. line.reply ≢ None) under

-- so many first lines have their replies, and the one after them, if there is one, awaits its own
pub record AreReady (ready : ℕ) (under : List Line) : Type 0 where
  pub within : ready ≤ length under
  pub replied : AreReplied (take ready under)
  pub next : IfSome (slice_get under ready) (λ line. line.reply ≡ None)

-- what these lines ask
abbrev pub asked_by : List Line → List Request
asked_by under = map (λ line. line.request) under

-- the replies of these lines, if each was granted
abbrev pub replies_of : List Line → Option (List Reply)
replies_of [] = Some []
replies_of (line ∷ under) = option_and_then (λ reply. option_map (λ replies. reply ∷ replies) (replies_of under)) line.reply

-- after so many lines that were told the line of this number stands here, asked this and awaits its reply
abbrev pub StandsAt : ℕ → ℕ → Request → List Line → Type 0
StandsAt told number request under = (told < number) × (slice_get under (number - suc told) ≡ Some (awaited request))

-- each of these lines that asks for its key was put to a pass that had seen all that this one's had at its answer
abbrev pub IsPast : List Line → List Pass → Grant → Type 0
IsPast [] [] e = ⊤
IsPast [] (put ∷ puts) e = ⊥
IsPast (line ∷ under) [] e = ⊥
IsPast (line ∷ under) (put ∷ puts) e = (key_asked e.question.request ≡ key_asked line.request → Begins (part e.after).known (part put).known) × IsPast under puts e

-- A reply was granted to this request, the line of this number on this connection, by the pass to which it was put. The client has seen what
-- that had at its answer, as have the passes to which later lines with its key were put. It may be told after any that may be told before.
pub record IsEarned (P : List Grant → Type 0) (seen : Trace) (connection number : ℕ) (request : Request) (reply : Reply) (put : Pass) (under : List Line) (puts : List Pass) : Type 0 where
  pub grant : Grant
  pub of_line : IsOfLine connection number request reply grant
  pub put_so : grant.question.before ≡ put
  pub seen_so : Begins (part grant.after).known seen
  pub past : IsPast under puts grant
  pub promised : (grants : List Grant) → P grants → IsLater grants grant → P (grants ++ grant ∷ [])

-- None of these lines asks for the key of this request.
abbrev pub IsOther : Request → List Line → Type 0
IsOther request under = All (λ line. key_asked line.request ≢ key_asked request) under

-- Each of these lines, which come after so many and were put to these passes, has earned its reply, or none after it asks for its key.
abbrev pub AreEarned : (List Grant → Type 0) → Trace → ℕ → ℕ → List Line → List Pass → Type 0
AreEarned P seen connection told [] [] = ⊤
AreEarned P seen connection told [] (put ∷ puts) = ⊥
AreEarned P seen connection told (line ∷ under) [] = ⊥
AreEarned P seen connection told (line ∷ under) (put ∷ puts) =
    IfSome line.reply (λ reply. IsEarned P seen connection (suc told) line.request reply put under puts) × (line.reply ≡ None → IsOther line.request under)
    × AreEarned P seen connection (suc told) under puts

-- The client has seen what the pass of this grant had at its answer, as have those to which lines under way with its key were put.
pub record IsBefore (seen : Trace) (under : List Line) (puts : List Pass) (e : Grant) : Type 0 where
  pub seen_so : Begins (part e.after).known seen
  pub past : IsPast under puts e

-- these may have been told, and each comes before what is under way
abbrev pub AreBefore : (List Grant → Type 0) → Trace → List Line → List Pass → List Grant → Type 0
AreBefore P seen under puts grants = P grants × All (IsBefore seen under puts) grants
