-- Where a conversation stands.
use Rattle.lz_serve.specs.declared.turn.Turn.TheVariants as turn
use Rattle.std.specs.Prelude.{◌≡◌, ◌≢◌, ◌⊎◌, ◌≤◌, ⊤, All, ℕ, Bool, false, true, if◌then◌else◌, List, [], ◌∷◌, ◌++◌, drop, length, map, slice_set, suc, ◌+◌, ◌-◌, take, Option}
use Rattle.std.specs.Prelude.{None, Some}
use Rattle.lz_list.specs.Traces.{Begins}
use Rattle.lz_board.specs.Seats.{part}
use Rattle.lz_proto.specs.declared.{request.Request.{Request}, reply.Reply.{Reply}, end.End.{End, TheVariants.{Done, Quit}}}
use Rattle.lz_resp.specs.{declared.{figures.Figures.{Figures}, query.Query.{Query}, scan.Scan.{Scan}}, Queries.{ends_service, query_text}}
use Rattle.lz_serve.specs.{declared.{language.Language.{Language}, line.Line.{Line}, reader.Reader.{Reader}, turn.Turn.{Turn}}, Exchanges.{EndsWith}}
use Rattle.lz_serve.specs.Exchanges.{Exchange, Pending, ReadsMore, adding, asked_alone, asks, says, lists, tells, ends, end_by, requests_in, turn_of, unread, worded}
use Rattle.lz_serve.specs.{Grants.{Grant, IsOfLine, key_asked}, Listings.{Listing, listing_end, listing_text}, Refusals.{TakenFrom, cut_turns, kept_waiting}}
use Rattle.lz_serve.specs.Lines.{IsFree, StandsAt, asked_by, replied, replies_of}

-- What a conversation holds: its language; what reads the client's text, none once that has ended; the turns of the exchanges that came and
-- weren't told; of what they ask the requests that wait, and those before them that were handed out; how many requests were told their
-- replies; the text that is to be sent; how it has ended, `Done` while it goes on; and whether its service stops.
pub record Talk : Type 0 where
  pub spoken : Language
  pub reader : Option Reader
  pub turns : List Turn
  pub waiting : List Request
  pub told : ℕ
  pub under : List Line
  pub unsent : List ℕ
  pub ended : End
  pub stops : Bool

-- nothing has come yet
abbrev pub nothing_yet : Language → Talk
nothing_yet spoken = record { spoken = spoken; reader = Some (unread spoken); turns = []; waiting = []; told = 0; under = []; unsent = []; ended = Done; stops = false }

-- what has come of it and wasn't told
abbrev pub pending : Talk → Pending
pending t = record { turns = t.turns; waiting = t.waiting; stops = t.stops }

-- each of these requests, after so many on this connection, has a grant of its own
abbrev pub AreFor : ℕ → ℕ → List Request → List Grant → Type 0
AreFor connection told [] [] = ⊤
AreFor connection told (request ∷ requests) (g ∷ grants) = IsOfLine connection (suc told) request g.reply g × AreFor connection (suc told) requests grants
AreFor connection told requests grants = ⊥

abbrev pub replies_in : List Grant → List Reply
replies_in grants = map (λ g. g.reply) grants

-- how a conversation goes on after what was asked of a service of which this is known: it ends with the service
abbrev pub query_end : Query → Figures → End
query_end query f = if ends_service query f then Quit else Done

-- The page was listed for this scan, by a pass that had seen all that those of these grants had at their answers. L is what is so of pages.
pub record IsPageFor (L : Listing → Type 0) (scan : Scan) (before : List Grant) (l : Listing) : Type 0 where
  pub so : L l
  pub its : l.scan ≡ scan
  pub late : All (λ e. Begins (part e.after).known (part l.before).known) before

-- After these grants of the connection an exchange was told by those, or by a page, or by what was known of the service: this is its text, and
-- so it goes on.
abbrev pub IsTold : (Listing → Type 0) → ℕ → List Grant → Exchange → List Grant → List ℕ → End → Type 0
IsTold L connection before (asks wording requests) grants text ended =
    AreFor connection (length before) requests grants × (text ≡ worded wording (replies_in grants)) × (ended ≡ end_by (replies_in grants))
IsTold L connection before (says said) grants text ended = (grants ≡ []) × (text ≡ said) × (ended ≡ Done)
IsTold L connection before (lists scan) grants text ended = (grants ≡ []) × ((l : Listing) × IsPageFor L scan before l × (text ≡ listing_text l) × (ended ≡ listing_end l))
IsTold L connection before (tells query) grants text ended = (grants ≡ []) × ((f : Figures) × (text ≡ query_text query f) × (ended ≡ query_end query f))
IsTold L connection before (ends said) grants text ended = (grants ≡ []) × (text ≡ said) × (ended ≡ Quit)

-- The exchanges were told in their order, one text after the other, each by the grants that come next. After one that has ended the
-- conversation none is told.
pub data AreTold (L : Listing → Type 0) : ℕ → List Exchange → List Grant → List ℕ → End → Type 0 where
  nothing : (connection : ℕ) → AreTold L connection [] [] [] Done
  more : (connection : ℕ) (exchanges : List Exchange) (grants : List Grant) (text : List ℕ) (exchange : Exchange) (its : List Grant) (said : List ℕ) (ended : End)
      → AreTold L connection exchanges grants text Done → IsTold L connection grants exchange its said ended
      → AreTold L connection (exchanges ++ exchange ∷ []) (grants ++ its) (text ++ said) ended

-- All that came is this text, and this is what was sent. Of the exchanges that were taken of it the first ones were told, by these grants: their
-- texts, in their order, are what was sent and what is to be sent. The turns and the requests are those of the others. So of an exchange that
-- was refused no request was handed out, and none will be.
pub record IsAt (L : Listing → Type 0) (connection : ℕ) (grants : List Grant) (text sent : List ℕ) (t : Talk) : Type 0 where
  pub done : List Exchange
  pub left : List Exchange
  pub came : TakenFrom t.stops t.spoken text (done ++ left) t.reader
  pub turns : map turn_of left ≡ t.turns
  pub asked : requests_in left ≡ asked_by t.under ++ t.waiting
  pub told : AreTold L connection done grants (sent ++ t.unsent) t.ended
  pub counted : length grants ≡ t.told

-- no further exchange will be told
abbrev pub IsOver : Talk → Type 0
IsOver t = (t.ended ≢ Done) ⊎ ((t.reader ≡ None) × (t.turns ≡ []))

-- the request waits first, and a line under way awaits the reply for its key
abbrev pub IsHeld : Talk → Request → Type 0
IsHeld t request = (t.waiting ≡ request ∷ drop 1 t.waiting) × (IsFree t.under (key_asked request) → ⊥)

-- it hands no request out: it has ended, none waits, the first is held up, or their numbers are used up
abbrev pub Rests : Talk → Type 0
Rests t = (t.ended ≢ Done) ⊎ (t.waiting ≡ []) ⊎ ((request : Request) × IsHeld t request) ⊎ (t.told + length t.under ≡ 18446744073709551615)

-- a request waits, and it hands none out whatever comes behind it
abbrev pub IsHeldUp : Talk → Type 0
IsHeldUp t = (t.waiting ≢ []) × Rests t

-- where the turn is the first, each of its requests has its reply among these lines, and neither a page nor the service itself is asked for
abbrev pub IsReady : Turn → List Line → Type 0
IsReady (turn.Asks wording count) under = (replies : List Reply) × (count ≤ length under) × (replies_of (take count under) ≡ Some replies)
IsReady (turn.Lists scan) under = ⊥
IsReady (turn.Tells query) under = ⊥
IsReady other under = ⊤

-- the exchange is a text, and asks for nothing
abbrev pub IsText : Turn → Type 0
IsText (turn.Says text) = ⊤
IsText (turn.Ends text) = ⊤
IsText other = ⊥

-- a piece more of the client's text has come
abbrev pub Fed : List ℕ → Talk → Talk → Type 0
Fed piece old new =
    (before after : Reader) × (exchanges : List Exchange) × (old.reader ≡ Some before) × ReadsMore before piece exchanges after
    × (new ≡ record old { reader = Some after; turns = (adding exchanges (pending old)).turns; waiting = (adding exchanges (pending old)).waiting })

-- the client's text has ended
abbrev pub Finished : Talk → Talk → Type 0
Finished old new =
    (before : Reader) × (exchanges : List Exchange) × (old.reader ≡ Some before) × EndsWith before exchanges
    × (new ≡ record old { reader = None; turns = (adding exchanges (pending old)).turns; waiting = (adding exchanges (pending old)).waiting })

-- a request has come by itself
abbrev pub AskedAlone : Request → Talk → Talk → Type 0
AskedAlone request old new =
    new ≡ record old { turns = (adding (asked_alone request ∷ []) (pending old)).turns; waiting = (adding (asked_alone request ∷ []) (pending old)).waiting }

-- its service stops: each exchange of which nothing was begun is refused, and its requests wait no more
abbrev pub stopped : Talk → Talk
stopped t = record t { turns = cut_turns (length t.under) t.turns; waiting = take (kept_waiting (length t.under) t.turns) t.waiting; stops = true }

-- the reply to the request of this number was noted, which asked this and awaited it
abbrev pub Noted : ℕ → Request → Reply → Talk → Talk → Type 0
Noted number request reply old new =
    StandsAt old.told number request old.under × (new ≡ record old { under = slice_set old.under (number - suc old.told) (replied request reply) })

-- the first exchange was told, which asks this of the service itself, by what is known of it
abbrev pub Queried : Query → Figures → Talk → Talk → Type 0
Queried query f old new = new ≡ record old { turns = drop 1 old.turns; unsent = old.unsent ++ query_text query f; ended = query_end query f }

-- the first exchange was told, which asks for this page
abbrev pub Paged : Listing → Talk → Talk → Type 0
Paged l old new = new ≡ record old { turns = drop 1 old.turns; unsent = old.unsent ++ listing_text l; ended = listing_end l }

-- the first exchange was told, whose turn this is, and which asks for no page
abbrev pub Told : Turn → Talk → Talk → Type 0
Told (turn.Asks wording count) old new =
    (replies : List Reply) × (count ≤ length old.under) × (replies_of (take count old.under) ≡ Some replies)
    × (new ≡ record old { turns = drop 1 old.turns; told = old.told + count; under = drop count old.under; unsent = old.unsent ++ worded wording replies; ended = end_by replies })
Told (turn.Says text) old new = new ≡ record old { turns = drop 1 old.turns; unsent = old.unsent ++ text }
Told (turn.Lists scan) old new = ⊥
Told (turn.Tells query) old new = (f : Figures) × Queried query f old new
Told (turn.Ends text) old new = new ≡ record old { turns = drop 1 old.turns; unsent = old.unsent ++ text; ended = Quit }
