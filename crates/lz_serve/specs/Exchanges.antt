-- What a client's text comes to: exchanges, each of which is some requests and the one text that replies to them.
use Rattle.lz_proto.specs.declared.item.Item.TheVariants as line
use Rattle.lz_resp.specs.declared.item.Item.TheVariants as frame
use Rattle.lz_serve.specs.declared.language.Language.TheVariants as language
use Rattle.lz_serve.specs.declared.turn.Turn.TheVariants as turn
use Rattle.lz_serve.specs.declared.reader.Reader.TheVariants as reader
use Rattle.std.specs.{Prelude.{◌≡◌, ℕ, Bool, true, false, List, [], ◌∷◌, ◌++◌, codes, length, map, ◌==◌, Option, Some, None, if◌then◌else◌}, List.{flat_map, list_any}}
use Rattle.lz_proto.specs.declared.{request.Request.{Request, TheVariants.{Add, Remove, Has, Quit}}, reply.Reply.{Reply}, item.Item.{Item as LineItem}, end.End.{End}}
use Rattle.lz_proto.specs.{declared.{end.End.TheVariants.{Done, Halted}, fault.Bad.{Bad}}, Lines.{Items as LineItems}}
use Rattle.lz_proto.specs.{Pieces.{Ends, Feeds as FeedsLines, Reads as ReadsLines, faults_of}, Sessions.{bad_text, reply_text}}
use Rattle.lz_resp.specs.{declared.{form.Form.{Form, TheVariants.{Added, Removed, Found}}, item.Item.{Item as FrameItem}, naming.Naming.{Naming}, query.Query.{Query}, scan.Scan.{Scan}}, Keys.{at_first}}
use Rattle.lz_resp.specs.{Pieces.{Feeds as FeedsFrames, Items as FrameItems, Reads as ReadsFrames, start}, Replies.{is_halted, text_of}}
use Rattle.lz_serve.specs.declared.{language.Language.{Language}, turn.{Wording.{Wording, TheVariants.{Line, Frame}}, Turn.{Turn}}, reader.Reader.{Reader}}

-- Requests whose replies are worded so; a text, and nothing is asked; a page that is asked for; what is asked of the service itself; or a text after which nothing comes.
pub data Exchange : Type 0 where
  asks : Wording → List Request → Exchange
  says : List ℕ → Exchange
  lists : Scan → Exchange
  tells : Query → Exchange
  ends : List ℕ → Exchange

-- what a line comes to
abbrev pub of_line : LineItem → Exchange
of_line (line.Asks Quit) = ends []
of_line (line.Asks request) = asks Line (request ∷ [])
of_line (line.Faulty bad) = says (bad_text bad)

-- what a frame comes to
abbrev pub of_frame : FrameItem → Exchange
of_frame (frame.Asks form requests) = asks (Frame form) requests
of_frame (frame.Says text) = says text
of_frame (frame.Lists scan) = lists scan
of_frame (frame.Tells query) = tells query
of_frame (frame.Ends text) = ends text

-- the form of the reply to a request alone
abbrev pub form_of : Request → Form
form_of (Add key) = Added
form_of (Remove key) = Removed
form_of (Has key) = Found
form_of Quit = Found

-- what a request comes to that comes by itself
abbrev pub asked_alone : Request → Exchange
asked_alone request = asks (Frame (form_of request)) (request ∷ [])

-- an exchange without its requests
abbrev pub turn_of : Exchange → Turn
turn_of (asks wording requests) = turn.Asks wording (length requests)
turn_of (says text) = turn.Says text
turn_of (lists scan) = turn.Lists scan
turn_of (tells query) = turn.Tells query
turn_of (ends text) = turn.Ends text

-- what these exchanges ask, one after the other
abbrev pub requests_in : List Exchange → List Request
requests_in [] = []
requests_in (asks wording requests ∷ exchanges) = requests ++ requests_in exchanges
requests_in (says text ∷ exchanges) = requests_in exchanges
requests_in (lists scan ∷ exchanges) = requests_in exchanges
requests_in (tells query ∷ exchanges) = requests_in exchanges
requests_in (ends text ∷ exchanges) = requests_in exchanges

-- the error that says that nothing of a frame was done
abbrev pub frame_refusal : List ℕ
frame_refusal = codes "-ERR stopping; nothing was done\r\n"

-- the same of requests whose replies would be worded so
abbrev pub refusal : Wording → List ℕ
refusal Line = codes "stopping\n"
refusal (Frame form) = frame_refusal

-- What is told in place of an exchange that is refused. One that asks for no key and no page is told as ever.
abbrev pub refused : Exchange → Exchange
refused (asks wording requests) = says (refusal wording)
refused (says text) = says text
refused (lists scan) = says frame_refusal
refused (tells query) = tells query
refused (ends text) = ends text

-- exchanges as they are taken: once the service stops each is refused
abbrev pub taken : Bool → List Exchange → List Exchange
taken false exchanges = exchanges
taken true exchanges = map refused exchanges

-- What has come and wasn't told: the turns of exchanges, and the requests that wait; and whether the service stops.
pub record Pending : Type 0 where
  pub turns : List Turn
  pub waiting : List Request
  pub stops : Bool

-- exchanges more have come
abbrev pub adding : List Exchange → Pending → Pending
adding exchanges p = record p { turns = p.turns ++ map turn_of (taken p.stops exchanges); waiting = p.waiting ++ requests_in (taken p.stops exchanges) }

-- the language in which a text is read: of either language it is frames where it begins with `*`, and else lines
abbrev pub read_as : Language → List ℕ → Language
read_as (language.Either naming) (byte ∷ text) = if byte == 0x2a then language.Frames naming else language.Lines
read_as spoken text = spoken

-- no text has come yet
abbrev pub unread : Language → Reader
unread language.Lines = reader.Lines (Some [])
unread (language.Frames naming) = reader.Frames (Some (start naming))
unread (language.Either naming) = reader.Unread naming

-- the first piece of a text, which may be empty, tells its language
abbrev pub Begun : Reader → List ℕ → Reader → Type 0
Begun (reader.Unread naming) piece new = new ≡ unread (read_as (language.Either naming) piece)
Begun old piece new = new ≡ old

-- a piece of the text gives these exchanges, in the language that it or one before it has told, or none where nothing has come
abbrev pub ReadsOn : Reader → List ℕ → List Exchange → Reader → Type 0
ReadsOn (reader.Lines old) piece exchanges (reader.Lines new) = (items : List LineItem) × FeedsLines old piece items new × (exchanges ≡ map of_line items)
ReadsOn (reader.Frames old) piece exchanges (reader.Frames new) = (items : List FrameItem) × FeedsFrames old piece items new × (exchanges ≡ map of_frame items)
ReadsOn (reader.Unread naming) piece exchanges new = (new ≡ reader.Unread naming) × (exchanges ≡ [])
ReadsOn old piece exchanges new = ⊥

-- a piece of the text gives these exchanges
abbrev pub ReadsMore : Reader → List ℕ → List Exchange → Reader → Type 0
ReadsMore old piece exchanges new = (begun : Reader) × Begun old piece begun × ReadsOn begun piece exchanges new

-- the text's end gives these: a line that has none is a fault, and of a frame nothing comes
abbrev pub EndsWith : Reader → List Exchange → Type 0
EndsWith (reader.Lines kept) exchanges = (fault : Option Bad) × Ends kept fault × (exchanges ≡ map of_line (faults_of fault))
EndsWith other exchanges = exchanges ≡ []

-- the exchanges are those of a whole text in this language; where that isn't known nothing has come
abbrev pub CameOfAll : Language → List ℕ → List Exchange → Type 0
CameOfAll language.Lines text exchanges = (items : List LineItem) × LineItems text items × (exchanges ≡ map of_line items)
CameOfAll (language.Frames naming) text exchanges = (items : List FrameItem) × FrameItems (at_first naming) text items × (exchanges ≡ map of_frame items)
CameOfAll (language.Either naming) text exchanges = (text ≡ []) × (exchanges ≡ [])

-- The exchanges are those of the text in the language in which it is read, up to what the reader keeps of it; none is left where the text has ended.
abbrev pub CameFrom : Language → List ℕ → List Exchange → Option Reader → Type 0
CameFrom spoken text exchanges (Some (reader.Lines kept)) =
    (read_as spoken text ≡ language.Lines) × ((items : List LineItem) × ReadsLines text items kept × (exchanges ≡ map of_line items))
CameFrom spoken text exchanges (Some (reader.Frames place)) =
    (naming : Naming) × (read_as spoken text ≡ language.Frames naming)
    × ((items : List FrameItem) × ReadsFrames (record { state = at_first naming; text = text }) items place × (exchanges ≡ map of_frame items))
CameFrom spoken text exchanges (Some (reader.Unread naming)) = (spoken ≡ language.Either naming) × (text ≡ []) × (exchanges ≡ [])
CameFrom spoken text exchanges None = CameOfAll (read_as spoken text) text exchanges

-- What comes of a text in either language comes of it in the one in which it is read.
abbrev pub EitherIsAsRead : Type 0
EitherIsAsRead =
    (spoken : Language) (text : List ℕ) (exchanges : List Exchange) (r : Option Reader) → CameFrom spoken text exchanges r
    → CameFrom (read_as spoken text) text exchanges r

-- the text of replies that are worded so
abbrev pub worded : Wording → List Reply → List ℕ
worded Line replies = flat_map reply_text replies
worded (Frame form) replies = text_of form replies

-- how a conversation goes on after replies
abbrev pub end_by : List Reply → End
end_by replies = if list_any is_halted replies then Halted else Done
