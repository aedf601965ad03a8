-- Where a client's session with a set that forgets stands.
use Rattle.lz_forget.specs.declared.wanted.Wanted.TheVariants as wanted
use Rattle.lz_forget.specs.declared.session.Next.TheVariants as next
use Rattle.lz_forget.specs.declared.session.Stage.TheVariants as stage
use Rattle.std.specs.Prelude.{◌≡◌, ◌&&◌, ℕ, suc, ◌+◌, ◌-◌, ◌*◌, ◌/◌, ◌==◌, ◌||◌, not, nat_le, nat_lt, if◌then◌else◌, Bool, true, false, List, [], ◌∷◌, ◌++◌, codes, decimal, drop, take, length, map, replicate}
use Rattle.std.specs.{Prelude.{Option, None, Some, Ok, Err, nat_eq}, List.{starts_with}}
use Rattle.lz_proto.specs.declared.{request.Request.{Request, TheVariants.{Add as Adding, Remove as Removing, Has as Finding, Quit}}, reply.Reply.{TheVariants.{Yes, No, Full}}}
use Rattle.lz_slot.specs.Numerals.{number_in}
use Rattle.lz_resp.specs.{Frames.{line_end}, Keys.{at_first}, Reading.{Front, and_then, line_at}, Pages.{page_at}, declared.{form.Form.{Form, TheVariants.{Found}}, naming.Naming.{Naming}}}
use Rattle.lz_resp.specs.declared.fault.Fault.TheVariants.{Count, Length}
use Rattle.lz_forget.specs.{Lives.{IsLive}, Answers.{Answer, answer_on, filled, found_in, groups, joined, text_for, texts_for}, Askings.{all_rooms_of, ask_of, is_ask, request_of}, Commands.{Reader, taken}}
use Rattle.lz_forget.specs.declared.{asking.Ask.{Ask, TheVariants.{Has, Add, Remove}}, live.Live.{Live}, session.{Next.{Next}, Stage.{Stage}}, wanted.{Wanted.{Wanted}, Reading.{Reading, TheVariants.{Line, Bulk, Page}}}}

-- What is under way: nothing, before a frame or after the last; commands of one kind that haven't begun, each with the form of its replies and how
-- many keys it has; the same of a question for time; a reply that is passed on; claims whose keys are sought in
-- each older room; claims of which the newest room is asked to add what no older one has; lookups of so many keys; how much time is left; or
-- removals from the room of the epoch of an age.
pub data Work : Type 0 where
  rests : Work
  over : Work
  holds : Ask → List (Form × ℕ) → List ℕ → Work
  holds_time : ℕ → List Request → Work
  passes : Reading → Work
  glances : List (Form × ℕ) → List ℕ → Live → Work
  adds : List (Form × ℕ) → List Answer → Work
  finds : List (Form × ℕ) → ℕ → Live → Work
  times : ℕ → List ℕ → Work
  removes : List (Form × ℕ) → List ℕ → Live → ℕ → List Answer → Work

-- What of the client's text wasn't taken; what is under way; the client's next command, where it can't be carried out with those that are held; what
-- was answered of what was asked together, and how many requests that were; the keys that are sought; what the service is asked without a text; what
-- it is to be sent; what it has told that wasn't taken; and what the client is to be sent.
pub record Dialogue : Type 0 where
  pub reader : Reader
  pub work : Work
  pub held : Option Wanted
  pub answers : List Answer
  pub awaits : ℕ
  pub seeks : List ℕ
  pub requests : List Request
  pub asks : List ℕ
  pub heard : List ℕ
  pub says : List ℕ

-- nothing has come yet
abbrev pub begun : ℕ → Naming → Dialogue
begun seconds naming =
    record {
      reader = record { seconds = seconds; state = at_first naming; text = []; over = false };
      work = rests;
      held = None;
      answers = [];
      awaits = 0;
      seeks = [];
      requests = [];
      asks = [];
      heard = [];
      says = [];
    }

-- the keys of requests
abbrev pub keys_of : List Request → List ℕ
keys_of [] = []
keys_of (Adding key ∷ requests) = key ∷ keys_of requests
keys_of (Removing key ∷ requests) = key ∷ keys_of requests
keys_of (Finding key ∷ requests) = key ∷ keys_of requests
keys_of (Quit ∷ requests) = keys_of requests

-- a command of the client's text
abbrev pub from_reader : Option Wanted × Reader → Dialogue → Option Wanted × Dialogue
from_reader (wanted, reader) s = (wanted, record s { reader = reader })

-- the client's next command, if one has come, and the session without it
abbrev pub upcoming_by : Option Wanted → Dialogue → Option Wanted × Dialogue
upcoming_by None s = from_reader (taken s.reader) s
upcoming_by (Some wanted) s = (Some wanted, record s { held = None })

abbrev pub upcoming : Dialogue → Option Wanted × Dialogue
upcoming s = upcoming_by s.held s

-- a command is held alone
abbrev pub holding : Form → List Request → Dialogue → Dialogue
holding form requests s = record s { work = holds (ask_of form) ((form, length (keys_of requests)) ∷ []) (keys_of requests) }

-- the client's next command was taken, where one has come
abbrev pub taking : Option Wanted → Dialogue → Next × Dialogue
taking None s = (next.Waits, s)
taking (Some (wanted.Asks form requests)) s = (next.GoesOn, holding form requests s)
taking (Some (wanted.Left unit requests)) s = (next.Begins, record s { work = holds_time unit requests })
taking (Some (wanted.Passes reading text)) s = (next.GoesOn, record s { work = passes reading; asks = s.asks ++ text })
taking (Some (wanted.Says text)) s = (next.GoesOn, record s { says = s.says ++ text })
taking (Some (wanted.Ends text)) s = (next.Over, record s { work = over; says = s.says ++ text })

abbrev pub took : Option Wanted × Dialogue → Next × Dialogue
took (wanted, s) = taking wanted s

-- a command more is held, if it is of the kind of those that are, and these have less than 256 keys; else it waits for them
abbrev pub gathered_by : Work → Form → List Request → Dialogue → Next × Dialogue
gathered_by (holds ask told keys) form requests s =
    if is_ask ask (ask_of form) && nat_lt (length keys) 256
    then (next.GoesOn, record s { work = holds ask (told ++ (form, length (keys_of requests)) ∷ []) (keys ++ keys_of requests) })
    else (next.Begins, record s { held = Some (wanted.Asks form requests) })
gathered_by work form requests s = (next.Begins, record s { held = Some (wanted.Asks form requests) })

abbrev pub gathered : Form → List Request → Dialogue → Next × Dialogue
gathered form requests s = gathered_by s.work form requests s

abbrev pub gathering_of : Option Wanted → Dialogue → Next × Dialogue
gathering_of None s = (next.Begins, s)
gathering_of (Some (wanted.Asks form requests)) s = gathered form requests s
gathering_of (Some other) s = (next.Begins, record s { held = Some other })

abbrev pub gathered_from : Option Wanted × Dialogue → Next × Dialogue
gathered_from (wanted, s) = gathering_of wanted s

abbrev pub gathering : Dialogue → Next × Dialogue
gathering s = gathered_from (upcoming s)

-- what a session does next: it takes a command where none is under way
abbrev pub going_by : Work → Dialogue → Next × Dialogue
going_by rests s = took (upcoming s)
going_by over s = (next.Over, s)
going_by (holds ask told keys) s = gathering s
going_by (holds_time unit requests) s = (next.Begins, s)
going_by work s = (next.Waits, s)

abbrev pub going : Dialogue → Next × Dialogue
going s = going_by s.work s

-- those of these keys that weren't found
abbrev pub opened : Answer → ℕ → List ℕ → List ℕ
opened (Some No) key keys = key ∷ keys
opened answer key keys = keys

abbrev pub open_of : List ℕ → List Answer → List ℕ
open_of [] found = []
open_of (key ∷ keys) [] = []
open_of (key ∷ keys) (answer ∷ found) = opened answer key (open_of keys found)

-- this answer to each of so many requests
abbrev pub answers_of : Answer → ℕ → List Answer
answers_of answer n = replicate n answer

-- what came of commands was told
abbrev pub telling : List (Form × ℕ) → List Answer → Dialogue → Dialogue
telling told answers s = record s { work = rests; seeks = []; says = s.says ++ texts_for told answers }

-- of these keys it was asked so in so many rooms, from that of the epoch of this age on, and none is sought
abbrev pub asking : Ask → Live → ℕ → ℕ → List ℕ → Work → Dialogue → Dialogue
asking ask live from n keys work s =
    record s { work = work; answers = []; awaits = length keys * n; seeks = []; requests = s.requests ++ map (request_of ask) (all_rooms_of live from n keys) }

-- these keys are sought in so many rooms, from that of the epoch of this age on
abbrev pub seeking : Live → ℕ → ℕ → List ℕ → Work → Dialogue → Dialogue
seeking live from n keys work s = record s { work = work; answers = []; awaits = length keys * n; seeks = all_rooms_of live from n keys }

-- the newest room is asked to add these keys, if there are any and it takes keys
abbrev pub adding_to : List ℕ → List (Form × ℕ) → Live → List Answer → Dialogue → Dialogue
adding_to keys told live found s =
    if (length keys == 0) || not live.takes then telling told (filled found (answers_of (Some Full) (length keys))) s
    else asking Add live 0 1 keys (adds told found) s

-- the same of those of these keys that weren't found
unfoldable pub adding : List (Form × ℕ) → List ℕ → Live → List Answer → Dialogue → Dialogue
adding told keys live found s = adding_to (open_of keys found) told live found s

-- these keys are sought in the older rooms, where there are older ones
abbrev pub glancing : List (Form × ℕ) → List ℕ → Live → Dialogue → Dialogue
glancing told keys live s =
    if live.count == 1 then adding told keys live (answers_of (Some No) (length keys)) s
    else seeking live 1 (live.count - 1) keys (glances told keys live) s

-- the room of the epoch of this age is asked to remove them, if one is of this age
abbrev pub removing : List (Form × ℕ) → List ℕ → Live → ℕ → List Answer → Dialogue → Dialogue
removing told keys live age found s =
    if nat_le live.count age then telling told found s
    else asking Remove live age 1 keys (removes told keys live age found) s

abbrev pub finding : List (Form × ℕ) → List ℕ → Live → Dialogue → Dialogue
finding told keys live s = seeking live 0 live.count keys (finds told (length keys) live) s

-- what is asked of these keys by commands that are told so
abbrev pub beginning_of : Ask → List (Form × ℕ) → List ℕ → Live → Dialogue → Dialogue
beginning_of Add told keys live s = glancing told keys live s
beginning_of Has told keys live s = finding told keys live s
beginning_of Remove told keys live s = removing told keys live 0 (answers_of (Some No) (length keys)) s

-- the service stops before commands have changed anything
abbrev pub refusing_by : Work → Dialogue → Dialogue
refusing_by (holds ask told keys) s = telling told (answers_of None (length keys)) s
refusing_by (glances told keys live) s = telling told (answers_of None (length keys)) s
refusing_by (finds told n live) s = telling told (answers_of None n) s
refusing_by (holds_time unit requests) s = telling ((Found, 1) ∷ []) (answers_of None 1) s
refusing_by (times unit left) s = telling ((Found, 1) ∷ []) (answers_of None 1) s
refusing_by work s = record s { work = work }

abbrev pub refusing : Dialogue → Dialogue
refusing s = refusing_by s.work s

-- the command that was taken begins, while these rooms are remembered, those of each epoch for so many milliseconds
abbrev pub beginning_by : Work → Live → List ℕ → Dialogue → Dialogue
beginning_by (holds ask told keys) live left s = beginning_of ask told keys live s
beginning_by (holds_time unit requests) live left s = seeking live 0 live.count (keys_of requests) (times unit left) s
beginning_by work live left s = record s { work = work }

abbrev pub beginning : Live → List ℕ → Dialogue → Dialogue
beginning live left s = beginning_by s.work live left (record s { work = rests })

-- how much is left of the first epoch whose room has the key
abbrev pub timed : Answer → ℕ → ℕ → ℕ
timed (Some Yes) time other = time
timed answer time other = other

abbrev pub time_in : List ℕ → List Answer → ℕ
time_in [] answers = 0
time_in (time ∷ left) [] = 0
time_in (time ∷ left) (answer ∷ answers) = timed answer time (time_in left answers)

-- what is told of that: -2 where no room has it
abbrev pub time_text : ℕ → List ℕ → List Answer → Answer → List ℕ
time_text unit left answers (Some Yes) = codes ":" ++ decimal (time_in left answers / unit) ++ line_end
time_text unit left answers (Some No) = codes ":-2" ++ line_end
time_text unit left answers other = text_for Found (other ∷ [])

-- all is answered that was asked together
abbrev pub completed : Work → List Answer → Dialogue → Dialogue
completed (glances told keys live) answers s = adding told keys live (groups (length keys) (live.count - 1) answers) s
completed (adds told found) answers s = telling told (filled found answers) s
completed (finds told n live) answers s = telling told (groups n live.count answers) s
completed (times unit left) answers s = record s { work = rests; says = s.says ++ time_text unit left answers (found_in answers) }
completed (removes told keys live age found) answers s = removing told keys live (suc age) (joined found answers) s
completed work answers s = record s { work = work }

-- one more was answered
abbrev pub noting : Answer → Dialogue → Dialogue
noting answer s =
    if nat_lt (length s.answers + 1) s.awaits then record s { answers = s.answers ++ answer ∷ [] }
    else completed s.work (s.answers ++ answer ∷ []) (record s { answers = []; work = rests })

-- it was seen whether the service has the key that is sought first
abbrev pub seen_as : Bool → Answer
seen_as true = Some Yes
seen_as false = Some No

abbrev pub seeing_by : List ℕ → ℕ → Bool → Dialogue → Dialogue
seeing_by [] key member s = s
seeing_by (first ∷ keys) key member s = if first == key then noting (seen_as member) (record s { seeks = keys }) else s

abbrev pub seeing : ℕ → Bool → Dialogue → Dialogue
seeing key member s = seeing_by s.seeks key member s

-- the service is asked so of the keys that are still sought
abbrev pub asking_all : Ask → Dialogue → Dialogue
asking_all ask s = record s { seeks = []; requests = s.requests ++ map (request_of ask) s.seeks }

abbrev pub asking_sought : Dialogue → Dialogue
asking_sought s = asking_all Has s

-- the work as the program has it
abbrev pub work_of : Stage → Work
work_of stage.Rests = rests
work_of stage.Over = over
work_of (stage.Holds ask told keys) = holds ask told.items keys.items
work_of (stage.HoldsTime unit requests) = holds_time unit requests
work_of (stage.Passes reading) = passes reading
work_of (stage.Glances told keys live) = glances told.items keys.items live
work_of (stage.Adds told found) = adds told.items found.items
work_of (stage.Finds told keys live) = finds told.items keys live
work_of (stage.Times unit left) = times unit left
work_of (stage.Removes told keys live age found) = removes told.items keys.items live age found.items

-- the rooms of what is under way are such as there are
abbrev pub HasLive : Work → Type 0
HasLive (glances told keys live) = IsLive live
HasLive (finds told n live) = IsLive live
HasLive (removes told keys live age found) = IsLive live
HasLive work = Unit {0}

-- the reply at the front of a text that is read so, and what follows it
abbrev pub rest_of : {A : Type 0} → Front A → Front (Unit {0})
rest_of (Ok None) = Ok None
rest_of (Ok (Some (value, rest))) = Ok (Some (tt, rest))
rest_of (Err fault) = Err fault

-- what follows a bulk string of this length and its line's end
abbrev pub after_bulk : Option ℕ → List ℕ → Front (Unit {0})
after_bulk None text = Err Length
after_bulk (Some n) text = if nat_lt (length text) (n + 2) then Ok None else Ok (Some (tt, drop (n + 2) text))

abbrev pub passed_at : Reading → List ℕ → Front (Unit {0})
passed_at Line text = rest_of (line_at Count text)
passed_at Bulk text =
    if starts_with nat_eq text (codes "$") then and_then (line_at Length text) (λ line rest. after_bulk (number_in 0 65536 (drop 1 line)) rest) else rest_of (line_at Count text)
passed_at Page text = if starts_with nat_eq text (codes "*") then rest_of (page_at text) else rest_of (line_at Count text)

-- so many bytes were taken of what has been told
abbrev pub hearing : ℕ → Dialogue → Dialogue
hearing n s = record s { heard = drop n s.heard }

-- a reply of so many bytes was passed on
abbrev pub passed : ℕ → Dialogue → Dialogue
passed n s = record s { work = rests; heard = drop n s.heard; says = s.says ++ take n s.heard }

-- a reply was passed on, or an answer noted, or no whole one has come
abbrev pub Passes : Front (Unit {0}) → Bool → Dialogue → Dialogue → Type 0
Passes (Ok None) whole s new = (whole ≡ false) × (new ≡ s)
Passes (Ok (Some (_, rest))) whole s new = (whole ≡ true) × (new ≡ passed (length s.heard - length rest) s)
Passes (Err fault) whole s new = ⊥

abbrev pub Answers : Option Answer → ℕ → Bool → Dialogue → Dialogue → Type 0
Answers None n whole s new = ⊥
Answers (Some answer) n whole s new = (whole ≡ true) × (new ≡ noting answer (hearing n s))

abbrev pub Notes : Front (List ℕ) → Bool → Dialogue → Dialogue → Type 0
Notes (Ok None) whole s new = (whole ≡ false) × (new ≡ s)
Notes (Ok (Some (line, rest))) whole s new = Answers (answer_on line) (length s.heard - length rest) whole s new
Notes (Err fault) whole s new = ⊥

-- how the reply is read that is passed on, if one is
abbrev pub passing : Work → Option Reading
passing (passes reading) = Some reading
passing work = None

abbrev pub HearsAs : Option Reading → Bool → Dialogue → Dialogue → Type 0
HearsAs (Some reading) whole s new = Passes (passed_at reading s.heard) whole s new
HearsAs None whole s new = Notes (line_at Count s.heard) whole s new

-- one reply was heard, if a whole one has come
abbrev pub HearsOne : Bool → Dialogue → Dialogue → Type 0
HearsOne whole s new = HearsAs (passing s.work) whole s new

-- replies were heard, up to one of which only a part has come
pub data HearsAll : Dialogue → Dialogue → Type 0 where
  last : (s new : Dialogue) → HearsOne false s new → HearsAll s new
  more : (s mid new : Dialogue) → HearsOne true s mid → HearsAll mid new → HearsAll s new

-- the service has told a piece more
abbrev pub Hears : List ℕ → Dialogue → Dialogue → Type 0
Hears piece old new = HearsAll (record old { heard = old.heard ++ piece }) new

-- a command is under way that was told the rooms
abbrev pub is_under_way : Work → Bool
is_under_way (glances told keys live) = true
is_under_way (adds told found) = true
is_under_way (finds told n live) = true
is_under_way (times unit left) = true
is_under_way (removes told keys live age found) = true
is_under_way work = false

-- it waits for what the service tells
abbrev pub waits : Work → Bool
waits (passes reading) = true
waits work = is_under_way work
