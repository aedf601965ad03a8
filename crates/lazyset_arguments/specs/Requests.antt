-- The numbers of a request.
use Rattle.std.specs.{Prelude.{◌≡◌, ◌≤◌, ℕ, IfSome, IsSomeAnd, List, None, Option, Some, codes, is_some, length, true}, Str.Parse.{digits_value, without_leading_plus}}
use Rattle.clap.specs.{Words.{first_value, one_text}, declared.parser.matches.Found.{Found}}
use Rattle.lz_slot.specs.{Limits.{last_room, most_buckets, most_buckets_of, most_passes, most_rehearsed}, Rooms.{last_room_of}}
use Rattle.lz_resp.specs.{Limits.{most_argument}, declared.naming.Naming.TheVariants.{Texts}}
use Rattle.lz_serve.specs.{declared.{language.Language.TheVariants.{Frames}, observer.Loops.{Loops}}, Options.{most_connections, most_threads}}
use Rattle.lazyset_arguments.specs.declared.period.Period.{Period}
use Rattle.lazyset_arguments.specs.declared.request.Request.{Request, TheVariants.{MakeKeys, Renew, Grow, Copy, Run, Serve, Rehearse}}

-- loops of so many passes, each of which has a thread, and a pass and a connection at least
abbrev pub AreWithin : ℕ → Loops → Type 0
AreWithin passes l = ((1 ≤ l.count) × (l.count ≤ most_threads)) × (l.count ≤ passes) × (l.count ≤ l.connections) × (l.connections ≤ most_connections)

-- a service has so many passes; without loops each of them has a thread
abbrev pub ArePasses : ℕ → Option Loops → Type 0
ArePasses passes loops = ((1 ≤ passes) × (passes ≤ most_passes)) × (loops ≡ None → passes ≤ most_threads)

-- the last mode of a file, in octal 777
abbrev pub last_mode : ℕ
last_mode = 511

-- an option of this name that is given tells this number
abbrev pub Tells : Found → List ℕ → ℕ → Type 0
Tells found id n = (text : List ℕ) → one_text found id ≡ Some text → n ≡ digits_value 10 (without_leading_plus text)

-- by so many epochs a service may forget
abbrev pub AreEpochs : ℕ → Type 0
AreEpochs n = (2 ≤ n) × (n ≤ 12)

-- by so many it does where none are named
abbrev pub usual_epochs : ℕ
usual_epochs = 3

-- the most seconds for which a service that forgets may keep a text
abbrev pub most_seconds : ℕ
most_seconds = 100_000_000

-- a service that forgets may keep a text for so long
abbrev pub IsPeriod : Period → Type 0
IsPeriod period = ((1 ≤ period.seconds) × (period.seconds ≤ most_seconds)) × AreEpochs period.epochs

-- there are loops, whose clients speak frames of texts alone
abbrev pub SpeakTexts : Option Loops → Type 0
SpeakTexts loops = IsSomeAnd loops (λ l. l.language ≡ Frames (Texts None))

-- so many epochs there are by the command line
abbrev pub TellsEpochs : Found → ℕ → Type 0
TellsEpochs found n =
    (first_value found (codes "epochs") ≡ None → n ≡ usual_epochs)
    × (is_some (first_value found (codes "epochs")) ≡ true → Tells found (codes "epochs") n)

-- for so long texts are kept by it; without --forget for ever
abbrev pub TellsPeriod : Found → Option Period → Type 0
TellsPeriod found None = first_value found (codes "forget") ≡ None
TellsPeriod found (Some period) =
    (is_some (first_value found (codes "forget")) ≡ true) × Tells found (codes "forget") period.seconds × TellsEpochs found period.epochs

-- a lease may be of so many milliseconds
abbrev pub IsLease : ℕ → Type 0
IsLease millis = (100 ≤ millis) × (millis ≤ 60_000)

-- of so many is its lease by it; without --lease there is none
abbrev pub TellsLease : Found → Option ℕ → Type 0
TellsLease found None = first_value found (codes "lease") ≡ None
TellsLease found (Some millis) = (is_some (first_value found (codes "lease")) ≡ true) × Tells found (codes "lease") millis

-- a service that it asks for has such a lease
abbrev pub IsToldLease : Found → Request → Type 0
IsToldLease found (Serve service) = TellsLease found service.lease
IsToldLease found request = Unit {0}

-- a service that it asks for keeps texts for so long
abbrev pub IsToldPeriod : Found → Request → Type 0
IsToldPeriod found (Serve service) = TellsPeriod found service.forgets
IsToldPeriod found request = Unit {0}

-- its numbers and its format are those with which the command may be run
abbrev pub IsWithin : Request → Type 0
IsWithin (MakeKeys new texts_of) = IfSome texts_of (λ texts. (last_room_of new.format ≡ last_room) × (length texts.name.now ≤ most_argument))
IsWithin (Renew old new) = last_room_of new.format ≡ last_room
IsWithin (Grow file slots format) = IfSome format (λ f. last_room_of f ≡ last_room)
IsWithin (Copy wish) = IfSome wish.format (λ f. last_room_of f ≡ last_room)
IsWithin (Run file buckets no_lock) = (1 ≤ buckets) × (buckets ≤ most_buckets)
IsWithin (Serve service) =
    let options = service.options in
    ArePasses options.passes options.loops × ((1 ≤ options.buckets) × (options.buckets ≤ most_buckets)) × IfSome options.loops (AreWithin options.passes)
    × IfSome service.mode (λ m. m ≤ last_mode) × IfSome service.forgets (λ period. IsPeriod period × SpeakTexts options.loops)
    × (service.stands_by ≡ true → is_some service.control ≡ true) × (service.rewrites ≡ true → service.stands_by ≡ true)
    × IfSome service.lease (λ millis. IsLease millis × (is_some options.loops ≡ true))
IsWithin (Rehearse slots buckets format) =
    ((1 ≤ slots) × (slots ≤ most_rehearsed)) × (1 ≤ buckets) × (buckets ≤ most_buckets_of format)
IsWithin request = Unit {0}
