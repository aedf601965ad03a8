-- Worked commands of a set that forgets after 60 seconds, while rooms 1 and 0 are remembered.
use Rattle.std.{proofs.Common.{◌≡◌, ◌≢◌, [], ◌∷◌, Some, None, refl, codes, true}, specs.Fmt.{digits}}
use Rattle.lz_slot.specs.Rooms.{rank}
use Rattle.lz_proto.specs.declared.reply.Reply.TheVariants.{Yes, No, Full}
use Rattle.lz_proto.specs.declared.request.Request.TheVariants.{Add as Adding, Has as Finding}
use Rattle.lz_resp.specs.declared.{form.Form.TheVariants.{Added, Found, Stored}, naming.Naming.TheVariants.{Rooms}}
use Rattle.lz_forget.specs.{Answers.{answer_on, filled, found_in, groups, joined, text_for, texts_for}, Askings.{all_rooms_of, ask_of, is_ask, request_of}, Lives.{room_at}, Sessions.{Dialogue, Work.{holds, rests}, asking, asking_sought, begun, gathered, holding, open_of, refusing, time_in}, Wants.{extra_in}}
use Rattle.lz_forget.specs.declared.{asking.Ask.TheVariants.{Has, Add}, commands.Extra.TheVariants.{Claim, Left, Nothing, OtherTime}, live.Live.{Live}, session.Next.TheVariants.{Begins, GoesOn}, wanted.Wanted.TheVariants.{Asks}}

abbrev two : Live
two = record { newest = 1; count = 2; takes = true }

-- room 13 comes before room 0
before : room_at (record { newest = 0; count = 2; takes = true }) 1 ≡ 13
before = refl

-- a claim is sought in the older room first, and asked for there where it can't be seen
glance : all_rooms_of two 1 1 (7 ∷ []) ≡ 7 ∷ []
glance = refl

looks_up : (asking_sought (record (begun 60 Rooms) { seeks = rank 1 7 ∷ [] })).requests ≡ Finding (rank 1 7) ∷ []
looks_up = refl

adds : (asking Add two 0 1 (7 ∷ []) rests (begun 60 Rooms)).requests ≡ Adding (rank 1 7) ∷ []
adds = refl

-- of two keys, each in two rooms, the first was found
found : groups 2 2 (Some No ∷ Some Yes ∷ Some No ∷ Some No ∷ []) ≡ Some Yes ∷ Some No ∷ []
found = refl

left : open_of (7 ∷ 8 ∷ []) (Some Yes ∷ Some No ∷ []) ≡ 8 ∷ []
left = refl

claimed : filled (Some Yes ∷ Some No ∷ []) (Some Yes ∷ []) ≡ Some No ∷ Some Yes ∷ []
claimed = refl

-- a key that is in one of two rooms is removed
removed : joined (Some No ∷ Some Yes ∷ []) (Some Yes ∷ Some No ∷ []) ≡ Some Yes ∷ Some Yes ∷ []
removed = refl

nil : text_for Stored (Some No ∷ []) ≡ codes "$-1\r\n"
nil = refl

stops : text_for Added (None ∷ Some Yes ∷ []) ≡ codes "-ERR stopping; 1 of 2 were added\r\n"
unfolding digits
stops = refl

yes : answer_on (codes ":1") ≡ Some (Some Yes)
yes = refl

no_slot : answer_on (codes "-FULL no slot is free; 0 of 1 were added") ≡ Some (Some Full)
no_slot = refl

other_count : answer_on (codes ":12") ≡ None
other_count = refl

-- the older room's time, where that has the key
time : time_in (5000 ∷ 1500 ∷ []) (Some No ∷ Some Yes ∷ []) ≡ 1500
time = refl

own : extra_in 60 (codes "SET" ∷ codes "k" ∷ codes "1" ∷ codes "nx" ∷ codes "EX" ∷ codes "60" ∷ []) ≡ Claim
own = refl

own_turned : extra_in 60 (codes "set" ∷ codes "k" ∷ codes "1" ∷ codes "px" ∷ codes "60000" ∷ codes "NX" ∷ []) ≡ Claim
own_turned = refl

another : extra_in 60 (codes "SET" ∷ codes "k" ∷ codes "1" ∷ codes "NX" ∷ codes "EX" ∷ codes "61" ∷ []) ≡ OtherTime
another = refl

asks_time : extra_in 60 (codes "TTL" ∷ codes "k" ∷ []) ≡ Left 1000
asks_time = refl

plain : extra_in 60 (codes "SET" ∷ codes "k" ∷ codes "1" ∷ codes "NX" ∷ []) ≡ Nothing
plain = refl

-- a claim, and what comes after it
abbrev claimed_first : Dialogue
claimed_first = holding Stored (Adding 7 ∷ []) (begun 60 Rooms)

-- claims that have come one after the other are carried out together, and a lookup after them waits
together : gathered Added (Adding 8 ∷ Adding 9 ∷ []) claimed_first
    ≡ (GoesOn, record claimed_first { work = holds Add ((Stored, 1) ∷ (Added, 2) ∷ []) (7 ∷ 8 ∷ 9 ∷ []) })
together = refl

apart : gathered Found (Finding 7 ∷ []) claimed_first ≡ (Begins, record claimed_first { held = Some (Asks Found (Finding 7 ∷ [])) })
apart = refl

-- each is told its own answers, in its own form
each : texts_for ((Stored, 1) ∷ (Added, 2) ∷ []) (Some Yes ∷ Some Yes ∷ Some No ∷ []) ≡ codes "+OK\r\n:1\r\n"
unfolding digits
each = refl

-- a claim that hasn't begun when the service stops
refused : (refusing claimed_first).says ≡ codes "-ERR stopping; nothing was done\r\n"
refused = refl

-- What must not hold.

-- a claim isn't asked as a lookup
looked_up : request_of Add 7 ≢ Finding 7
looked_up e = cc

-- a lookup isn't carried out with claims
mixed : is_ask (ask_of Found) (ask_of Stored) ≢ true
mixed e = cc

-- a key that was found isn't told new, whatever comes
new_again : filled (Some Yes ∷ []) (Some Yes ∷ []) ≢ Some Yes ∷ []
new_again e = cc

-- a room that wasn't asked tells nothing
half : found_in (Some No ∷ Some Full ∷ []) ≢ Some No
half e = cc
