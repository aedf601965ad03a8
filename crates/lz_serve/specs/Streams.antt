-- What a stream has given and taken, and what it may be given to take.
use Rattle.lz_serve.specs.declared.stream.Received.TheVariants as received
use Rattle.lz_serve.specs.declared.stream.Taken.TheVariants as taken
use Rattle.std.specs.Prelude.{◌≡◌, ℕ, Bool, true, false, List, [], ◌++◌, take, ⊤, Option, None, Some, is_none}
use Rattle.lz_serve.specs.{declared.{language.Language.{Language}, stream.{Received.{Received}, Taken.{Taken}}}, Grants.{Grant}, Listings.{Listing}}
use Rattle.lz_serve.specs.Conversations.{IsAt, Talk}

-- The language of a client, all that it has sent of its text and whether that has ended, and all that was sent to it.
pub record Traffic : Type 0 where
  pub spoken : Language
  pub received : List ℕ
  pub ended : Bool
  pub taken : List ℕ

-- how many bytes stand in a buffer after a receiving
abbrev pub counted : Received → ℕ
counted (received.Count n) = n
counted r = 0

-- how many bytes of a text were taken
abbrev pub sent : Taken → ℕ
sent (taken.Count n) = n
sent r = 0

-- the receiving gave the first bytes of the buffer, and nothing more once the text has ended
abbrev pub Receives : Option Traffic → Option Traffic → Received → List ℕ → Type 0
Receives None after r buffer = after ≡ None
Receives (Some t) after (received.Count n) buffer = (t.ended ≡ false) × (after ≡ Some (record t { received = t.received ++ take n buffer }))
Receives (Some t) after received.Over buffer = after ≡ Some (record t { ended = true })
Receives (Some t) after received.Later buffer = after ≡ Some t
Receives (Some t) after received.Failed buffer = after ≡ Some t

-- the first bytes of the text were taken
abbrev pub Takes : Option Traffic → Option Traffic → Taken → List ℕ → Type 0
Takes None after r text = after ≡ None
Takes (Some t) after (taken.Count n) text = after ≡ Some (record t { taken = t.taken ++ take n text })
Takes (Some t) after taken.Later text = after ≡ Some t
Takes (Some t) after taken.Failed text = after ≡ Some t

-- The conversation is that of the stream, in its language: it came of all that was received, all that it told was taken or is still to be
-- sent, and each of its replies was granted to its request on this connection, in an order that is promised, and each page listed as is promised.
abbrev pub IsTalkOf : (List Grant → Type 0) → (Listing → Type 0) → ℕ → Option Traffic → Talk → Type 0
IsTalkOf P L connection None t = ⊤
IsTalkOf P L connection (Some traffic) t =
    (grants : List Grant) × P grants × IsAt L connection grants traffic.received traffic.taken t × (t.spoken ≡ traffic.spoken) × (is_none t.reader ≡ traffic.ended)

-- The text is the next to be sent in a conversation of the stream, on one connection. Its service stops only where it was asked to.
abbrev pub MayTake : (List Grant → Type 0) → (Listing → Type 0) → Type 0 → Option Traffic → List ℕ → Type 0
MayTake P L asked traffic text =
    (connection : ℕ) × (t : Talk) × IsTalkOf P L connection traffic t × (t.stops ≡ true → asked) × (rest : List ℕ) × (t.unsent ≡ text ++ rest)

-- nothing has come and nothing was sent yet
abbrev pub IsFresh : Option Traffic → Type 0
IsFresh None = ⊤
IsFresh (Some t) = (t.received ≡ []) × (t.ended ≡ false) × (t.taken ≡ [])
