-- What a session writes.
use Rattle.lz_proto.specs.declared.end.End.TheVariants as ends
use Rattle.std.specs.Prelude.{◌≡◌, ℕ, List, [], ◌∷◌, ◌++◌, ◌⊎◌, ◌<◌, length, take, codes, Option, None, Some, Result, Ok, Err}
use Rattle.std.specs.Io.KnownBytes.{Appends, Consumes, IsAtEnd}
use Rattle.lz_proto.specs.declared.{request.Request.{Request, TheVariants.{Quit}}, fault.Bad.{Bad}}
use Rattle.lz_proto.specs.declared.fault.{Bad.TheVariants.{TooLong, NoCommand, NoNumber, KeyTooLarge, NoEnd, BadRoom}, SessionFault.{SessionFault}}
use Rattle.lz_proto.specs.declared.{fault.SessionFault.TheVariants.{Read, Write, Memory}, item.Item.{Item, TheVariants.{Asks, Faulty}}, reply.Reply.{Reply}}
use Rattle.lz_proto.specs.{declared.{reply.Reply.TheVariants.{Yes, No, Full, Halted, Worn, OldFile}, end.End.{End}}, Lines.{Items}, Pieces.{Reads}}

abbrev pub reply_text : Reply → List ℕ
reply_text Yes = codes "yes\n"
reply_text No = codes "no\n"
reply_text Full = codes "full\n"
reply_text Halted = codes "halted\n"
reply_text Worn = codes "worn\n"
reply_text OldFile = codes "oldfile\n"

abbrev pub bad_text : Bad → List ℕ
bad_text TooLong = codes "bad 1\n"
bad_text NoCommand = codes "bad 2\n"
bad_text NoNumber = codes "bad 3\n"
bad_text KeyTooLarge = codes "bad 4\n"
bad_text NoEnd = codes "bad 5\n"
bad_text BadRoom = codes "bad 6\n"

-- The texts of faults and replies in the order of the items, up to `quit`, the end or the first `halted`.
abbrev pub session_text : List Item → List Reply → List ℕ
session_text [] replies = []
session_text (Faulty bad ∷ items) replies = bad_text bad ++ session_text items replies
session_text (Asks Quit ∷ items) replies = []
session_text (Asks request ∷ items) [] = []
session_text (Asks request ∷ items) (Halted ∷ replies) = reply_text Halted
session_text (Asks request ∷ items) (reply ∷ replies) = reply_text reply ++ session_text items replies

-- The service goes from one state to another by these replies to what the items ask, up to `quit`, the end or `halted`.
abbrev pub Serves : {S : Type 0} → (S → Request → Reply → S → Type 0) → S → List Item → List Reply → S → Type 0
Serves answers old [] [] new = new ≡ old
Serves answers old [] (reply ∷ replies) new = ⊥
Serves answers old (Faulty bad ∷ items) replies new = Serves answers old items replies new
Serves answers old (Asks Quit ∷ items) [] new = new ≡ old
Serves answers old (Asks Quit ∷ items) (reply ∷ replies) new = ⊥
Serves answers old (Asks request ∷ items) [] new = ⊥
Serves answers old (Asks request ∷ items) (Halted ∷ replies) new = answers old request Halted new × (replies ≡ [])
Serves {S = S} answers old (Asks request ∷ items) (reply ∷ replies) new =
    (mid : S) × answers old request reply mid × Serves answers mid items replies new

-- how a session over these items ends
abbrev pub end_of : List Item → List Reply → End
end_of [] replies = ends.Done
end_of (Faulty bad ∷ items) replies = end_of items replies
end_of (Asks Quit ∷ items) replies = ends.Quit
end_of (Asks request ∷ items) [] = ends.Done
end_of (Asks request ∷ items) (Halted ∷ replies) = ends.Halted
end_of (Asks request ∷ items) (reply ∷ replies) = end_of items replies

-- the number by which a program tells a session's fault
abbrev pub session_fault_number : SessionFault → ℕ
session_fault_number Read = 1
session_fault_number Write = 2
session_fault_number Memory = 3

-- The items were answered, up to `quit`, `halted` or their end, and this was written.
pub record Answered {S : Type 0} (answers : S → Request → Reply → S → Type 0) (old : S) (items : List Item) (new : S) (written : List ℕ) (ended : End) : Type 0 where
  pub replies : List Reply
  pub served : Serves answers old items replies new
  pub text : written ≡ session_text items replies
  pub ends : end_of items replies ≡ ended

-- A write failed at one of the items: those before it were answered whole, its own request was asked, and none after it.
-- What was sent of its own text is not all.
pub record CutOff {S : Type 0} (answers : S → Request → Reply → S → Type 0) (old : S) (items : List Item) (new : S) (written : List ℕ) : Type 0 where
  pub done : List Item
  pub item : Item
  pub rest : List Item
  pub whole : items ≡ done ++ item ∷ rest
  pub mid : S
  pub before : List ℕ
  pub answered : Answered answers old done mid before ends.Done
  pub reply : List Reply
  pub served : Serves answers mid (item ∷ []) reply new
  pub sent : ℕ
  pub part : sent < length (session_text (item ∷ []) reply)
  pub text : written ≡ before ++ take sent (session_text (item ∷ []) reply)

-- the text is what the reader has left, where it tells
abbrev pub IsInput : Option (List ℕ) → List ℕ → Type 0
IsInput None text = Unit {0}
IsInput (Some bytes) text = text ≡ bytes

-- The items of the whole input were answered.
pub record Whole {S : Type 0} (answers : S → Request → Reply → S → Type 0) (input : Option (List ℕ)) (old new : S) (written : List ℕ) (ended : End) : Type 0 where
  pub text : List ℕ
  pub known : IsInput input text
  pub items : List Item
  pub its : Items text items
  pub answered : Answered answers old items new written ended

-- The items of the text were answered as far as its lines ended.
pub record Stopped {S : Type 0} (answers : S → Request → Reply → S → Type 0) (text : List ℕ) (old new : S) (written : List ℕ) : Type 0 where
  pub items : List Item
  pub left : Option (List ℕ)
  pub its : Reads text items left
  pub answered : Answered answers old items new written ends.Done

-- The items of the text were answered up to one whose reply wasn't written whole. What stands after the last line counts
-- where the input ends there.
pub record Broken {S : Type 0} (answers : S → Request → Reply → S → Type 0) (after : Option (List ℕ)) (text : List ℕ) (old new : S) (written : List ℕ) : Type 0 where
  pub items : List Item
  pub its : (IsAtEnd after × Items text items) ⊎ ((left : Option (List ℕ)) × Reads text items left)
  pub cut : CutOff answers old items new written

-- What a session read, did and wrote, as its result tells: `input` is what the reader had left, and `after` what it has.
abbrev pub SessionTells : {S : Type 0} → (S → Request → Reply → S → Type 0) → Option (List ℕ) → Option (List ℕ) → S → S → List ℕ → Result End SessionFault → Type 0
SessionTells answers input after old new written (Ok ended) = Whole answers input old new written ended
SessionTells answers input after old new written (Err Read) = (text : List ℕ) × Consumes input after text × Stopped answers text old new written
SessionTells answers input after old new written (Err Write) = (text : List ℕ) × Consumes input after text × Broken answers after text old new written
SessionTells answers input after old new written (Err Memory) =
    (text : List ℕ) × (piece : List ℕ) × Consumes input after (text ++ piece) × Stopped answers text old new written

-- something was written, of which this holds
abbrev pub Writes : Option (List ℕ) → Option (List ℕ) → (List ℕ → Type 0) → Type 0
Writes old new P = (written : List ℕ) × Appends old new written × P written
