-- What the steps of a session do.
use Rattle.lz_proto.specs.declared.end.End.TheVariants as ends
use Rattle.std.specs.{Prelude.{◌≡◌, ℕ, ◌<◌, List, [], length, take, Option, Result, Ok, Err}, Io.KnownBytes.{Appends}}
use Rattle.lz_proto.specs.declared.{request.Request.{Request}, item.Item.{Item}, reply.Reply.{Reply, TheVariants.{Halted}}, fault.SessionFault.{SessionFault}}
use Rattle.lz_proto.specs.{declared.{fault.SessionFault.TheVariants.{Read, Write, Memory}, end.End.{End}}, Pieces.{Feeds}, Sessions.{Answered, CutOff}}

-- how a session goes on after a reply
abbrev pub end_after : Reply → End
end_after Halted = ends.Halted
end_after reply = ends.Done

-- of the text a part was written that isn't all
abbrev pub IsCutShort : Option (List ℕ) → Option (List ℕ) → List ℕ → Type 0
IsCutShort before after text = (sent : ℕ) × (sent < length text) × Appends before after (take sent text)

-- a text was sent whole, or it was cut short, and then a write failed
abbrev pub SendTells : Option (List ℕ) → Option (List ℕ) → List ℕ → Result (Unit {0}) SessionFault → Type 0
SendTells old new text (Ok done) = Appends old new text
SendTells old new text (Err Read) = ⊥
SendTells old new text (Err Write) = IsCutShort old new text
SendTells old new text (Err Memory) = ⊥

-- what was written for the items, as the result tells
abbrev pub AnswersTell : {S : Type 0} → (S → Request → Reply → S → Type 0) → S → List Item → S → List ℕ → Result End SessionFault → Type 0
AnswersTell answers old items new written (Ok ended) = Answered answers old items new written ended
AnswersTell answers old items new written (Err Read) = ⊥
AnswersTell answers old items new written (Err Write) = CutOff answers old items new written
AnswersTell answers old items new written (Err Memory) = ⊥

-- what was written for a piece, after the text that was kept, as the result tells
abbrev pub PieceTells : {S : Type 0} → (S → Request → Reply → S → Type 0) → Option (List ℕ) → List ℕ → Option (List ℕ) → S → S → List ℕ → Result End SessionFault → Type 0
PieceTells answers kept piece left old new written (Ok ended) = (items : List Item) × Feeds kept piece items left × Answered answers old items new written ended
PieceTells answers kept piece left old new written (Err Read) = ⊥
PieceTells answers kept piece left old new written (Err Write) = (items : List Item) × Feeds kept piece items left × CutOff answers old items new written
PieceTells answers kept piece left old new written (Err Memory) = (left ≡ kept) × (new ≡ old) × (written ≡ [])
