-- A conversation of lines is a session.
use Rattle.lz_proto.specs.declared.end.End.TheVariants as ends
use Rattle.lz_serve.specs.declared.reader.Reader.TheVariants as reader
use Rattle.std.specs.Prelude.{◌≡◌, ◌≢◌, ℕ, suc, false, List, [], ◌∷◌, ◌++◌, length, Option, Some, None}
use Rattle.lz_proto.specs.declared.{request.Request.{Request, TheVariants.{Quit}}, item.Item.{Item, TheVariants.{Asks, Faulty}}, reply.Reply.{Reply}, end.End.{End}}
use Rattle.lz_proto.specs.{Lines.{Items}, Pieces.{Reads}, Sessions.{Answered, bad_text}}
use Rattle.lz_serve.specs.{declared.{language.Language.TheVariants.{Lines}, reader.Reader.{Reader}, turn.Wording.TheVariants.{Line}}, Conversations.{IsAt, Talk}}
use Rattle.lz_serve.specs.{Exchanges.{read_as, refusal}, Grants.{Grant, IsOfLine}, Listings.{Listing}}

-- One reply more was granted: this one, to this request, which is the line after as many as were granted replies before, on this connection.
abbrev pub IsGranted : ℕ → List Grant → Request → Reply → List Grant → Type 0
IsGranted connection old request reply new = (g : Grant) × (new ≡ old ++ g ∷ []) × IsOfLine connection (suc (length old)) request reply g

-- the items are those of the text, up to what the reader keeps of it; none is left where the text has ended
abbrev pub LinesCame : List ℕ → List Item → Option Reader → Type 0
LinesCame text items (Some (reader.Lines kept)) = Reads text items kept
LinesCame text items (Some _) = ⊥
LinesCame text items None = Items text items

-- what is told of lines that are refused, up to `quit` or their end: of a request that nothing was done, and of a fault as ever
abbrev pub refused_text : List Item → List ℕ
refused_text [] = []
refused_text (Faulty bad ∷ items) = bad_text bad ++ refused_text items
refused_text (Asks Quit ∷ items) = []
refused_text (Asks request ∷ items) = refusal Line ++ refused_text items

-- how a conversation goes on after them
abbrev pub refused_end : List Item → End
refused_end [] = ends.Done
refused_end (Faulty bad ∷ items) = refused_end items
refused_end (Asks Quit ∷ items) = ends.Quit
refused_end (Asks request ∷ items) = refused_end items

-- a session stood so before lines that were refused, and the conversation stands so after them: none is refused once the session has ended
abbrev pub EndsAfter : End → List Item → End → Type 0
EndsAfter before [] after = after ≡ before
EndsAfter before (item ∷ items) after = (before ≡ ends.Done) × (after ≡ refused_end (item ∷ items))

-- Of the items of the text the first ones were answered, each request by the reply that was granted next. Where the service stops the next
-- ones were refused, of which none was begun: no request of theirs was granted a reply, and once one is told so none of the client's is under way
-- or waits. What was sent and is to be sent is the text of that session, and after it what is told of those. As many are left as there are turns.
pub record IsSession (connection : ℕ) (grants : List Grant) (text sent : List ℕ) (t : Talk) : Type 0 where
  pub done : List Item
  pub refused : List Item
  pub left : List Item
  pub came : LinesCame text (done ++ (refused ++ left)) t.reader
  pub many : length left ≡ length t.turns
  pub said : List ℕ
  pub ended : End
  pub answered : Answered (IsGranted connection) [] done grants said ended
  pub told : sent ++ t.unsent ≡ said ++ refused_text refused
  pub ends : EndsAfter ended refused t.ended
  pub goes : t.stops ≡ false → refused ≡ []
  pub unbegun : refused ≢ [] → (t.under ≡ []) × (t.waiting ≡ [])

-- A conversation whose text is read as lines stands within a session, whatever is so of pages.
abbrev pub LinesAreSessions : (Listing → Type 0) → Type 0
LinesAreSessions L =
    (connection : ℕ) (grants : List Grant) (text sent : List ℕ) (t : Talk) → read_as t.spoken text ≡ Lines → IsAt L connection grants text sent t
    → IsSession connection grants text sent t
