-- Questions that are put to passes, and the replies that these grant.
use Rattle.std.specs.Prelude.{◌≡◌, ℕ, Bool, All, List, [], ◌∷◌, ◌++◌, Option, Some, None, ⊤}
use Rattle.lz_slot.specs.declared.format.Format.{Format}
use Rattle.lz_list.specs.Traces.{Begins}
use Rattle.lz_proto.specs.declared.{request.Request.{Request, TheVariants.{Add, Remove, Has, Quit}}, reply.Reply.{Reply}}
use Rattle.lz_board.specs.{declared.pass.Pass.{Pass}, Seats.{BoardId, part}}
use Rattle.lz_serve.specs.{Listings.{IsListing, Listing}, Replies.{SeatAnswers}}

-- A request as it was put: the numbers of its connection and of the line there, the pass that is to answer as it was then, and whether an
-- earlier line of its connection wasn't answered then.
pub record Posed : Type 0 where
  pub connection : ℕ
  pub line : ℕ
  pub request : Request
  pub before : Pass
  pub earlier : Bool

-- A reply to a question, and the pass that gave it as it was after that.
pub record Grant : Type 0 where
  pub question : Posed
  pub reply : Reply
  pub after : Pass

-- The reply was granted to this request, the line of this number on this connection.
pub record IsOfLine (connection number : ℕ) (request : Request) (reply : Reply) (g : Grant) : Type 0 where
  pub of_connection : g.question.connection ≡ connection
  pub of_number : g.question.line ≡ number
  pub of_request : g.question.request ≡ request
  pub of_reply : g.reply ≡ reply

-- The pass answered the question so, as a seat does, on this board over a file of this format.
abbrev pub IsGrant : BoardId → Format → Grant → Type 0
IsGrant b F g = SeatAnswers b F g.question.earlier g.question.before g.question.request g.reply g.after

-- the key for which a request asks; `quit` asks for none
abbrev pub key_asked : Request → Option ℕ
key_asked (Add k) = Some k
key_asked (Remove k) = Some k
key_asked (Has k) = Some k
key_asked Quit = None

-- Where both are for one key, the question of the second was put to a pass that had seen all that the pass of the first had at its answer.
abbrev pub IsAfter : Grant → Grant → Type 0
IsAfter e g = key_asked e.question.request ≡ key_asked g.question.request → Begins (part e.after).known (part g.question.before).known

-- it comes after each of these, as far as they are for its key
abbrev pub IsLater : List Grant → Grant → Type 0
IsLater grants g = All (λ e. IsAfter e g) grants

-- each of these comes after those before it, as far as they are for its key
abbrev pub AreInTurn : List Grant → Type 0
AreInTurn [] = ⊤
AreInTurn (e ∷ grants) = All (λ g. IsAfter e g) grants × AreInTurn grants

-- a pass of this board gave each of these, those for one key in turn
abbrev pub AreGranted : BoardId → Format → List Grant → Type 0
AreGranted b F grants = All (IsGrant b F) grants × AreInTurn grants

-- P holds of no grants, and of those of which it holds with one more that a pass of this board gives and that comes after them; L of what
-- a pass of this board lists.
abbrev pub Promises : BoardId → Format → (List Grant → Type 0) → (Listing → Type 0) → Type 0
Promises b F P L =
    P [] × ((grants : List Grant) (g : Grant) → P grants → IsGrant b F g → IsLater grants g → P (grants ++ g ∷ [])) × ((l : Listing) → IsListing b l → L l)
