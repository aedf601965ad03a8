-- What may have been sent to a client whose text is known.
use Rattle.std.specs.Prelude.{◌≡◌, ◌≤◌, ℕ, Bool, true, List, [], ◌++◌, length}
use Rattle.lz_slot.specs.declared.format.Format.{Format}
use Rattle.lz_proto.specs.{declared.{item.Item.{Item}, end.End.{End}}, Lines.{Items}, Sessions.{Answered}}
use Rattle.lz_board.specs.Seats.{BoardId}
use Rattle.lz_serve.specs.{LineSessions.{IsGranted}, Grants.{AreGranted, Grant}}

-- It is a beginning of what the client is told of the first items of its text: each request was
-- granted its reply, as the line of its number on one connection, by a pass of this board, those for one key in turn.
pub record IsTold (b : BoardId) (F : Format) (text sent : List ℕ) : Type 0 where
  pub items : List Item
  pub more : List Item
  pub its : Items text (items ++ more)
  pub grants : List Grant
  pub granted : AreGranted b F grants
  pub rest : List ℕ
  pub ended : End
  pub connection : ℕ
  pub answered : Answered (IsGranted connection) [] items grants (sent ++ rest) ended

-- So much of the client's text has come, all of it where it has ended, and this was sent.
pub record IsTape (b : BoardId) (F : Format) (text : List ℕ) (read : ℕ) (ended : Bool) (sent : List ℕ) : Type 0 where
  pub within : read ≤ length text
  pub whole : ended ≡ true → read ≡ length text
  pub told : IsTold b F text sent
