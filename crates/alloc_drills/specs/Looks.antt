-- Who may look at a board.
use Rattle.std.specs.Prelude.{◌≡◌, false}
use Rattle.lz_board.specs.{declared.{board.Board.{Board}, pass.Pass.{Pass}}, Kept.{is_calling}, Seats.{id_of, part, IsOf}}

-- the pass has a seat at this board, and no call open
abbrev pub MayLook : Board → Pass → Type 0
MayLook board pass = IsOf (id_of board) pass × (is_calling (id_of board).sizes (part pass).steps ≡ false)
