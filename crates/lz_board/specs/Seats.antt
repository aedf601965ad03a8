-- What a clause reads of a board, of its pen and of a pass.
use Rattle.std.specs.Prelude.{◌≡◌, ◌-◌, ◌≤◌, ℕ, suc, List, [], ◌∷◌}
use Rattle.atomic_table.specs.Seated.{TableId}
use Rattle.lz_list.specs.{Traces.{Trace}, declared.layout.Sizes.{Sizes}}
use Rattle.lz_machine.specs.Table.{last_pin}
use Rattle.lz_board.specs.{declared.{view.{Note.{Note}, Part.{Part}, View.{View}}, board.{Board.{Board}, Pen.{Pen}}, pass.Pass.{Pass}}, Opened.{opened_by}}
use Rattle.lz_board.specs.Plays.{no_sizes, alone, pen_view, fresh, parts_from}

-- which board it is: its table, how large it is, and the trace with which its life began
pub record BoardId : Type 0 where
  pub table : TableId
  pub sizes : Sizes
  pub opened : Trace

-- the board of a handle
abbrev pub id_of : Board → BoardId
id_of b = record { table = b.table.shared.table_id; sizes = b.table.shared.key.sizes; opened = opened_by b.table.shared.key.words.value }

-- the first of some parts
abbrev pub first_of : List Part → Part
first_of [] = fresh no_sizes [] 0
first_of (h ∷ hs) = h

-- the part at a seat with one view
abbrev pub part_at : List View → Part
part_at [] = fresh no_sizes [] 0
part_at (v ∷ vs) = first_of v.held

-- what the pass knows
abbrev pub part : Pass → Part
part p = part_at p.badge.views

-- the pass's part is one of this board, and the pass has its number and its pin word at hand
pub record IsAtHand (b : BoardId) (p : Pass) (h : Part) : Type 0 where
  pub sized : h.sizes ≡ b.sizes
  pub numbered : (1 ≤ h.number) × (h.number ≤ b.sizes.passes)
  pub number : p.number ≡ h.number
  pub pin : p.pin ≡ h.pin
  pub worn : h.pin ≤ last_pin

-- the pass has a seat at this board
abbrev pub IsOf : BoardId → Pass → Type 0
IsOf b p = (p.badge.table_id ≡ b.table) × (p.badge.views ≡ alone (part p) ∷ []) × IsAtHand b p (part p)

-- the pass has a seat at this board, and has done nothing yet: it is outside, and has no call
abbrev pub IsNew : BoardId → Pass → Type 0
IsNew b p = IsOf b p × (part p ≡ fresh b.sizes b.opened p.number)

-- the pen's notes
abbrev pub notes : Pen → List Note
notes pen = pen.seat.me.0.notes

-- the part that has joined the pen
abbrev pub carried : Pen → Part
carried pen = first_of pen.seat.me.0.held

-- the pen of this board, alone
abbrev pub IsPenOf : BoardId → Pen → Type 0
IsPenOf b pen = (pen.seat.table_id ≡ b.table) × (pen.seat.me ≡ (pen_view b.sizes b.opened (notes pen) [], []))

-- the pen of this board, which a pass has joined
abbrev pub Carries : BoardId → Pen → Type 0
Carries b pen = (pen.seat.table_id ≡ b.table) × (pen.seat.me ≡ (pen_view b.sizes b.opened (notes pen) (carried pen ∷ []), []))

-- the pen of this board, which holds the parts of the passes from n on, and has done nothing yet
abbrev pub HasParts : BoardId → ℕ → Pen → Type 0
HasParts b n pen = (pen.seat.table_id ≡ b.table) × (pen.seat.me ≡ (pen_view b.sizes b.opened [] (parts_from b.sizes b.opened (suc b.sizes.passes - n) n), []))
