use Rattle.lz_board.proofs.board.Board.list_slots.Given as goal
use Rattle.std.proofs.Common.{◌≡◌, ◌⊎◌, ◌≤◌, ◌+◌, vec_capacity, vec_len}
use Rattle.lz_machine.specs.Yards.{IsInside}
use Rattle.lz_board.specs.{Notes.{Since}, Plays.{knowing}, Seats.{id_of, part, IsOf}, Listings.{Listed}}

abbrev pub invariant-loop-index : goal.invariant-loop-index
invariant-loop-index l = record {
  here : IsOf (id_of l.self) l.pass;
  same : part l.pass ≡ knowing (part l.pass).known (part l.fn.pass);
  since : Since (part l.fn.pass).number (part l.pass).known (part l.fn.pass).known;
  inside : IsInside l.pass.pin;
  listed : Listed l.fn.from l.index l.keys.items (part l.fn.pass).begun (part l.pass).known;
  few : vec_len l.keys ≤ l.fn.most;
  slots : vec_len l.keys + l.fn.from ≤ l.index;
  upto : (l.index ≡ l.fn.from) ⊎ (l.index ≤ l.upto);
  room : vec_capacity l.keys ≡ vec_capacity l.fn.room;
}
