use Rattle.lz_serve.proofs.desk.Desk.play_all.Given as goal
use Rattle.std.specs.Prelude.{◌≡◌, ◌+◌, ◌≤◌, All, true, map, option_map, vec_capacity, vec_len}
use Rattle.lz_board.specs.Seats.{part}
use Rattle.lz_serve.specs.Desks.{AnswersOneOf, IsDesk, count_of}

abbrev pub invariant-calls : goal.invariant-calls
invariant-calls g l = record {
  given : l.self-inside.given ≡ l.fn.self.given;
  ends : l.fn.self.ends ≡ true → (l.self-inside.ends ≡ true) × All (AnswersOneOf l.fn.self.calls) l.self-inside.calls.items;
  within : l.self-inside.crowd.begun + l.self-inside.left ≤ l.fn.self.begun + l.fn.self.left;
  desk : IsDesk l.self-inside.given l.self-inside.most (vec_len l.self-inside.free + count_of l.self-inside.meeting) (vec_capacity l.self-inside.free)
      (vec_capacity l.self-inside.calls) l.self-inside.crowd (option_map (λ free. (part free.pass).known) l.self-inside.meeting) l.self-inside.calls.items
      (map (λ free. (part free.pass).known) l.self-inside.free.items);
}
