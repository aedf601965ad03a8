use Rattle.lz_serve.proofs.desk.Desk.sync_all.Given as goal
use Rattle.std.specs.Prelude.{◌≡◌, ◌≢◌, ◌+◌, ◌≤◌, All, Some, map, option_map, take, vec_capacity, vec_len}
use Rattle.lz_board.specs.Seats.{part}
use Rattle.lz_set.specs.declared.underway.Blocked.TheVariants.{Syncs}
use Rattle.lz_serve.specs.{Askings.{Asked}, Desks.{IsDesk, count_of}}

abbrev pub invariant-loop-at : goal.invariant-loop-at
invariant-loop-at g l = record {
  given : l.self-inside.given ≡ l.fn.self.given;
  long : vec_len l.self-inside.calls ≡ l.at-end;
  synced : All (λ (a : Asked). a.stage ≢ Some Syncs) (take l.at l.self-inside.calls.items);
  within : l.self-inside.crowd.begun + l.self-inside.left ≤ l.fn.self.begun + l.fn.self.left;
  desk : IsDesk l.self-inside.given l.self-inside.most (vec_len l.self-inside.free + count_of l.self-inside.meeting) (vec_capacity l.self-inside.free)
      (vec_capacity l.self-inside.calls) l.self-inside.crowd (option_map (λ free. (part free.pass).known) l.self-inside.meeting) l.self-inside.calls.items
      (map (λ free. (part free.pass).known) l.self-inside.free.items);
}
