use Rattle.std.proofs.Common.{◌≡◌, ◌++◌, ◌-◌, take}
use Rattle.lz_forget.specs.Askings.{all_rooms_of}
use Rattle.lz_forget.proofs.asking.push_rooms.Given as goal

abbrev pub invariant-loop-key : goal.invariant-loop-key
invariant-loop-key l = l.all.items ≡ l.initial.all.items ++ all_rooms_of l.live l.from (l.to - l.from) (take l.key-index l.keys)
