use Rattle.std.proofs.Common.{◌≡◌, ◌++◌, ◌-◌, ◌+◌}
use Rattle.lz_forget.specs.Askings.{rooms_of}
use Rattle.lz_forget.proofs.asking.push_rooms_of.Given as goal

abbrev pub invariant-ages : goal.invariant-ages
invariant-ages l =
    record {
      range : l.age + l.left ≡ l.to;
      rooms : l.all.items ++ rooms_of l.live l.age l.left l.key ≡ l.initial.all.items ++ rooms_of l.live l.from (l.to - l.from) l.key;
    }

abbrev pub decreases-ages : goal.decreases-ages
decreases-ages l = l.left
