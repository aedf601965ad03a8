use Rattle.lz_list.proofs.list.List.place_before.Goals as goal
use Rattle.lz_list.proofs.Searches.KeySearch.{head_before}

pub loop-slot-init : goal.loop-slot-init
loop-slot-init c = rw (c.home.ensures, ← c.self.view_is) (head_before c.self.inside.words c.self.invariant.table c.args.key c.self.invariant.sorted)
