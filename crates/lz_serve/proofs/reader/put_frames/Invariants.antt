use Rattle.lz_serve.proofs.reader.put_frames.Given as goal
use Rattle.std.proofs.Common.{◌≡◌, ◌++◌, List, map, length}
use Rattle.lz_resp.specs.declared.item.Item.{Item}
use Rattle.lz_serve.specs.Exchanges.{adding, of_frame}

abbrev pub invariant-loop-item : goal.invariant-loop-item
invariant-loop-item l = (done : List Item) × (l.fn.items.items ≡ done ++ l.items.items) × (l.exchanges ≡ adding (map of_frame done) l.fn.exchanges)

abbrev pub decreases-loop-item : goal.decreases-loop-item
decreases-loop-item l = length l.items.items
