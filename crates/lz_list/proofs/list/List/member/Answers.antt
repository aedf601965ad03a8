use Rattle.lz_list.proofs.list.List.member.Goals as goal
use Rattle.std.proofs.Common.{arith}
use mathlib.Core.Bool.{false≢true}
use Rattle.lz_list.proofs.{Chains.SortedChain.{node_slot}, Searches.KeySearch.{node_tells}}

pub is_marked-requires : goal.is_marked-requires
is_marked-requires c = grind (arith, node_slot)

pub returns-in-None : goal.returns-in-None
returns-in-None c =
    let none = rw c.rank.ensures.value at c.in-None.ensures.none in
    ((λ never. absurd (false≢true never)), (λ is. absurd (none is.0 is.1)))

pub returns-in-Some : goal.returns-in-Some
returns-in-Some c =
    let node = rw (c.rank.ensures.value, ← c.self.view_is) at c.in-Some.ensures.some in
    rw (c.is_marked.ensures, ← c.self.view_is) (node_tells c.self.inside.words c.args.key c.in-Some.slot node)
