use Rattle.lz_list.proofs.table.Words.shows_chain.Goals as goal
use Rattle.lz_list.proofs.Searches.ChainSearch.{reached_head, reached_next, chain_tells}

pub loop-slot-init : goal.loop-slot-init
loop-slot-init c = reached_head c.args.self.now c.args.bucket c.requires

pub loop-slot-preserved : goal.loop-slot-preserved
loop-slot-preserved c = reached_next c.args.self.now c.args.bucket c.loop-slot.place c.loop-slot.invariant c.in-Some.slot c.in-Some.ensures.some

pub returns : goal.returns
returns c = rw c.next.ensures (chain_tells c.args.self.now c.args.bucket c.loop-slot.place c.loop-slot.invariant c.in_default.ensures.none)
