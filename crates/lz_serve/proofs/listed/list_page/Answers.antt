use Rattle.lz_serve.proofs.listed.list_page.Goals as goal
use Rattle.lz_board.specs.Seats.{part}
use Rattle.lz_serve.proofs.Listings.{lists_grow}

pub returns-in-Err-Memory-clause-grows : goal.returns-in-Err-Memory-clause-grows
returns-in-Err-Memory-clause-grows g c = lists_grow g.N.Named.board.sizes.slots c.args.scan.from c.max.result c.list.result (part c.args.pass.now) (part c.list.new.pass) c.list.ensures.lists

pub returns-clause-grows : goal.returns-clause-grows
returns-clause-grows g c = lists_grow g.N.Named.board.sizes.slots c.args.scan.from c.max.result c.list.result (part c.args.pass.now) (part c.list.new.pass) c.list.ensures.lists
