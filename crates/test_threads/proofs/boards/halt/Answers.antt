use Rattle.test_threads.proofs.boards.halt.Goals as goal
use Rattle.std.proofs.Common.{refl}
use Rattle.lz_board.specs.Seats.{id_of}
use Rattle.test_threads.proofs.TwoSlots.{writes_halt, lawful_halt}

pub publish-requires-clause-writes : goal.publish-requires-clause-writes
publish-requires-clause-writes c =
    let b = id_of c.args.board.now in
    writes_halt b.sizes b.opened _ 1 12 c.requires.sized refl refl _ c.requires.trace

pub publish-requires-clause-lawful : goal.publish-requires-clause-lawful
publish-requires-clause-lawful c =
    let b = id_of c.args.board.now in
    lawful_halt b.sizes b.opened _ 1 12 c.requires.sized refl refl _ c.requires.trace
