use Rattle.test_threads.proofs.boards.settle.Goals as goal
use Rattle.std.proofs.Common.{◌∷◌, refl, ◌∙◌}
use Rattle.lz_list.specs.declared.publishing.{Change.TheVariants.{Added}, Publishing.TheVariants.{Settled as settled}}
use Rattle.lz_board.specs.Seats.{id_of}
use Rattle.test_threads.proofs.TwoSlots.{writes_settled, lawful_settled}

pub publish-requires-clause-writes : goal.publish-requires-clause-writes
publish-requires-clause-writes c =
    let b = id_of c.args.board.now in
    let h = c.requires.here in
    writes_settled b.sizes b.opened _ c.args.slot 12 h.sized c.requires.slot refl _ h.trace

pub publish-requires-clause-lawful : goal.publish-requires-clause-lawful
publish-requires-clause-lawful c =
    let b = id_of c.args.board.now in
    let h = c.requires.here in
    lawful_settled b.sizes b.opened _ c.args.slot 12 h.sized c.requires.slot refl _ h.trace

pub returns-clause-here : goal.returns-clause-here
returns-clause-here c =
    let h = c.requires.here in
    record {
      sized = h.sized;
      opened = h.opened;
      pen = c.publish.ensures.pen;
      pass = c.publish.ensures.pass;
      outside = c.publish.ensures.outside;
      trace = c.publish.ensures.trace ∙ (λ i. settled (c.requires.slot i) Added ∷ h.trace i);
    }
