use Rattle.test_threads.proofs.boards.link.Goals as goal
use Rattle.std.proofs.Common.{◌∷◌, ◌∙◌}
use Rattle.lz_list.specs.declared.publishing.Publishing.TheVariants.{Linked as linked}
use Rattle.lz_board.specs.Seats.{id_of}
use Rattle.test_threads.proofs.TwoSlots.{writes_linked, lawful_linked}

pub publish-requires-clause-writes : goal.publish-requires-clause-writes
publish-requires-clause-writes c =
    let b = id_of c.args.board.now in
    let h = c.requires.here in
    writes_linked b.sizes b.opened _ c.args.slot c.args.twelve h.sized c.requires.slot c.requires.twelve c.number-owner.result c.new.result c.new.ensures h.trace

pub publish-requires-clause-lawful : goal.publish-requires-clause-lawful
publish-requires-clause-lawful c =
    let b = id_of c.args.board.now in
    let h = c.requires.here in
    lawful_linked b.sizes b.opened _ c.args.slot c.args.twelve h.sized c.requires.slot c.requires.twelve c.number-owner.result h.trace

pub returns-clause-here : goal.returns-clause-here
returns-clause-here c =
    let h = c.requires.here in
    record {
      sized = h.sized;
      opened = h.opened;
      pen = c.publish.ensures.pen;
      pass = c.publish.ensures.pass;
      outside = c.publish.ensures.outside;
      trace = c.publish.ensures.trace ∙ (λ i. linked (c.requires.twelve i) (c.requires.slot i) (c.number-owner.ensures i) ∷ h.trace i);
    }
