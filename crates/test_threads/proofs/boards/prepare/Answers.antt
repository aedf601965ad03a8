use Rattle.test_threads.proofs.boards.prepare.Goals as goal
use Rattle.std.proofs.Common.{◌∷◌, ◌∙◌}
use Rattle.lz_list.specs.declared.publishing.Publishing.TheVariants.{KeyPrepared as key_prepared, LinkPrepared as link_prepared}
use Rattle.lz_board.specs.Seats.{id_of}
use Rattle.test_threads.proofs.TwoSlots.{writes_key, lawful_key, leaves_key, writes_link, lawful_link, leaves_link}

pub publish-requires-clause-writes : goal.publish-requires-clause-writes
publish-requires-clause-writes c =
    let b = id_of c.args.board.now in
    let h = c.requires.here in
    writes_key b.sizes b.opened _ c.args.slot c.args.twelve h.sized c.requires.slot c.requires.twelve h.trace

pub publish-requires-clause-lawful : goal.publish-requires-clause-lawful
publish-requires-clause-lawful c =
    let b = id_of c.args.board.now in
    let h = c.requires.here in
    lawful_key b.sizes b.opened _ c.args.slot c.args.twelve h.sized c.requires.slot c.requires.twelve h.trace

pub publish-requires-clause-prepares : goal.publish-requires-clause-prepares
publish-requires-clause-prepares c =
    let b = id_of c.args.board.now in
    let h = c.requires.here in
    leaves_key b.sizes b.opened _ c.args.slot c.args.twelve h.sized c.requires.slot c.requires.twelve h.opened h.trace

pub publish-requires-2-clause-writes : goal.publish-requires-2-clause-writes
publish-requires-2-clause-writes c =
    let b = id_of c.args.board.now in
    let h = c.requires.here in
    let at_key = c.publish.ensures.trace ∙ (λ i. key_prepared (c.requires.slot i) (c.requires.twelve i) ∷ h.trace i) in
    writes_link b.sizes b.opened _ c.args.slot c.args.twelve h.sized c.requires.slot c.requires.twelve at_key

pub publish-requires-2-clause-lawful : goal.publish-requires-2-clause-lawful
publish-requires-2-clause-lawful c =
    let b = id_of c.args.board.now in
    let h = c.requires.here in
    let at_key = c.publish.ensures.trace ∙ (λ i. key_prepared (c.requires.slot i) (c.requires.twelve i) ∷ h.trace i) in
    lawful_link b.sizes b.opened _ c.args.slot c.args.twelve h.sized c.requires.slot c.requires.twelve at_key

pub publish-requires-2-clause-prepares : goal.publish-requires-2-clause-prepares
publish-requires-2-clause-prepares c =
    let b = id_of c.args.board.now in
    let h = c.requires.here in
    let at_key = c.publish.ensures.trace ∙ (λ i. key_prepared (c.requires.slot i) (c.requires.twelve i) ∷ h.trace i) in
    leaves_link b.sizes b.opened _ c.args.slot c.args.twelve h.sized c.requires.slot c.requires.twelve h.opened at_key

pub returns-clause-here : goal.returns-clause-here
returns-clause-here c =
    let h = c.requires.here in
    record {
      sized = h.sized;
      opened = h.opened;
      pen = c.publish-2.ensures.pen;
      pass = c.publish-2.ensures.pass;
      outside = c.publish-2.ensures.outside;
      trace = c.publish-2.ensures.trace ∙ (λ i. link_prepared (c.requires.slot i) 0 ∷ (c.publish.ensures.trace ∙ (λ j. key_prepared (c.requires.slot j) (c.requires.twelve j) ∷ h.trace j)) i);
    }
