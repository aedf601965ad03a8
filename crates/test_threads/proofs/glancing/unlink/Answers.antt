use Rattle.test_threads.proofs.glancing.unlink.Goals as goal
use Rattle.std.proofs.Common.{◌∷◌, sym, ap, ◌∙◌}
use Rattle.lz_list.specs.declared.publishing.{Change.TheVariants.{Removed}, Publishing.TheVariants.{Marked as marked, Settled as settled}}
use Rattle.lz_board.specs.Seats.{id_of}
use Rattle.test_threads.specs.NineFound.{when_settled}
use Rattle.test_threads.proofs.TwoSlots.{writes_marked, lawful_marked, writes_removed, lawful_removed, writes_unlinked, lawful_unlinked}

pub publish-requires-clause-writes : goal.publish-requires-clause-writes
publish-requires-clause-writes c =
    let b = id_of c.args.board.now in
    let h = c.requires.here in
    let p = c.number-owner.result in
    let at_settled = h.trace ∙ ap when_settled (sym c.number-owner.ensures) in
    writes_marked b.sizes b.opened _ c.args.slot c.args.twelve h.sized c.requires.slot c.requires.twelve p at_settled

pub publish-requires-clause-lawful : goal.publish-requires-clause-lawful
publish-requires-clause-lawful c =
    let b = id_of c.args.board.now in
    let h = c.requires.here in
    let p = c.number-owner.result in
    let at_settled = h.trace ∙ ap when_settled (sym c.number-owner.ensures) in
    lawful_marked b.sizes b.opened _ c.args.slot c.args.twelve h.sized c.requires.slot c.requires.twelve p at_settled

pub publish-requires-2-clause-writes : goal.publish-requires-2-clause-writes
publish-requires-2-clause-writes c =
    let b = id_of c.args.board.now in
    let h = c.requires.here in
    let p = c.number-owner.result in
    let at_settled = h.trace ∙ ap when_settled (sym c.number-owner.ensures) in
    let at_marked = c.publish.ensures.trace ∙ (λ i. marked (c.requires.twelve i) (c.requires.slot i) p ∷ at_settled i) in
    writes_removed b.sizes b.opened _ c.args.slot c.args.twelve h.sized c.requires.slot c.requires.twelve p at_marked

pub publish-requires-2-clause-lawful : goal.publish-requires-2-clause-lawful
publish-requires-2-clause-lawful c =
    let b = id_of c.args.board.now in
    let h = c.requires.here in
    let p = c.number-owner.result in
    let at_settled = h.trace ∙ ap when_settled (sym c.number-owner.ensures) in
    let at_marked = c.publish.ensures.trace ∙ (λ i. marked (c.requires.twelve i) (c.requires.slot i) p ∷ at_settled i) in
    lawful_removed b.sizes b.opened _ c.args.slot c.args.twelve h.sized c.requires.slot c.requires.twelve p at_marked

pub publish-requires-3-clause-writes : goal.publish-requires-3-clause-writes
publish-requires-3-clause-writes c =
    let b = id_of c.args.board.now in
    let h = c.requires.here in
    let p = c.number-owner.result in
    let at_settled = h.trace ∙ ap when_settled (sym c.number-owner.ensures) in
    let at_marked = c.publish.ensures.trace ∙ (λ i. marked (c.requires.twelve i) (c.requires.slot i) p ∷ at_settled i) in
    let at_removed = c.publish-2.ensures.trace ∙ (λ i. settled (c.requires.slot i) Removed ∷ at_marked i) in
    writes_unlinked b.sizes b.opened _ c.args.slot c.args.twelve h.sized c.requires.slot c.requires.twelve p c.new.result c.new.ensures at_removed

pub publish-requires-3-clause-lawful : goal.publish-requires-3-clause-lawful
publish-requires-3-clause-lawful c =
    let b = id_of c.args.board.now in
    let h = c.requires.here in
    let p = c.number-owner.result in
    let at_settled = h.trace ∙ ap when_settled (sym c.number-owner.ensures) in
    let at_marked = c.publish.ensures.trace ∙ (λ i. marked (c.requires.twelve i) (c.requires.slot i) p ∷ at_settled i) in
    let at_removed = c.publish-2.ensures.trace ∙ (λ i. settled (c.requires.slot i) Removed ∷ at_marked i) in
    lawful_unlinked b.sizes b.opened _ c.args.slot c.args.twelve h.sized c.requires.slot c.requires.twelve p at_removed
