use Rattle.lz_list.proofs.list.List.unlink.Goals as goal
use Rattle.std.proofs.Common.{sym, ◌∙◌}
use Rattle.lz_list.{specs.{declared.place.Place.TheVariants.{Node}, Words.{next_at}}, proofs.Tables.Redirect.{heads_redirect, links_redirect, table_redirect}}
use Rattle.lz_list.proofs.Changes.NodeUnlink.{unlink_place, unlink_slot, unlink_sorted, unlink_member, unlink_others}

pub next-after-requires : goal.next-after-requires
next-after-requires c =
    let may = rw (← c.self.view_is) at c.requires in
    unlink_slot c.self.inside.words c.args.pred c.args.curr c.self.invariant.table c.self.invariant.sorted may

pub redirect-requires : goal.redirect-requires
redirect-requires c =
    let may = rw (← c.self.view_is) at c.requires in
    unlink_place c.self.inside.words c.args.pred c.args.curr c.self.invariant.table c.self.invariant.sorted may

pub invariant_of-self : goal.invariant_of-self
invariant_of-self c =
    let old = c.self.invariant in
    let may = rw (← c.self.view_is) at c.requires in
    let after = next_at c.self.inside.words (Node c.args.curr) in
    rw (c.redirect.ensures, c.next-after.ensures) (record {
      table = table_redirect c.self.inside.words after c.args.pred old.table;
      sorted = unlink_sorted c.self.inside.words c.args.pred c.args.curr old.table old.sorted may;
      heads = old.heads ∙ sym (heads_redirect c.self.inside.words after c.args.pred);
      nodes = old.nodes ∙ sym (links_redirect c.self.inside.words after c.args.pred);
    })

pub returns-clause-key : goal.returns-clause-key
returns-clause-key c =
    let may = rw (← c.self.view_is) at c.requires in
    rw (c.redirect.ensures, c.next-after.ensures, ← c.self.view_is) (unlink_member c.self.inside.words c.args.pred c.args.curr c.self.invariant.table c.self.invariant.sorted may)

pub returns-clause-others : goal.returns-clause-others
returns-clause-others c =
    let may = rw (← c.self.view_is) at c.requires in
    rw (c.redirect.ensures, c.next-after.ensures, ← c.self.view_is) (unlink_others c.self.inside.words c.args.pred c.args.curr c.self.invariant.table c.self.invariant.sorted may)
