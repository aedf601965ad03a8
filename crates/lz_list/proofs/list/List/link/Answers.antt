use Rattle.lz_list.proofs.list.List.link.Goals as goal
use Rattle.std.proofs.Common.{sym, ◌∙◌, suc}
use Rattle.lz_list.proofs.Tables.Redirect.{heads_redirect, links_redirect, table_redirect}
use Rattle.lz_list.proofs.Changes.NodeLink.{link_place, link_sorted, link_member, link_others}

pub redirect-requires : goal.redirect-requires
redirect-requires c =
    let may = rw (← c.self.view_is) at c.requires in
    link_place c.self.inside.words c.args.pred c.args.slot c.self.invariant.table c.self.invariant.sorted may

pub invariant_of-self : goal.invariant_of-self
invariant_of-self c =
    let old = c.self.invariant in
    let may = rw (← c.self.view_is) at c.requires in
    rw (c.redirect.ensures, c.next_to.ensures) (record {
      table = table_redirect c.self.inside.words (suc c.args.slot) c.args.pred old.table;
      sorted = link_sorted c.self.inside.words c.args.pred c.args.slot old.table old.sorted may;
      heads = old.heads ∙ sym (heads_redirect c.self.inside.words (suc c.args.slot) c.args.pred);
      nodes = old.nodes ∙ sym (links_redirect c.self.inside.words (suc c.args.slot) c.args.pred);
    })

pub returns-clause-key : goal.returns-clause-key
returns-clause-key c =
    let may = rw (← c.self.view_is) at c.requires in
    rw (c.redirect.ensures, c.next_to.ensures, ← c.self.view_is) (link_member c.self.inside.words c.args.pred c.args.slot c.self.invariant.table c.self.invariant.sorted may)

pub returns-clause-others : goal.returns-clause-others
returns-clause-others c =
    let may = rw (← c.self.view_is) at c.requires in
    rw (c.redirect.ensures, c.next_to.ensures, ← c.self.view_is) (link_others c.self.inside.words c.args.pred c.args.slot c.self.invariant.table c.self.invariant.sorted may)
