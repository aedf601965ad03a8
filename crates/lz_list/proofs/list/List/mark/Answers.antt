use Rattle.lz_list.proofs.list.List.mark.Goals as goal
use Rattle.std.proofs.Common.{sym, ◌∙◌}
use Rattle.lz_list.{specs.declared.word.Word.TheVariants.{Link}, proofs.Changes.WordStore.{set_table, mark_sorted, mark_others, mark_member, links_set}}

pub invariant_of-self : goal.invariant_of-self
invariant_of-self c =
    let old = c.self.invariant in
    let within = rw (← c.self.view_is) at c.requires in
    rw c.mark.ensures (record {
      table = set_table c.self.inside.words old.table old.sorted (Link c.args.slot) _;
      sorted = mark_sorted c.self.inside.words old.table old.sorted c.args.slot within;
      heads = old.heads;
      nodes = old.nodes ∙ sym (links_set c.self.inside.words (Link c.args.slot) _);
    })

pub returns-clause-key : goal.returns-clause-key
returns-clause-key c =
    let within = rw (← c.self.view_is) at c.requires in
    rw (c.mark.ensures, ← c.self.view_is) (mark_member c.self.inside.words c.self.invariant.table c.self.invariant.sorted c.args.slot within)

pub returns-clause-others : goal.returns-clause-others
returns-clause-others c =
    let within = rw (← c.self.view_is) at c.requires in
    rw (c.mark.ensures, ← c.self.view_is) (mark_others c.self.inside.words c.self.invariant.table c.self.invariant.sorted c.args.slot within)
