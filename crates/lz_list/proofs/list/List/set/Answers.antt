use Rattle.lz_list.proofs.list.List.set.Goals as goal
use Rattle.std.proofs.Common.{sym, ◌∙◌}
use Rattle.lz_list.proofs.Changes.WordStore.{set_sorted, set_members, set_table, heads_set, links_set}

pub invariant_of-self : goal.invariant_of-self
invariant_of-self c =
    let old = c.self.invariant in
    let within = rw (← c.self.view_is) at c.requires.word in
    let keeps = rw (← c.self.view_is) at c.requires.keeps in
    rw c.set.ensures (record {
      table = set_table c.self.inside.words old.table old.sorted c.args.word c.args.value;
      sorted = set_sorted c.self.inside.words old.table old.sorted c.args.word c.args.value within keeps;
      heads = old.heads ∙ sym (heads_set c.self.inside.words c.args.word c.args.value);
      nodes = old.nodes ∙ sym (links_set c.self.inside.words c.args.word c.args.value);
    })

pub returns-clause-members : goal.returns-clause-members
returns-clause-members c =
    let old = c.self.invariant in
    let within = rw (← c.self.view_is) at c.requires.word in
    let keeps = rw (← c.self.view_is) at c.requires.keeps in
    rw (c.set.ensures, ← c.self.view_is) (set_members c.self.inside.words old.table old.sorted c.args.word c.args.value within keeps)
