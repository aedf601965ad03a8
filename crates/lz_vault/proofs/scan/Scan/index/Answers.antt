use Rattle.lz_vault.proofs.scan.Scan.index.Goals as goal
use Rattle.std.{proofs.{Common.{◌∙◌, sym, subst}, lemmas.List.{with_items_is}}, specs.List.Sorted.{IsPermutation}}
use Rattle.lz_slot.specs.Nodes.{Nodes}
use Rattle.lz_vault.{specs.Members.{AreInOrder, AreMembers}, proofs.Members.{by_key, lowest_are_twins, permuted_listed}}

pub returns-in-Some-clause-twins : goal.returns-in-Some-clause-twins
returns-in-Some-clause-twins g c =
    let cells = c.args.self.now.cells in
    let members : Nodes = c.args.self.now.members.items in
    let row : Nodes = c.sort.new.members in
    let same = sym (c.deref.ensures.value ∙ with_items_is c.list_keys.new.self.members row (c.sort.ensures.len ∙ c.as_mut_slice.ensures.len)) in
    let was = rw c.in_ok-list_keys.ensures.rest.2 at (subst (λ (ms : Nodes). IsPermutation ms row) c.as_mut_slice.ensures.value c.sort.ensures.permutation) in
    let permutation = subst (IsPermutation members) same was in
    lowest_are_twins cells c.deref.result.now (permuted_listed cells _ members c.deref.result.now c.requires.fresh.1.0 permutation) (subst AreInOrder same c.sort.ensures.sorted) _ c.in-Some.ensures

pub returns-in-None-clause-indexed : goal.returns-in-None-clause-indexed
returns-in-None-clause-indexed g c =
    let cells = c.args.self.now.cells in
    let members : Nodes = c.args.self.now.members.items in
    let row : Nodes = c.sort.new.members in
    let same = sym (c.deref.ensures.value ∙ with_items_is c.list_keys.new.self.members row (c.sort.ensures.len ∙ c.as_mut_slice.ensures.len)) in
    let was = rw c.in_ok-list_keys.ensures.rest.2 at (subst (λ (ms : Nodes). IsPermutation ms row) c.as_mut_slice.ensures.value c.sort.ensures.permutation) in
    let permutation = subst (IsPermutation members) same was in
    rw c.in_ok-list_keys.ensures.rest.1 (subst (AreMembers cells _) c.deref.ensures.value
    (by_key cells c.deref.result.now (permuted_listed cells _ members c.deref.result.now c.requires.fresh.1.0 permutation) (subst AreInOrder same c.sort.ensures.sorted) c.in-None.ensures))
