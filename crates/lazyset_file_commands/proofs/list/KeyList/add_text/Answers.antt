use Rattle.lazyset_file_commands.proofs.list.KeyList.add_text.Goals as goal
use Rattle.std.proofs.Common.{inl, refl, sym, ◌∙◌}
use Rattle.lazyset_file_commands.proofs.ListPieces.{was_added}
use Rattle.lz_scan_client.proofs.OneEach.{member_found}

pub returns-then-is_some-clause-added : goal.returns-then-is_some-clause-added
returns-then-is_some-clause-added c =
    let found = rw c.as_slice.ensures.value at c.find.ensures.found in
    let here = member_found c.args.self.now.keys.items c.args.key c.rank.result c.find.result c.rank.ensures.value (found c.requires) in
    inl (here ∙ sym c.is_some.ensures ∙ c.if-is_some.true, refl)

pub returns-clause-added : goal.returns-clause-added
returns-clause-added c =
    let found = rw c.as_slice.ensures.value at c.find.ensures.found in
    let here = member_found c.args.self.now.keys.items c.args.key c.rank.result c.find.result c.rank.ensures.value (found c.requires) in
    was_added c.args.self.now.keys.items c.add.new.self.keys.items c.args.key c.add.result (here ∙ sym c.is_some.ensures ∙ c.if-is_some.false) c.add.ensures.added
