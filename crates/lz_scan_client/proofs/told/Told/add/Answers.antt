use Rattle.lz_scan_client.proofs.told.Told.add.Goals as goal
use Rattle.std.proofs.Common.{inl, inr, refl, sym, ◌∙◌, arith}
use Rattle.lz_scan_client.proofs.OneEach.{member_found}

pub returns-then-is_some-clause-once : goal.returns-then-is_some-clause-once
returns-then-is_some-clause-once c =
    let found = rw c.as_slice.ensures.value at c.find.ensures.found in
    let here = member_found c.args.self.now.keys.items c.args.key c.rank.result c.find.result c.rank.ensures.value (found c.requires) in
    inl (here ∙ sym c.is_some.ensures ∙ c.if-is_some.true, refl)

pub returns-clause-once : goal.returns-clause-once
returns-clause-once c =
    let found = rw c.as_slice.ensures.value at c.find.ensures.found in
    let here = member_found c.args.self.now.keys.items c.args.key c.rank.result c.find.result c.rank.ensures.value (found c.requires) in
    inr (here ∙ sym c.is_some.ensures ∙ c.if-is_some.false, omega (arith, c.rank.ensures.value, c.rank.ensures.range), c.in-Ok.ensures.items)
