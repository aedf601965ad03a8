use Rattle.lz_judge.proofs.renewing.slot_outside.Goals as goal
use Rattle.std.proofs.Common.{◌∙◌, Some, ap, sym}
use Rattle.lz_judge.proofs.KeysOutside.{key_any, key_none}

pub returns-in-Some : goal.returns-in-Some
returns-in-Some c = λ table.
    let found = c.in-Some.ensures.found table in
    rw c.in-Key.is (key_any c.args.others.now c.in-Some.field-0 c.in-Key.key (found ∙ ap Some c.rank.ensures.value))

pub returns-in-None : goal.returns-in-None
returns-in-None c = λ table.
    (c.in-Key.key, c.in-Key.is, key_none c.args.others.now c.in-Key.key (λ i is. c.in-None.ensures.found table i (is ∙ ap Some (sym c.rank.ensures.value))))
