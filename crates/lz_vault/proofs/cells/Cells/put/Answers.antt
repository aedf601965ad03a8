use Rattle.lz_vault.proofs.cells.Cells.put.Goals as goal
use Rattle.std.proofs.{Common.{sym}, lemmas.List.{map-set}}
use Rattle.lz_vault.specs.Stages.{Cell}

pub invariant_of-self : goal.invariant_of-self
invariant_of-self c =
    rw (c.index.ensures, c.with-self-inside.ensures, c.self.invariant)
    (sym (map-set (λ (cell : Cell). cell.stage) c.self.inside.known.cells c.args.slot (record { stage = c.args.stage; key = c.args.key })))
