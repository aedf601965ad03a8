use Rattle.test_growth.proofs.fronts.add.Goals as goal
use Rattle.std.proofs.Common.{rules, ◌≡◌, ◌∙◌, ◌<◌, length, sym, ap, arith}
use Rattle.lz_slot.specs.declared.format.Format.TheVariants.{Four}
use Rattle.lz_vault.specs.Vaults.{Vaulted}
use Rattle.test_growth.proofs.PutKeys.{is_free, is_keyed}

pub put_key-requires-clause-stage : goal.put_key-requires-clause-stage
put_key-requires-clause-stage g c =
    let within : c.args.slot < length c.args.vault.now.memory.cells = omega (arith, c.if-index-slots.false, c.index.ensures, c.slots.ensures.count) in
    is_free c.args.vault.now.memory.cells c.args.slot within c.stage.result (sym c.is_closed.ensures ∙ c.if-not-is_closed.false) c.stage.ensures

pub open_gate-requires : goal.open_gate-requires
open_gate-requires g c =
    let within : c.args.slot < length c.args.vault.now.memory.cells = omega (arith, c.if-index-slots.false, c.index.ensures, c.slots.ensures.count) in
    let four : c.format.result ≡ Four = search rules in
    is_keyed c.args.vault.now.memory.cells c.args.slot within c.stage.result (sym c.is_closed.ensures ∙ c.if-not-is_closed.false) c.stage.ensures
    c.args.vault.now.memory.format (sym c.format.ensures ∙ four) c.args.key c.put_key.new.self.memory.cells
    (λ cell there. ap (λ (v : Vaulted). v.cells) (c.in_ok-put_key.ensures.call cell there).1)
