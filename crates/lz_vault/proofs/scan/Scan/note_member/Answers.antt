use Rattle.lz_vault.proofs.scan.Scan.note_member.Goals as goal
use Rattle.std.proofs.Common.{◌≢◌, refl, sym, subst}
use Rattle.lz_slot.specs.declared.slot.SlotRead.{SlotRead}
use Rattle.lz_vault.{specs.{Opens.{IsCellOf}, Stages.{Cell}, declared.vault.Stage.TheVariants.{Torn, Open}}, proofs.Scanning.{fresh_pushed, note_more}}
use Rattle.lz_vault.proofs.SlotOrder.{next_member}

untorn : Open ≢ Torn
untorn torn = absurd cc

pub returns-in-Ok-clause-fresh : goal.returns-in-Ok-clause-fresh
returns-in-Ok-clause-fresh c = λ before.
    let was = c.args.self.now in
    let cell : Cell = record { stage = Open; key = c.args.key } in
    rw (c.in-Ok.ensures.ok, c.push_reserved.ensures.items, c.reserve.ensures.items, c.rank.ensures.value, c.rank-in-Ok.ensures.value, c.next-place.ensures) (
      fresh_pushed was.format was.cells cell before.0 c.requires.range tt (λ shut. absurd (shut refl)) (λ torn. absurd (untorn torn)),
      next_member was.cells cell was.members.items before.1 c.args.key refl,
    )

pub returns-in-Ok-clause-scan : goal.returns-in-Ok-clause-scan
returns-in-Ok-clause-scan c = λ says here before.
    let cells = c.args.self.now.cells in
    let cell : Cell = record { stage = Open; key = c.args.key } in
    (rw (c.in-Ok.ensures.ok, c.rank.ensures.value) (note_more says cells cell before (subst (λ (r : SlotRead). IsCellOf r cell) (sym here) (refl, refl))), tt)
