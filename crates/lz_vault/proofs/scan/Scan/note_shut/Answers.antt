use Rattle.lz_vault.proofs.scan.Scan.note_shut.Goals as goal
use Rattle.std.proofs.Common.{◌≡◌, ◌≢◌, None, refl}
use Rattle.lz_slot.proofs.Files.ExactBytes.{zero_fits}
use Rattle.lz_vault.specs.{Members.{member_in}, Stages.{Cell, IsSteady}, declared.vault.Stage.{Stage, TheVariants.{Closed, Torn, Open}}}
use Rattle.lz_vault.proofs.{Scanning.{fresh_pushed, note_more}, SlotOrder.{next_none}}

no_member : (stage : Stage) → IsSteady stage → stage ≢ Open → member_in (record { stage = stage; key = 0 }) ≡ None
no_member Closed steady shut = refl
no_member Torn steady shut = refl
no_member Open steady shut = absurd (shut refl)
no_member _ steady shut = absurd steady

pub returns-in-Ok-clause-fresh : goal.returns-in-Ok-clause-fresh
returns-in-Ok-clause-fresh c = λ before.
    let was = c.args.self.now in
    let cell : Cell = record { stage = c.args.stage; key = 0 } in
    rw c.in-Ok.ensures.ok (
      fresh_pushed was.format was.cells cell before.0 (zero_fits was.format) c.requires.shut.0 (λ shut. refl) c.requires.shut.2,
      next_none was.cells cell was.members.items before.1 (no_member c.args.stage c.requires.shut.0 c.requires.shut.1),
    )

pub returns-in-Ok-clause-scan : goal.returns-in-Ok-clause-scan
returns-in-Ok-clause-scan c = λ says is before. (rw c.in-Ok.ensures.ok (note_more says c.args.self.now.cells (record { stage = c.args.stage; key = 0 }) before is), tt)
