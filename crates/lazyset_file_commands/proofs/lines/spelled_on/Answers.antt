use Rattle.lazyset_file_commands.proofs.lines.spelled_on.Goals as goal
use Rattle.std.proofs.Common.{◌≡◌, sym, ◌∙◌, ap, false, true, refl}
use Rattle.lz_slot.specs.Texts.{key_read}
use Rattle.lazyset_file_commands.proofs.Listed.{spelled_by, spelled_not, spelled_other}

pub returns-in_default-clause-none : goal.returns-in_default-clause-none
returns-in_default-clause-none c =
    spelled_not c.args.format c.args.line.now c.in_default.field-0 (ap key_read (sym c.without_return.ensures) ∙ sym c.read_key.ensures ∙ c.in_default.is)

pub returns-then-has_room_for-clause-some : goal.returns-then-has_room_for-clause-some
returns-then-has_room_for-clause-some c =
    spelled_by c.args.format c.args.line.now c.in-Ok.key (ap key_read (sym c.without_return.ensures) ∙ sym c.read_key.ensures ∙ c.in-Ok.is) (c.if-has_room_for.ensures.0 refl)

pub returns-else-has_room_for-clause-none : goal.returns-else-has_room_for-clause-none
returns-else-has_room_for-clause-none c =
    spelled_other c.args.format c.args.line.now c.in-Ok.key (ap key_read (sym c.without_return.ensures) ∙ sym c.read_key.ensures ∙ c.in-Ok.is) (λ fits. absurd (let e : false ≡ true = c.if-has_room_for.ensures.1 fits in cc))
