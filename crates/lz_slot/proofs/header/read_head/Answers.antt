use Rattle.lz_slot.proofs.header.read_head.Goals as goal
use Rattle.std.proofs.{Common.{◌≡◌, ◌+◌, ◌*◌, ◌∷◌, Ok, ap, ◌∙◌, sym, arith}, lemmas.Grind.{common_steps}}
use Rattle.lz_slot.{specs.{Bytes.{header_body, header_read, open_byte}, declared.format.Format.{Format}}, proofs.Files.ExactBytes.{header_is_of_its_count}}

pub returns-clause-bytes : goal.returns-clause-bytes
returns-clause-bytes c =
    let n = c.read_u64-slots.result in
    let says : header_read c.args.head.now (16 + 16 * n) ≡ Ok n = grind (arith, common_steps) in
    let is = (header_is_of_its_count c.args.head.now (16 + 16 * n) n c.requires (λ i. (c.type_inv.head i).fits) says).3 in
    is ∙ ap (λ (F : Format). open_byte ∷ header_body F n) (sym c.format_of-format.ensures)
