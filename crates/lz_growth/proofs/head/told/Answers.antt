use Rattle.lz_growth.proofs.head.told.Goals as goal
use Rattle.std.proofs.{Common.{◌≡◌, ap, arith, drop, get_or, length, sym, take, ◌∙◌}, lemmas.Grind.{common_steps}}
use Rattle.std.specs.Prelude.{slice_range}
use Rattle.byteorder.specs.Endian.{big_number}
use Rattle.lz_slot.specs.Bytes.{open_byte}
use Rattle.lz_growth.{specs.{Growths.{growing_head}, Heads.{growing_name}}, proofs.HeadTexts.{head_of_parts}}

pub returns-clause-told : goal.returns-clause-told
returns-clause-told c = λ t size head.
    let is : c.args.head.now ≡ take 16 t = head c.if-size-lt16.false in
    let long : length c.args.head.now ≡ 16 = c.requires in
    let gate : get_or c.args.head.now 0 0 ≡ open_byte = grind (arith, common_steps) in
    let name : slice_range c.args.head.now 1 8 ≡ growing_name = grind (arith, common_steps) in
    let number : c.read_u64-slots.result ≡ big_number 8 (drop 8 c.args.head.now) = grind (arith, common_steps) in
    let parts = head_of_parts c.args.head.now long (λ i. (c.type_inv.head i).fits) gate name in
    record { long = omega (arith, size, c.if-size-slots.false); head = sym is ∙ parts ∙ ap growing_head (sym number) }
