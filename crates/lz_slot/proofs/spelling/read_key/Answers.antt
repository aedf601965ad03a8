use Rattle.lz_slot.proofs.spelling.read_key.Goals as goal
use Rattle.std.proofs.Common.{◌∙◌, sym}
use Rattle.lz_slot.proofs.Texts.Spellings.{number_alone}

pub returns-in-Some : goal.returns-in-Some
returns-in-Some c = c.key_of_number.ensures ∙ sym (number_alone c.args.text.now c.in-Some.number (sym c.read_number.ensures.number ∙ c.in-Some.is))
