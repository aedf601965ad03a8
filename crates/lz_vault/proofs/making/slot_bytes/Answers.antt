use Rattle.lz_vault.proofs.making.slot_bytes.Goals as goal
use Rattle.std.proofs.{Common.{◌≡◌, get_or, sym, ◌∙◌, ap}, lemmas.List.{get_or_read}}
use Rattle.lz_slot.specs.Bytes.{member_bytes}
use Rattle.lz_vault.proofs.FilledTexts.{text_blank, text_open}

pub returns-in-Some : goal.returns-in-Some
returns-in-Some c =
    let found = c.in-Some.ensures.lookup in
    let key : c.in-Some.key.now ≡ get_or c.args.keys.now c.args.index 0 = get_or_read c.args.keys.now c.args.index c.in-Some.key.now found.3.0 found.1 0 in
    c.member_bytes.ensures ∙ ap (member_bytes c.args.format) key ∙ sym (text_open c.args.format c.args.keys.now c.args.index found.3.0)

pub returns-in-None : goal.returns-in-None
returns-in-None c = sym (text_blank c.args.format c.args.keys.now c.args.index c.in-None.ensures.lookup.3)
