use Rattle.lazyset_file_commands.proofs.list.KeyList.add_line.Goals as goal
use Rattle.std.proofs.Common.{sym, subst, ◌∙◌}
use Rattle.lazyset_file_commands.specs.ListParts.{named_in}
use Rattle.lazyset_file_commands.proofs.ListPieces.{AreTexts, has_table, key_added, keys_untabled, lacks_memory, names_none, text_added, texts_tabled}

pub returns-in_default-clause-err : goal.returns-in_default-clause-err
returns-in_default-clause-err c =
    names_none (named_in c.args.self.now) c.args.self.now.number c.args.self.now.line.items c.args.self.now.keys.items c.fault.result (rw c.as_slice.ensures.value at c.in_default.ensures.none) c.fault.ensures

pub returns-in-Keys-clause-seen : goal.returns-in-Keys-clause-seen
returns-in-Keys-clause-seen c = keys_untabled c.push.new.self.lines c.push.new.self.keys.items c.push.new.self.seen c.push.result (c.push.ensures.like.1 ∙ c.in-Keys.is)

pub returns-in-Keys-clause-ok : goal.returns-in-Keys-clause-ok
returns-in-Keys-clause-ok c =
    key_added c.args.self.now.format c.args.self.now.lines c.args.self.now.line.items c.args.self.now.keys.items c.push.new.self.keys.items c.in-Some.key c.push.result c.in-Keys.is
    (rw c.as_slice.ensures.value at c.in-Some.ensures.some) c.push.ensures.added

pub returns-in-Keys-clause-err : goal.returns-in-Keys-clause-err
returns-in-Keys-clause-err c = lacks_memory (named_in c.args.self.now) c.args.self.now.number c.args.self.now.line.items c.args.self.now.keys.items c.push.result c.push.ensures.err

pub add_text-requires : goal.add_text-requires
add_text-requires c = has_table c.args.self.now.lines c.args.self.now.keys.items c.args.self.now.seen (subst AreTexts (sym c.in-Texts.is) tt) c.requires

pub returns-in-Texts-clause-seen : goal.returns-in-Texts-clause-seen
returns-in-Texts-clause-seen c = texts_tabled c.add_text.new.self.lines c.add_text.new.self.keys.items c.add_text.new.self.seen c.add_text.result c.add_text.ensures.seen

pub returns-in-Texts-clause-ok : goal.returns-in-Texts-clause-ok
returns-in-Texts-clause-ok c =
    text_added c.args.self.now.format c.args.self.now.lines c.args.self.now.line.items c.args.self.now.keys.items c.add_text.new.self.keys.items c.in-Some.key c.add_text.result
    (subst AreTexts (sym c.in-Texts.is) tt) (rw c.as_slice.ensures.value at c.in-Some.ensures.some) c.add_text.ensures.added

pub returns-in-Texts-clause-err : goal.returns-in-Texts-clause-err
returns-in-Texts-clause-err c = lacks_memory (named_in c.args.self.now) c.args.self.now.number c.args.self.now.line.items c.args.self.now.keys.items c.add_text.result c.add_text.ensures.err
