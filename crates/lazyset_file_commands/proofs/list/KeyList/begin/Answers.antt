use Rattle.lazyset_file_commands.proofs.list.KeyList.begin.Goals as goal
use Rattle.std.proofs.Common.{ℕ, Vec, Global, refl, ap, ◌∙◌}
use Rattle.lazyset_file_commands.proofs.ListPieces.{first_keys, opens_keys, opens_texts, unread_keys, unread_texts}

pub returns-in-Keys-clause-kept : goal.returns-in-Keys-clause-kept
returns-in-Keys-clause-kept c = opens_keys _ c.requires c.new.ensures.items c.new-3.ensures.items c.in-Keys.is

pub returns-in-Keys-clause-unread : goal.returns-in-Keys-clause-unread
returns-in-Keys-clause-unread c = unread_keys (record { alloc = c.args.alloc; format = c.args.format; lines = c.args.lines; keys = c.new.result; seen = c.new-2.result; line = c.new-3.result; number = 1 }) c.new.ensures.items c.new-3.ensures.items refl c.in-Keys.is

pub returns-in-Ok-clause-kept : goal.returns-in-Ok-clause-kept
returns-in-Ok-clause-kept c = opens_texts c.mark.new.self c.args.format c.args.lines c.in-Ok.ensures.like _ (ap first_keys c.in-Texts.is) c.new.result.items c.new.ensures.items
    c.requires c.in-Ok.ensures.seen c.in-Ok.ensures.added (ap (λ (v : Vec ℕ Global). v.items) c.in-Ok.ensures.line.0 ∙ c.new-3.ensures.items)

pub returns-in-Ok-clause-unread : goal.returns-in-Ok-clause-unread
returns-in-Ok-clause-unread c = unread_texts c.mark.new.self c.args.format c.args.lines c.in-Ok.ensures.like _ (ap first_keys c.in-Texts.is) c.new.result.items c.new.ensures.items
    c.in-Ok.ensures.added (ap (λ (v : Vec ℕ Global). v.items) c.in-Ok.ensures.line.0 ∙ c.new-3.ensures.items) c.in-Ok.ensures.line.1
