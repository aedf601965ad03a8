use Rattle.lz_proto.proofs.lines.add_first.Goals as goal
use Rattle.std.proofs.Common.{◌∙◌, ◌++◌, rules}
use Rattle.lz_proto.proofs.Texts.{adds_kept, kept_before}

pub returns-clause-ok : goal.returns-clause-ok
returns-clause-ok c =
    adds_kept c.add_item-added.result (c.args.kept.now.items ++ c.args.line.now) c.as_slice.result.now c.args.items.now.items c.add_item-added.new.items.items
    (c.as_slice.ensures.value ∙ c.in_ok-keep_more.ensures.ok) c.add_item-added.ensures.ok

pub returns-clause-same : goal.returns-clause-same
returns-clause-same c =
    rw c.truncate.ensures.items (rw c.in_ok-keep_more.ensures.ok (kept_before c.args.kept.now.items c.args.line.now c.len-before.result (search rules) c.requires.short))
