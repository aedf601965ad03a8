use Rattle.lz_proto.proofs.lines.read_piece.Goals as goal
use Rattle.std.proofs.{Common.{◌+◌, ◌++◌, [], ◌∷◌, None, Some, sym}, lemmas.List.{append-nil, take_rest}}
use Rattle.lz_proto.proofs.Texts.{first_quit, no_line, read_rest, reads_kept, short_take}

pub returns-in_default-clause-ok : goal.returns-in_default-clause-ok
returns-in_default-clause-ok c = (
  [],
  no_line c.args.kept.now.items c.args.piece.now c.keep_more.new.kept.items c.requires.clear c.in_default.ensures c.in_ok-keep_more.ensures.ok,
  sym (append-nil c.args.items.now.items),
)

pub returns-in_default-clause-short : goal.returns-in_default-clause-short
returns-in_default-clause-short c _ = short_take (c.args.kept.now.items ++ c.args.piece.now) c.keep_more.new.kept.items c.in_ok-keep_more.ensures.ok

pub returns-then-branch-clause-ok : goal.returns-then-branch-clause-ok
returns-then-branch-clause-ok c =
    let one = c.in_ok-add_first.ensures.ok in (
      one.0 ∷ [],
      first_quit c.args.kept.now.items c.args.piece.now c.in-Some.end one.0 c.args.items.now.items c.add_first.new.items.items c.in_ok-add_first.field-0
          c.requires.clear c.in-Some.ensures one.1 c.if-branch.true,
      one.1.added,
    )

pub returns-in_ok-keep-in-Some-2-clause-ok : goal.returns-in_ok-keep-in-Some-2-clause-ok
returns-in_ok-keep-in-Some-2-clause-ok c =
    let one = c.in_ok-add_first.ensures.ok in
    let so = rw c.in-Some-2.is at c.in_ok-left.ensures.ok in
    let all = read_rest c.args.kept.now.items c.args.piece.now _ c.in-Some.end one.0 c.args.items.now.items c.add_first.new.items.items c.add_items.new.items.items so.0
    c.in_ok-add_first.field-0 (Some c.in-Some-2.left.now) c.requires.clear c.in-Some.ensures one.1 c.if-branch.false (take_rest c.args.piece.now (c.in-Some.end + 1)) so.1 so.2 in
    (all.0, rw c.in_ok-keep-in-Some-2.ensures.ok (reads_kept (c.args.kept.now.items ++ c.args.piece.now) c.in-Some-2.left.now all.0 all.1), all.2)

pub returns-in_ok-keep-in-Some-2-clause-short : goal.returns-in_ok-keep-in-Some-2-clause-short
returns-in_ok-keep-in-Some-2-clause-short c _ = short_take c.in-Some-2.left.now c.keep.new.kept.items c.in_ok-keep-in-Some-2.ensures.ok

pub returns-in-None-clause-ok : goal.returns-in-None-clause-ok
returns-in-None-clause-ok c =
    let one = c.in_ok-add_first.ensures.ok in
    let so = rw c.in-None.is at c.in_ok-left.ensures.ok in
    read_rest c.args.kept.now.items c.args.piece.now _ c.in-Some.end one.0 c.args.items.now.items c.add_first.new.items.items c.add_items.new.items.items so.0
    c.in_ok-add_first.field-0 None c.requires.clear c.in-Some.ensures one.1 c.if-branch.false (take_rest c.args.piece.now (c.in-Some.end + 1)) so.1 so.2
