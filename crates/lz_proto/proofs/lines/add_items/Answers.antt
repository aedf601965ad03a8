use Rattle.lz_proto.proofs.lines.add_items.Goals as goal
use Rattle.std.proofs.Common.{◌∙◌, List, [], ◌∷◌, ◌++◌, None, ap, append_assoc, refl}
use Rattle.lz_proto.{specs.declared.item.Item.{Item}, proofs.Texts.{after_end, clear_all, first_line, first_quit, goes_on_more, goes_on_read}}

pub returns-then-branch : goal.returns-then-branch
returns-then-branch c =
    let so = c.loop-end.invariant in
    let one = rw c.split_at.ensures.front at c.in_ok-add_item.ensures.ok in
    record {
      ok = (
        so.0 ++ one.0 ∷ [],
        goes_on_read c.args.text.now c.loop-end.rest.now so.0 (one.0 ∷ []) None so.2
            (first_quit [] c.loop-end.rest.now c.in-Some.end one.0 c.loop-end.items.items c.add_item.new.items.items c.in_ok-add_item.field-0 refl c.in-Some.ensures one.1 c.if-branch.true),
        one.1.added ∙ ap (λ (x : List Item). x ++ one.0 ∷ []) so.1 ∙ append_assoc c.args.items.now.items so.0 (one.0 ∷ []),
      );
      err = tt;
    }

pub loop-end-preserved : goal.loop-end-preserved
loop-end-preserved c =
    let so = c.loop-end.invariant in
    let one = rw c.split_at.ensures.front at c.in_ok-add_item.ensures.ok in (
      so.0 ++ one.0 ∷ [],
      one.1.added ∙ ap (λ (x : List Item). x ++ one.0 ∷ []) so.1 ∙ append_assoc c.args.items.now.items so.0 (one.0 ∷ []),
      rw (after_end c.loop-end.rest.now c.split_at.result.1.now c.in-Some.end c.in-Some.ensures c.split_at.ensures.back)
          (goes_on_more c.args.text.now c.loop-end.rest.now _ so.0 (one.0 ∷ []) so.2
          (first_line [] c.loop-end.rest.now c.in-Some.end one.0 c.loop-end.items.items c.add_item.new.items.items c.in_ok-add_item.field-0 refl c.in-Some.ensures one.1 c.if-branch.false)),
    )

pub returns : goal.returns
returns c =
    let so = c.loop-end.invariant in
    record { ok = (so.0, (clear_all c.loop-end.rest.now c.in_default.ensures, so.2), so.1); err = tt }
