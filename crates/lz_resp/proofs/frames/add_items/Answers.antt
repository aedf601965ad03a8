use Rattle.lz_resp.proofs.frames.add_items.Goals as goal
use Rattle.std.proofs.{Common.{◌∙◌, ◌++◌, List, drop, ap, subst, append_assoc, arith, length-drop}, lemmas.List.{drop-drop}}
use Rattle.lz_resp.{specs.declared.item.Item.{Item}, proofs.Texts.{GoesOn, goes_more, goes_stops, goes_waits, step_empty}}

pub frames-preserved : goal.frames-preserved
frames-preserved c =
    let so = c.frames.invariant in
    let one = rw (c.in-Goes.is, c.split_at.ensures.back) at c.in_ok-add_first.ensures.ok in
    let range = rw c.in-Goes.is at c.in_ok-add_first.ensures.range in
    let rest = drop c.frames.used c.args.text.now in (
      so.0 ++ one.0,
      one.2 ∙ ap (λ (x : List Item). x ++ one.0) so.1 ∙ append_assoc c.args.items.now.items so.0 one.0,
      subst (GoesOn c.args.state c.args.text.now (so.0 ++ one.0) c.in-Goes.next) (drop-drop c.in-Goes.count c.frames.used c.args.text.now)
          (goes_more c.args.state c.args.text.now so.0 c.frames.state rest one.0 c.in-Goes.next (drop c.in-Goes.count rest) so.2 one.1),
      range.0,
      omega (arith, range.2, c.split_at.ensures.back_len),
    )

pub returns-in-Stops-clause-ok : goal.returns-in-Stops-clause-ok
returns-in-Stops-clause-ok c =
    let so = c.frames.invariant in
    let one = rw (c.in-Stops.is, c.split_at.ensures.back) at c.in_ok-add_first.ensures.ok in (
      so.0 ++ one.0,
      goes_stops c.args.state c.args.text.now so.0 c.frames.state (drop c.frames.used c.args.text.now) one.0 so.2 one.1,
      one.2 ∙ ap (λ (x : List Item). x ++ one.0) so.1 ∙ append_assoc c.args.items.now.items so.0 one.0,
    )

pub returns-clause-ok : goal.returns-clause-ok
returns-clause-ok c =
    let so = c.frames.invariant in
    let rest = drop c.frames.used c.args.text.now in (
      so.0,
      goes_waits c.args.state c.args.text.now so.0 c.frames.state rest so.2 (step_empty c.frames.state rest (omega (arith, length-drop c.frames.used c.args.text.now))),
      so.1,
    )
