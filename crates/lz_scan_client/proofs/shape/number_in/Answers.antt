use Rattle.lz_scan_client.proofs.shape.number_in.Goals as goal
use Rattle.std.proofs.Common.{◌++◌, ◌∷◌, ◌+◌, drop, sym, ap, ◌∙◌, List, ℕ}
use Rattle.lz_slot.proofs.Texts.Cuts.{cut_at}
use Rattle.lz_proto.{specs.Lines.{line_feed}, proofs.Texts.{after_end}}
use Rattle.lz_scan_client.proofs.Shaped.{line_passed, row_found}

pub returns-in-Some-number_on : goal.returns-in-Some-number_on
returns-in-Some-number_on c =
    let rest = c.loop-end.rest.now in
    row_found c.args.info.now rest c.split_at.result.0.now (drop (c.in-Some.end + 1) rest) c.args.name.now c.in-Some-number_on.number c.loop-end.invariant
    (cut_at 10 rest c.in-Some.end c.in-Some.ensures ∙ ap (λ (f : List ℕ). f ++ line_feed ∷ drop (c.in-Some.end + 1) rest) (sym c.split_at.ensures.front)) c.in-Some-number_on.ensures

pub loop-end-preserved : goal.loop-end-preserved
loop-end-preserved c =
    let rest = c.loop-end.rest.now in
    let after = after_end rest c.split_at.result.1.now c.in-Some.end c.in-Some.ensures c.split_at.ensures.back in
    line_passed c.args.info.now rest c.split_at.result.0.now _ c.loop-end.invariant
    (cut_at 10 rest c.in-Some.end c.in-Some.ensures ∙ ap (λ (f : List ℕ). f ++ line_feed ∷ drop (c.in-Some.end + 1) rest) (sym c.split_at.ensures.front) ∙ ap (λ (t : List ℕ). c.split_at.result.0.now ++ line_feed ∷ t) (sym after))
