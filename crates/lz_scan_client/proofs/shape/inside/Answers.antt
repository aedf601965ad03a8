use Rattle.lz_scan_client.proofs.shape.inside.Goals as goal
use Rattle.std.proofs.Common.{◌≡◌, ◌++◌, ◌∷◌, ◌+◌, drop, sym, ap, ◌∙◌, List, ℕ}
use Rattle.lz_slot.proofs.Texts.Cuts.{cut_at}
use Rattle.lz_proto.{specs.Lines.{line_feed}, proofs.Texts.{after_end}}
use Rattle.lz_scan_client.proofs.Shaped.{bulk_found}

pub returns-in-Some-length_on : goal.returns-in-Some-length_on
returns-in-Some-length_on c =
    let text = c.args.text.now in
    let rest = after_end text c.split_at.result.1.now c.in-Some.end c.in-Some.ensures c.split_at.ensures.back in
    let whole : text ≡ c.split_at.result.0.now ++ line_feed ∷ drop (c.in-Some.end + 1) text =
    cut_at 10 text c.in-Some.end c.in-Some.ensures ∙ ap (λ (f : List ℕ). f ++ line_feed ∷ drop (c.in-Some.end + 1) text) (sym c.split_at.ensures.front) in
    bulk_found text c.split_at.result.0.now (drop (c.in-Some.end + 1) text) c.in-Some-length_on.count c.front_of.result whole c.in-Some-length_on.ensures
    (rw rest at c.front_of.ensures.whole) c.front_of.ensures.count
