use Rattle.lz_resp.proofs.reading.read_inline.Goals as goal
use Rattle.std.{proofs.Common.{◌∙◌, ℕ, List, Bor, sym, ap}, specs.Prelude.{map}}
use Rattle.lz_proto.proofs.Texts.{after_end}
use Rattle.lz_resp.{specs.Frames.{fits}, proofs.Fronts.{arguments_found, arguments_none, arguments_quoted, arguments_unfit}}

pub returns-in_default-clause-gives : goal.returns-in_default-clause-gives
returns-in_default-clause-gives c = arguments_none c.args.text.now c.in_default.ensures

pub returns-then-has_quote-clause-gives : goal.returns-then-has_quote-clause-gives
returns-then-has_quote-clause-gives c =
    arguments_quoted c.args.text.now c.split_at.result.0.now c.in-Some.end c.in-Some.ensures c.split_at.ensures.front (sym c.has_quote.ensures ∙ c.if-has_quote.true)

pub returns-then-not-fits-clause-gives : goal.returns-then-not-fits-clause-gives
returns-then-not-fits-clause-gives c =
    let its = ap (map (λ (w : Bor (List ℕ)). w.now)) c.as_slice.ensures.value ∙ c.in_ok-arguments.ensures in
    arguments_unfit c.args.text.now c.split_at.result.0.now c.in-Some.end c.in-Some.ensures c.split_at.ensures.front (sym c.has_quote.ensures ∙ c.if-has_quote.false)
    (ap fits (sym its) ∙ sym c.fits.ensures ∙ c.if-not-fits.true)

pub returns-clause-gives : goal.returns-clause-gives
returns-clause-gives c =
    let arguments = map (λ (w : Bor (List ℕ)). w.now) c.in_ok-arguments.arguments.items in
    arguments_found c.args.text.now c.split_at.result.0.now _ arguments c.in-Some.end c.in-Some.ensures c.split_at.ensures.front (sym c.has_quote.ensures ∙ c.if-has_quote.false) c.in_ok-arguments.ensures
    (ap (λ (v : List (Bor (List ℕ))). fits (map (λ (w : Bor (List ℕ)). w.now) v)) (sym c.as_slice.ensures.value) ∙ sym c.fits.ensures ∙ c.if-not-fits.false)
    (after_end c.args.text.now c.split_at.result.1.now c.in-Some.end c.in-Some.ensures c.split_at.ensures.back)
