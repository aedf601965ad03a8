use Rattle.lz_resp.proofs.reading.read_first.Goals as goal
use Rattle.std.{proofs.{Common.{◌∙◌, ℕ, List, Bor, take, ap}, lemmas.Result.{err_from_is_err_and}}, specs.Prelude.{map}}
use Rattle.lz_proto.proofs.Texts.{take_least}
use Rattle.lz_resp.proofs.Fronts.{first_found, first_long, first_none, first_stops}

pub returns-then-text-gt-MOST_FRAME-clause-gives : goal.returns-then-text-gt-MOST_FRAME-clause-gives
returns-then-text-gt-MOST_FRAME-clause-gives c =
    first_long c.args.text.now (take c.min.result c.args.text.now) (ap (λ (n : ℕ). take n c.args.text.now) c.min.ensures ∙ take_least 65536 c.args.text.now)
    (rw c.in-None.is at c.in_ok-arguments.ensures.gives) c.if-text-gt-MOST_FRAME.true

pub returns-else-text-gt-MOST_FRAME-clause-gives : goal.returns-else-text-gt-MOST_FRAME-clause-gives
returns-else-text-gt-MOST_FRAME-clause-gives c =
    first_none c.args.text.now (take c.min.result c.args.text.now) (ap (λ (n : ℕ). take n c.args.text.now) c.min.ensures ∙ take_least 65536 c.args.text.now)
    (rw c.in-None.is at c.in_ok-arguments.ensures.gives) c.if-text-gt-MOST_FRAME.false

pub returns-in-Some-clause-gives : goal.returns-in-Some-clause-gives
returns-in-Some-clause-gives c =
    first_found c.args.text.now (take c.min.result c.args.text.now) (map (λ (w : Bor (List ℕ)). w.now) c.in-Some.arguments.items) c.in-Some.rest.now
    (ap (λ (n : ℕ). take n c.args.text.now) c.min.ensures ∙ take_least 65536 c.args.text.now) (rw c.in-Some.is at c.in_ok-arguments.ensures.gives)

pub returns-in_err-arguments-clause-gives : goal.returns-in_err-arguments-clause-gives
returns-in_err-arguments-clause-gives c =
    let p = err_from_is_err_and c.from_residual.result c.from_residual.ensures.1 in
    rw (p.1, p.2)
    (first_stops c.args.text.now (take c.min.result c.args.text.now) c.in_err-arguments.field-0.0 (ap (λ (n : ℕ). take n c.args.text.now) c.min.ensures ∙ take_least 65536 c.args.text.now)
    c.in_err-arguments.ensures.gives)
