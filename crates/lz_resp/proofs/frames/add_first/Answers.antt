use Rattle.lz_resp.proofs.frames.add_first.Goals as goal
use Rattle.std.{proofs.{Common.{ℕ, List, Bor, drop, sym, subst}, lemmas.Result.{IfOk-weaker}}, specs.Prelude.{map}}
use Rattle.lz_resp.{specs.Pieces.{Adds}, proofs.Texts.{first_frame}}

pub returns-in-Some-clause-ok : goal.returns-in-Some-clause-ok
returns-in-Some-clause-ok c =
    let arguments = map (λ (w : Bor (List ℕ)). w.now) c.in-Some.three.arguments in
    let so = first_frame c.args.state c.args.text.now arguments (drop c.in-Some.three.count c.args.text.now) c.in-Some.ensures.gives in
    IfOk-weaker c.add_frame.result _ _ (λ next p. (p.0, subst (λ s. Adds s next c.args.text.now p.0) (sym so) (p.1 c.args.text.now), p.2)) c.add_frame.ensures.ok
