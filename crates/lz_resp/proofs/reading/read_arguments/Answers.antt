use Rattle.lz_resp.proofs.reading.read_arguments.Goals as goal
use Rattle.std.proofs.{Common.{◌≡◌, ◌∙◌, ◌-◌, ◌+◌, ◌++◌, [], ◌∷◌, ℕ, List, Bor, sym, ap, arith}, lemmas.{Result.{err_from_is_err_and}, List.{map-append}}}
use Rattle.std.specs.Prelude.{map}
use Rattle.lz_resp.{specs.Reading.{arguments_at}, proofs.Fronts.{with_front, arguments_fail, arguments_next, arguments_wait}}

pub returns-in_err-argument-clause-gives : goal.returns-in_err-argument-clause-gives
returns-in_err-argument-clause-gives c =
    let p = err_from_is_err_and c.from_residual.result c.from_residual.ensures.1 in
    rw (p.1, p.2)
    (sym c.bulks.invariant.read
    ∙ arguments_fail c.args.count c.bulks.counter (map (λ (w : Bor (List ℕ)). w.now) c.bulks.arguments.items) c.bulks.rest.now c.in_err-argument.field-0.0 c.bulks-test.true (sym c.in_err-argument.ensures.gives))

pub returns-in_default-clause-gives : goal.returns-in_default-clause-gives
returns-in_default-clause-gives c =
    sym c.bulks.invariant.read
    ∙ arguments_wait c.args.count c.bulks.counter (map (λ (w : Bor (List ℕ)). w.now) c.bulks.arguments.items) c.bulks.rest.now c.bulks-test.true (sym (rw c.in_default.is at c.in_ok-argument.ensures.gives))

pub bulks-preserved : goal.bulks-preserved
bulks-preserved c =
    let front = map (λ (w : Bor (List ℕ)). w.now) c.bulks.arguments.items in
    let more : map (λ (w : Bor (List ℕ)). w.now) c.push.new.self.items ≡ front ++ c.in-Some.argument.now ∷ [] =
    ap (map (λ (w : Bor (List ℕ)). w.now)) (rw c.in_ok-push.was at c.push.ensures.items) ∙ map-append (λ (w : Bor (List ℕ)). w.now) c.bulks.arguments.items (c.in-Some.argument ∷ []) in
    let so = rw c.in-Some.is at c.in_ok-argument.ensures.gives in
    record {
      read = ap (λ (f : List (List ℕ)). with_front f (arguments_at (c.args.count - (c.bulks.counter + 1)) c.in-Some.after.now)) more
          ∙ sym (arguments_next c.args.count c.bulks.counter front c.in-Some.argument.now c.bulks.rest.now c.in-Some.after.now c.bulks-test.true (sym so))
          ∙ c.bulks.invariant.read;
      inside = omega (arith, c.bulks.invariant.inside, rw c.in-Some.is at c.in_ok-argument.ensures.inside);
    }
