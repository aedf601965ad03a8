use Rattle.lz_resp.proofs.errors.push_all.Goals as goal
use Rattle.std.{proofs.{Common.{◌≡◌, ◌∙◌, ℕ, List, [], ◌∷◌, ◌++◌, Bor, drop, refl, sym, ap, rules}, lemmas.List.{append-nil}}, specs.Prelude.{map}}
use Rattle.lz_resp.specs.Commands.{shown_all}

-- no argument is shown where there is no room
shown_none : (arguments : List (List ℕ)) → shown_all 0 arguments ≡ []
shown_none [] = refl
shown_none (argument ∷ arguments) = refl

pub returns-then-room-eq0 : goal.returns-then-room-eq0
returns-then-room-eq0 c =
    let arguments = map (λ (w : Bor (List ℕ)). w.now) (drop c.loop-argument.argument-index c.args.arguments.now) in
    let room : c.loop-argument.room ≡ 0 = search rules in
    sym (append-nil c.loop-argument.text.items) ∙ ap (λ (t : List ℕ). c.loop-argument.text.items ++ t) (sym (shown_none arguments) ∙ ap (λ (n : ℕ). shown_all n arguments) (sym room)) ∙ c.loop-argument.invariant
