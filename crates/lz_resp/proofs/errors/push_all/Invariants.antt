use Rattle.lz_resp.proofs.errors.push_all.Given as goal
use Rattle.std.{proofs.Common.{◌≡◌, ◌++◌, drop}, specs.Prelude.{map}}
use Rattle.lz_resp.specs.Commands.{shown_all}

abbrev pub invariant-loop-argument : goal.invariant-loop-argument
invariant-loop-argument l =
    l.text.items ++ shown_all l.room (map (λ argument. argument.now) (drop l.argument-index l.arguments)) ≡ l.initial.text.items ++ shown_all 128 (map (λ argument. argument.now) l.arguments)
