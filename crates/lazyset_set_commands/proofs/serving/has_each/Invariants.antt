use Rattle.lazyset_set_commands.proofs.serving.has_each.Given as goal
use Rattle.std.specs.{Prelude.{◌≡◌, ◌≤◌, ◌<◌, ◌==◌, ℕ, true}, List.{list_any}}

abbrev pub invariant-loop-number : goal.invariant-loop-number
invariant-loop-number l = (1 ≤ l.number) × ((k : ℕ) → 1 ≤ k → k < l.number → list_any (λ p. p.number == k) l.passes ≡ true)
