use Rattle.lz_vault.proofs.scan.Scan.listed_keys.Given as goal
use Rattle.std.{proofs.Common.{◌≡◌, ℕ, take}, specs.Prelude.{map}}

abbrev pub invariant-loop-index : goal.invariant-loop-index
invariant-loop-index l = l.keys.items ≡ map (λ (node : ℕ × ℕ). node.0) (take l.index l.self.members.items)
