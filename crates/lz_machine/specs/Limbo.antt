-- What has been seen of a pass since a slot was retired: v is its pin word, P0 the trace at its last pin, P the trace now.
use Rattle.std.specs.Prelude.{◌≡◌, ℕ, suc, ◌<◌, ◌≤◌, ◌%◌}
use Rattle.lz_allot.specs.declared.sight.Sight.{Sight, TheVariants.{Unseen, Inside, Left}}
use Rattle.lz_list.specs.{Traces.{Trace}, Pinned.{Stood}}

-- since P0 the slot stood on no chain
abbrev pub IsAway : ℕ → Trace → Trace → ℕ → Type 0
IsAway buckets P0 P t = (b : ℕ) → Stood buckets b P0 P (suc t) → ⊥

-- the sight of the pass is right
abbrev pub IsRightSight : ℕ → ℕ → Trace → Trace → ℕ → Sight → Type 0
IsRightSight buckets v P0 P t Unseen = Unit {0}
IsRightSight buckets v P0 P t (Inside u) = (u % 2 ≡ 1) × (u ≤ v) × (u < v → v % 2 ≡ 1 → IsAway buckets P0 P t)
IsRightSight buckets v P0 P t Left = v % 2 ≡ 1 → IsAway buckets P0 P t
