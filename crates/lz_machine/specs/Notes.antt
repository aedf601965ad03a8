-- What proofs keep beside a state, and the rows of its life.
use Rattle.std.specs.Prelude.{ℕ, zero, suc, true, List, [], ◌∷◌, ◌++◌, Option, Some, None}
use Rattle.lz_list.specs.Traces.{Trace}
use Rattle.lz_machine.specs.{Runs.{Caller, caller_at}, Ledgers.{Row}}

-- What proofs keep beside a state: for each pass the trace at its last pin and the position at which its call has changed
-- something, if it has; and the rows of the calls of this life that have ended, in the order of their ends.
pub record Notes : Type 0 where
  pub begun : ℕ → Trace
  pub changed : ℕ → Option ℕ
  pub ended : List Row

-- The rows of the life: those of the ended calls, and then one for each open call that has changed something.
abbrev pub pending_row : Option Caller → Option ℕ → List Row
pending_row (Some caller) (Some at) =
    record { number = caller.number; command = caller.command; answer = None; changes = true; position = at } ∷ []
pending_row _ _ = []

-- of the actors from 1 to n
abbrev pub pending : List (Option Caller) → (ℕ → Option ℕ) → ℕ → List Row
pending callers changed zero = []
pending callers changed (suc n) = pending callers changed n ++ pending_row (caller_at callers (suc n)) (changed (suc n))

abbrev pub entries : ℕ → List (Option Caller) → Notes → List Row
entries passes callers notes = notes.ended ++ pending callers notes.changed passes
