-- Which marks are those of calls, and of which.
use Rattle.std.proofs.Common.{ℕ, Bool, true, false}
use Rattle.lz_slot.specs.declared.history.HistoryEvent.{HistoryEvent, TheVariants.{Call}}

abbrev pub is_call : HistoryEvent → Bool
is_call (Call i a c) = true
is_call _ = false

abbrev pub number_of : HistoryEvent → ℕ
number_of (Call i a c) = i
number_of _ = 0
