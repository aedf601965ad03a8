-- What a poller hands out.
use Rattle.std.specs.Prelude.{ℕ, Option, None, Some, Result, Ok, Err}

-- how many connections came by an accept
abbrev pub handed_out : {S E : Type 0} → Result (Option S) E → ℕ
handed_out (Ok (Some stream)) = 1
handed_out (Ok None) = 0
handed_out (Err fault) = 0
