-- The numbers with which a set is served.
use Rattle.std.specs.{Prelude.{◌≡◌, ℕ, zero, suc, ◌*◌, Option, None, IsSomeAnd}, Duration.{as_nanos}, declared.time.Duration.{Duration}}

-- the most connections that loops serve at once
abbrev pub most_connections : ℕ
most_connections = 10000

-- the most threads that serve, each of which is a loop or has a pass
abbrev pub most_threads : ℕ
most_threads = 64

-- so many seconds are the bound on how long a client is waited for; 0 is none
abbrev pub IsIdleBound : ℕ → Option Duration → Type 0
IsIdleBound zero idle = idle ≡ None
IsIdleBound (suc n) idle = IsSomeAnd idle (λ d. as_nanos d ≡ (suc n) * 1_000_000_000)
