-- The rooms of epochs.
use Rattle.std.specs.Prelude.{ℕ, ◌+◌, ◌-◌, ◌%◌, ◌<◌, ◌≤◌}
use Rattle.lz_forget.specs.declared.live.Live.{Live}

-- one room is remembered at least, and there are two more than may be
abbrev pub IsLive : Live → Type 0
IsLive live = (live.newest < 14) × (1 ≤ live.count) × (live.count ≤ 12)

-- the room of the epoch of this age
abbrev pub room_at : Live → ℕ → ℕ
room_at live age = (live.newest + 14 - age) % 14
