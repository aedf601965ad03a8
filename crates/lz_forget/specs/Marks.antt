-- The marks of a set that forgets: keys of the last room.
use Rattle.std.specs.Prelude.{ℕ, ◌+◌, ◌-◌, ◌*◌, ◌/◌, ◌%◌, nat_lt, if◌then◌else◌, Option, None, Some}

-- kind 3: after how many seconds keys are forgotten, and how many epochs are remembered
abbrev pub first_period : ℕ
first_period = 15_003_000_000_000_000_000

abbrev pub period_mark : ℕ → ℕ → ℕ
period_mark seconds epochs = first_period + epochs * 10_000_000_000_000 + seconds

-- kind 4: the room of an epoch, and the millisecond since 1970 at which it begins
abbrev pub first_epoch : ℕ
first_epoch = 15_004_000_000_000_000_000

abbrev pub epoch_mark : ℕ → ℕ → ℕ
epoch_mark room began = first_epoch + room * 10_000_000_000_000 + began

abbrev pub epoch_in : ℕ → Option (ℕ × ℕ)
epoch_in value =
    if nat_lt (value / 10_000_000_000_000) 14 then Some (value / 10_000_000_000_000, value % 10_000_000_000_000) else None

abbrev pub epoch_of : ℕ → Option (ℕ × ℕ)
epoch_of mark = if nat_lt mark first_epoch then None else epoch_in (mark - first_epoch)
