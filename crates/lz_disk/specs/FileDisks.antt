-- What is said of a disk over a file.
use Rattle.std.specs.Prelude.{◌≡◌, ◌⊎◌, ◌↔◌, ℕ, ◌+◌, ◌-◌, ◌≤◌, ◌<◌, IsTrue, Bool, ◌&&◌, nat_le, nat_lt, eqb, List, [], ◌∷◌, length, slice_index, Option, Some}
use Rattle.std.specs.{Prelude.{None}, List.{list_any}, Coded.{×_prop, Π_prop, le_prop}}
use mathlib.Core.Bool.{Bool-set}
use Rattle.lz_disk.specs.{Images.{Medium, IsImage, overwritten}, Devices.{Device, Elapses}, Gathers.{Waiting}}

abbrev pub waiting_of : Option Waiting → Waiting
waiting_of None = record { at = 0; bytes = [] }
waiting_of (Some w) = w

-- The disk's medium: the file's, with the writes that wait, and loose in it is what was written since the last sync.
abbrev pub medium_over : Medium → Waiting → List (ℕ × List ℕ) → Medium
medium_over file waiting unsynced = record { bytewise = file.bytewise; sure = file.sure; seen = overwritten file.seen waiting.at waiting.bytes; loose = unsynced }

-- A crash might have left of the disk what it might have left of the file, and any image of the disk's medium.
abbrev pub device_over : Device → Waiting → List (ℕ × List ℕ) → ℕ → Device
device_over file waiting unsynced calls = record {
  honest = file.honest;
  medium = medium_over file.medium waiting unsynced;
  moment = file.moment;
  left_since = λ t c. file.left_since t c ⊎ IsImage (medium_over file.medium waiting unsynced) c;
  calls = calls;
  faults = file.faults;
  must_fail = ⊥;
}

-- a write puts this byte there
abbrev pub puts : ℕ × List ℕ → ℕ → ℕ → Bool
puts write i b = nat_le write.0 i && nat_lt i (write.0 + length write.1) && eqb (slice_index write.1 (i - write.0)) b

-- one of the writes does, as a test
abbrev pub was_written : List (ℕ × List ℕ) → ℕ → ℕ → Bool
was_written writes i b = list_any (λ w. puts w i b) writes

-- The writes that wait begin within the file as read or at its end, and what was written since the last sync is what is loose in the
-- file, and they.
abbrev pub IsOver : Medium → Waiting → List (ℕ × List ℕ) → Type 0
IsOver file waiting unsynced =
    (waiting.at ≤ length file.seen) × ((i b : ℕ) → was_written unsynced i b ≡ was_written ((waiting.at, waiting.bytes) ∷ file.loose) i b)

-- what holds of a disk over a file at any time
abbrev pub KeepsFile : Device → Waiting → List (ℕ × List ℕ) → Type 0
KeepsFile file waiting unsynced = IsTrue file.honest → IsOver file.medium waiting unsynced

pub KeepsFile-prop : (file : Device) (waiting : Waiting) (unsynced : List (ℕ × List ℕ)) → IsProp (KeepsFile file waiting unsynced)
KeepsFile-prop file waiting unsynced = Π_prop (λ honest. ×_prop le_prop (Π_prop (λ i. Π_prop (λ b. Bool-set _ _))))

-- The disk begins with what the file is.
pub record Begins (file disk : Device) : Type 0 where
  pub honest : disk.honest ≡ file.honest
  pub medium : disk.medium ≡ file.medium
  pub moment : disk.moment ≡ file.moment
  pub faults : disk.faults ≡ file.faults

-- What a crash might have left of the file, one might have left of the disk.
pub record Ends (disk file : Device) : Type 0 where
  pub honest : file.honest ≡ disk.honest
  pub moment : file.moment ≡ disk.moment
  pub left : (t : ℕ) (c : List ℕ) → file.left_since t c → disk.left_since t c
  pub faults : file.faults ≡ disk.faults

-- What is said of the two is the same, as between two calls.
pub record IsSame (old new : Device) : Type 0 where
  pub honest : new.honest ≡ old.honest
  pub medium : new.medium ≡ old.medium
  pub moment : new.moment ≡ old.moment
  pub left : (t : ℕ) (c : List ℕ) → new.left_since t c ↔ old.left_since t c
  pub calls : new.calls ≡ old.calls
  pub faults : new.faults ≡ old.faults

-- A part of a call: what holds of it but for the count of calls.
pub record IsPart (old new : Device) (fault : Type 0) : Type 0 where
  pub honest : new.honest ≡ old.honest
  pub calls : new.calls ≡ old.calls
  pub later : old.faults ≤ new.faults
  pub cause : fault → old.faults < new.faults
  pub time : IsTrue old.honest → Elapses old new
