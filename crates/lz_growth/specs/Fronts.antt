-- The device that shows of a file that grows its slots alone.
use Rattle.std.{specs.Prelude.{◌≡◌, ◌↔◌, ℕ, ◌+◌, ◌≤◌, ◌<◌, Bool, false, ◌&&◌, nat_le, bytes_eq, if◌then◌else◌, IsTrue, List, [], length, take}, proofs.Props.{props}}
use Rattle.lz_slot.specs.{Limits.{most_slots}, Sets.{Keys}, Bytes.{Holds}}
use Rattle.lz_disk.specs.{Images.{AreBytes, Medium, is_loose}, Devices.{Device}}
use Rattle.lz_growth.specs.Growths.{HoldsGrowing, growing_head, room_for, shown}

-- the medium, of which N slots are shown as a file of format 4
abbrev pub front : ℕ → Medium → Medium
front N disk = record { bytewise = disk.bytewise; sure = shown N disk.sure; seen = shown N disk.seen; loose = disk.loose }

-- N slots are there, durable or not, behind the head of a file of N slots that grows, and no write is under way on the head
pub record IsFronted (N : ℕ) (disk : Medium) : Type 0 where
  pub sure_long : room_for N ≤ length disk.sure
  pub seen_long : room_for N ≤ length disk.seen
  pub tight : (i : ℕ) → i < 16 → is_loose disk.loose i ≡ false
  pub bytes : AreBytes disk.sure
  pub head : take 16 disk.seen ≡ growing_head N

-- the text is a file that grows, of N slots
abbrev pub grows : ℕ → List ℕ → Bool
grows N t = nat_le (room_for N) (length t) && bytes_eq (take 16 t) (growing_head N)

-- what a crash leaves of a front of N slots, where it leaves this text of the file: nothing, if that is no file of N slots that grows
abbrev pub left_of : ℕ → List ℕ → List ℕ
left_of N t = if grows N t then shown N t else []

-- The device with this medium. Writes outside of the slots were refused so often: each counts as a call that failed.
abbrev pub device_behind : Device → ℕ → ℕ → Device
device_behind disk N refused = record {
  honest = disk.honest;
  medium = front N disk.medium;
  moment = disk.moment;
  left_since = λ t c. (file : List ℕ) × disk.left_since t file × (left_of N file ≡ c);
  calls = disk.calls + refused;
  faults = disk.faults + refused;
  must_fail = disk.must_fail;
}

-- what holds of a front at any time
pub record KeepsFront (disk : Device) (N : ℕ) : Type 0 where
  pub count : (1 ≤ N) × (N ≤ most_slots)
  pub fronted : IsTrue disk.honest → IsFronted N disk.medium

pub KeepsFront-prop : (disk : Device) (N : ℕ) → IsProp (KeepsFront disk N)
KeepsFront-prop disk N = hlevel props

-- The device is the one behind which this disk is, of which it shows N slots and has refused so many writes.
pub record IsBehind (disk : Device) (N refused : ℕ) (shows : Device) : Type 0 where
  pub honest : shows.honest ≡ disk.honest
  pub medium : shows.medium ≡ front N disk.medium
  pub moment : shows.moment ≡ disk.moment
  pub left : (t : ℕ) (c : List ℕ) → shows.left_since t c ↔ ((file : List ℕ) × disk.left_since t file × (left_of N file ≡ c))
  pub calls : shows.calls ≡ disk.calls + refused
  pub faults : shows.faults ≡ disk.faults + refused
  pub must : shows.must_fail ↔ disk.must_fail

-- What a crash leaves of a front holds a set exactly where what it leaves of the file does.
abbrev pub FrontsShowFiles : Type 0
FrontsShowFiles = (N : ℕ) (t : List ℕ) (S : Keys) → HoldsGrowing t N S ↔ Holds (left_of N t) N S
