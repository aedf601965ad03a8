-- What a rewriting of a file in its own place leaves.
use Rattle.std.specs.Prelude.{◌≡◌, ℕ, ◌+◌, ◌*◌, ◌/◌, ◌<◌, ◌≤◌, true, IsTrue, List, length, take, Ok}
use Rattle.lz_slot.specs.{Bytes.{format_of, header_read}, declared.format.Format.TheVariants.{Four}}
use Rattle.lz_disk.specs.{Images.{Medium, AreBytes, IsImage, is_loose}, Devices.{Device, LeavesOnly}}

-- the text is as long as a file of format 4 with n slots, and its head names that
abbrev pub IsWholeFour : List ℕ → ℕ → Type 0
IsWholeFour t n = (header_read (take 16 t) (length t) ≡ Ok n) × (format_of t ≡ Four)

-- the reads that so many bytes take, and as many writes: 65,536 at once
abbrev pub pieces_of_bytes : ℕ → ℕ
pieces_of_bytes n = (n + 65_535) / 65_536

-- the device calls that write a file of n slots anew: a sync, its size, its head, a read and a write of each piece, and a sync
abbrev pub calls_of_rewriting : ℕ → ℕ
calls_of_rewriting n = 4 + 2 * pieces_of_bytes (16 + 16 * n)

-- the medium reads as it did, and each of its first n bytes was written since the last sync
pub record IsRewrittenTo (old : Medium) (n : ℕ) (new : Medium) : Type 0 where
  pub bytewise : new.bytewise ≡ old.bytewise
  pub sure : new.sure ≡ old.sure
  pub seen : new.seen ≡ old.seen
  pub loose : (i : ℕ) → i < n → is_loose new.loose i ≡ true

-- Where the premise holds, the same is read after the calls, done or failed, and a crash leaves at each moment of them what it might have
-- left before.
pub record KeepsImages (premise : Type 0) (old new : Device) : Type 0 where
  pub honest : new.honest ≡ old.honest
  pub bytewise : IsTrue old.honest → new.medium.bytewise ≡ old.medium.bytewise
  pub later : IsTrue old.honest → old.moment ≤ new.moment
  pub seen : IsTrue old.honest → premise → new.medium.seen ≡ old.medium.seen
  pub images : IsTrue old.honest → premise → (t : List ℕ) → IsImage new.medium t → IsImage old.medium t
  pub time : IsTrue old.honest → premise → LeavesOnly old new (IsImage old.medium)
  pub faults : old.faults ≤ new.faults

-- a crash at some moment might have left any bytes at all of what is read: each of them was being written then
abbrev pub LeavesAny : Device → Device → Type 0
LeavesAny old new = (m : ℕ) (t : List ℕ) → m ≤ old.moment → AreBytes t → length t ≡ length old.medium.seen → new.left_since m t
