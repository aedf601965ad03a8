-- What the parts of a raise leave.
use Rattle.std.specs.Prelude.{◌≡◌, ℕ, ◌≤◌, ◌<◌, false, List, length, slice_index}
use Rattle.lz_disk.specs.Images.{Medium, is_loose}
use Rattle.lz_growth.specs.Growths.{room_for}

-- the first n bytes are there, and no write is under way on them
pub record IsFirm (n : ℕ) (disk : Medium) : Type 0 where
  pub long : n ≤ length disk.sure
  pub tight : (i : ℕ) → i < n → is_loose disk.loose i ≡ false

-- nothing more is durable than before, and still no write is under way on the first n bytes
pub record StaysFirm (n : ℕ) (old new : Medium) : Type 0 where
  pub bytewise : new.bytewise ≡ old.bytewise
  pub sure : new.sure ≡ old.sure
  pub tight : (i : ℕ) → i < n → is_loose new.loose i ≡ false

-- the text begins with the first n bytes of the old one
pub record BeginsAs (old : List ℕ) (n : ℕ) (t : List ℕ) : Type 0 where
  pub long : n ≤ length t
  pub same : (i : ℕ) → i < n → slice_index t i ≡ slice_index old i

-- the slots from this one up to that one are there, and each of their bytes is zero
pub record IsCleared (from to : ℕ) (t : List ℕ) : Type 0 where
  pub long : room_for to ≤ length t
  pub zeros : (i : ℕ) → room_for from ≤ i → i < room_for to → slice_index t i ≡ 0
