-- What a crash might have left since the disk was handed to an open, as the lock's invariant asks where nothing was noted yet.
use Rattle.std.proofs.Common.{◌⊎◌, inl, List, IsTrue}
use Rattle.lz_refinement.{proofs.Vocabulary.{Device, IsTimely, IsImage, Note, BoardId}, specs.Moments.{IsLeftBy, LeftSince}}
use Rattle.lz_disk.proofs.Moments.{quiet}

-- since the disk is as it is now there was no other moment
pub now_since : (b : BoardId) (ns : List Note) (dev : Device) → (IsTrue dev.honest → IsTimely dev) → LeftSince b dev ns dev
now_since b ns dev timely = λ honest. quiet dev (λ t. IsImage dev.medium t ⊎ IsLeftBy b.sizes b.opened ns t) (timely honest) (λ t image. inl image)
