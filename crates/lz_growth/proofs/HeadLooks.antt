-- What is looked at of a file before its slots: a sync, and calls that change nothing.
use Rattle.std.{proofs.Common.{◌≡◌, List, ℕ, IsTrue, subst}, specs.Prelude.{Result, IsErr, OnErr, OnOk}}
use Rattle.lz_disk.specs.{Images.{AreBytes, IsImage, Medium, synced}, Devices.{Device, IsCall, IsTimely}}
use Rattle.lz_vault.{specs.Makes.{IsPart}, proofs.MakingParts.{part_then, same_part, sync_image, sync_part}}

module _ {E : Type 0} (r : Result (Unit {0}) E) (F : Type 0) (start synced_disk sized : Device)
    (timely : IsTrue start.honest → IsTimely start) (sync : IsCall start synced_disk (IsErr r)) (is : IsTrue start.honest → OnOk r (synced_disk.medium ≡ synced start.medium))
    (bytes : IsTrue start.honest → OnOk r (AreBytes synced_disk.medium.seen)) (fails : IsTrue start.honest → OnErr r (synced_disk.medium ≡ start.medium))
    (synced_timely : IsTrue synced_disk.honest → IsTimely synced_disk) (size : IsCall synced_disk sized F) (size_same : IsTrue synced_disk.honest → sized.medium ≡ synced_disk.medium) where
  synced_image : IsTrue synced_disk.honest → (c : List ℕ) → IsImage synced_disk.medium c → IsImage start.medium c
  synced_image honest c image =
      let begun = subst IsTrue sync.honest honest in
      sync_image r start.medium synced_disk.medium (timely begun).consistent (is begun) (bytes begun) (fails begun) c image

  pub sized_part : IsPart (IsImage start.medium) start sized F
  sized_part =
      part_then (IsImage start.medium) start synced_disk sized (IsErr r) F
      (sync_part r (IsImage start.medium) start synced_disk timely sync is bytes fails (λ honest c image. image))
      (same_part (IsImage start.medium) synced_disk sized F synced_timely size size_same synced_image)

  module _ (G : Type 0) (new : Device) (sized_timely : IsTrue sized.honest → IsTimely sized) (read : IsCall sized new G) (read_same : IsTrue sized.honest → new.medium ≡ sized.medium) where
    sized_image : IsTrue sized.honest → (c : List ℕ) → IsImage sized.medium c → IsImage start.medium c
    sized_image honest c image =
        let begun = subst IsTrue size.honest honest in
        synced_image begun c (subst (λ (m : Medium). IsImage m c) (size_same begun) image)

    pub read_part : IsPart (IsImage start.medium) start new G
    read_part = part_then (IsImage start.medium) start sized new F G sized_part (same_part (IsImage start.medium) sized new G sized_timely read read_same sized_image)
