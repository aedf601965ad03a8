-- What an open leaves of the disk, and one that was refused.
use Rattle.lz_vault.specs.declared.opening.OpenFault.TheVariants as opening
use Rattle.lazyset_file_commands.specs.declared.status.Status.TheVariants as status
use Rattle.std.proofs.Common.{◌≡◌, ◌⊎◌, inl, inr, ⊎_elim, ℕ, List, Option, IsTrue, sym, ap, subst, arith}
use Rattle.lz_slot.specs.{Sets.{Keys}, Bytes.{Holds}}
use Rattle.lz_disk.{specs.{Images.{Medium, AreBytes, IsImage, synced}, Devices.{Device, IsTimely, LeavesOnly}}, proofs.Moments.{leaves_more}}
use Rattle.lz_disk.proofs.Writes.{synced_image}
use Rattle.lz_vault.specs.{Opens.{IsRefusedFor}, Vaults.{LeavesEither}, declared.opening.OpenFault.{OpenFault}}
use Rattle.lz_machine.proofs.Open.OpenFailures.{held_is_opened}
use Rattle.lazyset_file_commands.specs.{Ends.{open_status}, Refusals.{FailedOpen, refusal_text}, Tellings.{Tells}, declared.status.Status.{Status}}

-- what a sync makes durable was an image before
synced_was : (old : Device) → IsTimely old → (t : List ℕ) → IsImage (synced old.medium) t → IsImage old.medium t
synced_was old timely t image =
    let is = synced_image old.medium t image in
    let seen : IsImage old.medium old.medium.seen = record {
      bytes = subst AreBytes is image.bytes;
      no_shorter = timely.consistent.no_shorter;
      no_longer = omega arith;
      sure = timely.consistent.same;
      each = timely.consistent.each;
    } in
    subst (IsImage old.medium) (sym is) seen

-- after a sync, or none
pub unwritten : (old new : Device) → IsTimely old → (new.medium ≡ old.medium) ⊎ (new.medium ≡ synced old.medium) → (t : List ℕ) → IsImage new.medium t → IsImage old.medium t
unwritten old new timely (inl same) t image = subst (λ (m : Medium). IsImage m t) same image
unwritten old new timely (inr after_sync) t image = synced_was old timely t (subst (λ (m : Medium). IsImage m t) after_sync image)

-- an open that wrote nothing leaves what could be left before
pub opening_leaves : (old new : Device) → IsTimely old → (new.medium ≡ old.medium) ⊎ (new.medium ≡ synced old.medium) → LeavesEither old new → LeavesOnly old new (λ t. IsImage old.medium t)
opening_leaves old new timely same time = leaves_more old new _ _ (λ t either. ⊎_elim (λ image. image) (λ image. unwritten old new timely same t image) either) time

-- an open that was refused over what holds a set failed for the device or for lack of memory
pub failed_open : (old new : Device) (fault : OpenFault) → IsRefusedFor old new fault → (state : Status) (before after : Option (List ℕ)) (N : ℕ) (S : Keys) → IsTrue old.honest → IsTimely old
    → Holds old.medium.seen N S → Tells before after (refusal_text fault) (open_status fault) state → FailedOpen state before after old new
failed_open old new fault refused state before after N S honest timely held told =
    let cause = held_is_opened old.medium.seen N S fault held (refused.why honest) in
    let fails : open_status fault ≡ status.Failed = ⊎_elim (λ (is : fault ≡ opening.Device). ap open_status is) (λ (is : fault ≡ opening.Memory). ap open_status is) cause in
    record {
      fault = fault;
      cause = cause;
      told = subst (λ (s : Status). Tells before after (refusal_text fault) s state) fails told;
      unwritten = refused.medium honest;
      any_moment = opening_leaves old new timely (refused.medium honest) (refused.time honest);
    }
