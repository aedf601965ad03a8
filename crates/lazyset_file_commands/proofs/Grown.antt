-- What a growth reads again, and what it leaves.
use Rattle.lz_vault.specs.declared.making.MakeFault.TheVariants as making
use Rattle.lazyset_file_commands.specs.declared.growing.Standing.TheVariants as stands
use Rattle.std.proofs.Common.{◌≡◌, ◌⊎◌, inl, inr, ⊎_elim, ℕ, ◌≤◌, ◌<◌, List, length, take, get_or, Result, Ok, Err, IsTrue, sym, ◌∙◌, ap, subst, arith}
use Rattle.std.{proofs.lemmas.{List.Elements.{All-get_or}, Bool.Decides.{nat_tests}}, specs.{Prelude.{All, IsErrOf, ◌↔◌}, Cmp.{both_ways}}}
use Rattle.lz_slot.specs.{Bytes.{Holds, format_of, header_read}, Limits.{last_room}, Rooms.{largest_of, last_room_of}, Sets.{Keys, Same, members}}
use Rattle.lz_slot.{specs.declared.format.Format.{Format}, proofs.Files.{HeadBytes.{head_alone}, HeldSets.{holds_same_set}}}
use Rattle.lz_disk.{specs.{Images.{Medium, IsImage, synced}, Devices.{Device, IsTimely, LeavesOnly}}, proofs.Moments.{leaves_more, leaves_then}}
use Rattle.lz_disk.proofs.Writes.{synced_image}
use Rattle.lz_judge.proofs.{OneSet.{held_alike}, Surveys.SoundFile.{held_head}}
use Rattle.lz_vault.specs.{Makes.{IsBadCount}, Opens.{IsFaultOf, IsRefusedFor}, Renewals.{AreHeldBy, OnlySyncs, Renews}, declared.opening.OpenFault.{OpenFault}}
use Rattle.lz_vault.specs.declared.{opening.OpenFault.TheVariants.{Device as DeviceFailed, Memory}, renewing.RenewFault.{RenewFault, TheVariants.{Old, New}}}
use Rattle.lz_vault.proofs.ReadAgain.{are_its_keys}
use Rattle.lazyset_file_commands.specs.{Growths.{HoldOneSetAtRest, IsGrowth, IsLeftOrHolds, IsUnread, MayBeLeft, new_fault}, declared.growing.Standing.{Standing}}
use Rattle.lazyset_file_commands.proofs.HeldKeys.{fit as held_fit}

-- a file that holds a set has no fault of its own
module _ (t : List ℕ) (N : ℕ) (S : Keys) (holds : Holds t N S) where
  head : header_read (take 16 t) (length t) ≡ Ok N
  head = sym (head_alone t (length t)) ∙ held_head t N S holds

  pub faultless : (fault : OpenFault) → IsFaultOf t fault → (fault ≡ DeviceFailed) ⊎ (fault ≡ Memory)
  faultless fault is = grind (arith, nat_tests, head)

-- why a file that holds a list of keys wasn't read
module _ (disk after : Device) (ks : List ℕ) (held : IsTrue disk.honest → AreHeldBy disk.medium.seen ks) where
  other_fault : (fault : OpenFault) → IsRefusedFor disk after fault → (fault ≡ DeviceFailed → ⊥) → (fault ≡ Memory → ⊥) → ¬ IsTrue disk.honest
  other_fault fault refused no_device no_memory = λ honest.
      let is = held honest in
      ⊎_elim no_device no_memory (faultless disk.medium.seen is.0 (members ks) is.1 fault (refused.why honest))

  module _ (new new_after : Device) where
    pub old_unread : (fault : OpenFault) → IsRefusedFor disk after fault → IsUnread disk after new new_after (Old fault)
    old_unread fault refused = grind (arith, nat_tests, other_fault)

-- the same of the new file
module _ (old old_after new after : Device) (ks : List ℕ) (held : IsTrue old.honest → IsTrue new.honest → AreHeldBy new.medium.seen ks) where
  unread_by : (fault : OpenFault) → IsRefusedFor new after fault → (fault ≡ DeviceFailed → ⊥) → (fault ≡ Memory → ⊥) → (new.faults < after.faults) ⊎ (IsTrue old.honest → ¬ IsTrue new.honest)
  unread_by fault refused no_device no_memory = inr (λ old_honest honest. other_fault new after ks (held old_honest) fault refused no_device no_memory honest)

  pub new_unread : (fault : OpenFault) → IsRefusedFor new after fault → IsUnread old old_after new after (new_fault fault)
  new_unread fault refused = grind (arith, nat_tests, unread_by)

-- where there was memory for it, that is told as a failure of the new device
pub told_of_new : (fault : OpenFault) → (fault ≡ Memory → ⊥) → new_fault fault ≡ New making.Device
told_of_new fault no_memory = grind (arith, nat_tests)

-- a device was read, and then read again
module _ (old mid new : Device) (first : OnlySyncs old mid) (second : OnlySyncs mid new) where
  pub still : IsTrue old.honest → IsTrue mid.honest
  still honest = subst IsTrue (sym first.honest) honest

  -- where the first made all durable, the second leaves it so
  stays : mid.medium ≡ synced old.medium → (new.medium ≡ mid.medium) ⊎ (new.medium ≡ synced mid.medium) → new.medium ≡ synced old.medium
  stays is last = ⊎_elim (λ same. same ∙ is) (λ again. again ∙ ap synced is) last

  pub all_durable : IsTrue old.honest → mid.medium ≡ synced old.medium → new.medium ≡ mid.medium
  all_durable honest is = stays is (second.medium (still honest)) ∙ sym is

  pub syncs_then : OnlySyncs old new
  syncs_then = grind (arith, nat_tests, still, leaves_then, leaves_more, all_durable)

-- two files that were read whole, and hold one list of keys
pub at_rest_together : (old old_after new new_after : Device) (ks js : List ℕ) → old_after.honest ≡ old.honest → new_after.honest ≡ new.honest
    → (IsTrue old.honest → old_after.medium ≡ synced old.medium) → (IsTrue new.honest → new_after.medium ≡ synced new.medium)
    → (IsTrue old.honest → AreHeldBy old.medium.seen ks) → (IsTrue new.honest → AreHeldBy new.medium.seen js) → ks ≡ js → HoldOneSetAtRest old_after new_after
at_rest_together old old_after new new_after ks js same_old same_new old_sure new_sure old_held new_held one = grind (arith, nat_tests)

-- a new file is still there after it was read again
module _ (old new new_mid new_after : Device) (format : Format) (n m : ℕ) (second : OnlySyncs new_mid new_after) (same : new_mid.honest ≡ new.honest) (renews : Renews old new new_mid format n m) where
  pub renewed_still : Renews old new new_after format n m
  renewed_still = grind (arith, nat_tests)

-- what a crash leaves under the name of a file
module _ (old after new_after : Device) (syncs : OnlySyncs old after) (timely : IsTimely old) (honest : IsTrue old.honest) (format : Format) (n : ℕ) (S : Keys) where
  of_old : (t : List ℕ) → after.left_since old.moment t → IsLeftOrHolds old format n S t
  of_old t left = grind (arith, nat_tests, synced_image)

  pub named_old : (stood : Standing) → stood ≡ stands.Old → (t : List ℕ) → MayBeLeft old after new_after stood t → IsLeftOrHolds old format n S t
  named_old stood is t left = ⊎_elim (of_old t) (λ put. absurd (put.0 is)) left

  -- where the file that may have the name was made of the old one's keys
  module _ (N : ℕ) (holds : Holds old.medium.seen N S) (new : Device) (new_honest : IsTrue new.honest) (m : ℕ) (renews : Renews old new new_after format n m) where
    of_new : (t : List ℕ) → IsImage new_after.medium t → IsLeftOrHolds old format n S t
    of_new t image =
        let T = members renews.0 in
        let (M, held, order) = renews.3 honest in
        let made = (renews.4 new_honest).0 in
        let here : t ≡ new_after.medium.seen = synced_image new_after.medium t (subst (λ (disk : Medium). IsImage disk t) made.sure image) in
        let same : Same T S = λ k. both_ways (T k) (S k) (held_alike old.medium.seen M N T S held holds k) (held_alike old.medium.seen N M S T holds held k) in
        inr (subst (λ (seen : List ℕ). Holds seen n S × (format_of seen ≡ format)) (sym here) (holds_same_set new_after.medium.seen n T S same made.held, made.named))

    pub named_put : (stood : Standing) (t : List ℕ) → MayBeLeft old after new_after stood t → IsLeftOrHolds old format n S t
    named_put stood t left = ⊎_elim (of_old t) (λ put. of_new t put.1) left

-- a device that was read once more leaves nothing else
pub reads_on : (old mid new : Device) (P : List ℕ → Type 0) → IsTimely mid → IsTrue mid.honest → LeavesOnly old mid P → OnlySyncs mid new → LeavesOnly old new P
reads_on old mid new P timely honest first second = grind (arith, nat_tests, leaves_then, leaves_more, synced_image)

-- a key of some format is one of each format that has all rooms
fits_all_rooms : (F G : Format) (k : ℕ) → last_room_of G ≡ last_room → k ≤ largest_of F → k ≤ largest_of G
fits_all_rooms F G k rooms fits = grind (arith, nat_tests)

-- a renewal, and what is read again after it
module _ (old old_mid old_after new new_mid new_after : Device) (format : Format) (n m : ℕ) (rooms : last_room_of format ≡ last_room) (first : OnlySyncs old old_mid) (second : OnlySyncs new_mid new_after)
    (same : new_mid.honest ≡ new.honest) (later : new.faults ≤ new_mid.faults) (renews : Renews old new new_mid format n m) where
  old_back : IsTrue old_mid.honest → IsTrue old.honest
  old_back honest = subst IsTrue first.honest honest

  old_held : IsTrue old_mid.honest → AreHeldBy old_mid.medium.seen renews.0
  old_held honest = grind (arith, nat_tests)

  fit : IsTrue old.honest → (i : ℕ) → i < length renews.0 → get_or renews.0 i 0 ≤ largest_of format
  fit honest i lt =
      let held = renews.3 honest in
      let t = old.medium.seen in
      let F = format_of t in
      let all = subst (All (λ (k : ℕ). k ≤ largest_of F)) (sym held.2) (held_fit t held.0 (members renews.0) held.1) in
      fits_all_rooms F format (get_or renews.0 i 0) rooms (All-get_or (λ (k : ℕ). k ≤ largest_of F) renews.0 i 0 lt all)

  new_held : IsTrue old_mid.honest → IsTrue new_mid.honest → AreHeldBy new_mid.medium.seen renews.0
  new_held old_honest honest =
      are_its_keys new_mid.medium format n renews.0 (renews.4 (subst IsTrue same honest)).0 (omega (arith, renews.1, renews.2)) (fit (old_back old_honest))

  from_first : (fault : RenewFault) → IsUnread old_mid old_after new_mid new_after fault → IsUnread old old_after new new_after fault
  from_first fault unread = grind (arith, nat_tests)

  not_count : (fault : RenewFault) → IsUnread old_mid old_after new_mid new_after fault → fault ≡ New making.BadCount → ⊥
  not_count fault unread is = subst (IsUnread old_mid old_after new_mid new_after) is unread

  pub refused_late : (untouched : Type 0) (stood : Standing) (fault : RenewFault) → stood ≡ stands.Old → IsErrOf {T = ℕ} (Ok m) (New making.BadCount) ↔ IsBadCount format n
      → ((keys : List ℕ) → (IsTrue old_mid.honest → AreHeldBy old_mid.medium.seen keys) → (IsTrue old_mid.honest → IsTrue new_mid.honest → AreHeldBy new_mid.medium.seen keys) → IsUnread old_mid old_after new_mid new_after fault)
      → IsGrowth old old_after new new_after untouched stood format n (Err fault)
  refused_late untouched stood fault is counts unread_of =
      let unread = unread_of renews.0 old_held new_held in
      record {
        grown = tt;
        refused = inr (record { made = (m, renewed_still old new new_mid new_after format n m second same renews); why = inl (is, from_first fault unread) });
        count = (λ e. absurd (not_count fault unread (let same_fault : ◌≡◌ {A = Result ℕ RenewFault} (Err fault) (Err (New making.BadCount)) = e in cc)), λ bad. absurd (let never : ◌≡◌ {A = Result ℕ RenewFault} (Ok m) (Err (New making.BadCount)) = counts.1 bad in cc));
        read = λ honest. tt;
        checked = λ honest. tt;
      }
