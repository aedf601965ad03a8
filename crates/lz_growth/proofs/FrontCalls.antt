-- What a call of the disk is for its front.
use Rattle.std.proofs.Common.{◌≡◌, ◌⊎◌, inl, inr, ⊎_elim, ℕ, ◌+◌, ◌≤◌, IsTrue, List, length, refl, subst, sym, ap, ◌∙◌, arith}
use Rattle.std.specs.Prelude.{Result, Ok, Err, OnErr, OnOk}
use Rattle.lz_disk.specs.{Images.{AreBytes, IsConsistent, Medium, WriteFailed, synced, written}, Devices.{Device, Elapses, IsCall, IsTimely}}
use Rattle.lz_growth.specs.{Growths.{room_for, shown}, Fronts.{IsFronted, device_behind, front}, TimelyFronts.{left_image, shown_bytes}}
use Rattle.lz_growth.proofs.FrontMedia.{failed_fronted, front_failed, front_written, synced_fronted, written_fronted}

behind_elapses : (old new : Device) (N refused : ℕ) → IsFronted N new.medium → IsConsistent new.medium → Elapses old new → Elapses (device_behind old N refused) (device_behind new N refused)
behind_elapses old new N refused is held time = record {
  later = time.later;
  nothing_else = λ t c le left. ⊎_elim
      (λ past. inl (left.0, past, left.2))
      (λ now. inr (left_image N new.medium is held left.0 c left.2 now))
      (time.nothing_else t left.0 le left.1);
  keeps = λ t c le left. (left.0, time.keeps t left.0 le left.1, left.2);
}

-- the disk was called, and has its slots still
pub behind_call : (old new : Device) (N refused : ℕ) {fault : Type 0} → (IsTrue old.honest → IsFronted N new.medium) → (IsTrue new.honest → IsTimely new) → IsCall old new fault
    → IsCall (device_behind old N refused) (device_behind new N refused) fault
behind_call old new N refused is timely call = record {
  honest = call.honest;
  time = λ honest. behind_elapses old new N refused (is honest) (timely (subst IsTrue (sym call.honest) honest)).consistent (call.time honest);
  one = omega (arith, call.one);
  later = omega (arith, call.later);
  cause = λ failed. omega (arith, call.cause failed);
  must = call.must;
}

-- a fault that is told of another value
pub told_call : (old new : Device) {F G : Type 0} → (G → F) → (F → G) → IsCall old new F → IsCall old new G
told_call old new back told call = record {
  honest = call.honest;
  time = call.time;
  one = call.one;
  later = call.later;
  cause = λ failed. call.cause (back failed);
  must = λ bound. told (call.must bound);
}

-- a write was refused
pub refused_call : (disk : Device) (N refused : ℕ) {fault : Type 0} → fault → IsCall (device_behind disk N refused) (device_behind disk N (refused + 1)) fault
refused_call disk N refused failed = record {
  honest = refl;
  time = λ honest. record { later = omega arith; nothing_else = λ t c le left. inl left; keeps = λ t c le left. left };
  one = omega arith;
  later = omega arith;
  cause = λ told. omega arith;
  must = λ bound. failed;
}

-- the medium stays
pub same_fronted : (N : ℕ) (old new : Medium) → new ≡ old → IsFronted N old → IsFronted N new
same_fronted N old new same is = subst (IsFronted N) (sym same) is

-- a sync, done or failed
pub sync_fronted : {E : Type 0} (r : Result (Unit {0}) E) (old new : Medium) (N : ℕ) → IsFronted N old
    → OnOk r (new ≡ synced old) → OnOk r (AreBytes new.seen) → OnErr r (new ≡ old) → IsFronted N new
sync_fronted (Ok x) old new N is done bytes fails = subst (IsFronted N) (sym done) (synced_fronted N old is (subst (λ (m : Medium). AreBytes m.seen) done bytes))
sync_fronted (Err x) old new N is done bytes fails = same_fronted N old new fails is

pub sync_bytes : {E : Type 0} (r : Result (Unit {0}) E) (N : ℕ) (seen : List ℕ) → OnOk r (AreBytes seen) → OnOk r (AreBytes (shown N seen))
sync_bytes (Ok x) N seen bytes = shown_bytes N seen bytes
sync_bytes (Err x) N seen bytes = tt

-- a write within the slots, done or failed
module _ (old new : Medium) (N at : ℕ) (bytes : List ℕ) (is : IsFronted N old) (low : 16 ≤ at) (high : at + length bytes ≤ room_for N) {E : Type 0} where
  pub write_fronted : (r : Result (Unit {0}) E) → OnOk r (new ≡ written old at bytes) → OnErr r ((new ≡ old) ⊎ WriteFailed old at bytes new) → IsFronted N new
  write_fronted (Ok x) done fails = subst (IsFronted N) (sym done) (written_fronted N old at bytes is low high)
  write_fronted (Err x) done fails = ⊎_elim (λ same. same_fronted N old new same is) (λ partly. failed_fronted N old at bytes is low high new partly) fails

  pub write_done : (r : Result (Unit {0}) E) → OnOk r (new ≡ written old at bytes) → OnOk r (front N new ≡ written (front N old) at bytes)
  write_done (Ok x) done = ap (front N) done ∙ front_written N old at bytes is low high
  write_done (Err x) done = tt

  pub write_failed : (r : Result (Unit {0}) E) → OnErr r ((new ≡ old) ⊎ WriteFailed old at bytes new)
      → OnErr r ((front N new ≡ front N old) ⊎ WriteFailed (front N old) at bytes (front N new))
  write_failed (Ok x) fails = tt
  write_failed (Err x) fails = ⊎_elim (λ same. inl (ap (front N) same)) (λ partly. inr (front_failed N old at bytes is low high new partly)) fails
