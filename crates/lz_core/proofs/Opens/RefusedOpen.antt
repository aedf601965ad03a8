-- A world whose open is refused.
use Rattle.std.proofs.Common.{◌≡◌, ◌≤◌, ◌⊎◌, inl, inr, ⊎_elim, ◌↔◌, ℕ, Bool, true, false, IsTrue, List, [], ◌∷◌, Option, Some, None, is_some, unwrap_or, refl}
use Rattle.std.proofs.{Common.{sym, ap, ◌∙◌, subst, arith}, lemmas.Bool.{false≢true}}
use Rattle.lz_slot.specs.declared.history.HistoryEvent.TheVariants.{OpenFailed as refused}
use Rattle.lz_disk.specs.{Images.{Medium, synced}, Records.{Past, after, device_of}}
use Rattle.lz_vault.specs.{declared.opening.OpenFault.{OpenFault, TheVariants.{Device, Memory}}, Opens.{IsRefusedFor, open_fault_number}}
use Rattle.lz_machine.{specs.{OpenFailures.{IsOpenFailure}, Yards.{Shape}, Runs.{State, Down, OpenFails}}, proofs.Open.OpenFailures.{held_is_opened}}
use Rattle.lz_yard.specs.Parts.{YardOver}
use Rattle.lz_core.specs.declared.{play.Step.TheVariants.{Open}, open_calls.OpenCall.{OpenCall}}
use Rattle.lz_core.specs.Worlds.{Goes, HasOne, HasRun, IsWorld, PlaysOn, StopsEarly, WorldOver, armed, fault_told, state_shown, world_shown}
use Rattle.lz_core.proofs.Runs.{PlayedStep.{leads, runs_on}, JoinedPlays.{early_lack}}
use Rattle.lz_core.proofs.Opens.OpenedWorld.{must_fail, no_service, ran_down, run_holds, state_was}

-- the disk is as it was, or was synced
module _ (shape : Shape) (was : Medium) (left : Medium) (is : (left ≡ was) ⊎ (left ≡ synced was)) (calls why : ℕ) (tripped now : Bool) (number : IsOpenFailure why) where
  abbrev from : WorldOver
  from = record { state = Down shape was; calls = calls; tripped = tripped }

  abbrev to : WorldOver
  to = record { state = Down shape left; calls = calls; tripped = now }

  pub refused_goes : (done : Bool) × Goes from Open (OpenFails why done) (refused why ∷ []) to
  refused_goes = grind arith

-- a fault of the device is told where the device was tripped
device_none : (tripped : Bool) → fault_told Device tripped ≡ None → tripped ≡ false
device_none false is = refl
device_none true is = absurd (false≢true (sym (ap is_some is)))

device_some : (tripped : Bool) (why : ℕ) → fault_told Device tripped ≡ Some why → (tripped ≡ true) × (why ≡ 7)
device_some false why is = absurd (false≢true (ap is_some is))
device_some true why is = (refl, sym (ap (λ (o : Option ℕ). unwrap_or o 7) is))

memory_some : (tripped : Bool) (why : ℕ) → fault_told Memory tripped ≡ Some why → ⊥
memory_some tripped why is = false≢true (ap is_some is)

apart : Memory ≡ Device → ⊥
apart is = absurd cc

module _ (shape : Shape) (yard : Option (YardOver Past)) (disk : Option Past) (callers : List (Option OpenCall)) (calls : ℕ) (taken : Past) (is : disk ≡ Some taken) (world : IsWorld shape yard disk callers calls)
    (tripped : Bool) (left : Past) (fault : OpenFault) (for : IsRefusedFor (device_of (armed tripped taken)) (device_of left) fault) where
  abbrev before_it : WorldOver
  before_it = world_shown shape yard disk callers calls tripped

  abbrev after_it : WorldOver
  after_it = world_shown shape yard (Some left) callers calls false

  cause : (fault ≡ Device) ⊎ (fault ≡ Memory)
  cause =
      let held = run_holds shape (after taken.bytewise taken.start taken.records) calls (ran_down shape yard disk callers calls taken is world) in
      held_is_opened (after taken.bytewise taken.start taken.records).seen shape.slots held.0 fault held.1 (for.why refl)

  failure : IsOpenFailure (open_fault_number fault)
  failure = ⊎_elim (λ device. inl (ap open_fault_number device)) (λ memory. inr (ap open_fault_number memory)) cause

  state_left : state_shown shape yard (Some left) callers ≡ Down shape (after left.bytewise left.start left.records)
  state_left = ap (λ (y : Option (YardOver Past)). state_shown shape y (Some left) callers) (no_service shape yard disk callers calls taken is world)

  goes : (why : ℕ) → IsOpenFailure why → (done : Bool) × Goes before_it Open (OpenFails why done) (refused why ∷ []) after_it
  goes why number =
      let down = refused_goes shape (after taken.bytewise taken.start taken.records) (after left.bytewise left.start left.records) (for.medium refl) calls why tripped false number in (
        down.0,
        subst (λ (s : State). Goes before_it Open (OpenFails why down.0) (refused why ∷ []) (record { state = s; calls = calls; tripped = false })) (sym state_left)
            (subst (λ (s : State). Goes (record { state = s; calls = calls; tripped = tripped }) Open (OpenFails why down.0) (refused why ∷ []) (record { state = Down shape (after left.bytewise left.start left.records); calls = calls; tripped = false }))
            (sym (state_was shape yard disk callers calls taken is world)) down.1),
      )

  pub refused_world : IsWorld shape yard (Some left) callers calls
  refused_world = record {
    one = subst (λ (y : Option (YardOver Past)). HasOne y (Some left)) (sym (no_service shape yard disk callers calls taken is world)) tt;
    count = world.count;
    on_it = world.on_it;
    ran = let step = goes (open_fault_number fault) failure in
        subst (λ (s : State). HasRun shape s calls) (sym state_left)
        (runs_on shape before_it (record { state = Down shape (after left.bytewise left.start left.records); calls = calls; tripped = false }) Open (OpenFails (open_fault_number fault) step.0) (refused (open_fault_number fault) ∷ []) world.ran
        (subst (λ (s : State). Goes before_it Open (OpenFails (open_fault_number fault) step.0) (refused (open_fault_number fault) ∷ []) (record { state = s; calls = calls; tripped = false })) state_left step.1) tt);
  }

  ranged : (why : ℕ) → IsOpenFailure why → (1 ≤ why) × (why ≤ 8)
  ranged why (inl is) = (omega (arith, is), omega (arith, is))
  ranged why (inr is) = (omega (arith, is), omega (arith, is))

  play : (why : ℕ) → IsOpenFailure why → (why ≡ 7) ↔ IsTrue tripped → PlaysOn before_it (Open ∷ []) (refused why ∷ []) after_it
  play why number as_tripped = let step = goes why number in leads before_it after_it Open (OpenFails why step.0) (refused why ∷ []) step.1 (ranged why number, tt) as_tripped refl

  pub told_fault : (why : ℕ) → fault_told fault tripped ≡ Some why → PlaysOn before_it (Open ∷ []) (refused why ∷ []) after_it
  told_fault why told = grind (arith, device_some, play, memory_some, cause)

  pub told_none : fault_told fault tripped ≡ None → StopsEarly before_it (Open ∷ []) after_it
  told_none told = ⊎_elim
      (λ (device : fault ≡ Device).
      let none = device_none tripped (subst (λ (f : OpenFault). fault_told f tripped ≡ None) device told) in
      let step = goes 7 (inl refl) in
      early_lack before_it after_it Open (record { step = OpenFails 7 step.0; failure = refl; marks = refused 7 ∷ []; goes = step.1; untripped = (none, refl) }))
      (λ (memory : fault ≡ Memory). record {
        count = 1;
        few = omega arith;
        marks = refused 8 ∷ [];
        mid = after_it;
        before = play 8 (inr refl) ((λ (same : 8 ≡ 7). absurd (omega (arith, same))), (λ is_tripped. absurd (apart (sym memory ∙ for.must (must_fail tripped taken is_tripped)))));
        last = inl refl;
      })
      cause
