-- A world whose disk is opened.
use Rattle.std.proofs.Common.{◌≡◌, inl, inr, ℕ, Bool, IsTrue, if◌then◌else◌, zero, suc, ◌≤◌, true, false, List, [], ◌∷◌, length, map, slice_get, ◌%◌, ◌==◌}
use Rattle.std.proofs.{Common.{Option, Some, None, refl, sym, ap, ◌∙◌, subst, arith, replicate}, lemmas.List.{length-map, length-replicate}}
use Rattle.lz_slot.specs.{Limits.{most_actors, most_buckets}, declared.{history.HistoryEvent.TheVariants.{Opened as opened}, format.Format.{Format}}}
use Rattle.lz_slot.specs.{Bytes.{Holds, format_of}, Sets.{Keys, members}, Histories.{Life, lives}}
use Rattle.lz_disk.specs.{Images.{Medium, AreBytes, at_rest, synced}, Records.{MustFail, Past, after, device_of}}
use Rattle.lz_vault.specs.{Stages.{Suits}, Opens.{MayOpen}, Makes.{IsFresh}}
use Rattle.lz_core.specs.declared.{play.Step.TheVariants.{Open}, open_calls.OpenCall.{OpenCall}}
use Rattle.lz_core.specs.Worlds.{WorldOver, Goes, IsNew, IsWorld, HasOne, HasRun, IsCallOn, PlaysOn, armed, call_shown, state_shown, world_shown}
use Rattle.lz_core.proofs.{Runs.PlayedStep.{leads, runs_on}, Members.ShownKeys.{yard_read}}
use Rattle.lz_machine.specs.Yards.{Shape, opened_yard}
use Rattle.lz_machine.specs.Runs.{Caller, Start, IsStart, start_keys, State, Up, Down, Opens, Point, first_point, opened_service, keys_found}
use Rattle.lz_machine.{specs.{Sound.{DownSound, StateSound, PointSound, IsSound}, Points.{IsBetweenLooks}}, proofs.Theorem.Reached.{reached_sound}}
use Rattle.lz_machine.proofs.Open.{FoundSlots.{pass_of}, ListedKeys.{listed}, FirstPoint.{one_set}}
use Rattle.lz_yard.{specs.{Filling.{OpensYard}, Parts.{YardOver}}, proofs.Opening.SlotReads.{read_length}}
use Rattle.lz_list.specs.Traces.{Trace}
use Rattle.lz_judge.specs.MarkLines.{AscendFrom}

-- a text that holds a set has one number of slots
one_count : (t : List ℕ) (N n : ℕ) (S T : Keys) → Holds t N S → Holds t n T → N ≡ n
one_count t N n S T one other = omega (arith, one.size, other.size)

-- no calls are shown as none
none_shown : (n : ℕ) → map call_shown (replicate n None) ≡ replicate n None
none_shown zero = refl
none_shown (suc n) = ap (λ (cs : List (Option Caller)). None ∷ cs) (none_shown n)

no_call_on : (shape : Shape) (n i : ℕ) (call : Option OpenCall) → slice_get (replicate n None) i ≡ Some call → IsCallOn shape call
no_call_on shape zero i call is = absurd cc
no_call_on shape (suc n) zero None is = tt
no_call_on shape (suc n) zero (Some call) is = absurd cc
no_call_on shape (suc n) (suc i) call is = no_call_on shape n i call is

quiet_at_first : (shape : Shape) (t : List ℕ) (disk : Medium) → IsBetweenLooks (Up (opened_service shape t) disk)
quiet_at_first shape t disk a none = ap (λ (q : ℕ). q % 2 == 0) (pass_of shape.passes a 0)

-- The disk of a world without a service
record IsLeft (shape : Shape) (disk : Medium) : Type 0 where
  pub life : Life
  pub trace : Trace
  pub sound : DownSound shape disk life trace

point_left : (start : Start) (p : Point) (L : List Life) (shape : Shape) (disk : Medium) → PointSound start p L → p.state ≡ Down shape disk → IsLeft shape disk
point_left start p [] shape disk h is = absurd h
point_left start p (life ∷ earlier) shape disk h is = record { life = life; trace = p.trace; sound = subst (λ (w : State). StateSound p w life) is h.2 }

run_left : (shape : Shape) (disk : Medium) (calls : ℕ) → HasRun shape (Down shape disk) calls → IsLeft shape disk
run_left shape disk calls ran =
    let sound : IsSound ran.start ran.point = subst (IsSound ran.start) ran.reached.point (reached_sound ran.start ran.reached.steps ran.reached.starts ran.reached.runs) in
    point_left ran.start ran.point (lives (start_keys ran.start) ran.point.marks) shape disk sound ran.at.state

-- holds a set of as many slots as its shape has, and suits the format of its file
pub run_holds : (shape : Shape) (disk : Medium) (calls : ℕ) → HasRun shape (Down shape disk) calls → (S : Keys) × Holds disk.seen shape.slots S
run_holds shape disk calls ran =
    let left = (run_left shape disk calls ran).sound in
    let list = left.each disk.seen left.sound.seen in
    (list.found, list.holds)

run_suits : (shape : Shape) (disk : Medium) (calls : ℕ) → HasRun shape (Down shape disk) calls → Suits (format_of disk.seen) disk
run_suits shape disk calls ran = let left = (run_left shape disk calls ran).sound in left.suits disk.seen left.sound.seen

module _ (shape : Shape) (before : Past) (over : YardOver Past) (opens : OpensYard (device_of before) (device_of over.disk) shape.buckets shape.passes over.yard) where
  abbrev disk : Medium
  disk = after before.bytewise before.start before.records

  slots_is : (S : Keys) → Holds disk.seen shape.slots S → over.yard.shape.slots ≡ shape.slots
  slots_is S holds = grind (arith, one_count, yard_read, length-map, read_length)

  shape_opened : (S : Keys) → Holds disk.seen shape.slots S → over.yard.shape ≡ shape
  shape_opened S holds = grind (arith, slots_is)

  pub bytes_read : AreBytes disk.seen
  bytes_read = subst (λ (m : Medium). AreBytes m.seen) (opens.vault.medium refl) (opens.vault.kept refl).sound.seen.bytes

  suits_read : Suits (format_of disk.seen) disk
  suits_read four = subst (λ (m : Medium). m.bytewise ≡ true) (opens.vault.medium refl) ((opens.vault.kept refl).suits (opens.vault.format refl ∙ four))

  state_opened : (S : Keys) (left : Option Past) (callers : List (Option OpenCall)) → Holds disk.seen shape.slots S → callers ≡ replicate shape.passes None
      → state_shown shape (Some over) left callers ≡ Up (opened_service shape disk.seen) (synced disk)
  state_opened S left callers holds none =
      let yard : over.yard ≡ opened_yard shape disk.seen = yard_read _ _ _ _ _ opens refl ∙ ap (λ (s : Shape). opened_yard s disk.seen) (shape_opened S holds) in
      let calls : map call_shown callers ≡ replicate shape.passes None = ap (λ (cs : List (Option OpenCall)). map call_shown cs) none ∙ none_shown shape.passes in
      let medium : after over.disk.bytewise over.disk.start over.disk.records ≡ synced disk = opens.vault.medium refl in
      cc (yard, calls, medium)

  -- a world without a service opens
  module _ (calls : ℕ) (tripped : Bool) (left : Option Past) (callers : List (Option OpenCall)) (none : callers ≡ replicate shape.passes None) where
    abbrev old : WorldOver
    old = record { state = Down shape disk; calls = calls; tripped = tripped }

    abbrev new : WorldOver
    new = world_shown shape (Some over) left callers calls false

    pub open_goes : (keys : List ℕ) → keys ≡ keys_found disk.seen over.yard.shape.slots → HasRun shape (Down shape disk) calls → Goes old Open Opens (opened keys ∷ []) new
    open_goes keys found ran =
        let holds = run_holds shape disk calls ran in
        let slots = slots_is holds.0 holds.1 in
        record {
          is = inl refl;
          may = listed disk.seen shape.slots holds.0 holds.1;
          to = sym (state_opened holds.0 left callers holds.1 none);
          counts = refl;
          told = ap (λ (ks : List ℕ). opened ks ∷ []) (ap (keys_found disk.seen) (sym slots) ∙ sym found);
        }

    open_quiet : HasRun shape (Down shape disk) calls → IsBetweenLooks new.state
    open_quiet ran =
        let holds = run_holds shape disk calls ran in
        subst IsBetweenLooks (sym (state_opened holds.0 left callers holds.1 none)) (quiet_at_first shape disk.seen (synced disk))

    pub open_world : (keys : List ℕ) → keys ≡ keys_found disk.seen over.yard.shape.slots → HasOne (Some over) left → HasRun shape (Down shape disk) calls → IsWorld shape (Some over) left callers calls
    open_world keys found one ran = record {
      one = one;
      count = ap length none ∙ length-replicate shape.passes None;
      on_it = λ i call at. no_call_on shape shape.passes i call (subst (λ (cs : List (Option OpenCall)). slice_get cs i ≡ Some call) none at);
      ran = runs_on shape old new Open Opens (opened keys ∷ []) ran (open_goes keys found ran) (open_quiet ran);
    }

  -- and a disk that was just made begins a run
  module _ (format : Format) (some : (1 ≤ shape.buckets) × (shape.buckets ≤ most_buckets)) (few : (1 ≤ shape.passes) × (shape.passes ≤ most_actors)) (made : IsFresh disk format shape.slots)
      (callers : List (Option OpenCall)) (none : callers ≡ replicate shape.passes None) where
    abbrev first : Start
    first = record { bytewise = disk.bytewise; shape = shape; text = disk.seen }

    starts : IsStart first
    starts = record { buckets = some; passes = (few.0, omega (arith, few.1)); bytes = bytes_read; text = listed disk.seen shape.slots (members []) made.empty; suits = suits_read }

    first_state : state_shown shape (Some over) None callers ≡ Up (opened_service shape disk.seen) (at_rest disk.bytewise disk.seen)
    first_state = state_opened (members []) None callers made.empty none

    pub new_is : IsNew shape format (world_shown shape (Some over) None callers 0 false)
    new_is = record {
      start = first;
      starts = starts;
      shape = refl;
      few = few.1;
      empty = one_set disk.seen shape.slots (start_keys first) (members []) (listed disk.seen shape.slots (members []) made.empty) made.empty;
      named = made.named;
      at = record { state = sym first_state; calls = refl };
      untripped = refl;
    }

    pub new_world : IsWorld shape (Some over) None callers 0
    new_world = record {
      one = tt;
      count = ap length none ∙ length-replicate shape.passes None;
      on_it = λ i call at. no_call_on shape shape.passes i call (subst (λ (cs : List (Option OpenCall)). slice_get cs i ≡ Some call) none at);
      ran = record {
        start = first;
        shape = refl;
        point = first_point first;
        reached = record { steps = []; starts = starts; runs = tt; point = refl };
        at = record { state = sym first_state; calls = refl };
        quiet = subst IsBetweenLooks (sym first_state) (quiet_at_first shape disk.seen (at_rest disk.bytewise disk.seen));
      };
    }

-- a disk that was tripped fails its next call
pub must_fail : (tripped : Bool) (disk : Past) → IsTrue tripped → MustFail (armed tripped disk)
must_fail tripped disk is = inr (ap (λ (b : Bool). if b then Some 0 else disk.trip) is)

-- a world with a disk has no service
no_yard : (yard : Option (YardOver Past)) (disk : Option Past) (taken : Past) → HasOne yard disk → disk ≡ Some taken → yard ≡ None
no_yard (Some over) (Some d) taken one is = absurd one
no_yard (Some over) None taken one is = absurd cc
no_yard None d taken one is = refl

module _ (shape : Shape) (yard : Option (YardOver Past)) (disk : Option Past) (callers : List (Option OpenCall)) (calls : ℕ) (taken : Past) (is : disk ≡ Some taken) (world : IsWorld shape yard disk callers calls) where
  pub no_service : yard ≡ None
  no_service = no_yard yard disk taken world.one is

  pub state_was : state_shown shape yard disk callers ≡ Down shape (after taken.bytewise taken.start taken.records)
  state_was = ap (λ (y : Option (YardOver Past)). state_shown shape y disk callers) no_service ∙ ap (λ (d : Option Past). state_shown shape None d callers) is

  pub ran_down : HasRun shape (Down shape (after taken.bytewise taken.start taken.records)) calls
  ran_down = subst (λ (s : State). HasRun shape s calls) state_was world.ran

  -- the disk suits the format of the file on it
  pub may_reopen : (tripped : Bool) → MayOpen (device_of (armed tripped taken))
  may_reopen tripped honest = run_suits shape (after taken.bytewise taken.start taken.records) calls ran_down

  -- where the disk was tripped, none opens
  module _ (tripped : Bool) (over : YardOver Past) (opens : OpensYard (device_of (armed tripped taken)) (device_of over.disk) shape.buckets shape.passes over.yard) (left : Option Past) (gone : left ≡ None)
      (fresh : List (Option OpenCall)) (none : fresh ≡ replicate shape.passes None) (keys : List ℕ) (found : keys ≡ keys_found (after taken.bytewise taken.start taken.records).seen over.yard.shape.slots) (ascend : AscendFrom 0 keys) where
    pub reopened_world : IsWorld shape (Some over) left fresh calls
    reopened_world = open_world shape (armed tripped taken) over opens calls tripped left fresh none keys found (subst (HasOne (Some over)) (sym gone) tt) ran_down

    untripped : ¬ IsTrue tripped
    untripped is = opens.vault.free (must_fail tripped taken is)

    pub reopened_on : PlaysOn (world_shown shape yard disk callers calls tripped) (Open ∷ []) (opened keys ∷ []) (world_shown shape (Some over) left fresh calls false)
    reopened_on = subst (λ (s : State). PlaysOn (record { state = s; calls = calls; tripped = tripped }) (Open ∷ []) (opened keys ∷ []) (world_shown shape (Some over) left fresh calls false)) (sym state_was)
        (leads _ _ Open Opens (opened keys ∷ []) (open_goes shape (armed tripped taken) over opens calls tripped left fresh none keys found ran_down) (ascend, tt) untripped refl)
