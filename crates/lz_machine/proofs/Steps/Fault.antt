-- A turn whose device call fails keeps the invariant of an open service.
use Rattle.std.proofs.Common.{arith, ◌≡◌, inl, inr, ℕ, zero, suc, if◌then◌else◌, Bool, true, false, List, [], Option, Some, None, refl, sym, ap, subst}
use Rattle.std.{proofs.lemmas.Bool.{cases_Bool, Decides.{nat_tests}}, specs.Prelude.{unwrap_or, slice_set}}
use Rattle.lz_slot.specs.{declared.command.Command.{Command, TheVariants.{Add, Remove, Has}}, Sets.{Keys, key_of}, Histories.{History}}
use Rattle.lz_disk.specs.Images.{Medium}
use Rattle.lz_vault.specs.{declared.vault.Stage.TheVariants.{Opening, Closing}, Stages.{Cell, stage_put}}
use Rattle.lz_vault.specs.Vaults.{DeviceCall, NoCall, SyncAll, MayFail, key_call, opening_call, closing_call}
use Rattle.lz_list.specs.Traces.{Trace}
use Rattle.lz_machine.specs.declared.event.{Event.{Event, TheVariants.{WriteKey, WriteOpen, WriteClose, Sync}}, Outcome.TheVariants.{Fault}}
use Rattle.lz_machine.specs.declared.{event.Reply.TheVariants.{Device}, course.Course.{Course, TheVariants.{Plays}}, caller.Sequence.{Sequence}}
use Rattle.lz_machine.specs.declared.caller.{Sequence.TheVariants.{Pinning, Resting, Writing, Adding, Removing, Releasing, Halting}, Progress.{Progress}}
use Rattle.lz_machine.specs.{declared.caller.Progress.TheVariants.{Playing}, Yards.{Yard, actor_at, cell_in, stage_in}, Table.{slot_of, node_of}}
use Rattle.lz_machine.specs.Table.{is_played_dead, is_sure, call_of, cells_after, call_on, course, line_call, line_failed, vault_failed, with_vault}
use Rattle.lz_machine.specs.{Calls.{halts}, Runs.{Caller, caller_at, next_event, reply_at, played}, Notes.{Notes}}
use Rattle.lz_machine.{specs.{CallersSound.{view_of, Relies, ReliesOn, is_before_pin}, Sound.{Sound, UpSound}}, proofs.Frames.OneActor.{moving}}
use Rattle.lz_machine.proofs.{Frames.{SlotWrite.{key_cells}, OpenedGate.{write_open_fails_keeps}}, Steps.{Hop.{call_at, own}, Death.{sync_fails_keeps}}}
use Rattle.lz_machine.proofs.{Steps.{WriteClose.{write_close_fails_keeps}, WriteKey.{write_key_fails_keeps}}, Runs.Course.{plays_alive}}
use Rattle.lz_machine.proofs.Runs.NextEvent.{turned_same}

-- an event whose device call may fail is played, and makes that call
played_call : (y : Yard) (a : ℕ) (e : Event) (disk new : Medium) → MayFail (line_call y a e) disk new → (course y a e ≡ Plays) × MayFail (call_of y (actor_at y a) e) disk new
played_call y a e disk new may = go (course y a e) refl may
  where
    go : (taken : Course) → course y a e ≡ taken → MayFail (call_on taken y (actor_at y a) e) disk new → (course y a e ≡ Plays) × MayFail (call_of y (actor_at y a) e) disk new
    go taken same h = grind (arith, nat_tests)

-- an event without a device call can't fail
no_fault : (y : Yard) (a : ℕ) (e : Event) (disk new : Medium) → call_of y (actor_at y a) e ≡ NoCall → MayFail (line_call y a e) disk new → ⊥
no_fault y a e disk new none may = subst (λ (q : DeviceCall). MayFail q disk new) none (played_call y a e disk new may).1

module _ (n calls : ℕ) (y : Yard) (callers : List (Option Caller)) (disk : Medium) (M : History) (P : Trace) (start : Keys) (notes : Notes) (up : UpSound n calls (record { yard = y; callers = callers }) disk (record { start = start; history = M }) P notes) (a i : ℕ) where
  -- the call's next turn fails, where it has come so far
  abbrev pub Faults : Command → Progress → Type 0
  Faults c at =
      (new : Medium) → MayFail (line_call y a (next_event y (call_at i c at))) disk new
      → UpSound n calls (played (record { yard = y; callers = callers }) a (call_at i c at) (line_failed y a (next_event y (call_at i c at)))) new (record { start = start; history = M }) P notes

  abbrev IsAt : Command → Progress → Type 0
  IsAt c at = caller_at callers a ≡ Some (call_at i c at)

  -- what the call relies on
  known : (c : Command) (at : Progress) → IsAt c at → Relies (view_of y.shape y.vault y.actors a) c at (notes.begun a) P (notes.changed a)
  known c at is = (own n calls y callers disk M P notes a i c at is up.sound).stands.2

  -- an event that a dead vault refuses
  faulted : (c : Command) (at : Progress) → IsAt c at → reply_at at ≡ None → (e : Event) → is_played_dead e ≡ false → (new : Medium) → MayFail (line_call y a e) disk new
      → (y.vault.dead ≡ false → MayFail (call_of y (actor_at y a) e) disk new → Sound n calls (line_failed y a e).0 (moving callers a (call_at i c at) (halts Device)) new M P notes)
      → UpSound n calls (played (record { yard = y; callers = callers }) a (call_at i c at) (line_failed y a e)) new (record { start = start; history = M }) P notes
  faulted c at is goes_on e stops new may sound =
      let call = played_call y a e disk new may in
      turned_same n calls y callers disk M P start notes up a i c at is goes_on (with_vault y (vault_failed y (actor_at y a) e)) Fault new [] refl refl (sound (plays_alive y a e stops call.0) call.1)

  -- the write of a key fails
  key_fault : (c : Command) (s : ℕ) → IsAt c (Playing (Writing s) 0) → Faults c (Playing (Writing s) 0)
  key_fault c s is new may = faulted c (Playing (Writing s) 0) is refl (WriteKey (key_of c)) refl new may (λ alive fails.
      let mine : s ≡ slot_of (actor_at y a) = sym (ap (λ (q : Option ℕ). unwrap_or q 0) (known c (Playing (Writing s) 0) is).1) in
      subst (λ (cells : List Cell). Sound n calls (with_vault y (record y.vault { cells = cells; dead = true })) (moving callers a (call_at i c (Playing (Writing s) 0)) (halts Device)) new M P notes)
      (sym (key_cells y.vault.format (stage_in y.vault.cells (slot_of (actor_at y a))) (slot_of (actor_at y a)) (key_of c) y.vault.cells (cells_after y (actor_at y a) (WriteKey (key_of c)))))
      (subst (λ (q : ℕ). Sound n calls (with_vault y (record y.vault {
        cells = slice_set y.vault.cells q
            (record { stage = stage_put y.vault.format (stage_in y.vault.cells q); key = key_of c });
        dead = true;
      }))
      (moving callers a (call_at i c (Playing (Writing s) 0)) (halts Device)) new M P notes) mine
      (write_key_fails_keeps n calls y callers disk M P notes up.sound a i c s is alive new (subst (λ (q : ℕ). MayFail (key_call y.vault.format (stage_in y.vault.cells q) q (key_of c)) disk new) (sym mine) fails))))

  -- the write that opens a gate fails
  open_fault : (k s : ℕ) → IsAt (Add k) (Playing (Adding s) 0) → Faults (Add k) (Playing (Adding s) 0)
  open_fault k s is new may = faulted (Add k) (Playing (Adding s) 0) is refl WriteOpen refl new may (λ alive fails.
      let mine : s ≡ slot_of (actor_at y a) = sym (ap (λ (q : Option ℕ). unwrap_or q 0) (known (Add k) (Playing (Adding s) 0) is).1.slot) in
      subst (λ (q : ℕ). Sound n calls (with_vault y (record y.vault { cells = slice_set y.vault.cells q (record { stage = Opening; key = (cell_in y.vault.cells q).key }); dead = true })) (moving callers a (call_at i (Add k) (Playing (Adding s) 0)) (halts Device)) new M P notes) mine
      (write_open_fails_keeps n calls y callers disk M P notes up.sound a i k s is alive new (subst (λ (q : ℕ). MayFail (opening_call y.vault.format q (cell_in y.vault.cells q).key) disk new) (sym mine) fails)))

  -- the write that closes a gate fails
  close_fault : (k s : ℕ) → IsAt (Remove k) (Playing (Removing s) 0) → Faults (Remove k) (Playing (Removing s) 0)
  close_fault k s is new may = faulted (Remove k) (Playing (Removing s) 0) is refl WriteClose refl new may (λ alive fails.
      let mine : s ≡ node_of (actor_at y a) = sym (ap (λ (q : Option ℕ). unwrap_or q 0) (known (Remove k) (Playing (Removing s) 0) is).0) in
      subst (λ (q : ℕ). Sound n calls (with_vault y (record y.vault { cells = slice_set y.vault.cells q (record { stage = Closing; key = (cell_in y.vault.cells q).key }); dead = true })) (moving callers a (call_at i (Remove k) (Playing (Removing s) 0)) (halts Device)) new M P notes) mine
      (write_close_fails_keeps n calls y callers disk M P notes up.sound a i k s is alive new (subst (λ (q : ℕ). MayFail (closing_call y.vault.format q) disk new) (sym mine) fails)))

  -- a sync fails, and leaves the disk
  sync_fault : (c : Command) (at : Progress) → IsAt c at → reply_at at ≡ None → is_before_pin at ≡ false → (s : ℕ) (new : Medium) → MayFail (line_call y a (Sync s)) disk new
      → UpSound n calls (played (record { yard = y; callers = callers }) a (call_at i c at) (line_failed y a (Sync s))) new (record { start = start; history = M }) P notes
  sync_fault c at is goes_on inside s new may = faulted c at is goes_on (Sync s) refl new may (λ alive fails. elim (cases_Bool (is_sure y s)) [
    | inl sure ↦ absurd (subst (λ (q : Bool). MayFail (if q then NoCall else SyncAll) disk new) sure fails)
    | inr loose ↦
        let same : new ≡ disk = subst (λ (q : Bool). MayFail (if q then NoCall else SyncAll) disk new) loose fails in
        subst (λ (q : Medium). Sound n calls (line_failed y a (Sync s)).0 (moving callers a (call_at i c at) (halts Device)) q M P notes) (sym same) (sync_fails_keeps n calls y callers disk M P notes a i c at is up.sound inside s loose)
  ])

  -- the other events make no device call
  none_fault : (c : Command) (at : Progress) → call_of y (actor_at y a) (next_event y (call_at i c at)) ≡ NoCall → Faults c at
  none_fault c at none new may = absurd (no_fault y a (next_event y (call_at i c at)) disk new none may)

  sequence_fault : (c : Command) (sequence : Sequence) (j : ℕ) → IsAt c (Playing sequence j) → ReliesOn (view_of y.shape y.vault y.actors a) c sequence j (notes.begun a) P (notes.changed a) → Faults c (Playing sequence j)
  sequence_fault c (Resting s reply) zero is relies = sync_fault c (Playing (Resting s reply) 0) is refl refl s
  sequence_fault c (Writing s) zero is relies = key_fault c s is
  sequence_fault c (Writing s) (suc zero) is relies = sync_fault c (Playing (Writing s) 1) is refl refl s
  sequence_fault (Add k) (Adding s) zero is relies = open_fault k s is
  sequence_fault c (Adding s) (suc (suc (suc zero))) is relies = sync_fault c (Playing (Adding s) 3) is refl refl s
  sequence_fault (Remove k) (Removing s) zero is relies = close_fault k s is
  sequence_fault c (Removing s) (suc (suc zero)) is relies = sync_fault c (Playing (Removing s) 2) is refl refl s
  sequence_fault (Remove k) (Adding s) zero is relies = absurd relies
  sequence_fault (Has k) (Adding s) zero is relies = absurd relies
  sequence_fault (Add k) (Removing s) zero is relies = absurd relies
  sequence_fault (Has k) (Removing s) zero is relies = absurd relies
  sequence_fault c Pinning (suc j) is relies = none_fault c (Playing Pinning (suc j)) refl
  sequence_fault c (Resting s reply) (suc (suc j)) is relies = none_fault c (Playing (Resting s reply) (suc (suc j))) refl
  sequence_fault c (Writing s) (suc (suc j)) is relies = none_fault c (Playing (Writing s) (suc (suc j))) refl
  sequence_fault c (Adding s) (suc (suc (suc (suc (suc j))))) is relies = none_fault c (Playing (Adding s) (suc (suc (suc (suc (suc j)))))) refl
  sequence_fault c (Removing s) (suc (suc (suc (suc (suc (suc (suc j))))))) is relies = none_fault c (Playing (Removing s) (suc (suc (suc (suc (suc (suc (suc j)))))))) refl
  sequence_fault c (Releasing aim) (suc j) is relies = none_fault c (Playing (Releasing aim) (suc j)) refl
  sequence_fault c (Halting reply) (suc j) is relies = none_fault c (Playing (Halting reply) (suc j)) refl
  sequence_fault c sequence j is relies = none_fault c (Playing sequence j) refl

  -- each turn whose device call fails
  pub fault_up : (c : Command) (at : Progress) → IsAt c at → Faults c at
  fault_up c (Playing sequence j) is = sequence_fault c sequence j is (known c (Playing sequence j) is)
  fault_up c at is = none_fault c at refl
