-- What becomes of a caller's next event, and how the service after it is sound where its yard, its callers and the disk are.
use Rattle.std.proofs.Common.{arith, ◌≡◌, ◌≢◌, inl, inr, ℕ, ◌≤◌, length, not, ◌&&◌, true, false, List, [], ◌++◌, Option, Some, None, refl, sym, ap, ◌∙◌, subst}
use Rattle.std.proofs.lemmas.Bool.{cases_Bool, Decides.{nat_tests}}
use Rattle.lz_slot.specs.{declared.command.Command.{Command}, Sets.{Keys}, Histories.{History}}
use Rattle.lz_disk.specs.Images.{Medium}
use Rattle.lz_vault.specs.Vaults.{died, medium_after}
use Rattle.lz_list.specs.Traces.{Trace}
use Rattle.lz_machine.specs.declared.{event.{Event.{Event, TheVariants.{Sync}}, Outcome.{Outcome, TheVariants.{NotNow, Dead}}}, caller.Progress.{Progress}}
use Rattle.lz_machine.specs.{declared.course.Course.{Course, TheVariants.{Refused, Dies, Plays}}, Yards.{Yard, actor_at, IsInside, pin_in}}
use Rattle.lz_machine.specs.Table.{is_played_dead, is_sure, is_spent, call_of, words_after, publishes, outcome_of, with_vault, yard_done, course_alive, course}
use Rattle.lz_machine.specs.{Table.{line_on, line, call_on, published_on, pin_of}, Calls.{progress_after}, Runs.{Caller, caller_at, reply_at, played}}
use Rattle.lz_machine.specs.{Notes.{Notes, entries}, CallersSound.{is_before_pin}, Sound.{Sound, IsAfter, UpSound}}
use Rattle.lz_machine.proofs.Frames.{OneActor.{moving, same_entries}, PinNotes.{IsNoted, noted_same}, ChangeNotes.{IsTold, is_change, told_same, told_quiet}}
use Rattle.lz_machine.proofs.{Frames.PinOrder.{turn_after, adds_none, begun_grown}, Steps.{Hop.{call_at, dead_keeps}, Death.{dies_keeps}}}
use Rattle.lz_machine.proofs.Runs.Course.{course_by}
use mathlib.Core.Bool.{false≢true}

-- the service after an event that took this course is sound, with some notes, by which a pass that went in has the trace of then,
-- and each the change that was published for it
abbrev pub Goes : ℕ → ℕ → Yard → List (Option Caller) → Medium → History → Trace → Keys → Notes → ℕ → Caller → Event → Course → Type 0
Goes n calls y callers disk M P start before a caller e taken =
    (notes : Notes) × UpSound n calls (played (record { yard = y; callers = callers }) a caller (line_on taken y (actor_at y a) a e)) (medium_after (call_on taken y (actor_at y a) e) disk)
    (record { start = start; history = M }) (published_on taken y (actor_at y a) a e ++ P) notes
    × IsNoted y.words.pins (line_on taken y (actor_at y a) a e).0.words.pins P before.begun notes.begun
    × IsTold (line_on taken y (actor_at y a) a e).0.words.pins P before.changed (published_on taken y (actor_at y a) a e ++ P) notes.changed

module _ (n calls : ℕ) (y : Yard) (callers : List (Option Caller)) (disk : Medium) (M : History) (P : Trace) (start : Keys) (notes : Notes) (up : UpSound n calls (record { yard = y; callers = callers }) disk (record { start = start; history = M }) P notes)
    (a i : ℕ) (c : Command) (at : Progress) (is : caller_at callers a ≡ Some (call_at i c at)) (goes_on : reply_at at ≡ None) where
  -- passes that are inside went in during this life, where pins and notes are as before
  pub since_same : {pins' : List ℕ} → pins' ≡ y.words.pins → (b : ℕ) → IsInside (pin_in pins' b) → n ≤ length (notes.begun b)
  since_same same b inside = up.since b (subst (λ (q : List ℕ). IsInside (pin_in q b)) same inside)

  -- from the parts to all of it
  pub turned : (notes' : Notes) (y' : Yard) (outcome : Outcome) (disk' : Medium) (Q : Trace)
      → Sound n calls y' (moving callers a (call_at i c at) (progress_after y'.shape c at outcome)) disk' M (Q ++ P) notes'
      → IsAfter y'.words.pins (moving callers a (call_at i c at) (progress_after y'.shape c at outcome)) (entries y'.shape.passes (moving callers a (call_at i c at) (progress_after y'.shape c at outcome)) notes') M notes'.begun
      → ((b : ℕ) → IsInside (pin_in y'.words.pins b) → n ≤ length (notes'.begun b))
      → UpSound n calls (played (record { yard = y; callers = callers }) a (call_at i c at) (y', outcome)) disk' (record { start = start; history = M }) (Q ++ P) notes'
  turned notes' y' outcome disk' Q sound after since = grind (arith, nat_tests, call_at, begun_grown)

  -- where the pins and the notes are as before
  pub turned_same : (y' : Yard) (outcome : Outcome) (disk' : Medium) (Q : Trace) → y'.words.pins ≡ y.words.pins → y'.shape.passes ≡ y.shape.passes
      → Sound n calls y' (moving callers a (call_at i c at) (progress_after y'.shape c at outcome)) disk' M (Q ++ P) notes
      → UpSound n calls (played (record { yard = y; callers = callers }) a (call_at i c at) (y', outcome)) disk' (record { start = start; history = M }) (Q ++ P) notes
  turned_same y' outcome disk' Q pins passes sound =
      let next : Progress = progress_after y'.shape c at outcome in
      let rows : List (Option Caller) = moving callers a (call_at i c at) next in
      turned notes y' outcome disk' Q sound
      (turn_after y.words.pins y'.words.pins callers a (call_at i c at) is next (entries y.shape.passes callers notes) (entries y'.shape.passes rows notes) M notes.begun pins
      (adds_none (entries y.shape.passes callers notes) (entries y'.shape.passes rows notes) M (ap (λ (q : ℕ). entries q rows notes) passes ∙ same_entries callers a (call_at i c at) is next y.shape.passes notes)) up.after)
      (since_same pins)

  abbrev pub After : Event → Course → Type 0
  After e taken = Goes n calls y callers disk M P start notes a (call_at i c at) e taken

  -- the vault is dead
  dead_goes : (e : Event) → is_before_pin at ≡ false → y.vault.dead ≡ true → After e (Refused Dead)
  dead_goes e inside dead = (notes, turned_same y Dead disk [] refl refl (dead_keeps n calls y callers disk M P notes a i c at is up.sound inside dead), noted_same y.words.pins y.words.pins P notes.begun refl, told_same y.words.pins P notes.changed)

  -- no sync is left
  dies_goes : (e : Event) → is_before_pin at ≡ false → After e Dies
  dies_goes e inside = (notes, turned_same (with_vault y (died y.vault)) Dead disk [] refl refl (dies_keeps n calls y callers disk M P notes a i c at is up.sound inside), noted_same y.words.pins y.words.pins P notes.begun refl, told_same y.words.pins P notes.changed)

  -- an event that is played has what it needs
  needed : (e : Event) (taken : Course) → course y a e ≡ taken → (line_on taken y (actor_at y a) a e).1 ≡ NotNow → (line y a e).1 ≢ NotNow → ⊥
  needed e taken same not_now now = now (ap (λ (q : Course). (line_on q y (actor_at y a) a e).1) same ∙ not_now)

  -- an event that a dead vault refuses
  pub by_course : (e : Event) → is_played_dead e ≡ false → is_before_pin at ≡ false → (line y a e).1 ≢ NotNow → (y.vault.dead ≡ false → After e (course_alive y a (pin_of y a) e)) → After e (course y a e)
  by_course e stops inside now alive =
      course_by (λ k. course y a e ≡ k → After e k) y a e (λ dead _ same. dead_goes e inside dead) (λ lacks same. absurd (needed e (Refused NotNow) same refl now)) (λ has lives same. alive (lives stops)) refl

  -- an event that is played on a dead vault too
  pub by_course_too : (e : Event) → is_played_dead e ≡ true → (line y a e).1 ≢ NotNow → After e (course_alive y a (pin_of y a) e) → After e (course y a e)
  by_course_too e too now after =
      course_by (λ k. course y a e ≡ k → After e k) y a e (λ dead stops same. absurd (false≢true (sym stops ∙ too))) (λ lacks same. absurd (needed e (Refused NotNow) same refl now)) (λ has lives same. after) refl

  abbrev SoundAfter : Event → Type 0
  SoundAfter e =
      Sound n calls (yard_done y (actor_at y a) a e) (moving callers a (call_at i c at) (progress_after y.shape c at (outcome_of y (actor_at y a) e))) (medium_after (call_of y (actor_at y a) e) disk) M
      (publishes y (actor_at y a) a e ++ P) notes

  plays_goes : (e : Event) → (words_after y (actor_at y a) a e).pins ≡ y.words.pins → is_change e ≡ false → SoundAfter e → After e Plays
  plays_goes e pins quiet sound = (
    notes,
    turned_same (yard_done y (actor_at y a) a e) (outcome_of y (actor_at y a) e) (medium_after (call_of y (actor_at y a) e) disk)
        (publishes y (actor_at y a) a e) pins refl sound,
    noted_same y.words.pins (words_after y (actor_at y a) a e).pins P notes.begun pins,
    told_quiet
        (words_after y (actor_at y a) a e).pins y a e P notes.changed quiet,
  )

  -- turns that leave the pins and the notes
  pub plays_turn : (e : Event) → is_played_dead e ≡ false → is_before_pin at ≡ false → course_alive y a (pin_of y a) e ≡ Plays → (words_after y (actor_at y a) a e).pins ≡ y.words.pins → is_change e ≡ false
      → (line y a e).1 ≢ NotNow → (y.vault.dead ≡ false → SoundAfter e) → After e (course y a e)
  plays_turn e stops inside alive pins quiet now sound = by_course e stops inside now (λ lives. subst (After e) (sym alive) (plays_goes e pins quiet (sound lives)))

  pub plays_turn_too : (e : Event) → is_played_dead e ≡ true → course_alive y a (pin_of y a) e ≡ Plays → (words_after y (actor_at y a) a e).pins ≡ y.words.pins → is_change e ≡ false
      → (line y a e).1 ≢ NotNow → SoundAfter e → After e (course y a e)
  plays_turn_too e too alive pins quiet now sound = by_course_too e too now (subst (After e) (sym alive) (plays_goes e pins quiet sound))

  -- a sync, also where none is left
  pub sync_turn : (s : ℕ) → is_before_pin at ≡ false → (line y a (Sync s)).1 ≢ NotNow → (y.vault.dead ≡ false → SoundAfter (Sync s)) → After (Sync s) (course y a (Sync s))
  sync_turn s inside now sound = by_course (Sync s) refl inside now (λ lives. elim (cases_Bool (not (is_sure y s) && is_spent y)) [
    | inl spent ↦ subst (After (Sync s)) (sym (dies spent)) (dies_goes (Sync s) inside)
    | inr more ↦ subst (After (Sync s)) (sym (plays more)) (plays_goes (Sync s) refl refl (sound lives))
  ])
    where
      dies : (not (is_sure y s) && is_spent y) ≡ true → course_alive y a (pin_of y a) (Sync s) ≡ Dies
      dies spent = rw spent refl

      plays : (not (is_sure y s) && is_spent y) ≡ false → course_alive y a (pin_of y a) (Sync s) ≡ Plays
      plays more = rw more refl
