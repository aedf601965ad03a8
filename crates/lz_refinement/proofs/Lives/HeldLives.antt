-- One hold: the file's format stays, and a vault dies only for want of a sync or because the device failed.
use Rattle.std.proofs.Common.{◌≡◌, ◌≢◌, inl, inr, ⊎_elim, ℕ, ◌+◌, ◌≤◌, ◌==◌, Bool, true, false, List, not, ◌&&◌, refl, sym, subst, arith, le_refl}
use Rattle.std.proofs.{Common.{if◌then◌else◌}, lemmas.Bool.Decides.{nat_tests}}
use Rattle.lz_refinement.proofs.Vocabulary.{Format, Device, DeviceCall, SyncAll, syncs_after, last_sync, set, Course, Event, Outcome, Yard, actor_at, course}
use Rattle.lz_refinement.proofs.Vocabulary.{course_alive, call_of, is_played_dead, is_spent, is_sure, last_pin, line_on, needs, pin_of, with_words, Told, Note}
use Rattle.lz_refinement.specs.Lives.{LivesOn, KeepsLife, faults_in}
use Rattle.lz_list.specs.declared.word.Word.TheVariants.{Pin as pin_at}
use Rattle.lz_machine.specs.declared.{course.Course.TheVariants.{Refused, Dies, Plays}, event.Event.TheVariants.{Pin, Sync}}
use Rattle.lz_machine.specs.declared.event.Outcome.TheVariants.{NotNow, Dead, Fault}
use Rattle.lz_yard.{specs.Steps.{Played as PlayedOver}, proofs.Events.KeptFit.{fault_or_not}}

-- only a sync dies by itself, where none is left
alive_dies : (y : Yard) (a pin : ℕ) (e : Event) → course_alive y a pin e ≡ Dies → is_spent y ≡ true
alive_dies y a pin Pin is = grind (arith, nat_tests, last_pin, is_spent)
alive_dies y a pin (Sync s) is = grind (arith, nat_tests, is_sure, is_spent)
alive_dies y a pin _ is = absurd cc

spent_syncs : (syncs : ℕ) → (syncs == last_sync) ≡ true → last_sync ≤ syncs
spent_syncs syncs spent = grind (arith, nat_tests, spent)

dies_spent : (y : Yard) (a : ℕ) (e : Event) → course y a e ≡ Dies → last_sync ≤ y.vault.syncs
dies_spent y a e is = spent_syncs y.vault.syncs (alive_dies y a (pin_of y a) e (go (y.vault.dead && not (is_played_dead e)) (needs y a e) (course_alive y a (pin_of y a) e) is))
  where
    go : (refused ready : Bool) (k : Course) → (if refused then Refused Dead else if ready then k else Refused NotNow) ≡ Dies → k ≡ Dies
    go true ready k dies = absurd cc
    go false true k dies = dies
    go false false k dies = absurd cc

more_syncs : (call : DeviceCall) (syncs : ℕ) → syncs ≤ syncs_after call syncs
more_syncs SyncAll syncs = omega arith
more_syncs _ syncs = le_refl syncs

-- an event whose device call, if it has one, succeeded
line_keeps : (y : Yard) (a : ℕ) (e : Event) (old new : Device) → new.honest ≡ old.honest → old.faults ≤ new.faults → (k : Course) → course y a e ≡ k → KeepsLife y old (line_on k y (actor_at y a) a e).0 new
line_keeps y a e old new honest faults (Refused o) is = record { format = refl; honest = honest; faults = faults; syncs = le_refl y.vault.syncs; dead = λ dead. inl dead }
line_keeps y a e old new honest faults Dies is = record { format = refl; honest = honest; faults = faults; syncs = le_refl y.vault.syncs; dead = λ _. inr (inl (dies_spent y a e is)) }
line_keeps y a e old new honest faults Plays is = record { format = refl; honest = honest; faults = faults; syncs = more_syncs (call_of y (actor_at y a) e) y.vault.syncs; dead = λ dead. inl dead }

-- any step of a yard over a device
step_keeps : (y z : Yard) (p : ℕ) (e : Event) (o : Outcome) (told : Told) (old new : Device) → PlayedOver y p e o z told old new → KeepsLife y old z new
step_keeps y z p e o told old new played = ⊎_elim
    (λ (bad : o ≡ Fault). let f = played.failed bad in let risen = f.call.faults in
    subst (λ (q : Yard). KeepsLife y old q new) (sym f.yard) (record { format = refl; honest = f.call.honest; faults = omega (arith, risen); syncs = le_refl y.vault.syncs; dead = λ _. inr (inr risen) }))
    (λ (ok : o ≢ Fault). let d = played.done ok in
    subst (λ (q : Yard). KeepsLife y old q new) (sym d.yard) (line_keeps y p e old new d.call.honest d.call.faults (course y p e) refl))
    (fault_or_not o)

-- the step of a hold, before which the yard got its copy of a pin word
pub held_keeps : (y y1 z : Yard) (q pin : ℕ) → y1 ≡ with_words y (set y.words (pin_at q) pin) → (p : ℕ) (e : Event) (o : Outcome) (told : Told) (dev dev1 dev' : Device) → dev1 ≡ dev → PlayedOver y1 p e o z told dev1 dev' → KeepsLife y dev z dev'
held_keeps y y1 z q pin is p e o told dev dev1 dev' same played = grind (arith, step_keeps)

-- a life goes on over such a step, as the notes do
pub life_on : (F : Format) (first : Device) (ns is : List Note) (y z : Yard) (dev dev' : Device) → KeepsLife y dev z dev' → faults_in is + dev.faults ≤ faults_in ns + dev'.faults → LivesOn F first ns y dev → LivesOn F first is z dev'
life_on F first ns is y z dev dev' kept counted lives = grind arith
