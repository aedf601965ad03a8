-- What becomes of an event, by whether the vault is dead and what the event needs.
use Rattle.std.proofs.{lemmas.Bool.Decides.{nat_tests}, Common.{◌≡◌, ◌≢◌, ◌⊎◌, ℕ, Bool, true, false, not, ◌&&◌, ap, ◌∙◌, arith}}
use Rattle.std.specs.Prelude.{if◌then◌else◌}
use mathlib.Core.Bool.{false≢true}
use Rattle.lz_slot.specs.declared.command.Command.{Command}
use Rattle.lz_machine.specs.declared.event.{Event.{Event, TheVariants.{Invoke, Pin, Sync, Answer}}, Outcome.{Outcome, TheVariants.{Dead, NotNow, Worn}}}
use Rattle.lz_machine.specs.{declared.course.Course.{Course, TheVariants.{Refused, Dies, Plays}}, Yards.{Yard}}
use Rattle.lz_machine.specs.Table.{needs, pin_of, last_pin, is_played_dead, course, course_alive}

-- the course of an event that a dead vault refuses, of one whose needs don't hold, and of any other
pub dead_course : (y : Yard) (a : ℕ) (e : Event) → (y.vault.dead && not (is_played_dead e)) ≡ true → course y a e ≡ Refused Dead
dead_course y a e h = ap (λ b. if b then Refused Dead else if needs y a e then course_alive y a (pin_of y a) e else Refused NotNow) h

pub early_course : (y : Yard) (a : ℕ) (e : Event) → (y.vault.dead && not (is_played_dead e)) ≡ false → needs y a e ≡ false → course y a e ≡ Refused NotNow
early_course y a e h n = grind arith

pub alive_course : (y : Yard) (a : ℕ) (e : Event) → (y.vault.dead && not (is_played_dead e)) ≡ false → needs y a e ≡ true → course y a e ≡ course_alive y a (pin_of y a) e
alive_course y a e h n = grind arith

pub ruleset course_rules = (dead_course, early_course, alive_course)

-- an Invoke is always played
pub invoke_plays : (y : Yard) (a : ℕ) (c : Command) → course y a (Invoke c) ≡ Plays
invoke_plays y a c = grind arith

-- Each course of an event, with what is known where it is taken: what holds of each holds of the one that it takes.
pub course_by : (A : Course → Type 0) (y : Yard) (a : ℕ) (e : Event) → (y.vault.dead ≡ true → is_played_dead e ≡ false → A (Refused Dead)) → (needs y a e ≡ false → A (Refused NotNow))
    → (needs y a e ≡ true → (is_played_dead e ≡ false → y.vault.dead ≡ false) → A (course_alive y a (pin_of y a) e)) → A (course y a e)
course_by A y a e dead not_yet alive = grind (arith, nat_tests, false≢true)

pub alive_by : (A : Course → Type 0) (y : Yard) (a : ℕ) (e : Event) → (e ≡ Pin → pin_of y a ≡ last_pin → A (Refused Worn)) → ((s : ℕ) → e ≡ Sync s → A Dies) → ((e ≡ Pin → pin_of y a ≢ last_pin) → A Plays) → A (course_alive y a (pin_of y a) e)
alive_by A y a e worn dies plays = grind arith

pub each_course : (A : Course → Type 0) (y : Yard) (a : ℕ) (e : Event) → (y.vault.dead ≡ true → is_played_dead e ≡ false → A (Refused Dead)) → (needs y a e ≡ false → A (Refused NotNow)) → (e ≡ Pin → pin_of y a ≡ last_pin → A (Refused Worn))
    → ((s : ℕ) → e ≡ Sync s → A Dies) → (needs y a e ≡ true → (e ≡ Pin → pin_of y a ≢ last_pin) → A Plays) → A (course y a e)
each_course A y a e dead not_yet worn dies plays = course_by A y a e dead not_yet (λ has lives. alive_by A y a e worn dies (plays has))

-- An event that is refused isn't played. What is played has what it needs, the vault is alive where a dead one refuses it, and a pin isn't the last.
pub refused_plays : {outcome : Outcome} → Refused outcome ≡ Plays → ⊥
refused_plays e = absurd cc

pub plays_needs : (y : Yard) (a : ℕ) (e : Event) → course y a e ≡ Plays → needs y a e ≡ true
plays_needs y a e =
    each_course (λ k. k ≡ Plays → needs y a e ≡ true) y a e (λ dead stops is. absurd (refused_plays is)) (λ lacks is. absurd (refused_plays is)) (λ pin last is. absurd (refused_plays is)) (λ s sync is. absurd cc) (λ has fresh is. has)

pub plays_alive : (y : Yard) (a : ℕ) (e : Event) → is_played_dead e ≡ false → course y a e ≡ Plays → y.vault.dead ≡ false
plays_alive y a e stops = grind (arith, course_by, refused_plays)

pub fresh_pin : (y : Yard) (a : ℕ) → course y a Pin ≡ Plays → pin_of y a ≢ last_pin
fresh_pin y a = grind (arith, each_course, refused_plays)

-- an Answer is played where it has what it needs
pub answer_plays : (y : Yard) (a : ℕ) → ((needs y a Answer ≡ true) × (course y a Answer ≡ Plays)) ⊎ (course y a Answer ≡ Refused NotNow)
answer_plays y a = grind (arith, course_by)

-- a dead vault refuses an event that is not played dead
pub course_dead : (y : Yard) (a : ℕ) (e : Event) → is_played_dead e ≡ false → y.vault.dead ≡ true → course y a e ≡ Refused Dead
course_dead y a e stops dead = dead_course y a e (ap (λ (q : Bool). q && not (is_played_dead e)) dead ∙ ap not stops)
