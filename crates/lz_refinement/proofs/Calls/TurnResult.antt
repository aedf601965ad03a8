-- What a turn gives that moves no pin word: it is played, or it is cut off and publishes nothing.
use Rattle.std.proofs.Common.{◌≡◌, ◌≢◌, ◌⊎◌, inl, inr, ⊎_elim, ℕ, Bool, true, false, not, ◌&&◌, [], refl, sym, ap, ◌∙◌, if◌then◌else◌, ◌==◌}
use mathlib.Core.Bool.{false≢true}
use Rattle.lz_refinement.proofs.Vocabulary.{NoCall, Event, Course, Yard, actor_at, needs, is_played_dead, is_sure, is_spent, course, course_alive, line, line_on}
use Rattle.lz_refinement.proofs.{Vocabulary.{line_publishes, published_on, line_call, call_on, pin_of, last_pin}, Reading.PinWords.{is_pinning}}
use Rattle.lz_machine.specs.declared.event.{Event.TheVariants.{Pin, Answer, Sync}, Outcome.TheVariants.{Done, Worn, NotNow, Dead}}
use Rattle.lz_machine.{specs.declared.course.Course.TheVariants.{Refused, Dies, Plays}, proofs.Runs.Course.{dead_course, early_course, alive_course}}

-- the turn was refused by a vault that is dead, or the vault died with it
abbrev pub IsRefused : Yard → ℕ → Event → Type 0
IsRefused y a e = ((line y a e).1 ≡ Dead) × (line_publishes y a e ≡ [])

dead_refused : (y : Yard) (a : ℕ) (e : Event) → course y a e ≡ Refused Dead → IsRefused y a e
dead_refused y a e is = (ap (λ (k : Course). (line_on k y (actor_at y a) a e).1) is, ap (λ (k : Course). published_on k y (actor_at y a) a e) is)

dies_refused : (y : Yard) (a : ℕ) (e : Event) → course y a e ≡ Dies → IsRefused y a e
dies_refused y a e is = (ap (λ (k : Course). (line_on k y (actor_at y a) a e).1) is, ap (λ (k : Course). published_on k y (actor_at y a) a e) is)

alive_plays : (y : Yard) (a pin : ℕ) (e : Event) → is_pinning e ≡ false → (course_alive y a pin e ≡ Plays) ⊎ (course_alive y a pin e ≡ Dies)
alive_plays y a pin Pin plain = absurd (false≢true (sym plain))
alive_plays y a pin Answer plain = absurd (false≢true (sym plain))
alive_plays y a pin (Sync s) plain = elim (not (is_sure y s) && is_spent y) as (λ (spent : Bool). ((if spent then Dies else Plays) ≡ Plays) ⊎ ((if spent then Dies else Plays) ≡ Dies)) [ true ↦ inr refl | false ↦ inl refl ]
alive_plays y a pin e plain = inl refl

pub played_or_refused : (y : Yard) (a : ℕ) (e : Event) → is_pinning e ≡ false → (line y a e).1 ≢ NotNow → (course y a e ≡ Plays) ⊎ IsRefused y a e
played_or_refused y a e plain now = go (y.vault.dead && not (is_played_dead e)) refl (needs y a e) refl
  where
    go : (dead : Bool) → (y.vault.dead && not (is_played_dead e)) ≡ dead → (may : Bool) → needs y a e ≡ may → (course y a e ≡ Plays) ⊎ IsRefused y a e
    go true dies may has = inr (dead_refused y a e (dead_course y a e dies))
    go false lives true has =
        let is = alive_course y a e lives has in
        ⊎_elim (λ plays. inl (is ∙ plays)) (λ dies. inr (dies_refused y a e (is ∙ dies))) (alive_plays y a (pin_of y a) e plain)
    go false lives false has = absurd (now (ap (λ (k : Course). (line_on k y (actor_at y a) a e).1) (early_course y a e lives has)))

-- a Pin is done, or its pass is worn; it makes no call of the device, and publishes nothing
pub pin_gives : (y : Yard) (a : ℕ) → (line y a Pin).1 ≢ NotNow → (((line y a Pin).1 ≡ Done) ⊎ ((line y a Pin).1 ≡ Worn)) × (line_publishes y a Pin ≡ []) × (line_call y a Pin ≡ NoCall)
pin_gives y a = go y.vault.dead (needs y a Pin) (pin_of y a == last_pin)
  where
    Gives : Course → Type 0
    Gives k =
        (line_on k y (actor_at y a) a Pin).1 ≢ NotNow
        → (((line_on k y (actor_at y a) a Pin).1 ≡ Done) ⊎ ((line_on k y (actor_at y a) a Pin).1 ≡ Worn)) × (published_on k y (actor_at y a) a Pin ≡ []) × (call_on k y (actor_at y a) Pin ≡ NoCall)

    go : (dead may worn : Bool) → Gives (if dead && not true then Refused Dead else if may then (if worn then Refused Worn else Plays) else Refused NotNow)
    go true true true now = (inr refl, refl, refl)
    go false true true now = (inr refl, refl, refl)
    go true true false now = (inl refl, refl, refl)
    go false true false now = (inl refl, refl, refl)
    go true false worn now = absurd (now refl)
    go false false worn now = absurd (now refl)
