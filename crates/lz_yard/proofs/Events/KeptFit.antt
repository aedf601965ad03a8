-- The yard's parts fit after an event, where they did before it.
use Rattle.std.proofs.Common.{◌≡◌, ◌≢◌, ◌⊎◌, ℕ, zero, suc, ◌<◌, ◌≤◌, Bool, true, false, List, [], ◌∷◌, length, refl, sym, subst, arith, length-set}
use Rattle.std.proofs.lemmas.{Option.{same_Some}, List.{length-map}}
use Rattle.std.specs.Prelude.{Option, Some, IfSome, Result, Ok, Err, slice_get, slice_set, if◌then◌else◌}
use Rattle.lz_slot.{specs.Counted.{set_of_pass}, proofs.Counted.{length-set_of_pass}}
use Rattle.lz_disk.specs.{Images.{Medium}, Devices.{Device}}
use Rattle.lz_vault.specs.{Vaults.{died}, declared.vault.VaultFault.{VaultFault}}
use Rattle.lz_allot.specs.Uses.{collect, lowest_free}
use Rattle.lz_list.specs.{declared.{place.Place.{Place}, word.Word.{Word}}, Words.{Words, set}, Lists.{IsCurr, IsWord}, Locks.{is_pair_free}}
use Rattle.lz_machine.specs.declared.event.Event.{Event}
use Rattle.lz_machine.specs.declared.event.Event.TheVariants.{Invoke, Reserve, Claim, Check, WriteOpen, Link, WriteClose, Mark, Release, Unlink, Retire, Answer}
use Rattle.lz_machine.specs.declared.{event.Outcome.{Outcome, TheVariants.{Fault}}, course.Course.TheVariants.{Plays}, actor.LockPhase.{LockPhase, TheVariants.{Locks}}}
use Rattle.lz_machine.specs.{declared.actor.Actor.{Actor}, Yards.{Yard, actor_at}, Table.{course, cells_after, words_after, uses_after, actors_after}}
use Rattle.lz_machine.specs.{Table.{kept_slot, line_failed, with_hold, with_slot, with_vault, yard_done, needs}, Ready.{IsEventOf, IsReady}}
use Rattle.lz_machine.{specs.Runs.{MayPlay, with_words}, proofs.{Runs.Shape.{line_keeps_shape}, Theorem.Readiness.{ready_to_play}}}
use Rattle.lz_yard.specs.{Steps.{Played, Tells}, declared.told.Told.{Told}, Parts.{PartsFit, PartsOver, HasInRange, Known, Does}, Plays.{IsPlayed, MayBePlayed}}
use Rattle.lz_yard.proofs.Events.HandRange.{hand_fits}

-- tables of words of the same lengths
record SameSizes (old new : Words) : Type 0 where
  heads : length new.heads ≡ length old.heads
  links : length new.links ≡ length old.links
  keys : length new.keys ≡ length old.keys
  pins : length new.pins ≡ length old.pins

set_sizes : (w : Words) (word : Word) (x : ℕ) → SameSizes w (set w word x)
set_sizes w word x = grind (arith, length-set)

words_sizes : (y : Yard) (actor : Actor) (a : ℕ) (e : Event) → SameSizes y.words (words_after y actor a e)
words_sizes y actor a e = grind (arith, length-set)

cells_size : (y : Yard) (actor : Actor) (e : Event) → length (cells_after y actor e) ≡ length y.vault.cells
cells_size y actor e = grind (arith, length-set, length-map)

uses_size : (y : Yard) (actor : Actor) (a : ℕ) (e : Event) → length (uses_after y actor a e) ≡ length y.uses
uses_size y actor a e = grind (arith, length-set, length-map)

-- what actors have in hand, where one of them has other things
abbrev Hands : ℕ → List Actor → Type 0
Hands slots actors = (i : ℕ) (actor : Actor) → slice_get actors i ≡ Some actor → HasInRange slots actor

set_hands : (slots : ℕ) (actors : List Actor) (j : ℕ) (x : Actor) → Hands slots actors → HasInRange slots x → Hands slots (slice_set actors j x)
set_hands slots [] j x all mine i actor there = absurd (cc)
set_hands slots (h ∷ actors) zero x all mine zero actor there = subst (HasInRange slots) (same_Some x actor there) mine
set_hands slots (h ∷ actors) zero x all mine (suc i) actor there = all (suc i) actor there
set_hands slots (h ∷ actors) (suc j) x all mine zero actor there = all zero actor there
set_hands slots (h ∷ actors) (suc j) x all mine (suc i) actor there = set_hands slots actors j x (λ n. all (suc n)) mine i actor there

pass_hands : (slots : ℕ) (actors : List Actor) (a : ℕ) (x : Actor) → Hands slots actors → HasInRange slots x → Hands slots (set_of_pass actors a x)
pass_hands slots actors zero x all mine = all
pass_hands slots actors (suc j) x all mine = set_hands slots actors j x all mine

-- as many actors, with slots in hand
record AreHands (slots : ℕ) (old new : List Actor) : Type 0 where
  count : length new ≡ length old
  hands : Hands slots new

module _ (y : Yard) (known : ℕ) (fits : PartsFit y known) (a : ℕ) (low : 1 ≤ a) (high : a ≤ length y.actors) where
  abbrev N : ℕ
  N = y.shape.slots

  abbrev mine : Actor
  mine = actor_at y a

  in_range : HasInRange N mine
  in_range = hand_fits y known fits a low high

  abbrev IsKept : List Actor → Type 0
  IsKept actors = AreHands N y.actors actors

  unchanged : IsKept y.actors
  unchanged = record { count = refl; hands = fits.hands }

  has : (x : Actor) → HasInRange N x → IsKept (set_of_pass y.actors a x)
  has x range = record { count = length-set_of_pass y.actors a x; hands = pass_hands N y.actors a x fits.hands range }

  holds : (hold : LockPhase) → IsKept (set_of_pass y.actors a (with_hold mine hold))
  holds hold = has (with_hold mine hold) (record { slot = in_range.slot; curr = in_range.curr })

  found_range : (found : Option ℕ) → lowest_free (collect y.uses) ≡ found → IfSome found (λ s. s < N)
  found_range found is = grind (arith, length-map)

  kept_range : (slot : Option ℕ) → IfSome slot (λ s. s < N) → IfSome (kept_slot y slot) (λ s. s < N)
  kept_range slot range = grind arith

  curr_range : (curr : Option ℕ) → IsCurr y.words curr → IfSome curr (λ s. s < N)
  curr_range curr is = grind arith

  claimed : (b : Bool) (pred : Place) (curr : Option ℕ) → IsCurr y.words curr
      → IsKept (if b then set_of_pass y.actors a (record mine { hold = Locks; pred = pred; curr = curr }) else y.actors)
  claimed true pred curr is = has (record mine { hold = Locks; pred = pred; curr = curr }) (record { slot = in_range.slot; curr = curr_range curr is })
  claimed false pred curr is = unchanged

  actors_kept : (e : Event) → IsEventOf y e → IsKept (actors_after y mine a e)
  actors_kept (Invoke c) is = has _ (record { slot = in_range.slot; curr = in_range.curr })
  actors_kept Reserve is = has (with_slot mine (lowest_free (collect y.uses))) (record { slot = found_range (lowest_free (collect y.uses)) refl; curr = in_range.curr })
  actors_kept (Claim pred curr) is = claimed (is_pair_free y.locks pred curr) pred curr is.1
  actors_kept Check is = holds _
  actors_kept WriteOpen is = holds _
  actors_kept Link is = has _ (record { slot = tt; curr = in_range.curr })
  actors_kept WriteClose is = holds _
  actors_kept Mark is = holds _
  actors_kept Release is = holds _
  actors_kept Unlink is = holds _
  actors_kept Retire is = holds _
  actors_kept Answer is = has (with_slot mine (kept_slot y mine.slot)) (record { slot = kept_range mine.slot in_range.slot; curr = in_range.curr })
  actors_kept _ is = unchanged

  -- after an event that is done
  done_fits : (e : Event) → IsEventOf y e → course y a e ≡ Plays → PartsFit (yard_done y mine a e) known
  done_fits e is plays = grind (arith, cells_size y mine e, words_sizes y mine a e, uses_size y mine a e, actors_kept e is)

-- after the vault's death
died_fits : (y : Yard) (known : ℕ) → PartsFit y known → PartsFit (with_vault y (died y.vault)) known
died_fits y known fits = grind arith

-- after a device failure
failed_fits : (y : Yard) (known : ℕ) → PartsFit y known → (a : ℕ) (e : Event) → PartsFit (line_failed y a e).0 known
failed_fits y known fits a e = grind (arith, cells_size)

-- an outcome is a fault, or it isn't
pub fault_or_not : (o : Outcome) → (o ≡ Fault) ⊎ (o ≢ Fault)
fault_or_not o = grind arith

-- the parts fit after each course that changes something, and after a device failure
module _ (y : Yard) (known : ℕ) (fits : PartsFit y known) (new : Yard) (rows : ℕ) (same : rows ≡ known) where
  fits_still : PartsFit new known → PartsFit new rows
  fits_still = subst (PartsFit new) (sym same)

  pub fits_dead : new ≡ with_vault y (died y.vault) → PartsFit new rows
  fits_dead is = fits_still (subst (λ (q : Yard). PartsFit q known) (sym is) (died_fits y known fits))

  module _ (a : ℕ) (e : Event) (before after : Device) where
    pub fits_done : (outcome : Outcome) → (1 ≤ a) × (a ≤ y.shape.passes) → IsEventOf y e → Known Plays y a e → Does y a e (Ok outcome) new before after → PartsFit new rows
    fits_done outcome actor is plays done =
        fits_still (subst (λ (q : Yard). PartsFit q known) (sym done.0) (done_fits y known fits a actor.0 (omega (arith, actor.1, fits.actors)) e is plays.0))

    pub fits_failed : (fault : VaultFault) → Does y a e (Err fault) new before after → PartsFit new rows
    fits_failed fault failed = fits_still (subst (λ (q : Yard). PartsFit q known) (sym failed.0) (failed_fits y known fits a e))

-- what the parts played, done or failed
pub fits_played : {D : Type 0} (device : D → Device) (old new : PartsOver D) (a : ℕ) (e : Event) (result : Result Outcome VaultFault)
    → MayBePlayed device old a e → IsPlayed device old new a e result → PartsFit new.yard new.rows
fits_played device old new a e (Ok outcome) may played =
    fits_done old.yard old.rows may.fits new.yard new.rows played.rows a e (device old.disk) (device new.disk) outcome
    (may.ready.actor.0, omega (arith, may.ready.actor.1, may.fits.actors)) may.ready.event may.known played.done
fits_played device old new a e (Err fault) may played =
    fits_failed old.yard old.rows may.fits new.yard new.rows played.rows a e (device old.disk) (device new.disk) fault played.done

-- the word that is told is there after the event too
pub word_stays : (y : Yard) (a : ℕ) (e : Event) (outcome : Outcome) (new : Yard) (told : Told) (before after : Device)
    → Does y a e (Ok outcome) new before after → Tells y (actor_at y a) a e told → IfSome told.changed (IsWord new.words)
word_stays y a e outcome new told before after done tells = grind (arith, length-set)

-- an event that is played is ready
pub is_ready : (y : Yard) (known : ℕ) (honest : Bool) (disk : Medium) (a : ℕ) (e : Event) → PartsFit y known → (1 ≤ a) × (a ≤ y.shape.passes) → IsEventOf y e
    → (needs y a e ≡ true → MayPlay y honest disk a e) → Known Plays y a e → IsReady y a e
is_ready y known honest disk a e fits actor is may plays = ready_to_play y honest disk a e (may plays.1) actor.0 (omega (arith, actor.1, fits.actors)) is plays.0

-- the shape stays
pub played_shape : (y : Yard) (a : ℕ) (e : Event) (outcome : Outcome) (new : Yard) (told : Told) (before after : Device)
    → Played y a e outcome new told before after → new.shape ≡ y.shape
played_shape y a e outcome new told before after played = grind (arith, line_keeps_shape)

-- they fit after a word was set
words_fit : (y : Yard) (known : ℕ) (w : Words) → PartsFit y known → SameSizes y.words w → PartsFit (with_words y w) known
words_fit y known w fits same = grind arith

pub set_fits : (y : Yard) (known : ℕ) (word : Word) (x : ℕ) (new : Yard) (rows : ℕ)
    → PartsFit y known → new ≡ with_words y (set y.words word x) → rows ≡ known → PartsFit new rows
set_fits y known word x new rows fits is same = rw (is, same) (words_fit y known (set y.words word x) fits (set_sizes y.words word x))
