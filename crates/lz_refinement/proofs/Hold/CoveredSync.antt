-- A Sync whose slot is covered calls no device.
use Rattle.std.proofs.{Common.{arith, ◌≡◌, ℕ, true}, lemmas.Bool.Decides.{nat_tests}}
use Rattle.lz_refinement.proofs.Vocabulary.{Device, NoCall, set, Event, Outcome, Yard, actor_at, call_on, course, is_sure, line_call, with_words, Told, Played}
use Rattle.lz_refinement.specs.Held.{SparesDevice}
use Rattle.lz_list.specs.declared.word.Word.TheVariants.{Pin as pin_at}
use Rattle.lz_machine.specs.declared.event.Event.TheVariants.{Sync}

-- whatever becomes of it
calls_none : (y : Yard) (a s : ℕ) → is_sure y s ≡ true → line_call y a (Sync s) ≡ NoCall
calls_none y a s sure = grind (arith, nat_tests, course, call_on, actor_at)

-- Played over a device once the yard's copy of a pin word was set, which touches no slot.
pub spares : (y was : Yard) (p pin : ℕ) → was ≡ with_words y (set y.words (pin_at p) pin) → (a : ℕ) (e : Event) (o : Outcome) (new : Yard) (told : Told) (first before after : Device) → before ≡ first → Played was a e o new told before after
    → SparesDevice y e o first after
spares y was p pin same a e o new told first before after start played slot is sure = grind (arith, nat_tests, line_call, with_words, set, calls_none)
