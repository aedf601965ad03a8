-- Loads, and events that a dead vault refuses, keep the invariant: nothing changes but how far the call has come.
use Rattle.std.proofs.{Common.{◌≡◌, ◌≢◌, inl, inr, ℕ, true, false, List, Option, Some, None, refl, sym, ap, ◌∙◌}, lemmas.Bool.Decides.{eqb_tells}}
use Rattle.lz_slot.specs.{declared.command.Command.{Command, TheVariants.{Add}}, Sets.{key_of}, Histories.{History}}
use Rattle.lz_disk.specs.Images.{Medium}
use Rattle.lz_list.specs.{declared.{word.Word.TheVariants.{Halt as halt_word_at}, walk.Look.{Look, TheVariants.{AtHead}}}, Words.{get}, Walks.{wants}}
use Rattle.lz_list.specs.Traces.{Trace, halt_word}
use Rattle.lz_machine.specs.declared.{event.{Outcome.TheVariants.{Value, Dead}, Reply.TheVariants.{Halted}}, caller.Progress.{Progress}}
use Rattle.lz_machine.specs.{declared.caller.Progress.TheVariants.{LoadsHalt, Walking}, Yards.{Yard, IsInside, actor_in, pin_in}}
use Rattle.lz_machine.specs.{Calls.{progress_after, halts, halt_loaded}, Runs.{Caller, caller_at}, Notes.{Notes}}
use Rattle.lz_machine.specs.{CallersSound.{view_of, IsEmptyHanded, MayAnswer, CallerSound, is_before_pin, side_of}, Sound.{Sound}}
use Rattle.lz_machine.proofs.Frames.{OneActor.{moving, mine}, SameYard.{KeepsTail, going_keeps}, Ranges.{few_slots}, Outside.{side_even, inside_side}}
use Rattle.lz_machine.proofs.Steps.Walk.{GoesOn, hop_after}
use mathlib.Core.Bool.{false≢true}

-- a call of this number and command
abbrev pub call_at : ℕ → Command → Progress → Caller
call_at i c at = record { number = i; command = c; progress = at }

module _ (n calls : ℕ) (y : Yard) (callers : List (Option Caller)) (disk : Medium) (M : History) (P : Trace) (notes : Notes) (a i : ℕ) (c : Command) (at : Progress) (is : caller_at callers a ≡ Some (call_at i c at)) (sound : Sound n calls y callers disk M P notes) where
  pub own : CallerSound (view_of y.shape y.vault y.actors a) (pin_in y.words.pins a) (Some (call_at i c at)) (notes.begun a) P (notes.changed a)
  own = mine y.shape y.vault y.words.pins y.actors callers P notes a (call_at i c at) is sound.callers

  pub own_inside : is_before_pin at ≡ false → IsInside (pin_in y.words.pins a)
  own_inside inside = side_even (pin_in y.words.pins a) at own.stands.0 ∙ ap side_of inside

  -- a turn that leaves the yard, after which the call may go on so
  pub goes_on_keeps : (next : Progress) → is_before_pin at ≡ false → KeepsTail (notes.changed a) at next → GoesOn (view_of y.shape y.vault y.actors a) c next (notes.begun a) P (notes.changed a) → Sound n calls y (moving callers a (call_at i c at) next) disk M P notes
  goes_on_keeps next inside keeps h = going_keeps n calls y callers disk M P notes a (call_at i c at) is next keeps (record {
    quiet = own.quiet;
    begins = own.begins;
    stands = (inside_side (pin_in y.words.pins a) next h.inside (own_inside inside), own.stands.1, h.relies);
  }) sound

  -- the vault is dead
  pub dead_keeps : is_before_pin at ≡ false → y.vault.dead ≡ true → Sound n calls y (moving callers a (call_at i c at) (progress_after y.shape c at Dead)) disk M P notes
  dead_keeps inside dead = goes_on_keeps (halts Halted) inside (λ none is. refl) (record { relies = (tt, dead); inside = refl })

module _ (n calls : ℕ) (y : Yard) (callers : List (Option Caller)) (disk : Medium) (M : History) (P : Trace) (notes : Notes) (a i : ℕ) (c : Command) (sound : Sound n calls y callers disk M P notes) where
  -- a load on a walk
  pub hop_keeps : (aim : Option ℕ) (look : Look) → caller_at callers a ≡ Some (call_at i c (Walking aim look))
      → Sound n calls y (moving callers a (call_at i c (Walking aim look)) (progress_after y.shape c (Walking aim look) (Value (get y.words (wants y.shape.buckets (key_of c) look))))) disk M P notes
  hop_keeps aim look is =
      let me = own n calls y callers disk M P notes a i c (Walking aim look) is sound in
      let inside = own_inside n calls y callers disk M P notes a i c (Walking aim look) is sound refl in
      let h = me.stands.2 in
      goes_on_keeps n calls y callers disk M P notes a i c (Walking aim look) is sound _ refl (λ none is. absurd (false≢true is))
      (hop_after y.shape y.words P sound.trace (few_slots sound.images) (notes.begun a) (me.quiet inside)
      (me.begins inside) y.shape.passes y.vault.format y.vault.cells y.vault.dead _ (notes.changed a) c aim look h.0 h.1 h.3 h.2)

  halts_now : (d : Command) → halt_word P ≡ 1 → MayAnswer d Halted (notes.begun a) P (notes.changed a)
  halts_now (Add k) is = is
  halts_now _ is = is

  walks_now : halt_word P ≢ 1 → IsEmptyHanded (actor_in y.actors a) P → notes.changed a ≡ None → GoesOn (view_of y.shape y.vault y.actors a) c (Walking None AtHead) (notes.begun a) P (notes.changed a)
  walks_now goes (inl idle) none = record { relies = (record { hold = idle.0; none = none }, idle.1, tt, tt); inside = refl }
  walks_now goes (inr halted) none = absurd (goes halted)

  -- the halt word, before the first walk
  pub halt_load_keeps : caller_at callers a ≡ Some (call_at i c LoadsHalt)
      → Sound n calls y (moving callers a (call_at i c LoadsHalt) (progress_after y.shape c LoadsHalt (Value (get y.words halt_word_at)))) disk M P notes
  halt_load_keeps is =
      let h = (own n calls y callers disk M P notes a i c LoadsHalt is sound).stands.2 in
      goes_on_keeps n calls y callers disk M P notes a i c LoadsHalt is sound (halt_loaded y.words.halt) refl (λ none is. absurd (false≢true is)) (elim (eqb_tells y.words.halt 1) [
        | inl halted ↦ rw halted.0 (record { relies = (halts_now c (sym sound.trace.halt ∙ halted.1), inr (sym sound.trace.halt ∙ halted.1)); inside = refl })
        | inr goes ↦ rw goes.0 (walks_now (λ e. goes.1 (sound.trace.halt ∙ e)) h.0 h.1)
      ])
