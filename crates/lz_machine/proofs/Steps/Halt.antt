-- Halt keeps the invariant.
use Rattle.std.proofs.{lemmas.Bool.Decides.{nat_tests}, Common.{◌≡◌, ℕ, true, List, ◌∷◌, Option, Some, refl, arith}}
use Rattle.lz_slot.specs.{declared.command.Command.{Command}, Histories.{History}}
use Rattle.lz_disk.specs.Images.{Medium}
use Rattle.lz_list.specs.{declared.publishing.Publishing.TheVariants.{Halted as halted}, Words.{Words}, Traces.{Trace}}
use Rattle.lz_machine.specs.declared.{event.{Event.TheVariants.{Halt}, Outcome.TheVariants.{Done}, Reply.{Reply}}, caller.Sequence.TheVariants.{Halting}}
use Rattle.lz_machine.specs.{declared.caller.Progress.TheVariants.{Playing, Answering}, Yards.{Yard, Shape, actor_at, actor_in}, Table.{yard_done}}
use Rattle.lz_machine.specs.{Calls.{progress_after}, Runs.{Caller, caller_at}, Notes.{Notes}, CallersSound.{view_of, IsCut}, Sound.{TraceSound, Sound}}
use Rattle.lz_machine.{specs.{SlotsSound.{SlotsSound}, LedgerSound.{may_have_tail}}, proofs.Frames.{ChainSlots.{reuse_published}, OneActor.{moving}}}
use Rattle.lz_machine.proofs.Frames.{OtherCallers.{callers_stay}, KeptSlots.{slots_published}, HeldLocks.{halted_leaves, locks_published}}
use Rattle.lz_machine.proofs.{Ledger.QuietPublishing.{ledger_published}, Steps.{Walk.{GoesOn}, Hop.{call_at, own, goes_on_keeps}}}

pub trace_halted : (shape : Shape) (words : Words) (P : Trace) → TraceSound shape words P → TraceSound shape (record { heads = words.heads; links = words.links; keys = words.keys; pins = words.pins; halt = 1 }) (halted ∷ P)
trace_halted shape words P h = record { lawful = (tt, h.lawful); some = h.some; small = h.small; heads = h.heads; links = h.links; keys = h.keys; halt = refl; pins = h.pins }

module _ (n calls : ℕ) (y : Yard) (callers : List (Option Caller)) (disk : Medium) (M : History) (P : Trace) (notes : Notes) (sound : Sound n calls y callers disk M P notes) where
  slots : y.vault.dead ≡ true → SlotsSound y.shape y.vault.cells y.vault.dead y.uses y.actors (halted ∷ P)
  slots dead = slots_published y.shape y.vault.cells y.vault.dead y.actors y.uses halted P (record { loose = λ s loose. loose; word = λ s. refl; mark = λ s. refl; chain = λ k s there. there }) sound.slots (λ is. dead)
      (λ k s key there flag. sound.slots.added k s key there flag) (λ k s key there flag. sound.slots.removed k s key there flag)

  -- the halt word is set
  pub halted_keeps : (a : ℕ) → y.vault.dead ≡ true → Sound n calls (yard_done y (actor_at y a) a Halt) callers disk M (halted ∷ P) notes
  halted_keeps a dead = record {
    trace = trace_halted y.shape y.words P sound.trace;
    images = sound.images;
    slots = slots dead;
    locks = locks_published y.shape y.locks y.actors halted P (λ b. halted_leaves y.shape.buckets (actor_in y.actors b) P) sound.locks;
    callers = callers_stay y.shape y.vault y.words.pins y.locks y.actors callers halted P (tt, sound.trace.lawful) notes sound.locks sound.callers (λ b inside. tt) (λ b s slot. refl);
    reuse = reuse_published y.shape y.vault.cells y.vault.dead y.uses y.actors y.actors halted P y.words.pins notes.begun (slots dead) (λ b s slot. slot) sound.reuse;
    ledger = ledger_published n calls y.shape.passes callers halted P M notes tt sound.ledger;
    tails = record { adding = sound.tails.adding; removing = sound.tails.removing };
  }

  cut_answers : (c : Command) (reply : Reply) (a : ℕ) → IsCut reply → GoesOn (view_of y.shape y.vault y.actors a) c (Answering reply) (notes.begun a) (halted ∷ P) (notes.changed a)
  cut_answers c reply a cut = grind arith

  cut_tail : (reply : Reply) → IsCut reply → may_have_tail (Answering reply) ≡ true
  cut_tail reply cut = grind (arith, nat_tests)

  pub halt_keeps : (a i : ℕ) (c : Command) (reply : Reply) → caller_at callers a ≡ Some (call_at i c (Playing (Halting reply) 0))
      → Sound n calls (yard_done y (actor_at y a) a Halt) (moving callers a (call_at i c (Playing (Halting reply) 0)) (progress_after y.shape c (Playing (Halting reply) 0) Done)) disk M (halted ∷ P) notes
  halt_keeps a i c reply is =
      let h = (own n calls y callers disk M P notes a i c (Playing (Halting reply) 0) is sound).stands.2 in
      goes_on_keeps n calls (yard_done y (actor_at y a) a Halt) callers disk M (halted ∷ P) notes a i c (Playing (Halting reply) 0) is (halted_keeps a h.1) (Answering reply) refl (λ none is. cut_tail reply h.0) (cut_answers c reply a h.0)
