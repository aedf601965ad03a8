-- A settling that is durable keeps the invariant of all actors.
use Rattle.std.proofs.{Common.{◌≡◌, ◌≢◌, ◌⊎◌, ℕ, suc, ◌<◌, ◌≤◌, ◌==◌, true, false, List, ◌∷◌, Option, Some, refl, sym, ◌∙◌, arith}, lemmas.Bool.{cases_Bool}}
use Rattle.std.proofs.lemmas.Bool.Decides.{nat_tests, eqb_tells}
use mathlib.Core.Bool.{false≢true}
use Rattle.lz_slot.specs.{Limits.{most_slots}, Histories.{History}}
use Rattle.lz_disk.specs.Images.{Medium}
use Rattle.lz_vault.specs.declared.vault.Stage.{Stage, TheVariants.{Closed, Opening, Open}}
use Rattle.lz_list.specs.declared.{flags.Flags.{Flags}, publishing.{Change.{Change, TheVariants.{Added, Removed}}, Publishing.TheVariants.{Settled as settled}}}
use Rattle.lz_list.specs.{declared.word.Word.TheVariants.{Link as link_at}, Words.{Words, get, set, link_with, next_of, flags_of}}
use Rattle.lz_list.specs.{Traces.{Trace, on, chain_of, key_word, linking, linking_in, is_settled, is_removed, is_removal, word_after}, Pinned.{Stood}}
use Rattle.lz_list.proofs.{Traces.NodeBits.{node, linking_apart}, Tables.WordTable.{table_set}}
use Rattle.lz_machine.specs.{Yards.{Yard, Shape, IsInside, actor_in, pin_in, stage_in}, Runs.{Caller, with_words}, Notes.{Notes}}
use Rattle.lz_machine.{specs.{SlotsSound.{IsNodeStage, IsOnChain, SlotsSound}, Sound.{TraceSound, Sound}}, proofs.Frames.ChainSlots.{reuse_published}}
use Rattle.lz_machine.proofs.Frames.{LoadedWord.{link_next, link_mark, link_removed}, KeptSlots.{slots_published}, HeldLocks.{settled_leaves, locks_published}}
use Rattle.lz_machine.proofs.{Frames.{OtherCallers.{callers_stay}, Ranges.{few_slots}}, Ledger.QuietPublishing.{ledger_published}}

-- what a settled flag makes of a slot's flags
abbrev pub flags_then : Change → Flags → Flags
flags_then Added f = record { mark = f.mark; add_settled = true; remove_settled = f.remove_settled }
flags_then Removed f = record { mark = f.mark; add_settled = true; remove_settled = true }

module _ (shape : Shape) (words : Words) (P : Trace) (trace : TraceSound shape words P) (few : shape.slots ≤ most_slots) (s : ℕ) (lt : s < shape.slots) (c : Change) where
  word_is : (change : Change) → link_with (next_of (get words (link_at s))) (flags_then change (flags_of (get words (link_at s)))) ≡ word_after shape.buckets (settled s change ∷ P) (link_at s)
  word_is Added = grind (arith, nat_tests, link_next, link_mark, link_removed)
  word_is Removed = grind (arith, nat_tests, link_next, link_mark)

  abbrev pub stored : Words
  stored = set words (link_at s) (link_with (next_of (get words (link_at s))) (flags_then c (flags_of (get words (link_at s)))))

  word_other : (t : ℕ) → t ≢ s → word_after shape.buckets (settled s c ∷ P) (link_at t) ≡ word_after shape.buckets P (link_at t)
  word_other t other = let apart : (s == t) ≡ false = grind (arith, nat_tests, other) in cc apart

  pub trace_settled : TraceSound shape stored (settled s c ∷ P)
  trace_settled = grind (arith, nat_tests, table_set, word_is, word_other)

-- the stage that allows a settling as this change
abbrev pub Allows : Change → Stage → Type 0
Allows Added stage = stage ≡ Open
Allows Removed stage = stage ≡ Closed

module _ (n calls : ℕ) (y : Yard) (callers : List (Option Caller)) (disk : Medium) (M : History) (P : Trace) (notes : Notes) (sound : Sound n calls y callers disk M P notes) where
  -- a slot on which a pass that is inside may stand is a node, or was taken out
  pub stood_stands : (a s b : ℕ) → IsInside (pin_in y.words.pins a) → Stood y.shape.buckets b (notes.begun a) P (suc s) → s < y.shape.slots
      → (IsOnChain y.shape y.vault.cells y.uses P s × IsNodeStage y.vault.cells y.vault.dead y.actors P s) ⊎ (stage_in y.vault.cells s ≡ Closed)
  stood_stands a s b inside stood lt = grind arith

  module _ (s : ℕ) (c : Change) (lt : s < y.shape.slots) (allows : Allows c (stage_in y.vault.cells s)) (apart : (b t : ℕ) → (actor_in y.actors b).slot ≡ Some t → t ≢ s) where
    -- the node whose flag is set is the one that the settling names
    named : (k t : ℕ) → key_word t P ≡ k → on 0 (chain_of y.shape.buckets k P) (suc t) ≡ true → linking_in s P ≡ linking k P → t ≡ s
    named k t key there same =
        let h = node y.shape.buckets y.shape.slots k t P sound.trace.lawful there key in
        linking_apart t s P (h.same ∙ sym same) (omega (arith, h.same, h.some))

    not_opening : Allows c (stage_in y.vault.cells s) → stage_in y.vault.cells s ≢ Opening
    not_opening h0 = grind arith

    is_added : (k t : ℕ) → key_word t P ≡ k → on 0 (chain_of y.shape.buckets k P) (suc t) ≡ true → is_settled (linking k P) (settled s c ∷ P) ≡ true → stage_in y.vault.cells t ≢ Opening
    is_added k t key there is = grind (arith, nat_tests, eqb_tells, not_opening, named)

    removes : (change : Change) → is_removal change ≡ true → Allows change (stage_in y.vault.cells s) → stage_in y.vault.cells s ≡ Closed
    removes Removed is h = h
    removes Added is h = absurd (false≢true is)

    is_removed_then : (k t : ℕ) → key_word t P ≡ k → on 0 (chain_of y.shape.buckets k P) (suc t) ≡ true → is_removed (linking k P) (settled s c ∷ P) ≡ true → stage_in y.vault.cells t ≡ Closed
    is_removed_then k t key there is = grind (arith, nat_tests, eqb_tells, cases_Bool, named, removes)

    slots : SlotsSound y.shape y.vault.cells y.vault.dead y.uses y.actors (settled s c ∷ P)
    slots = slots_published y.shape y.vault.cells y.vault.dead y.actors y.uses (settled s c) P (record { loose = λ t loose. loose; word = λ t. refl; mark = λ t. refl; chain = λ k t there. there }) sound.slots sound.slots.halted is_added is_removed_then

    pub settled_keeps : Sound n calls (with_words y (stored y.shape y.words P sound.trace (few_slots sound.images) s lt c)) callers disk M (settled s c ∷ P) notes
    settled_keeps = record {
      trace = trace_settled y.shape y.words P sound.trace (few_slots sound.images) s lt c;
      images = sound.images;
      slots = slots;
      locks = locks_published y.shape y.locks y.actors (settled s c) P (λ b. settled_leaves y.shape.buckets s c (actor_in y.actors b) P (apart b)) sound.locks;
      callers = callers_stay y.shape y.vault y.words.pins y.locks y.actors callers (settled s c) P (tt, sound.trace.lawful) notes sound.locks sound.callers (λ b inside. tt) (λ b t slot. refl);
      reuse = reuse_published y.shape y.vault.cells y.vault.dead y.uses y.actors y.actors (settled s c) P y.words.pins notes.begun slots (λ b t slot. slot) sound.reuse;
      ledger = ledger_published n calls y.shape.passes callers (settled s c) P M notes tt sound.ledger;
      tails = record { adding = sound.tails.adding; removing = sound.tails.removing };
    }
