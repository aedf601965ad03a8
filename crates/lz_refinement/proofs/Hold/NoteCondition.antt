-- What the tie before a hold and after it say of the board: the words, and that the store of a hold publishes what its note
-- says.
use Rattle.std.proofs.{lemmas.{Bool.{eq-eqb, cases_eq, cases_lt, Decides.{nat_tests}}, List.{get_or_past}}, Common.{◌≡◌, ◌≢◌, ⊎_elim, ℕ, List, ◌∷◌, ◌++◌, refl}}
use Rattle.std.proofs.Common.{sym, ap, ◌∙◌, ◌<◌, subst, arith, ne_eqb, Bool, ◌==◌, length, if◌then◌else◌, [], Option, Some, None, option_to_list}
use mathlib.Core.Bool.{false≢true}
use Rattle.lz_refinement.proofs.Vocabulary.{of_pass, Device, Medium, Vaulted, Use, Taken, use_of, Publishing, Word, get, IsWord, Trace, Lawful, IsLoose, word_after}
use Rattle.lz_refinement.proofs.Vocabulary.{Actor, Shape, Yard, idle_actor, run, first_point, TraceSound, SlotStands, is_node, is_held, is_limbo, SlotsSound, Sizes}
use Rattle.lz_refinement.proofs.{Vocabulary.{Note, Load, as_list, trace_of, splice, IsShared, Writes}, Reading.TraceNotes.{trace_reads}}
use Rattle.lz_refinement.{proofs.{Splicing.LoadInsertion.{words_shown}, Hold.{OneWord.{IsWalked}, Alike.{alike_then}}}, specs.NotedRuns.{SameButAllPins, IsTied}}
use Rattle.lz_refinement.specs.Holds.{sizes_of}
use Rattle.lz_list.{specs.declared.word.Word.TheVariants.{Head, Link, Key, Pin as PinOf, Halt}, proofs.Tables.WordTable.{length-table}}
use Rattle.lz_machine.{specs.SlotsSound.{is_free, is_out}, proofs.Theorem.Reached.{reached_sound, up_at}}
use Rattle.lz_board.proofs.Upkeep.Splice.{trace_splice}

-- what was told of a publishing, as a list
pub listed_is : (x : Option Publishing) → as_list x ≡ option_to_list x
listed_is None = refl
listed_is (Some x) = refl

pub listed_none : (x : Option Publishing) → as_list x ≡ [] → x ≡ None
listed_none None is = refl
listed_none (Some x) is = grind (arith, nat_tests, false≢true)

-- a yard that is the same but for pin words is tied too
pub alike_tied : (opened : Trace) (ns : List Note) (y z : Yard) (dev : Device) → IsTied opened ns y dev.honest dev.medium → SameButAllPins z y → IsTied opened ns z dev.honest dev.medium
alike_tied opened ns y z dev t same = grind (arith, alike_then, same)

same_words : (y s : Yard) → SameButAllPins y s → (z : Sizes) (w : Word) → IsShared z w → get y.words w ≡ get s.words w
same_words y s h z (Head b) shared = ap (λ l. get (record s.words { heads = l }) (Head b)) h.heads
same_words y s h z (Link b) shared = ap (λ l. get (record s.words { links = l }) (Link b)) h.links
same_words y s h z (Key b) shared = ap (λ l. get (record s.words { keys = l }) (Key b)) h.keys
same_words y s h z (PinOf p) shared = absurd shared
same_words y s h z Halt shared = h.halt

module _ (opened : Trace) (ns : List Note) (y : Yard) (honest : Bool) (disk : Medium) (t : IsTied opened ns y honest disk) where
  same_trace : (run (first_point t.start) t.steps).trace ≡ trace_of opened ns
  same_trace = trace_reads (first_point t.start) ns t.steps t.reads ∙ ap (λ P. trace_of P ns) (sym t.begins)

  pub sound : TraceSound y.shape t.service.yard.words (trace_of opened ns)
  sound =
      let up = up_at t.start (run (first_point t.start) t.steps) t.service t.medium (reached_sound t.start t.steps t.starts t.runs) t.state in
      subst (λ (x : Shape × Trace). TraceSound x.0 t.service.yard.words x.1) (λ i. (sym t.yard.shape i, same_trace i)) up.up.sound.trace

  -- the yard's words are those after the notes' trace, which is lawful
  pub tied_words : (w : Word) → IsShared (sizes_of y.shape) w → get y.words w ≡ word_after y.shape.buckets (trace_of opened ns) w
  tied_words w shared = same_words y t.service.yard t.yard (sizes_of y.shape) w shared ∙ words_shown y.shape t.service.yard.words (trace_of opened ns) sound w shared

  -- there is a slot
  first_slot : IsShared (sizes_of y.shape) (Link 0)
  first_slot =
      let up = up_at t.start (run (first_point t.start) t.steps) t.service t.medium (reached_sound t.start t.steps t.starts t.runs) t.state in
      subst (λ (s : Shape). 0 < s.slots) (sym t.yard.shape) up.up.sound.images.slots.0

  slots : SlotsSound y.shape y.vault.cells y.vault.dead y.uses y.actors (trace_of opened ns)
  slots =
      let up = up_at t.start (run (first_point t.start) t.steps) t.service t.medium (reached_sound t.start t.steps t.starts t.runs) t.state in
      subst (λ (x : Shape × Vaulted × List Use × List Actor × Trace). SlotsSound x.0 x.1.cells x.1.dead x.2 x.3 x.4)
      (λ i. (sym t.yard.shape i, sym t.yard.vault i, sym t.yard.uses i, sym t.yard.actors i, same_trace i)) up.up.sound.slots

  -- a slot that isn't taken stands on no chain
  pub tied_loose : (s : ℕ) → use_of y.uses s ≢ Taken → IsLoose y.shape.buckets s (trace_of opened ns)
  tied_loose s other = ⊎_elim
      (λ within. let count = slots.count in stands (slots.each s (omega (arith, within, count))))
      (λ past. absurd (other (get_or_past y.uses s Taken past)))
      (cases_lt s (length y.uses))
    where
      stands : SlotStands y.shape y.vault.cells y.vault.dead y.uses y.actors (trace_of opened ns) s → IsLoose y.shape.buckets s (trace_of opened ns)
      stands (is_node chain stage) = absurd (other chain.taken)
      stands (is_held a slot) = (slots.hand a s slot).loose
      stands (is_out a out) = (slots.out a s out).loose
      stands (is_free loose free stage) = loose
      stands (is_limbo sights loose limbo stage) = loose

  -- and neither does one in a hand
  pub tied_held : (a s : ℕ) → (of_pass y.actors a idle_actor).slot ≡ Some s → IsLoose y.shape.buckets s (trace_of opened ns)
  tied_held a s held = (slots.hand a s held).loose

  -- a word that walkers load is one of the board's
  pub tied_shared : (w : Word) → IsWalked w → IsWord y.words w → IsShared (sizes_of y.shape) w
  tied_shared (Head b) walked is = let heads = ap (λ (l : List ℕ). length l) (t.yard.heads ∙ sound.heads) ∙ length-table y.shape.buckets _ in omega (arith, is, heads)
  tied_shared (Link s) walked is = let links = ap (λ (l : List ℕ). length l) (t.yard.links ∙ sound.links) ∙ length-table y.shape.slots _ in omega (arith, is, links)
  tied_shared (Key s) walked is = let keys = ap (λ (l : List ℕ). length l) (t.yard.keys ∙ sound.keys) ∙ length-table y.shape.slots _ in omega (arith, is, keys)
  tied_shared (PinOf p) walked is = absurd walked
  tied_shared Halt walked is = tt

  pub tied_lawful : Lawful y.shape.buckets y.shape.slots (trace_of opened ns)
  tied_lawful = sound.lawful

-- Where the notes are tied before a hold and after it, an exchange of the one word that differs publishes what was noted.
pub noting_writes : (opened : Trace) (ns : List Note) (y y' : Yard) (honest honest' : Bool) (disk disk' : Medium) (a : ℕ) (hs : List Load) (n : Note)
    → IsTied opened ns y honest disk → IsTied opened (n ∷ splice opened a hs ns) y' honest' disk' → y'.shape ≡ y.shape
    → (w : Word) → IsShared (sizes_of y.shape) w → ((v : Word) → v ≢ w → IsShared (sizes_of y.shape) v → get y'.words v ≡ get y.words v)
    → Writes (sizes_of y.shape) (trace_of opened ns) w (get y.words w) (get y'.words w) n.published
noting_writes opened ns y y' honest honest' disk disk' a hs n t t' shape w shared others = record {
  shared = shared;
  word = ap (λ b. if b then get y'.words w else word_after y.shape.buckets P w) (eq-eqb (word_after y.shape.buckets P w) (get y.words w) (sym (before w shared))) ∙ after w shared;
  others = λ v in_range away. sym (after v in_range) ∙ others v away in_range ∙ before v in_range;
}
  where
    P : Trace
    P = trace_of opened ns

    before : (v : Word) → IsShared (sizes_of y.shape) v → get y.words v ≡ word_after y.shape.buckets P v
    before v h = tied_words opened ns y honest disk t v h

    grown : trace_of opened (n ∷ splice opened a hs ns) ≡ as_list n.published ++ P
    grown = ap (λ l. as_list n.published ++ l) (trace_splice opened a hs ns)

    after : (v : Word) → IsShared (sizes_of y.shape) v → get y'.words v ≡ word_after y.shape.buckets (as_list n.published ++ P) v
    after v h = tied_words opened (n ∷ splice opened a hs ns) y' honest' disk' t' v (subst (λ s. IsShared (sizes_of s) v) (sym shape) h)
        ∙ ap (λ (x : Shape × Trace). word_after x.0.buckets x.1 v) (λ i. (shape i, grown i))

-- and where no word differs, an exchange of a word that all share, which changes nothing
pub noting_nothing : (opened : Trace) (ns : List Note) (y y' : Yard) (honest honest' : Bool) (disk disk' : Medium) (a : ℕ) (hs : List Load) (n : Note) (m : ℕ)
    → IsTied opened ns y honest disk → IsTied opened (n ∷ splice opened a hs ns) y' honest' disk' → y'.shape ≡ y.shape
    → ((v : Word) → IsShared (sizes_of y.shape) v → get y'.words v ≡ get y.words v)
    → Writes (sizes_of y.shape) (trace_of opened ns) (Link 0) m m n.published
noting_nothing opened ns y y' honest honest' disk disk' a hs n m t t' shape others = record {
  shared = first_slot opened ns y honest disk t;
  word = either (word_after y.shape.buckets P (Link 0)) ∙ sym (same (Link 0) (first_slot opened ns y honest disk t));
  others = λ v in_range away. same v in_range;
}
  where
    P : Trace
    P = trace_of opened ns

    grown : trace_of opened (n ∷ splice opened a hs ns) ≡ as_list n.published ++ P
    grown = ap (λ l. as_list n.published ++ l) (trace_splice opened a hs ns)

    same : (v : Word) → IsShared (sizes_of y.shape) v → word_after y.shape.buckets (as_list n.published ++ P) v ≡ word_after y.shape.buckets P v
    same v h =
        ap (λ (x : Shape × Trace). word_after x.0.buckets x.1 v) (λ i. (sym shape i, sym grown i))
        ∙ sym (tied_words opened (n ∷ splice opened a hs ns) y' honest' disk' t' v (subst (λ s. IsShared (sizes_of s) v) (sym shape) h))
        ∙ others v h ∙ tied_words opened ns y honest disk t v h

    either : (x : ℕ) → (if x == m then m else x) ≡ x
    either x = grind (arith, eq-eqb, ne_eqb, cases_eq)

-- and what was noted could be published
pub noting_lawful : (opened : Trace) (ns : List Note) (y' : Yard) (honest : Bool) (disk : Medium) (a : ℕ) (hs : List Load) (n : Note)
    → IsTied opened (n ∷ splice opened a hs ns) y' honest disk → Lawful y'.shape.buckets y'.shape.slots (as_list n.published ++ trace_of opened ns)
noting_lawful opened ns y' honest disk a hs n t =
    subst (Lawful y'.shape.buckets y'.shape.slots) (ap (λ l. as_list n.published ++ l) (trace_splice opened a hs ns)) (tied_lawful opened (n ∷ splice opened a hs ns) y' honest disk t)
