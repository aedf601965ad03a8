-- The moves, as the calls ask for them.
use Rattle.std.{proofs.Common.{◌≡◌, ℕ, suc, ◌≤◌, ◌==◌, false, List, [], ◌∷◌, sym, subst, arith}, specs.Prelude.{slice_index}}
use mathlib.Core.Option.{none, some}
use prog.Atomic.{either}
use Rattle.atomic_table.specs.Table.{Me, carried_after, step, Allows}
use Rattle.lz_list.specs.{declared.{word.Word.{Word, TheVariants.{Pin as PinOf}}, layout.Sizes.{Sizes}}, Traces.{Trace, word_after}, Addresses.{index}}
use Rattle.lz_list.proofs.Tables.Address.{decode}
use Rattle.lz_machine.specs.Table.{last_pin}
use Rattle.lz_board.specs.{declared.view.{Note.{Note}, Part.{Part}, View.{View}}, Notes.{IsShared, trace_of}, Kept.{is_calling, IsPart, Keeps, PinTold}}
use Rattle.lz_board.specs.Noting.{MayNote, KeepsPin, MovesPin, Writes}
use Rattle.lz_board.specs.Plays.{Looked, Loaded, Entered, Saw, Noted, Moved, alone, pen_view, found_view, pass_at, Finds}
use Rattle.lz_board.proofs.Upkeep.{SharedWords.{shared_placed}, LoadStep.{looks, loads, saws}, StoreStep.{notes_in, moves_in, enters_in}}

module _ (z : Sizes) (opened : Trace) (slots id : ℕ) where
  pub looks_at : (i : ℕ) (w : Word) (me : Me Note View) → i ≡ index z w → IsShared z w → Allows (Keeps z opened) slots id me i (λ n. n) (Looked (step slots i 0 0 none) me)
  looks_at i w me is shared = subst (λ i. Allows (Keeps z opened) slots id me i (λ n. n) (Looked (step slots i 0 0 none) me)) (sym is) (looks z opened slots id w me shared)

  pub loads_at : (i : ℕ) (w : Word) (me : Me Note View) → i ≡ index z w → IsShared z w → Allows (Keeps z opened) slots id me i (λ n. n) (Loaded (step slots i 0 0 none) me)
  loads_at i w me is shared = subst (λ i. Allows (Keeps z opened) slots id me i (λ n. n) (Loaded (step slots i 0 0 none) me)) (sym is) (loads z opened slots id w me shared)

  -- the pen's view is that of the state
  module _ (ns : List Note) (h : Part) (me : Me Note View) (is : me ≡ (pen_view z opened ns (h ∷ []), [])) where
    pub notes_at : (i : ℕ) (w : Word) (old new : ℕ) (n : Note) → i ≡ index z w → MayNote z opened ns h n → KeepsPin h n → Writes z (trace_of opened ns) w old new n.published
        → Allows (Keeps z opened) slots id me i (λ m. either (m == old) new m) (Noted (step slots i old new (some n)) me)
    notes_at i w old new n at may keeps writes =
        subst (λ (x : Me Note View × ℕ). Allows (Keeps z opened) slots id x.0 x.1 (λ m. either (m == old) new m) (Noted (step slots x.1 old new (some n)) x.0)) (λ j. (sym is j, sym at j)) (notes_in z opened slots id w old new ns h n [] may keeps writes)

    pub moves_at : (i old new : ℕ) (n : Note) → i ≡ index z (PinOf h.number) → old ≡ h.pin → new ≡ suc h.pin → MayNote z opened ns h n → MovesPin h n → 1 ≤ h.number → h.number ≤ z.passes
        → Allows (Keeps z opened) slots id me i (λ m. either (m == old) new m) (Moved (step slots i old new (some n)) me)
    moves_at i old new n at was will may moves low high =
        subst (λ (x : Me Note View × ℕ × ℕ × ℕ). Allows (Keeps z opened) slots id x.0 x.1 (λ m. either (m == x.2) x.3 m) (Moved (step slots x.1 x.2 x.3 (some n)) x.0)) (λ j. (sym is j, sym at j, sym was j, sym will j)) (moves_in z opened slots id ns h n [] may moves low high)

  pub saws_at : (ns : List Note) (held : List Part) (me : Me Note View) (i q : ℕ) → me ≡ (pen_view z opened ns held, []) → i ≡ index z (PinOf q) → 1 ≤ q → q ≤ z.passes
      → Allows (Keeps z opened) slots id me i (λ n. n) (Saw (step slots i 0 0 none) me)
  saws_at ns held me i q is at low high =
      let back : pass_at z (index z (PinOf q)) ≡ q = omega arith in
      subst (λ (x : Me Note View × ℕ). Allows (Keeps z opened) slots id x.0 x.1 (λ n. n) (Saw (step slots x.1 0 0 none) x.0)) (λ j. (sym is j, sym at j))
      (λ s k len here bound. let r = saws z opened slots id q ns held [] low high s k len here bound in (
        r.0,
        r.1,
        r.2,
        r.3,
        subst (λ p. (◌≡◌ {A = Me Note View} (r.0, carried_after [] r.1)
            (found_view p (slice_index s.words (index z (PinOf q))) (pen_view z opened ns held), [])) × PinTold z ns p (slice_index s.words (index z (PinOf q))) ×
            ((h : Part) → IsPart held h → h.number ≡ p → h.pin ≡ slice_index s.words (index z (PinOf q)))) (sym back) r.4,
      ))

  pub enters_at : (h : Part) (me : Me Note View) (i m : ℕ) → me ≡ (alone h, []) → i ≡ index z (PinOf h.number) → 1 ≤ h.number → h.number ≤ z.passes → is_calling z h.steps ≡ false → h.pin ≤ m → m ≤ last_pin
      → Allows (Keeps z opened) slots id me i (λ _. m) (λ _. Entered (step slots i m 0 none) me m)
  enters_at h me i m is at low high idle more most =
      subst (λ (x : Me Note View × ℕ). Allows (Keeps z opened) slots id x.0 x.1 (λ _. m) (λ _. Entered (step slots x.1 m 0 none) x.0 m)) (λ j. (sym is j, sym at j)) (enters_in z opened slots id m h [] low high idle more most)

-- a word that was found, by its place
pub finds_word : (z : Sizes) (h : Part) (seen : Trace) (i found : ℕ) (w : Word) → h.sizes ≡ z → i ≡ index z w → IsShared z w → Finds seen i found h → found ≡ word_after z.buckets seen w
finds_word z h seen i found w sized at shared finds = grind (arith, decode, shared_placed)
