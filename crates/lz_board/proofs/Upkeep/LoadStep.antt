-- Each load on the board keeps the rule.
use Rattle.lz_board.specs.Plays as plays
use Rattle.std.proofs.Common.{◌≡◌, ◌≢◌, ⊎_elim, ℕ, ◌≤◌, true, List, ◌∷◌, set, refl, sym, ap, ◌∙◌, subst, arith, eq-eqb, ne_eqb, le_refl}
use Rattle.std.{proofs.lemmas.{Bool.{cases_eq}, List.{set-get_or}}, specs.Prelude.{slice_index, if◌then◌else◌}}
use mathlib.Core.Option.{none, some}
use lib.ListN.{get_elem?}
use Rattle.atomic_table.specs.Table.{State, Me, step, keeps, Allows}
use Rattle.lz_list.specs.{declared.{word.Word.{Word, TheVariants.{Pin as PinOf}}, layout.Sizes.{Sizes}}, Traces.{Trace, Lawful, word_after}}
use Rattle.lz_list.{specs.Addresses.{index, word_at}, proofs.Tables.Address.{decode}}
use Rattle.lz_board.specs.{declared.view.{Note.{Note}, Part.{Part}, View.{View}}, Notes.{trace_of, steps_of, IsShared, pin_after}}
use Rattle.lz_board.specs.Kept.{is_calling, Knows, PartFits, IsPart, ViewFits, PinTold, Keeps}
use Rattle.lz_board.{specs.Plays.{pen_view, with_parts, knowing, loading, found_note, found_view, IsShownTo}, proofs.Upkeep.SharedWords.{shared_placed}}
use Rattle.lz_board.proofs.Upkeep.{Splice.{other_step}, PartUpkeep.{knows_knowing, knows_loading, knows_found}, SeatTable.{replaced, from_map, apart_map}}

module _ (z : Sizes) (opened : Trace) where
  -- what a pass is shown, of the trace as it is
  pub shown_to : (ns : List Note) (h : Part) → Lawful z.buckets z.slots (trace_of opened ns) → Knows z opened ns h → IsShownTo (trace_of opened ns) h
  shown_to ns h lawful k = grind arith

  -- a step that changes no word and no note, and of the parts at its seat what they know
  module _ (id : ℕ) (s : State Note View) (k : Keeps z opened s) (v : View) (at : get_elem? s.views id ≡ some v) (f : Part → Part)
      (number : (h : Part) → (f h).number ≡ h.number) (pin : (h : Part) → (f h).pin ≡ h.pin) (knows : (h : Part) → IsPart v.held h → Knows z opened k.notes h → Knows z opened k.notes (f h)) where
    pub keeps_parts : Keeps z opened record { words = s.words; homes = s.homes; views = set s.views id (with_parts f v) }
    keeps_parts =
        let mine = k.views id v at in
        let fits : ViewFits z opened k.notes k.pen k.owner s.words id (with_parts f v) = record {
          whole = mine.whole;
          parts = λ g is. let r = from_map f v.held g is in let q = mine.parts r.0 r.1 in subst (PartFits z opened k.notes k.owner s.words id) (sym r.2) record {
            owned = ap k.owner (number r.0) ∙ q.owned;
            pinned = ap (λ p. slice_index s.words (index z (PinOf p))) (number r.0) ∙ q.pinned ∙ sym (pin r.0);
            knows = knows r.0 r.1 q.knows;
          };
          apart = apart_map f number v.held mine.apart;
        } in
        record {
          notes = k.notes;
          pen = k.pen;
          owner = k.owner;
          lawful = k.lawful;
          long = k.long;
          words = k.words;
          pins = k.pins;
          views = replaced (ViewFits z opened k.notes k.pen k.owner s.words) s.views id (with_parts f v) fits (λ j u _ e. k.views j u e);
        }

  pub looks : (slots id : ℕ) (w : Word) (me : Me Note View) → IsShared z w → Allows (Keeps z opened) slots id me (index z w) (λ n. n) (plays.Looked (step slots (index z w) 0 0 none) me)
  looks slots id w me shared s k len at bound =
      let t = trace_of opened k.notes in
      let found = slice_index s.words (index z w) in
      let v = with_parts (knowing t) me.0 in
      let mine = k.views id me.0 at in
      let kept' = keeps_parts id s k me.0 at (knowing t) (λ h. refl) (λ h. refl) (λ h is. knows_knowing z opened k.notes h) in
      let decoded = decode z w (shared_placed z w shared) in (
        v,
        keeps,
        tt,
        subst (λ (ws : List ℕ). Keeps z opened record { words = ws; homes = s.homes; views = set s.views id v }) (sym (set-get_or s.words (index z w) 0)) kept',
        (
          t,
          refl,
          (λ h is. shown_to k.notes h k.lawful (mine.parts h is).knows),
          (λ h is _. k.words w shared ∙ ap (λ (x : Sizes × Word). word_after x.0.buckets t x.1) (λ i. (sym (mine.parts h is).knows.sized i, (sym decoded ∙ ap (λ y. word_at y (index z w)) (sym (mine.parts h is).knows.sized)) i))),
          (λ h is pen. let m = mine.whole pen in let q = mine.parts h is in
              let told = subst (PinTold z k.notes h.number) q.pinned (k.pins h.number q.knows.numbered.0 q.knows.numbered.1) in
              record {
                trace = (λ i. trace_of (m.2 i) (m.3 i));
                knows = subst (λ (x : Sizes × Trace × List Note). Knows x.0 x.1 x.2 h) (λ i. (sym m.1 i, sym m.2 i, sym m.3 i)) q.knows;
                told = subst (λ (x : Sizes × List Note). PinTold x.0 x.1 h.number h.pin) (λ i. (sym m.1 i, sym m.3 i)) told;
              }),
        ),
      )

  pub loads : (slots id : ℕ) (w : Word) (me : Me Note View) → IsShared z w → Allows (Keeps z opened) slots id me (index z w) (λ n. n) (plays.Loaded (step slots (index z w) 0 0 none) me)
  loads slots id w me shared s k len at bound =
      let t = trace_of opened k.notes in
      let i = index z w in
      let found = slice_index s.words i in
      let v = with_parts (loading t i found) me.0 in
      let mine = k.views id me.0 at in
      let decoded = decode z w (shared_placed z w shared) in
      let shared' : IsShared z (word_at z i) = subst (IsShared z) (sym decoded) shared in
      let value : found ≡ word_after z.buckets t (word_at z i) = k.words w shared ∙ ap (word_after z.buckets t) (sym decoded) in
      let kept' = keeps_parts id s k me.0 at (loading t i found) (λ h. refl) (λ h. refl) (λ h is q. knows_loading z opened k.notes i found h q shared' value) in (
        v,
        keeps,
        tt,
        subst (λ (ws : List ℕ). Keeps z opened record { words = ws; homes = s.homes; views = set s.views id v }) (sym (set-get_or s.words i 0)) kept',
        (
          t,
          refl,
          (λ h is. shown_to k.notes h k.lawful (mine.parts h is).knows),
          (λ h is _. value ∙ ap (λ (y : Sizes). word_after y.buckets t (word_at y i)) (sym (mine.parts h is).knows.sized)),
        ),
      )

  -- the pen finds a pin word
  pub saws : (slots id q : ℕ) (ns : List Note) (held : List Part) (c : List (ℕ × Note)) → 1 ≤ q → q ≤ z.passes
      → Allows (Keeps z opened) slots id (pen_view z opened ns held, c) (index z (PinOf q)) (λ n. n)
      (λ found me'. (me' ≡ (found_view q found (pen_view z opened ns held), c)) × PinTold z ns q found × ((h : Part) → IsPart held h → h.number ≡ q → h.pin ≡ found))
  saws slots id q ns held c low high s k len at bound =
      let i = index z (PinOf q) in
      let found = slice_index s.words i in
      let was = pen_view z opened ns held in
      let mine = k.views id was at in
      let whole = mine.whole refl in
      let same : ns ≡ k.notes = whole.3 in
      let v = found_view q found was in
      let now : List Note = found_note q found ∷ k.notes in
      let pin_is : (j : ℕ) (h : Part) → PartFits z opened k.notes k.owner s.words j h → h.number ≡ q → h.pin ≡ found = λ j h g e. sym g.pinned ∙ ap (λ p. slice_index s.words (index z (PinOf p))) e in
      let told_pin : (j : ℕ) (h : Part) → PartFits z opened k.notes k.owner s.words j h → is_calling z h.steps ≡ true → pin_after h.number k.notes ≡ h.pin = λ j h g calling.
      (k.pins h.number g.knows.numbered.0 g.knows.numbered.1).calling (subst (λ l. is_calling z l ≡ true) (sym g.knows.noted) calling) ∙ g.pinned in
      let more : (j : ℕ) (h : Part) → PartFits z opened k.notes k.owner s.words j h → PartFits z opened now k.owner s.words j h = λ j h g. record {
        owned = g.owned;
        pinned = g.pinned;
        knows = knows_found z opened k.notes q found h g.knows (pin_is j h g) (told_pin j h g);
      } in
      let F = ViewFits z opened now k.pen k.owner s.words in
      let fits : F id v = record {
        whole = λ _. (whole.0, refl, refl, ap (λ l. found_note q found ∷ l) same);
        parts = λ h is. more id h (mine.parts h is);
        apart = mine.apart;
      } in
      let others : (j : ℕ) (w : View) → j ≢ id → get_elem? s.views j ≡ some w → F j w = λ j w ne e. let f = k.views j w e in record {
        whole = λ is. absurd (ne ((f.whole is).0 ∙ sym whole.0));
        parts = λ h is. more j h (f.parts h is);
        apart = f.apart;
      } in
      let kept' : Keeps z opened record { words = s.words; homes = s.homes; views = set s.views id v } = record {
        notes = now;
        pen = k.pen;
        owner = k.owner;
        lawful = k.lawful;
        long = k.long;
        words = k.words;
        pins = λ r one most. pins r one most (k.pins r one most);
        views = replaced F s.views id v fits others;
      } in (
        v,
        keeps,
        tt,
        subst (λ (ws : List ℕ). Keeps z opened record { words = ws; homes = s.homes; views = set s.views id v }) (sym (set-get_or s.words i 0)) kept',
        (refl, subst (λ l. PinTold z l q found) (sym same) (k.pins q low high), λ h is e. pin_is id h (mine.parts h is) e),
      )
    where
      pins : (r : ℕ) → 1 ≤ r → r ≤ z.passes → PinTold z k.notes r (slice_index s.words (index z (PinOf r))) → PinTold z (found_note q (slice_index s.words (index z (PinOf q))) ∷ k.notes) r (slice_index s.words (index z (PinOf r)))
      pins r one most told =
          let n = found_note q (slice_index s.words (index z (PinOf q))) in
          let steps : steps_of r (n ∷ k.notes) ≡ steps_of r k.notes = other_step opened r n k.notes (λ is. absurd (omega (arith, one, is))) in
          ⊎_elim
          (λ (here : q ≡ r).
          let is : pin_after r (n ∷ k.notes) ≡ slice_index s.words (index z (PinOf r)) = ap (λ b. if b then slice_index s.words (index z (PinOf q)) else pin_after r k.notes) (eq-eqb q r here) ∙ ap (λ p. slice_index s.words (index z (PinOf p))) here in
          record { past = subst (λ m. m ≤ slice_index s.words (index z (PinOf r))) (sym is) (le_refl (slice_index s.words (index z (PinOf r)))); worn = told.worn; calling = λ _. is })
          (λ (away : q ≢ r).
          let is : pin_after r (n ∷ k.notes) ≡ pin_after r k.notes = ap (λ b. if b then slice_index s.words (index z (PinOf q)) else pin_after r k.notes) (ne_eqb q r away) in
          record { past = subst (λ m. m ≤ slice_index s.words (index z (PinOf r))) (sym is) told.past; worn = told.worn; calling = λ calling. is ∙ told.calling (subst (λ l. is_calling z l ≡ true) steps calling) })
          (cases_eq q r)
