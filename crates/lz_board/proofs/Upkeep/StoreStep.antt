-- Each store on the board keeps the rule: by the pen, with a note, or by a pass, of its own pin word.
use Rattle.lz_board.specs.Plays as plays
use Rattle.std.proofs.Common.{◌≡◌, ◌≢◌, ⊎_elim, ℕ, suc, ◌<◌, ◌≤◌, ◌==◌, false, List, [], ◌∷◌, ◌++◌, length, set, refl, sym, ap, ◌∙◌, subst, arith, length-set}
use Rattle.std.{proofs.{Common.{get_or-set_other, get_or-set_same, eq-eqb, true≢false}, lemmas.Bool.{cases_eq}}, specs.Prelude.{slice_index}}
use mathlib.Core.Option.{none, some, some-ne-none}
use prog.Atomic.{either}
use lib.ListN.{get_elem?}
use Rattle.atomic_table.specs.Table.{step, keeps, Allows}
use Rattle.lz_list.specs.declared.{word.Word.{Word, TheVariants.{Head, Link, Key, Pin as PinOf, Halt}}, layout.Sizes.{Sizes}}
use Rattle.lz_list.specs.{Traces.{Trace, Lawful, word_after}, Addresses.{index, word_at, words_count, HasPlace}}
use Rattle.lz_list.proofs.Tables.Address.{in_range, decode, places_apart}
use Rattle.lz_machine.specs.Table.{last_pin}
use Rattle.lz_board.specs.{declared.view.{Note.{Note}, Part.{Part}, View.{View}}, Notes.{as_list, trace_of, IsShared}}
use Rattle.lz_board.specs.{Kept.{is_calling, Knows, PartFits, ViewFits, PinTold, Keeps}, Noting.{MayNote, KeepsPin, MovesPin, Writes}}
use Rattle.lz_board.specs.Plays.{alone, pen_view, with_parts, entering, noted, noted_part, moved_part, noted_view, IsShownTo}
use Rattle.lz_board.proofs.Upkeep.SharedWords.{shared_placed}
use Rattle.lz_board.proofs.Upkeep.PartUpkeep.{knows_entering, knows_noted, knows_moved, knows_other, trace_noted, told_own, told_other}
use Rattle.lz_board.proofs.Upkeep.{SeatTable.{replaced, one_part}, LoadStep.{shown_to}}

module _ (z : Sizes) (opened : Trace) where
  -- the pen notes a step, and changes a word with it that is no pin word
  pub notes_in : (slots id : ℕ) (w : Word) (old new : ℕ) (ns : List Note) (h : Part) (n : Note) (c : List (ℕ × Note)) → MayNote z opened ns h n → KeepsPin h n → Writes z (trace_of opened ns) w old new n.published
      → Allows (Keeps z opened) slots id (pen_view z opened ns (h ∷ []), c) (index z w) (λ m. either (m == old) new m) (plays.Noted (step slots (index z w) old new (some n)) (pen_view z opened ns (h ∷ []), c))
  notes_in slots id w old new ns h n c may keeps_pin writes s k len at bound =
      let was = pen_view z opened ns (h ∷ []) in
      let v = noted_view noted_part n was in
      let mine = k.views id was at in
      let whole = mine.whole refl in
      let own_part = mine.parts h (0, refl) in
      let same : k.notes ≡ ns = sym whole.3 in
      let now = noted opened ns h n in
      let i = index z w in
      let m = either (slice_index s.words i == old) new (slice_index s.words i) in
      let ws = set s.words i m in
      let own_knows : Knows z opened ns h = subst (λ l. Knows z opened l h) same own_part.knows in
      let trace' : trace_of opened now ≡ as_list n.published ++ trace_of opened ns = trace_noted z opened ns h n own_knows may in
      let board_w = shared_placed z w writes.shared in
      let inside : i < length s.words = let l = k.long in let r = in_range z w board_w in omega arith in
      let other_word : (u : Word) → HasPlace z u → u ≢ w → slice_index ws (index z u) ≡ slice_index s.words (index z u) = λ u board ne. get_or-set_other s.words i (index z u) m 0 (places_apart z u w board board_w ne) in
      let pin_word : (p : ℕ) → 1 ≤ p → p ≤ z.passes → slice_index ws (index z (PinOf p)) ≡ slice_index s.words (index z (PinOf p)) = λ p one most. other_word (PinOf p) (one, most) (not_pin w p writes.shared) in
      let F = ViewFits z opened now k.pen k.owner ws in
      let fits : F id v = record {
        whole = λ _. (whole.0, refl, refl, refl);
        parts = λ g is. subst (PartFits z opened now k.owner ws id) (one_part (noted_part opened ns n h) g is) record {
          owned = own_part.owned;
          pinned = pin_word h.number own_knows.numbered.0 own_knows.numbered.1 ∙ own_part.pinned;
          knows = knows_noted z opened ns h n own_knows may keeps_pin;
        };
        apart = ((λ g is. absurd (some-ne-none g (sym is.1))), tt);
      } in
      let others : (j : ℕ) (u : View) → j ≢ id → get_elem? s.views j ≡ some u → F j u = λ j u ne e. let f = k.views j u e in record {
        whole = λ p. absurd (ne ((f.whole p).0 ∙ sym whole.0));
        parts = λ g is. let q = f.parts g is in let kq : Knows z opened ns g = subst (λ l. Knows z opened l g) same q.knows in record {
          owned = q.owned;
          pinned = pin_word g.number kq.numbered.0 kq.numbered.1 ∙ q.pinned;
          knows = knows_other z opened ns h n own_knows may g (λ e'. ne (sym q.owned ∙ ap k.owner (sym e') ∙ own_part.owned)) kq;
        };
        apart = f.apart;
      } in
      let worn = own_worn own_knows own_part (subst (λ l. (p : ℕ) → 1 ≤ p → p ≤ z.passes → PinTold z l p (slice_index s.words (index z (PinOf p)))) same k.pins) in
      let kept' : Keeps z opened record { words = ws; homes = s.homes; views = set s.views id v } = record {
        notes = now;
        pen = k.pen;
        owner = k.owner;
        lawful = subst (Lawful z.buckets z.slots) (sym trace') may.lawful;
        long = length-set s.words i m ∙ k.long;
        words = λ u shared. ⊎_elim
            (λ (here : index z u ≡ i). let e : u ≡ w = sym (decode z u (shared_placed z u shared)) ∙ ap (word_at z) here ∙ decode z w board_w in
            ap (λ j. slice_index ws j) here ∙ get_or-set_same s.words i m 0 inside
            ∙ ap (λ x. either (x == old) new x) (k.words w writes.shared ∙ ap (λ l. word_after z.buckets (trace_of opened l) w) same) ∙ writes.word
            ∙ ap (λ x. word_after z.buckets x w) (sym trace') ∙ ap (word_after z.buckets (trace_of opened now)) (sym e))
            (λ (away : index z u ≢ i). let ne : u ≢ w = λ e. away (ap (index z) e) in
            other_word u (shared_placed z u shared) ne ∙ k.words u shared ∙ ap (λ l. word_after z.buckets (trace_of opened l) u) same ∙ sym (writes.others u shared ne) ∙ ap (λ x. word_after z.buckets x u) (sym trace'))
            (cases_eq (index z u) i);
        pins = λ q one most. subst (PinTold z now q) (sym (pin_word q one most)) (⊎_elim
            (λ (here : q ≡ h.number). subst (λ p. PinTold z now p (slice_index s.words (index z (PinOf p)))) (sym here) (subst (PinTold z now h.number) (sym own_part.pinned) (told_own z opened ns h n own_knows may h.pin keeps_pin worn)))
            (λ (away : q ≢ h.number). told_other z opened ns h n own_knows may q (slice_index s.words (index z (PinOf q))) away (subst (λ l. PinTold z l q (slice_index s.words (index z (PinOf q)))) same (k.pins q one most)))
            (cases_eq q h.number));
        views = replaced F s.views id v fits others;
      } in
      (v, keeps, tt, kept', refl)
    where
      not_pin : (w : Word) (p : ℕ) → IsShared z w → PinOf p ≢ w
      not_pin (Head b) p shared e = absurd cc
      not_pin (Link b) p shared e = absurd cc
      not_pin (Key b) p shared e = absurd cc
      not_pin (PinOf q) p shared e = absurd shared
      not_pin Halt p shared e = absurd cc

      own_worn : Knows z opened ns h → PartFits z opened k.notes k.owner s.words id h → ((p : ℕ) → 1 ≤ p → p ≤ z.passes → PinTold z ns p (slice_index s.words (index z (PinOf p)))) → h.pin ≤ last_pin
      own_worn kn fit pins = subst (λ m. m ≤ last_pin) fit.pinned (pins h.number kn.numbered.0 kn.numbered.1).worn

  -- a change of a pin word changes no other word
  module _ (words : List ℕ) (long : length words ≡ words_count z) (p m : ℕ) (low : 1 ≤ p) (high : p ≤ z.passes) where
    abbrev i : ℕ
    i = index z (PinOf p)

    pin_inside : i < length words
    pin_inside = let r = in_range z (PinOf p) (low, high) in omega (arith, r, long)

    shared_stays : (u : Word) → IsShared z u → slice_index (set words i m) (index z u) ≡ slice_index words (index z u)
    shared_stays u shared = get_or-set_other words i (index z u) m 0 (places_apart z u (PinOf p) (shared_placed z u shared) (low, high) (never u shared))
      where
        never : (u : Word) → IsShared z u → u ≢ PinOf p
        never (Head b) shared e = absurd cc
        never (Link b) shared e = absurd cc
        never (Key b) shared e = absurd cc
        never (PinOf q) shared e = absurd shared
        never Halt shared e = absurd cc

    pin_stays : (q : ℕ) → 1 ≤ q → q ≤ z.passes → q ≢ p → slice_index (set words i m) (index z (PinOf q)) ≡ slice_index words (index z (PinOf q))
    pin_stays q one most away = get_or-set_other words i (index z (PinOf q)) m 0 (λ e. away (omega (arith, e)))

    pin_set : slice_index (set words i m) i ≡ m
    pin_set = get_or-set_same words i m 0 pin_inside

  -- the pen notes a step that counts up the pin word of the pass
  pub moves_in : (slots id : ℕ) (ns : List Note) (h : Part) (n : Note) (c : List (ℕ × Note)) → MayNote z opened ns h n → MovesPin h n → 1 ≤ h.number → h.number ≤ z.passes
      → Allows (Keeps z opened) slots id (pen_view z opened ns (h ∷ []), c) (index z (PinOf h.number)) (λ m. either (m == h.pin) (suc h.pin) m) (plays.Moved (step slots (index z (PinOf h.number)) h.pin (suc h.pin) (some n)) (pen_view z opened ns (h ∷ []), c))
  moves_in slots id ns h n c may moves low high s k len at bound =
      let was = pen_view z opened ns (h ∷ []) in
      let v = noted_view moved_part n was in
      let mine = k.views id was at in
      let whole = mine.whole refl in
      let own_part = mine.parts h (0, refl) in
      let same : k.notes ≡ ns = sym whole.3 in
      let now = noted opened ns h n in
      let p = h.number in
      let i = index z (PinOf p) in
      let m = either (slice_index s.words i == h.pin) (suc h.pin) (slice_index s.words i) in
      let is : m ≡ suc h.pin = ap (λ b. either b (suc h.pin) (slice_index s.words i)) (eq-eqb (slice_index s.words i) h.pin own_part.pinned) in
      let ws = set s.words i m in
      let own_knows : Knows z opened ns h = subst (λ l. Knows z opened l h) same own_part.knows in
      let trace' : trace_of opened now ≡ as_list n.published ++ trace_of opened ns = trace_noted z opened ns h n own_knows may in
      let quiet : as_list n.published ++ trace_of opened ns ≡ trace_of opened ns = ap (λ x. as_list x ++ trace_of opened ns) moves.2 in
      let F = ViewFits z opened now k.pen k.owner ws in
      let fits : F id v = record {
        whole = λ _. (whole.0, refl, refl, refl);
        parts = λ g is'. subst (PartFits z opened now k.owner ws id) (one_part (moved_part opened ns n h) g is') record {
          owned = own_part.owned;
          pinned = pin_set s.words k.long p m low high ∙ is;
          knows = knows_moved z opened ns h n own_knows may moves;
        };
        apart = ((λ g is'. absurd (some-ne-none g (sym is'.1))), tt);
      } in
      let others : (j : ℕ) (u : View) → j ≢ id → get_elem? s.views j ≡ some u → F j u = λ j u ne e. let f = k.views j u e in record {
        whole = λ pen. absurd (ne ((f.whole pen).0 ∙ sym whole.0));
        parts = λ g is'. let q = f.parts g is' in let kq : Knows z opened ns g = subst (λ l. Knows z opened l g) same q.knows in
            let away : p ≢ g.number = λ e'. ne (sym q.owned ∙ ap k.owner (sym e') ∙ own_part.owned) in record {
              owned = q.owned;
              pinned = pin_stays s.words k.long p m low high g.number kq.numbered.0 kq.numbered.1 (λ e'. away (sym e')) ∙ q.pinned;
              knows = knows_other z opened ns h n own_knows may g away kq;
            };
        apart = f.apart;
      } in
      let worn : suc h.pin ≤ last_pin = let l = moves.1 in l in
      let kept' : Keeps z opened record { words = ws; homes = s.homes; views = set s.views id v } = record {
        notes = now;
        pen = k.pen;
        owner = k.owner;
        lawful = subst (Lawful z.buckets z.slots) (sym trace') may.lawful;
        long = length-set s.words i m ∙ k.long;
        words = λ u shared. shared_stays s.words k.long p m low high u shared ∙ k.words u shared ∙ ap (λ l. word_after z.buckets (trace_of opened l) u) same ∙ ap (λ x. word_after z.buckets x u) (sym quiet ∙ sym trace');
        pins = λ q one most. ⊎_elim
            (λ (here : q ≡ p). subst (λ r. PinTold z now r (slice_index ws (index z (PinOf r)))) (sym here) (subst (PinTold z now p) (sym (pin_set s.words k.long p m low high ∙ is)) (told_own z opened ns h n own_knows may (suc h.pin) moves.0 worn)))
            (λ (away : q ≢ p). subst (PinTold z now q) (sym (pin_stays s.words k.long p m low high q one most away))
            (told_other z opened ns h n own_knows may q (slice_index s.words (index z (PinOf q))) away
            (subst (λ l. PinTold z l q (slice_index s.words (index z (PinOf q)))) same (k.pins q one most))))
            (cases_eq q p);
        views = replaced F s.views id v fits others;
      } in
      (v, keeps, tt, kept', refl)

  -- a pass without a call stores its pin word, one more than before
  pub enters_in : (slots id m : ℕ) (h : Part) (c : List (ℕ × Note)) → 1 ≤ h.number → h.number ≤ z.passes → is_calling z h.steps ≡ false → h.pin ≤ m → m ≤ last_pin
      → Allows (Keeps z opened) slots id (alone h, c) (index z (PinOf h.number)) (λ _. m) (λ _. plays.Entered (step slots (index z (PinOf h.number)) m 0 none) (alone h, c) m)
  enters_in slots id m h c low high idle more most s k len at bound =
      let t = trace_of opened k.notes in
      let v = with_parts (entering t m) (alone h) in
      let mine = k.views id (alone h) at in
      let top = mine.parts h (0, refl) in
      let p = h.number in
      let i = index z (PinOf p) in
      let ws = set s.words i m in
      let F = ViewFits z opened k.notes k.pen k.owner ws in
      let fits : F id v = record {
        whole = λ is. absurd (true≢false (sym is));
        parts = λ g is. subst (PartFits z opened k.notes k.owner ws id) (one_part (entering t m h) g is) record {
          owned = top.owned;
          pinned = pin_set s.words k.long p m low high;
          knows = knows_entering z opened k.notes m h idle top.knows;
        };
        apart = ((λ g is. absurd (some-ne-none g (sym is.1))), tt);
      } in
      let others : (j : ℕ) (u : View) → j ≢ id → get_elem? s.views j ≡ some u → F j u = λ j u ne e. let f = k.views j u e in record {
        whole = f.whole;
        parts = λ g is. let q = f.parts g is in record {
          owned = q.owned;
          pinned = pin_stays s.words k.long p m low high g.number q.knows.numbered.0 q.knows.numbered.1 (λ e'. ne (sym q.owned ∙ ap k.owner e' ∙ top.owned)) ∙ q.pinned;
          knows = q.knows;
        };
        apart = f.apart;
      } in
      let told = k.pins p low high in
      let kept' : Keeps z opened record { words = ws; homes = s.homes; views = set s.views id v } = record {
        notes = k.notes;
        pen = k.pen;
        owner = k.owner;
        lawful = k.lawful;
        long = length-set s.words i m ∙ k.long;
        words = λ u shared. shared_stays s.words k.long p m low high u shared ∙ k.words u shared;
        pins = λ q one most'. ⊎_elim
            (λ (here : q ≡ p). subst (λ r. PinTold z k.notes r (slice_index ws (index z (PinOf r)))) (sym here) (subst (PinTold z k.notes p) (sym (pin_set s.words k.long p m low high)) record {
              past = let a = told.past in let b = top.pinned in omega (arith, a, b, more);
              worn = most;
              calling = λ calling. absurd (true≢false (sym calling ∙ ap (is_calling z) top.knows.noted ∙ idle));
            }))
            (λ (away : q ≢ p). subst (PinTold z k.notes q) (sym (pin_stays s.words k.long p m low high q one most' away)) (k.pins q one most'))
            (cases_eq q p);
        views = replaced F s.views id v fits others;
      } in
      (v, keeps, tt, kept', (t, refl, (λ g is. subst (IsShownTo t) (one_part h g is) (shown_to z opened k.notes h k.lawful top.knows))))
