-- The last row of a call, by what it replies, and the ledger with it.
use Rattle.std.proofs.Common.{◌≡◌, ◌⊎◌, ⊎_elim, inl, inr, ℕ, ◌≤◌, Bool, true, false, List, [], ◌∷◌, ◌++◌, length, Option, Some, None, refl, sym, ap, ◌∙◌, subst}
use Rattle.std.proofs.{Common.{arith}, lemmas.Bool.Decides.{nat_tests}}
use mathlib.Core.Bool.{false≢true}
use Rattle.lz_slot.specs.declared.{command.Command.{Command, TheVariants.{Add, Remove}}, history.HistoryEvent.{HistoryEvent, TheVariants.{Answer, Refused, Cut}}}
use Rattle.lz_slot.specs.{declared.history.{Refusal.{Refusal}, Cut.{Cut as CutWhy}}, Sets.{key_of, reply, moved}, Histories.{History}}
use Rattle.lz_list.specs.Traces.{Trace, Begins, SettledYes, SettledNo}
use Rattle.lz_machine.specs.{declared.{event.Reply.{Reply}, caller.Progress.TheVariants.{Answering}}, Runs.{Caller, caller_at, mark_of}}
use Rattle.lz_machine.specs.{Ledgers.{Row, HasRow, times}, Kept.{upto, IsRowOf}, Entries.{IsRowIn, IsSettledEntry}, Notes.{Notes, pending_row, entries}}
use Rattle.lz_machine.specs.{Yards.{IsInside, pin_in}, CallersSound.{RestsYes, RestsNo, IsSettledChange, MayAnswer, is_before_pin}}
use Rattle.lz_machine.{specs.{LedgerSound.{LedgerSound, may_have_tail}, Sound.{IsAfter}}, proofs.Ledger.{Fit.{each_has}, Order.{has_left}}}
use Rattle.lz_machine.proofs.{Ledger.{Parts.{ending, ends_now}, End.{EndsCall, IsLast, ledger_quiet, ledger_moved, pend_listed}}, Frames.Limbo.{shorter}}
use Rattle.lz_machine.proofs.Steps.Hop.{call_at}

-- the beginning of that length
pub upto_is : (R P : Trace) → Begins R P → upto (length R) P ≡ R
upto_is R [] is = sym is
upto_is R (e ∷ P) (inl is) = subst (λ (q : Trace). upto (length q) (e ∷ P) ≡ q) (sym is) (grind (arith, nat_tests))
upto_is R (e ∷ P) (inr there) = let le = shorter R P there in grind (arith, nat_tests, le, upto_is R P there)

-- a mark that ends a call
answer_mark : (i : ℕ) (b leaves : Bool) → leaves ≡ false → EndsCall (Answer i b) i leaves
answer_mark i b leaves is = grind arith

refused_mark : (i : ℕ) (why : Refusal) (leaves : Bool) → leaves ≡ false → EndsCall (Refused i why) i leaves
refused_mark i why leaves is = grind arith

cut_mark : (i : ℕ) (why : CutWhy) (leaves : Bool) → EndsCall (Cut i why) i leaves
cut_mark i why leaves = grind arith

-- the row of a call that is answered with this at this position, or not answered
abbrev pub row_with : ℕ → Command → Option Bool → Bool → ℕ → Row
row_with i c answer changes position = record { number = i; command = c; answer = answer; changes = changes; position = position }

module _ (n calls passes : ℕ) (callers : List (Option Caller)) (P : Trace) (M : History) (notes : Notes) (a i : ℕ) (c : Command) (says : Reply) (at : caller_at callers a ≡ Some (call_at i c (Answering says))) (le : a ≤ passes) (sound : LedgerSound n calls passes callers P M notes)
    (pins : List ℕ) (after : IsAfter pins callers (entries passes callers notes) M notes.begun) where
  abbrev caller : Caller
  caller = call_at i c (Answering says)

  abbrev pend : List Row
  pend = pending_row (Some caller) (notes.changed a)

  abbrev leaves : Bool
  leaves = may_have_tail (Answering says)

  -- how the call ends
  pub record Ends (m : HistoryEvent) : Type 0 where
    pub last : List Row
    pub marks : EndsCall m i leaves
    pub is_last : IsLast n P M (pin_in pins a) (length (notes.begun a)) i m pend last
    pub ledger : LedgerSound n calls passes (ending callers a) P (m ∷ M) (ends_now notes a last)
    pub tail : leaves ≡ true → times i last ≡ times i pend

  one_row : (r : Row) → r.number ≡ i → times i (r ∷ []) ≤ 1
  one_row r number = grind (arith, nat_tests, number)

  -- a refused call, and one that was cut off before it changed anything, have no row
  no_row : (m : HistoryEvent) → EndsCall m i leaves → ((b : Bool) → m ≡ Answer i b → ⊥) → notes.changed a ≡ None → Ends m
  no_row m marks silent none =
      let is_last : IsLast n P M (pin_in pins a) (length (notes.begun a)) i m pend [] = record { all = tt; once = omega arith; row = tt; within = tt; settled = tt; answered = λ b e. absurd (silent b e); place = λ q h. absurd h } in
      record {
        last = [];
        marks = marks;
        is_last = is_last;
        ledger = ledger_quiet n calls passes callers P M notes a caller at le sound pins after m marks [] is_last none (λ j. refl);
        tail = λ is. sym (ap (λ (q : Option ℕ). times i (pending_row (Some caller) q)) none);
      }

  -- a row of this call, where it is answered so
  answered_row : (b : Bool) (r : Row) → r.number ≡ i → r.command ≡ c → r.answer ≡ Some b → IsRowIn (Answer i b ∷ M) r
  answered_row b r number command answer = grind arith

  -- an answer that rests on what others changed
  quiet_row : (b : Bool) (position : ℕ) → leaves ≡ false → notes.changed a ≡ None → IsRowOf n P (row_with i c (Some b) false position) → IsInside (pin_in pins a) → length (notes.begun a) ≤ position → Ends (Answer i b)
  quiet_row b position settled none row inside late =
      let r = row_with i c (Some b) false position in
      let is_last : IsLast n P M (pin_in pins a) (length (notes.begun a)) i (Answer i b) pend (r ∷ []) = record {
        all = (refl, tt);
        once = one_row r refl;
        row = (row, tt);
        within = (answered_row b r refl refl refl, tt);
        settled = (record { told = λ does answered. absurd (false≢true does) }, tt);
        answered = λ d e. (r, inl refl);
        place = λ q h. ⊎_elim (λ here. inl (inside, omega (arith, late, ap (λ (z : Row). z.position) here))) (λ nothing. absurd nothing) h;
      } in
      record {
        last = r ∷ [];
        marks = answer_mark i b leaves settled;
        is_last = is_last;
        ledger = ledger_quiet n calls passes callers P M notes a caller at le sound pins after (Answer i b) (answer_mark i b leaves settled) (r ∷ []) is_last none (λ j. refl);
        tail = λ is. absurd (false≢true (sym settled ∙ is));
      }

  -- it rests on a settled yes, or on a settled no
  rests_yes : (b : Bool) → reply c true ≡ b → moved (key_of c) c true ≡ true → leaves ≡ false → IsInside (pin_in pins a) → n ≤ length (notes.begun a) → notes.changed a ≡ None → RestsYes (key_of c) (notes.begun a) P → Ends (Answer i b)
  rests_yes b says_so stays settled inside since none h =
      let from = shorter (notes.begun a) h.then h.since.from in
      let upto_then = upto_is h.then P h.since.upto in
      quiet_row b (length h.then) settled none (record {
        early = omega (arith, since, from);
        late = shorter h.then P h.since.upto;
        quiet = λ is. inl (record { answer = ap Some (sym says_so); leaves = stays; settled_yes = subst (λ (R : Trace). SettledYes R P (key_of c)) (sym upto_then) h.settled });
        changing = λ is. absurd (false≢true is);
      }) inside from

  rests_no : (b : Bool) → reply c false ≡ b → moved (key_of c) c false ≡ false → leaves ≡ false → IsInside (pin_in pins a) → n ≤ length (notes.begun a) → notes.changed a ≡ None → RestsNo (key_of c) (notes.begun a) P → Ends (Answer i b)
  rests_no b says_so stays settled inside since none h =
      let from = shorter (notes.begun a) h.then h.since.from in
      let upto_then = upto_is h.then P h.since.upto in
      quiet_row b (length h.then) settled none (record {
        early = omega (arith, since, from);
        late = shorter h.then P h.since.upto;
        quiet = λ is. inr (record { answer = ap Some (sym says_so); leaves = stays; settled_no = subst (λ (R : Trace). SettledNo R P (key_of c)) (sym upto_then) h.settled });
        changing = λ is. absurd (false≢true is);
      }) inside from

  -- the row of the call's own change
  own_row : (j : ℕ) → notes.changed a ≡ Some j → pend ≡ row_with i c None true j ∷ []
  own_row j is = ap (pending_row (Some caller)) is

  own_is : (j : ℕ) → notes.changed a ≡ Some j → HasRow (row_with i c None true j) (entries passes callers notes)
  own_is j is = pend_listed passes callers notes a caller at le (row_with i c None true j) (subst (HasRow (row_with i c None true j)) (sym (own_row j is)) (inl refl))

  own_place : (j : ℕ) (answer : Option Bool) → notes.changed a ≡ Some j → (q : Row) → HasRow q (row_with i c answer true j ∷ []) → (IsInside (pin_in pins a) × (length (notes.begun a) ≤ q.position)) ⊎ ((p : Row) × HasRow p pend × (p.position ≡ q.position))
  own_place j answer is q h = ⊎_elim (λ here. inr (row_with i c None true j, subst (HasRow (row_with i c None true j)) (sym (own_row j is)) (inl refl), ap (λ (z : Row). z.position) here)) (λ nothing. absurd nothing) h

  -- an answer yes that rests on the call's own change
  changed_row : leaves ≡ false → IsSettledChange (key_of c) P (notes.changed a) → Ends (Answer i true)
  changed_row settled h =
      let was : IsRowOf n P (row_with i c None true h.at) = each_has (IsRowOf n P) (row_with i c None true h.at) (entries passes callers notes) sound.ledger.each (own_is h.at h.is) in
      let change = was.changing refl in
      let r = row_with i c (Some true) true h.at in
      let is_last : IsLast n P M (pin_in pins a) (length (notes.begun a)) i (Answer i true) pend (r ∷ []) = record {
        all = (refl, tt);
        once = one_row r refl;
        row = (record { early = was.early; late = was.late; quiet = λ is. absurd (false≢true (sym is)); changing = λ is. record { within = change.within; answer = inr refl; was = change.was; changed = change.changed } }, tt);
        within = (answered_row true r refl refl refl, tt);
        settled = (record { told = λ does answered. h.settled }, tt);
        answered = λ d e. (r, inl refl);
        place = own_place h.at (Some true) h.is;
      } in
      record {
        last = r ∷ [];
        marks = answer_mark i true leaves settled;
        is_last = is_last;
        ledger = ledger_moved n calls passes callers P M notes a caller at le sound pins after (Answer i true) (answer_mark i true leaves settled) (r ∷ []) is_last (row_with i c None true h.at) r (own_row h.at h.is) refl refl refl refl refl;
        tail = λ is. absurd (false≢true (sym settled ∙ is));
      }

  -- a call that was cut off keeps its row
  cut_row : (why : CutWhy) → Ends (Cut i why)
  cut_row why = go (notes.changed a) refl
    where
      go : (changed : Option ℕ) → notes.changed a ≡ changed → Ends (Cut i why)
      go None none = no_row (Cut i why) (cut_mark i why leaves) (λ b e. absurd cc) none
      go (Some j) is =
          let p = row_with i c None true j in
          let listed = own_is j is in
          let of_history = each_has (IsRowIn M) p (entries passes callers notes ++ []) sound.ledger.calls (has_left p (entries passes callers notes) [] listed) in
          let is_last : IsLast n P M (pin_in pins a) (length (notes.begun a)) i (Cut i why) pend (p ∷ []) = record {
            all = (refl, tt);
            once = one_row p refl;
            row = (each_has (IsRowOf n P) p (entries passes callers notes) sound.ledger.each listed, tt);
            within = (
              record {
                is_called = (of_history.is_called.0, inr of_history.is_called.1);
                answers = λ d told. ⊎_elim (λ now. absurd (cut_answer now)) (λ before. of_history.answers d before) told;
                not_refused = λ told. ⊎_elim (λ now. absurd (cut_refused now)) (λ before. absurd (of_history.not_refused (told.0, before))) told.1;
              },
              tt,
            );
            settled = (each_has (IsSettledEntry P) p (entries passes callers notes) sound.settled listed, tt);
            answered = λ d e. absurd (cut_answer e);
            place = own_place j None is;
          } in
          record {
            last = p ∷ [];
            marks = cut_mark i why leaves;
            is_last = is_last;
            ledger = ledger_moved n calls passes callers P M notes a caller at le sound pins after (Cut i why) (cut_mark i why leaves) (p ∷ []) is_last p p (own_row j is) refl refl refl refl refl;
            tail = λ told. ap (times i) (sym (own_row j is));
          }
        where
          cut_answer : {q : ℕ} {b : Bool} → Cut i why ≡ Answer q b → ⊥
          cut_answer e = absurd cc

          cut_refused : {q : ℕ} {r : Refusal} → Cut i why ≡ Refused q r → ⊥
          cut_refused e = absurd cc

  -- a refused call
  refused_row : (why : Refusal) → leaves ≡ false → notes.changed a ≡ None → Ends (Refused i why)
  refused_row why is none = no_row (Refused i why) (refused_mark i why leaves is) (λ b e. absurd cc) none

moved_yes : (k : ℕ) → moved k (Add k) true ≡ true
moved_yes k = grind (arith, nat_tests)

moved_no : (k : ℕ) → moved k (Remove k) false ≡ false
moved_no k = grind (arith, nat_tests)

-- how a call ends, by its command and its reply
module _ (n calls passes : ℕ) (callers : List (Option Caller)) (P : Trace) (M : History) (notes : Notes) (a i : ℕ) (le : a ≤ passes) (sound : LedgerSound n calls passes callers P M notes) (pins : List ℕ) (after : IsAfter pins callers (entries passes callers notes) M notes.begun) where
  abbrev pub EndsSo : (c : Command) (says : Reply) → caller_at callers a ≡ Some (call_at i c (Answering says)) → Type 0
  EndsSo c says at = Ends n calls passes callers P M notes a i c says at le sound pins after (mark_of i says)

  -- a call whose pass is inside, or that was refused outside
  pub ends : (c : Command) (says : Reply) (at : caller_at callers a ≡ Some (call_at i c (Answering says))) → (is_before_pin (Answering says) ≡ true) ⊎ (IsInside (pin_in pins a) × (n ≤ length (notes.begun a))) → MayAnswer c says (notes.begun a) P (notes.changed a) → EndsSo c says at
  ends c says = grind (arith, nat_tests, rests_yes, rests_no, changed_row, moved_yes, moved_no, refused_row, cut_row, false≢true)
