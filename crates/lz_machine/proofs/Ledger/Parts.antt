-- The rows of a ledger in parts: a call's row is taken out, and put after those that ended.
use Rattle.std.proofs.Common.{◌≡◌, ◌≢◌, ◌⊎◌, ⊎_elim, inl, inr, ℕ, zero, suc, ◌<◌, ◌≤◌, ◌+◌, ◌==◌, if◌then◌else◌, List, [], ◌∷◌, ◌++◌, length, Option, Some}
use Rattle.std.proofs.{Common.{None, refl, sym, ap, ◌∙◌, arith, append_assoc}, lemmas.Bool.{cases_Bool, cases_eq, Decides.{nat_tests, eqb_tells}}}
use Rattle.std.proofs.lemmas.List.{append-nil}
use Rattle.lz_slot.{specs.Counted.{set_of_pass}, proofs.Counted.{of_pass_same, of_pass_other}}
use Rattle.lz_list.specs.declared.publishing.Publishing.{Publishing}
use Rattle.lz_machine.specs.{Runs.{Caller, caller_at}, Ledgers.{Row, HasRow, Stands, Each, change_at, times}, Entries.{IsChangeOf}}
use Rattle.lz_machine.{specs.Notes.{Notes, pending_row, pending}, proofs.Ledger.Fit.{each_has, has_append}}
use Rattle.lz_machine.proofs.{Ledger.Order.{has_left, has_right, stands_left, stands_across, times_append}, Frames.OneActor.{caller_range}}

abbrev pub ending : List (Option Caller) → ℕ → List (Option Caller)
ending callers a = set_of_pass callers a None

-- notes in which an actor's call has ended with this row, if any
abbrev pub ends_now : Notes → ℕ → List Row → Notes
ends_now notes a last = record { begun = notes.begun; changed = λ b. if b == a then None else notes.changed b; ended = notes.ended ++ last }

-- some rows were taken out of a list
pub record IsParted (rows old new : List Row) : Type 0 where
  pub front : List Row
  pub back : List Row
  pub was : old ≡ front ++ (rows ++ back)
  pub is : new ≡ front ++ back

module _ (callers : List (Option Caller)) (notes : Notes) (a : ℕ) (last : List Row) (caller : Caller) (at : caller_at callers a ≡ Some caller) where
  abbrev later : ℕ → Option ℕ
  later = (ends_now notes a last).changed

  pub none_now : later a ≡ None
  none_now = grind arith

  pub changed_still : (b : ℕ) → b ≢ a → later b ≡ notes.changed b
  changed_still b other = grind arith

  pub gone : caller_at (ending callers a) a ≡ None
  gone = of_pass_same callers a None None (caller_range callers a caller at).0 (caller_range callers a caller at).1

  pub stays_open : (b : ℕ) → b ≢ a → caller_at (ending callers a) b ≡ caller_at callers b
  stays_open b other = of_pass_other callers a b None None other

  abbrev pub pend : List Row
  pend = pending_row (Some caller) (notes.changed a)

  row_still : (b : ℕ) → b ≢ a → pending_row (caller_at (ending callers a) b) (later b) ≡ pending_row (caller_at callers b) (notes.changed b)
  row_still b other = ap (λ (q : Option Caller). pending_row q (later b)) (stays_open b other) ∙ ap (pending_row (caller_at callers b)) (changed_still b other)

  below : (m : ℕ) → m < a → pending (ending callers a) later m ≡ pending callers notes.changed m
  below zero lt = refl
  below (suc m) lt = cc (below m (omega (arith, lt)), row_still (suc m) (λ same. omega (arith, lt, same)))

  row_then : pending_row (caller_at callers a) (notes.changed a) ≡ pend
  row_then = ap (λ (q : Option Caller). pending_row q (notes.changed a)) at

  row_now : pending_row (caller_at (ending callers a) a) (later a) ≡ []
  row_now = ap (λ (q : Option Caller). pending_row q (later a)) gone ∙ ap (pending_row None) none_now

  pub parted : (m : ℕ) → a ≤ m → IsParted pend (pending callers notes.changed m) (pending (ending callers a) later m)
  parted zero le = absurd (omega (arith, le, (caller_range callers a caller at).0))
  parted (suc m) le = elim (cases_eq (suc m) a) [
    | inl it ↦ record {
      front = pending callers notes.changed m;
      back = [];
      was = ap (λ (l : List Row). pending callers notes.changed m ++ l) (ap (λ (q : ℕ). pending_row (caller_at callers q) (notes.changed q)) it ∙ row_then ∙ sym (append-nil pend));
      is = ap (λ (l : List Row). l ++ pending_row (caller_at (ending callers a) (suc m)) (later (suc m))) (below m (omega (arith, it))) ∙ ap (λ (l : List Row). pending callers notes.changed m ++ l) (ap (λ (q : ℕ). pending_row (caller_at (ending callers a) q) (later q)) it ∙ row_now);
    }
    | inr more ↦
        let rest = parted m (omega (arith, le, more)) in
        let row = pending_row (caller_at callers (suc m)) (notes.changed (suc m)) in
        record {
          front = rest.front;
          back = rest.back ++ row;
          was = ap (λ (l : List Row). l ++ row) rest.was ∙ append_assoc rest.front (pend ++ rest.back) row ∙ ap (λ (l : List Row). rest.front ++ l) (append_assoc pend rest.back row);
          is = ap (λ (l : List Row). pending (ending callers a) later m ++ l) (row_still (suc m) more) ∙ ap (λ (l : List Row). l ++ row) rest.is ∙ append_assoc rest.front rest.back row;
        }
  ]

times_has : (i : ℕ) (x : Row) (L : List Row) → HasRow x L → x.number ≡ i → times i L ≡ 0 → ⊥
times_has i x (l ∷ L) (inl here) number none = grind (arith, nat_tests, eqb_tells)
times_has i x (l ∷ L) (inr there) number none = grind (arith, cases_Bool, times_has i x L there number (elim (cases_Bool (l.number == i)) [ inl same ↦ absurd (omega (arith, rw same at none)) | inr other ↦ rw other at none ]))
times_has i x [] h number none = absurd h

pub none_of : (i j : ℕ) (L : List Row) → Each (λ r. r.number ≡ i) L → j ≢ i → times j L ≡ 0
none_of i j [] each other = refl
none_of i j (l ∷ L) each other = grind (arith, nat_tests, each.0, other, none_of i j L each.1 other)

-- the rows before and after, in parts
module _ (i : ℕ) (E F B pend last : List Row) (all_pend : Each (λ r. r.number ≡ i) pend) (all_last : Each (λ r. r.number ≡ i) last) (none : times i (E ++ (F ++ B)) ≡ 0) where
  abbrev pub old : List Row
  old = E ++ (F ++ (pend ++ B))

  abbrev rest : List Row
  rest = E ++ (F ++ B)

  abbrev new : List Row
  new = (E ++ last) ++ (F ++ B)

  pub number_rest : (x : Row) → HasRow x rest → x.number ≢ i
  number_rest x h number = times_has i x rest h number none

  pub rest_old : (x : Row) → HasRow x rest → HasRow x old
  rest_old x h = ⊎_elim (λ here. has_left x E _ here) (λ there. has_right x E _ (⊎_elim (λ front. has_left x F _ front) (λ back. has_right x F _ (has_right x pend B back)) (has_append x F B there))) (has_append x E (F ++ B) h)

  pub old_rest : (x : Row) → HasRow x old → HasRow x rest ⊎ (x.number ≡ i)
  old_rest x h = ⊎_elim
      (λ here. inl (has_left x E _ here))
      (λ there. ⊎_elim
      (λ front. inl (has_right x E _ (has_left x F _ front)))
      (λ back. ⊎_elim (λ it. inr (each_has (λ r. r.number ≡ i) x pend all_pend it)) (λ tail. inl (has_right x E _ (has_right x F _ tail))) (has_append x pend B back))
      (has_append x F (pend ++ B) there))
      (has_append x E (F ++ (pend ++ B)) h)

  pub rest_new : (x : Row) → HasRow x rest → HasRow x new
  rest_new x h = ⊎_elim (λ here. has_left x (E ++ last) _ (has_left x E last here)) (λ there. has_right x (E ++ last) _ there) (has_append x E (F ++ B) h)

  pub last_new : (x : Row) → HasRow x last → HasRow x new
  last_new x h = has_left x (E ++ last) _ (has_right x E last h)

  pub new_rest : (x : Row) → HasRow x new → HasRow x rest ⊎ HasRow x last
  new_rest x h = ⊎_elim (λ front. ⊎_elim (λ here. inl (has_left x E _ here)) (λ it. inr it) (has_append x E last front)) (λ there. inl (has_right x E _ there)) (has_append x (E ++ last) (F ++ B) h)

  pub times_old : (j : ℕ) → times j old ≡ times j rest + times j pend
  times_old j = omega (arith, times_append j E (F ++ (pend ++ B)), times_append j F (pend ++ B), times_append j pend B, times_append j E (F ++ B), times_append j F B)

  pub times_new : (j : ℕ) → times j new ≡ times j rest + times j last
  times_new j = omega (arith, times_append j (E ++ last) (F ++ B), times_append j E last, times_append j E (F ++ B), times_append j F B)

  -- other calls' rows stand as before
  stands_parts : (x q : Row) (A : List Row) → x.number ≢ i → q.number ≢ i → Stands x q (A ++ (F ++ (pend ++ B))) → Stands x q (A ++ (F ++ B))
  stands_parts x q (l ∷ A) one two (inl here) = inl (here.0, ⊎_elim (λ front. has_left q A _ front) (λ back. has_right q A _ (in_back q two back)) (has_append q A (F ++ (pend ++ B)) here.1))
    where
      in_back : (z : Row) → z.number ≢ i → HasRow z (F ++ (pend ++ B)) → HasRow z (F ++ B)
      in_back z other h = ⊎_elim (λ front. has_left z F _ front) (λ back. has_right z F _ (⊎_elim (λ it. absurd (other (each_has (λ r. r.number ≡ i) z pend all_pend it))) (λ tail. tail) (has_append z pend B back))) (has_append z F (pend ++ B) h)
  stands_parts x q (l ∷ A) one two (inr there) = inr (stands_parts x q A one two there)
  stands_parts x q [] one two h = in_front F h
    where
      after_pend : (L : List Row) → Each (λ r. r.number ≡ i) L → Stands x q (L ++ B) → Stands x q B
      after_pend [] each s = s
      after_pend (l ∷ L) each (inl here) = absurd (one (ap (λ (r : Row). r.number) (sym here.0) ∙ each.0))
      after_pend (l ∷ L) each (inr there) = after_pend L each.1 there

      in_front : (L : List Row) → Stands x q (L ++ (pend ++ B)) → Stands x q (L ++ B)
      in_front [] s = after_pend pend all_pend s
      in_front (l ∷ L) (inl here) = inl (here.0, ⊎_elim (λ front. has_left q L _ front) (λ back. has_right q L _ (⊎_elim (λ it. absurd (two (each_has (λ r. r.number ≡ i) q pend all_pend it))) (λ tail. tail) (has_append q pend B back))) (has_append q L (pend ++ B) here.1))
      in_front (l ∷ L) (inr there) = inr (in_front L there)

  stands_put : (x q : Row) (A : List Row) → Stands x q (A ++ (F ++ B)) → Stands x q ((A ++ last) ++ (F ++ B))
  stands_put x q (l ∷ A) (inl here) = inl (here.0, ⊎_elim (λ front. has_left q (A ++ last) _ (has_left q A last front)) (λ back. has_right q (A ++ last) _ back) (has_append q A (F ++ B) here.1))
  stands_put x q (l ∷ A) (inr there) = inr (stands_put x q A there)
  stands_put x q [] h = behind last h
    where
      behind : (L : List Row) → Stands x q (F ++ B) → Stands x q (L ++ (F ++ B))
      behind [] s = s
      behind (l ∷ L) s = inr (behind L s)

  pub stands_new : (x q : Row) → x.number ≢ i → q.number ≢ i → Stands x q old → Stands x q new
  stands_new x q one two h = stands_put x q E (stands_parts x q E one two h)

  pub stands_last : (x q : Row) → HasRow x E → HasRow q last → Stands x q new
  stands_last x q h l = stands_left x q (E ++ last) (F ++ B) (stands_across x q E last h l)

pub change_append : (j : ℕ) (L M : List Row) → change_at j (L ++ M) ≡ change_at j L ++ change_at j M
change_append j [] M = refl
change_append j (l ∷ L) M = grind (arith, cases_Bool, change_append j L M)

pub length_app : (L M : List Row) → length (L ++ M) ≡ length L + length M
length_app [] M = omega arith
length_app (l ∷ L) M = omega (arith, length_app L M)

pub is_nil : (L : List Row) → length L ≡ 0 → L ≡ []
is_nil [] e = refl
is_nil (l ∷ L) e = absurd (omega (arith, e))

pub short : (f : Publishing) (L : List Row) → IsChangeOf f L → length L ≤ 1
short f L h = grind (arith, nat_tests)
