-- For each image the rows that it keeps are a ledger too.
use Rattle.std.proofs.Common.{◌≡◌, ⊎_elim, inl, inr, ℕ, suc, ◌≤◌, Bool, true, false, not, ◌==◌, ◌&&◌, List, [], ◌∷◌, ◌++◌, length, filter, Some, refl, sym, ap}
use Rattle.std.proofs.{Common.{◌∙◌, subst, arith}, lemmas.{Bool.{cases_Bool, Decides.{nat_tests}}, Option.{none-some}}}
use Rattle.lz_slot.specs.{declared.command.Command.{Command, TheVariants.{Add, Remove}}, Sets.{key_of, Keys}, Histories.{History, IsAnswered}}
use Rattle.lz_list.specs.{declared.publishing.Publishing.{Publishing, TheVariants.{Linked as linked, Marked as marked}}, Traces.{Trace}}
use Rattle.lz_machine.specs.{Ledgers.{Row, change_at, Each, HasRow}, Kept.{upto, last_change, MayDrop, IsChange, RowsFit, IsRowOf}}
use Rattle.lz_machine.{specs.Entries.{IsRowIn, IsLedger, IsSettledEntry, IsChangeOf, is_kept, kept_rows}, proofs.Ledger.Answers.{each_filter, each_weaker}}
use Rattle.lz_machine.proofs.Ledger.{Order.{has_filter, stands_filter, has_left, has_right}, Membership.{yes_is_kept, no_is_kept, length-upto}}
use Rattle.lz_machine.proofs.Ledger.Fit.{each_has, each_all, has_append, has_filter_of, times_filter}

filter_swap : (p q : Row → Bool) (L : List Row) → filter p (filter q L) ≡ filter q (filter p L)
filter_swap p q [] = refl
filter_swap p q (r ∷ L) = grind (arith, filter_swap p q L)

has_passes : (test : Row → Bool) (r : Row) (L : List Row) → HasRow r (filter test L) → test r ≡ true
has_passes test r [] h = absurd h
has_passes test r (l ∷ L) h = elim (cases_Bool (test l)) [
  | inl t ↦ ⊎_elim (λ here. ap test (sym here) ∙ t) (λ there. has_passes test r L there) (rw t at h)
  | inr f ↦ has_passes test r L (rw f at h)
]

module _ (n : ℕ) (P : Trace) (drop : Keys) (may : MayDrop n P drop) where
  -- an answered call isn't dropped
  answered_is_kept : (r : Row) (a : Bool) → IsRowOf n P r → IsSettledEntry P r → r.answer ≡ Some a → is_kept P drop r ≡ true
  answered_is_kept r a row entry answer = elim (cases_Bool (is_kept P drop r)) [
    | inl t ↦ t
    | inr f ↦
        let does : r.changes ≡ true = grind arith in
        let dropped : drop (key_of r.command) ≡ true = grind arith in
        let last : last_change (key_of r.command) P ≡ suc r.position = grind (arith, nat_tests) in
        let within = (row.changing does).within in
        let late : last_change (key_of r.command) P ≤ length (upto (suc r.position) P) = omega (arith, last, length-upto (suc r.position) P) in
        let said : r.answer ≡ Some true = ⊎_elim (λ none. absurd (none-some a (sym none ∙ answer))) (λ some. some) (row.changing does).answer in
        absurd (⊎_elim
        (λ told. yes_is_kept (key_of r.command) (upto (suc r.position) P) P told late (may.open_change (key_of r.command) dropped))
        (λ told. no_is_kept (key_of r.command) (upto (suc r.position) P) P told late (may.open_change (key_of r.command) dropped))
        (entry.told does said))
  ]

  pub kept_ledger : (entries tail : List Row) (M : History) → IsLedger n P entries tail M → Each (IsSettledEntry P) entries → IsLedger n P (kept_rows P drop entries) tail M
  kept_ledger entries tail M h settled_ones = record {
    each = each_weaker _ (IsRowOf n P) (λ r facts. facts.0) _ (each_filter (IsRowOf n P) (is_kept P drop) entries h.each);
    calls = each_all (IsRowIn M) (kept_rows P drop entries ++ tail) (λ r at. each_has (IsRowIn M) r (entries ++ tail) h.calls
        (⊎_elim (λ left. has_left r entries tail (has_filter_of (is_kept P drop) r entries left)) (λ right. has_right r entries tail right)
        (has_append r (kept_rows P drop entries) tail at)));
    tail_open = h.tail_open;
    once = λ i. omega (arith, h.once i, times_filter (is_kept P drop) i entries);
    answered = λ i a is.
        let found = h.answered i a is in
        let row = each_has (IsRowIn M) found.0 (entries ++ tail) h.calls (has_left found.0 entries tail found.1) in (
          found.0,
          has_filter (is_kept P drop) found.0 entries found.1 (answered_is_kept found.0 a (each_has (IsRowOf n P) found.0 entries h.each found.1)
              (each_has (IsSettledEntry P) found.0 entries settled_ones found.1) (row.answers a (subst (λ (x : ℕ). IsAnswered M x a) (sym found.2) is))),
          found.2,
        );
    order = λ r q at_r at_q before.
        let o = h.order r q (has_filter_of (is_kept P drop) r entries at_r) (has_filter_of (is_kept P drop) q entries at_q) before in
        (stands_filter (is_kept P drop) r q entries o.0 (has_passes (is_kept P drop) r entries at_r) (has_passes (is_kept P drop) q entries at_q), o.1, o.2);
  }

  module _ (j k : ℕ) (c : Command) (entries : List Row) (key : key_of c ≡ k) (r : Row) (is : change_at j entries ≡ r ∷ []) (same : r.command ≡ c) where
    swapped : change_at j (kept_rows P drop entries) ≡ filter (is_kept P drop) (r ∷ [])
    swapped = filter_swap (λ q. q.changes && (q.position == j)) (is_kept P drop) entries ∙ ap (filter (is_kept P drop)) is

    row_tells : is_kept P drop r ≡ not (drop k && (last_change k P == suc j))
    row_tells =
        let does : (r.changes && (r.position == j)) ≡ true = has_passes (λ q. q.changes && (q.position == j)) r entries (subst (HasRow r) (sym is) (inl refl)) in
        let at : r.position ≡ j = grind (arith, nat_tests, does) in
        let changes : r.changes ≡ true = grind (arith, does) in
        let of : key_of r.command ≡ k = ap key_of same ∙ key in
        rw (changes, of, at)

    change_fits : (gone : Bool) → (drop k && (last_change k P == suc j)) ≡ gone → IsChange gone c (change_at j (kept_rows P drop entries))
    change_fits true e = swapped ∙ rw (row_tells ∙ ap not e)
    change_fits false e = (r, swapped ∙ rw (row_tells ∙ ap not e), same)

  none_fits : (j : ℕ) (entries : List Row) → change_at j entries ≡ [] → change_at j (kept_rows P drop entries) ≡ []
  none_fits j entries is = filter_swap (λ q. q.changes && (q.position == j)) (is_kept P drop) entries ∙ ap (filter (is_kept P drop)) is

  -- what is kept fits the trace
  pub kept_fits : (j : ℕ) (e : Publishing) (entries : List Row) → IsChangeOf e (change_at j entries) → RowsFit P drop j e (change_at j (kept_rows P drop entries))
  kept_fits j (linked k s p) entries h = change_fits j k (Add k) entries refl h.0 h.1 h.2 (drop k && (last_change k P == suc j)) refl
  kept_fits j (marked k s p) entries h = change_fits j k (Remove k) entries refl h.0 h.1 h.2 (drop k && (last_change k P == suc j)) refl
  kept_fits j _ entries h = none_fits j entries h
