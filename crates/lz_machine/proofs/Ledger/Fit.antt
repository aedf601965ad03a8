-- The list that a trace and a ledger give fits the history.
use Rattle.std.proofs.Common.{◌≡◌, ◌⊎◌, ⊎_elim, inl, inr, ℕ, zero, suc, ◌<◌, ◌≤◌, Bool, true, not, ◌==◌, ◌&&◌, List, [], ◌∷◌, ◌++◌, length, filter, refl, sym}
use Rattle.std.proofs.{Common.{ap, subst, arith}, lemmas.{Bool.{cases_Bool, cases_lt, Decides.{nat_tests}}, Option.{none-some}}}
use Rattle.lz_slot.specs.{Sets.{Keys, after}, Histories.{IsRefused, History, IsAnswered, IsBefore, IsListed, count_of, IsEarlier, Runs, Fits}}
use Rattle.lz_list.specs.Traces.{Trace, Lawful}
use Rattle.lz_machine.specs.Ledgers.{Row, quiet_at, change_at, listed, HasRow, Stands, times, is_within, Each, IsRight, Moves, Leads}
use Rattle.lz_machine.specs.{Kept.{MayDrop, kept_keys, publishing, RowsFit, IsRowOf}, Entries.{numbers, IsRowIn, IsLedger}}
use Rattle.lz_machine.proofs.Ledger.Answers.{leads_append, listed_leads, each_weaker}
use Rattle.lz_machine.proofs.Ledger.Order.{listed_has, listed_order, listed_times, has_left, has_right, stands_left, stands_across, times_append}
use Rattle.lz_machine.proofs.Ledger.Membership.{row_is_right, rows_move, begins_still}

-- before the life began no row changes anything
pub none_early : (n j : ℕ) (P : Trace) (rows : List Row) → j < n → Each (IsRowOf n P) rows → change_at j rows ≡ []
none_early n j P [] lt each = refl
none_early n j P (r ∷ rows) lt each = grind (arith, nat_tests, each.0.early, none_early n j P rows lt each.1)

pub listed_runs : (buckets slots n : ℕ) (P : Trace) (drop : Keys) (rows : List Row) → Lawful buckets slots P → MayDrop n P drop → Each (IsRowOf n P) rows →
    ((j : ℕ) → n ≤ j → j < length P → RowsFit P drop j (publishing j P) (change_at j rows)) → Leads (kept_keys n P drop 0) (listed rows (length P))
    (kept_keys n P drop (length P))
listed_runs buckets slots n P drop rows law may each fit = listed_leads (kept_keys n P drop) rows (each_weaker (IsRowOf n P) (IsRight (kept_keys n P drop)) (row_is_right n P drop may) rows each) (length P) moves
  where
    moves : (j : ℕ) → j < length P → Moves (kept_keys n P drop j) (kept_keys n P drop (suc j)) (change_at j rows)
    moves j lt = elim (cases_lt j n) [
      | inl before ↦ subst (Moves (kept_keys n P drop j) (kept_keys n P drop (suc j))) (sym (none_early n j P rows before each)) (begins_still n P drop may j before)
      | inr since ↦ rows_move n P drop may (change_at j rows) j since lt buckets slots law (publishing j P) refl (fit j since lt)
    ]

runs_rows : (M : History) (L : List Row) (S T : Keys) → Each (IsRowIn M) L → Leads S L T → Runs M S (numbers L) T
runs_rows M [] S T each leads = leads.ends_in
runs_rows M (r ∷ L) S T each leads = grind (arith, runs_rows M L (after r.command S) T each.1 (record { gives = leads.gives.1; ends_in = leads.ends_in }))

count_rows : (i : ℕ) (L : List Row) → count_of i (numbers L) ≡ times i L
count_rows i [] = refl
count_rows i (r ∷ L) = grind (arith, nat_tests, count_rows i L)

-- a listed number is that of a row, and the other way round
row_of : (i : ℕ) (L : List Row) → IsListed i (numbers L) → (r : Row) × HasRow r L × (r.number ≡ i)
row_of i (r ∷ L) (inl here) = (r, inl refl, here)
row_of i (r ∷ L) (inr there) = let found = row_of i L there in (found.0, inr found.1, found.2)
row_of i [] none = absurd none

listed_row : (r : Row) (L : List Row) → HasRow r L → IsListed r.number (numbers L)
listed_row r (l ∷ L) (inl here) = inl (ap (λ (q : Row). q.number) here)
listed_row r (l ∷ L) (inr there) = inr (listed_row r L there)
listed_row r [] none = absurd none

earlier_rows : (r q : Row) (L : List Row) → Stands r q L → IsEarlier r.number q.number (numbers L)
earlier_rows r q (l ∷ L) (inl here) = inl (ap (λ (x : Row). x.number) here.0, listed_row q L here.1)
earlier_rows r q (l ∷ L) (inr there) = inr (earlier_rows r q L there)
earlier_rows r q [] none = absurd none

pub each_has : (A : Row → Type 0) (r : Row) (L : List Row) → Each A L → HasRow r L → A r
each_has A r (l ∷ L) each (inl here) = subst A here each.0
each_has A r (l ∷ L) each (inr there) = each_has A r L each.1 there
each_has A r [] each none = absurd none

pub each_all : (A : Row → Type 0) (L : List Row) → ((r : Row) → HasRow r L → A r) → Each A L
each_all A [] f = tt
each_all A (l ∷ L) f = (f l (inl refl), each_all A L (λ r there. f r (inr there)))

pub has_append : (r : Row) (L M : List Row) → HasRow r (L ++ M) → HasRow r L ⊎ HasRow r M
has_append r [] M h = inr h
has_append r (l ∷ L) M (inl here) = inl (inl here)
has_append r (l ∷ L) M (inr there) = ⊎_elim (λ left. inl (inr left)) (λ right. inr right) (has_append r L M there)

pub has_filter_of : (test : Row → Bool) (r : Row) (L : List Row) → HasRow r (filter test L) → HasRow r L
has_filter_of test r [] h = h
has_filter_of test r (l ∷ L) h = grind (arith, nat_tests, cases_Bool, has_filter_of test r L)

has_listed : (n : ℕ) (r : Row) (rows : List Row) → HasRow r (listed rows n) → HasRow r rows
has_listed zero r rows h = has_filter_of (λ r. not r.changes && (r.position == 0)) r rows h
has_listed (suc n) r rows h = ⊎_elim (has_listed n r rows)
    (λ new. ⊎_elim (has_filter_of (λ r. r.changes && (r.position == n)) r rows) (has_filter_of (λ r. not r.changes && (r.position == suc n)) r rows) (has_append r (change_at n rows) (quiet_at (suc n) rows) new))
    (has_append r (listed rows n) (change_at n rows ++ quiet_at (suc n) rows) h)

pub times_filter : (test : Row → Bool) (i : ℕ) (L : List Row) → times i (filter test L) ≤ times i L
times_filter test i [] = omega arith
times_filter test i (r ∷ L) = grind (arith, nat_tests, times_filter test i L)

-- a call that was answered before another one was made was answered
pub was_answered : (i j : ℕ) (M : History) → IsBefore M i j → (a : Bool) × IsAnswered M i a
was_answered i j (m ∷ M) (inl here) = (here.2, inr here.4)
was_answered i j (m ∷ M) (inr there) = let found = was_answered i j M there in (found.0, inr found.1)
was_answered i j [] none = absurd none

module _ (n : ℕ) (P : Trace) (rows tail : List Row) (M : History) (ledger : IsLedger n P rows tail M) where
  within : (r : Row) → HasRow r rows → is_within (length P) r ≡ true
  within r h = grind (arith, nat_tests, each_has, cases_Bool)

  order_fits : (i j : ℕ) → IsBefore M i j → IsListed i (numbers (listed rows (length P) ++ tail)) → IsListed j (numbers (listed rows (length P) ++ tail)) → IsEarlier i j (numbers (listed rows (length P) ++ tail))
  order_fits i j before at_i at_j =
      let r = row_of i (listed rows (length P) ++ tail) at_i in
      let q = row_of j (listed rows (length P) ++ tail) at_j in
      subst (λ (x : ℕ). IsEarlier x j (numbers (listed rows (length P) ++ tail))) r.2
      (subst (λ (y : ℕ). IsEarlier r.0.number y (numbers (listed rows (length P) ++ tail))) q.2
      (earlier_rows r.0 q.0 (listed rows (length P) ++ tail) (go r.0 q.0 (subst (λ (x : ℕ). IsBefore M x q.0.number) (sym r.2)
      (subst (λ (y : ℕ). IsBefore M i y) (sym q.2) before)) (has_append r.0 (listed rows (length P)) tail r.1) (has_append q.0 (listed rows (length P)) tail q.1))))
    where
      go : (r q : Row) → IsBefore M r.number q.number → HasRow r (listed rows (length P)) ⊎ HasRow r tail → HasRow q (listed rows (length P)) ⊎ HasRow q tail → Stands r q (listed rows (length P) ++ tail)
      go r q before (inr last) _ = grind (arith, nat_tests, was_answered, none-some, each_has, has_right)
      go r q before (inl first) (inr last) = stands_across r q (listed rows (length P)) tail first last
      go r q before (inl first) (inl second) = grind (arith, nat_tests, has_listed, stands_left, listed_order, within)

  pub listed_fits : (buckets slots : ℕ) (drop T : Keys) → Lawful buckets slots P → MayDrop n P drop →
      ((j : ℕ) → n ≤ j → j < length P → RowsFit P drop j (publishing j P) (change_at j rows)) → Leads (kept_keys n P drop (length P)) tail T → Fits
      (kept_keys n P drop 0) M (numbers (listed rows (length P) ++ tail)) T
  listed_fits buckets slots drop T law may fit tail_leads = record {
    once = λ i. omega (arith, count_rows i (listed rows (length P) ++ tail), times_append i (listed rows (length P)) tail, listed_times rows (length P) i, times_filter (is_within (length P)) i rows, ledger.once i);
    answered = λ i a is.
        let found = ledger.answered i a is in
        subst (λ (x : ℕ). IsListed x (numbers (listed rows (length P) ++ tail))) found.2 (listed_row found.0 (listed rows (length P) ++ tail) (has_left found.0 (listed rows (length P)) tail (listed_has rows (length P) found.0 found.1 (within found.0 found.1))));
    not_refused = λ i is at.
        let r = row_of i (listed rows (length P) ++ tail) at in
        (called_row r.0 r.1).not_refused (subst (λ (x : ℕ). IsRefused M x) (sym r.2) is);
    order = order_fits;
    runs = runs_rows M (listed rows (length P) ++ tail) (kept_keys n P drop 0) T (each_all (IsRowIn M) (listed rows (length P) ++ tail) called_row)
        (leads_append (kept_keys n P drop 0) (kept_keys n P drop (length P)) T (listed rows (length P)) tail
        (listed_runs buckets slots n P drop rows law may ledger.each fit) tail_leads);
  }
    where
      called_row : (r : Row) → HasRow r (listed rows (length P) ++ tail) → IsRowIn M r
      called_row r h = each_has (IsRowIn M) r (rows ++ tail) ledger.calls (⊎_elim (λ left. has_left r rows tail (has_listed (length P) r rows left)) (λ right. has_right r rows tail right) (has_append r (listed rows (length P)) tail h))
