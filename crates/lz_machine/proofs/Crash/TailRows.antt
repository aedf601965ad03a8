-- The rows that an image puts at the end of its list: one for each slot that asks for a call.
use Rattle.std.proofs.Common.{◌≡◌, ◌≢◌, ◌⊎◌, ⊎_elim, inl, inr, ℕ, zero, suc, ◌<◌, ◌≤◌, ◌==◌, Bool, true, false, List, [], ◌∷◌, ◌++◌, Option, Some, None, refl}
use Rattle.std.proofs.{Common.{sym, ap, ◌∙◌, subst, arith}, lemmas.Bool.{cases_eq, or_left, or_right, eq-eqb, Decides.{nat_tests}}}
use Rattle.std.{proofs.lemmas.Option.{none-some, same_Some}, specs.List.{list_any}}
use Rattle.lz_slot.specs.{declared.command.Command.{Command}, Sets.{Keys, key_of, after, moved}, Histories.{History, IsCalled}}
use Rattle.lz_slot.proofs.Sets.{after_at, moved_other}
use Rattle.lz_disk.specs.Images.{Medium, IsImage}
use Rattle.lz_list.specs.Traces.{Trace}
use Rattle.lz_machine.specs.{Yards.{Yard}, Runs.{Caller}, Ledgers.{Row, HasRow, Each, times, Gives, ends, Leads}, Entries.{IsRowIn, IsLedger}}
use Rattle.lz_machine.{specs.{Notes.{Notes, entries}, Sound.{Sound}}, proofs.Ledger.{Fit.{each_all, each_has, has_append}, Order.{has_left}}}
use Rattle.lz_machine.proofs.Crash.{ImageSlots.{found}, Tail.{asks, IsWaiting, asks_apart, asks_waits, asks_sets}}

-- whether a row of the list names the key
abbrev pub names : ℕ → List Row → Bool
names k rows = list_any (λ r. key_of r.command == k) rows

pub names_of : (k : ℕ) (r : Row) (L : List Row) → HasRow r L → key_of r.command ≡ k → names k L ≡ true
names_of k r (l ∷ L) (inl here) is = or_left (key_of l.command == k) (names k L) (eq-eqb (key_of l.command) k (ap (λ (q : Row). key_of q.command) here ∙ is))
names_of k r (l ∷ L) (inr there) is = or_right (key_of l.command == k) (names k L) (names_of k r L there is)
names_of k r [] h is = absurd h

-- a number is listed nowhere or in some row
times_or : (i : ℕ) (L : List Row) → (times i L ≡ 0) ⊎ ((r : Row) × HasRow r L × (r.number ≡ i))
times_or i [] = inl refl
times_or i (l ∷ L) = elim (cases_eq l.number i) [
  | inl same ↦ inr (l, inl refl, same)
  | inr other ↦ elim (times_or i L) [
    | inl none ↦ inl (grind (arith, nat_tests, none))
    | inr at ↦ inr (at.0, inr at.1, at.2)
  ]
]

-- rows without an answer give no wrong one
open_gives : (S : Keys) (L : List Row) → Each (λ r. r.answer ≡ None) L → Gives S L
open_gives S [] each = tt
open_gives S (r ∷ L) each = grind (arith, open_gives (after r.command S) L each.1)

-- where each row that names a key makes the same of it, so does the list
ends_at : (k : ℕ) (v : Bool) (L : List Row) (S : Keys) → ((r : Row) → HasRow r L → key_of r.command ≡ k → (b : Bool) → moved k r.command b ≡ v) → (names k L ≡ false → S k ≡ v) → ends S L k ≡ v
ends_at k v [] S sets was = was refl
ends_at k v (r ∷ L) S sets was = ends_at k v L (after r.command S) (λ q at. sets q (inr at)) (λ none. after_at r.command S k ∙ elim (cases_eq (key_of r.command) k) [
  | inl same ↦ sets r (inl refl) same (S k)
  | inr other ↦ moved_other r.command k (S k) other ∙ was (or_from_parts other none)
])
  where
    or_from_parts : key_of r.command ≢ k → names k L ≡ false → names k (r ∷ L) ≡ false
    or_from_parts other none = grind (arith, nat_tests, none)

module _ (n calls : ℕ) (y : Yard) (callers : List (Option Caller)) (disk : Medium) (M : History) (P : Trace) (notes : Notes) (sound : Sound n calls y callers disk M P notes) (t : List ℕ) (image : IsImage disk t) where
  -- The rows for the first m slots.
  pub record HasRows (m : ℕ) : Type 0 where
    pub rows : List Row
    pub from : (r : Row) → HasRow r rows → (s : ℕ) × (s < m) × (asks y P t s ≡ Some r.command)
    pub each : (s : ℕ) (c : Command) → s < m → asks y P t s ≡ Some c → (r : Row) × HasRow r rows × (r.command ≡ c)
    pub open_rows : (r : Row) → HasRow r rows → r.answer ≡ None
    pub in_history : (r : Row) → HasRow r rows → IsRowIn M r
    pub unlisted : (r : Row) → HasRow r rows → times r.number (entries y.shape.passes callers notes) ≡ 0
    pub once : (i : ℕ) → times i rows ≤ 1

  row_of : (c : Command) → IsWaiting c (entries y.shape.passes callers notes) M → Row
  row_of c h = record { number = h.number; command = c; answer = None; changes = false; position = 0 }

  waiting_row : (c : Command) (h : IsWaiting c (entries y.shape.passes callers notes) M) → IsRowIn M (row_of c h)
  unfolding row_of
  waiting_row c h = record {
    is_called = h.under_way.called;
    answers = λ answer is. absurd (h.under_way.no_answer answer is);
    not_refused = h.under_way.no_refusal;
  }

  -- no row of earlier slots is of the same call
  fresh : (m : ℕ) (before : HasRows m) (c : Command) (h : IsWaiting c (entries y.shape.passes callers notes) M) → m < y.shape.slots → asks y P t m ≡ Some c → (r : Row) → HasRow r before.rows → r.number ≡ h.number → ⊥
  fresh m before c h lt is r at same =
      let there = before.from r at in
      let called : IsCalled M h.number r.command = subst (λ (i : ℕ). IsCalled M i r.command) same (before.in_history r at).is_called in
      let command = sound.ledger.one_call h.number r.command c called h.under_way.called in
      omega (arith, there.1, asks_apart n calls y callers disk M P notes sound t image there.0 m r.command c (omega (arith, there.1)) lt there.2 is (ap key_of command))

  more : (m : ℕ) → m < y.shape.slots → HasRows m → (c : Command) → asks y P t m ≡ Some c → IsWaiting c (entries y.shape.passes callers notes) M → HasRows (suc m)
  unfolding row_of
  more m lt before c is h = record {
    rows = row_of c h ∷ before.rows;
    from = λ r at. ⊎_elim
        (λ here. (m, omega arith, is ∙ ap (λ (q : Row). Some q.command) here))
        (λ there. let old = before.from r there in (old.0, omega (arith, old.1), old.2))
        at;
    each = λ s d lt' asked. elim (cases_eq s m) [
      | inl here ↦ (row_of c h, inl refl, same_Some c d (sym is ∙ ap (asks y P t) (sym here) ∙ asked))
      | inr other ↦ let old = before.each s d (omega (arith, lt', other)) asked in (old.0, inr old.1, old.2)
    ];
    open_rows = λ r at. ⊎_elim (λ here. ap (λ (q : Row). q.answer) (sym here)) (λ there. before.open_rows r there) at;
    in_history = λ r at. ⊎_elim (λ here. subst (IsRowIn M) here (waiting_row c h)) (λ there. before.in_history r there) at;
    unlisted = λ r at. ⊎_elim
        (λ here. subst (λ (q : Row). times q.number (entries y.shape.passes callers notes) ≡ 0) here h.no_row)
        (λ there. before.unlisted r there)
        at;
    once = λ i. elim (cases_eq h.number i) [
      | inl same ↦ elim (times_or i before.rows) [
        | inl none ↦ grind (arith, nat_tests, none)
        | inr old ↦ absurd (fresh m before c h lt is old.0 old.1 (old.2 ∙ sym same))
      ]
      | inr other ↦ grind (arith, nat_tests, before.once i)
    ];
  }

  no_more : (m : ℕ) → HasRows m → asks y P t m ≡ None → HasRows (suc m)
  no_more m before none = record {
    rows = before.rows;
    from = λ r at. let old = before.from r at in (old.0, omega (arith, old.1), old.2);
    each = λ s c lt asked. elim (cases_eq s m) [
      | inl here ↦ absurd (none-some c (sym none ∙ ap (asks y P t) (sym here) ∙ asked))
      | inr other ↦ before.each s c (omega (arith, lt, other)) asked
    ];
    open_rows = before.open_rows;
    in_history = before.in_history;
    unlisted = before.unlisted;
    once = before.once;
  }

  pub rows_to : (m : ℕ) → m ≤ y.shape.slots → HasRows m
  rows_to zero le = record {
    rows = [];
    from = λ r at. absurd at;
    each = λ s c lt is. absurd (omega (arith, lt));
    open_rows = λ r at. absurd at;
    in_history = λ r at. absurd at;
    unlisted = λ r at. absurd at;
    once = λ i. omega arith;
  }
  rows_to (suc m) le = go (rows_to m (omega (arith, le))) (asks y P t m) refl
    where
      go : HasRows m → (o : Option Command) → asks y P t m ≡ o → HasRows (suc m)
      go before (Some c) is = more m (omega (arith, le)) before c is (asks_waits n calls y callers disk M P notes sound t image m c (omega (arith, le)) is)
      go before None none = no_more m before none

  -- Whatever the set before it, which has what the image has of each key that no row names, the rows lead to the image's set.
  pub rows_lead : (tail : HasRows y.shape.slots) (S : Keys) → ((k : ℕ) → names k tail.rows ≡ false → S k ≡ found t y.shape.slots k) → Leads S tail.rows (found t y.shape.slots)
  rows_lead tail S same = record {
    gives = open_gives S tail.rows (each_all (λ r. r.answer ≡ None) tail.rows tail.open_rows);
    ends_in = λ k. ends_at k (found t y.shape.slots k) tail.rows S
        (λ r at is. let there = tail.from r at in asks_sets n calls y callers disk M P notes sound t image there.0 r.command k there.1 there.2 is)
        (same k);
  }

  -- the rows of the life and these are a ledger
  pub rows_ledger : (tail : HasRows y.shape.slots) → IsLedger n P (entries y.shape.passes callers notes) tail.rows M
  rows_ledger tail =
      let old = sound.ledger.ledger in
      record {
        each = old.each;
        calls = each_all (IsRowIn M) (entries y.shape.passes callers notes ++ tail.rows) (λ r at. ⊎_elim
            (λ here. each_has (IsRowIn M) r (entries y.shape.passes callers notes ++ []) old.calls (has_left r (entries y.shape.passes callers notes) [] here))
            (λ there. tail.in_history r there)
            (has_append r (entries y.shape.passes callers notes) tail.rows at));
        tail_open = each_all (λ r. r.answer ≡ None) tail.rows tail.open_rows;
        once = λ i. elim (times_or i tail.rows) [
          | inl none ↦ omega (arith, none, old.once i)
          | inr at ↦
              let listed : times i (entries y.shape.passes callers notes) ≡ 0 = subst (λ (q : ℕ). times q (entries y.shape.passes callers notes) ≡ 0) at.2 (tail.unlisted at.0 at.1) in
              omega (arith, listed, tail.once i)
        ];
        answered = old.answered;
        order = old.order;
      }
