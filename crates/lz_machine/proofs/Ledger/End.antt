-- The ledger where a call ends: its pending row, if it has one, leaves, and its last row, if it has one, is put after those
-- that ended.
use Rattle.std.proofs.Common.{◌≡◌, ◌≢◌, ◌⊎◌, ⊎_elim, inl, inr, ℕ, ◌<◌, ◌≤◌, ◌+◌, Bool, true, false, List, [], ◌∷◌, ◌++◌, length, Option, Some, None, refl, sym}
use Rattle.std.proofs.{Common.{ap, ◌∙◌, subst, arith}, lemmas.{Bool.{cases_eq, Decides.{nat_tests}}, List.{append-nil}, Option.{none-some}}}
use Rattle.lz_slot.specs.declared.{command.Command.{Command}, history.{HistoryEvent.{HistoryEvent, TheVariants.{Call, Answer, Refused}}, Refusal.{Refusal}}}
use Rattle.lz_slot.specs.Histories.{History, IsCalled, IsAnswered, IsBefore, IsUnderWay}
use Rattle.lz_list.specs.{Traces.{Trace}, declared.publishing.Publishing.{Publishing}}
use Rattle.lz_machine.specs.{Runs.{Caller, caller_at}, Ledgers.{Row, HasRow, Stands, Each, change_at, times}, Kept.{publishing, IsRowOf}}
use Rattle.lz_machine.specs.{Entries.{IsRowIn, IsLedger, IsSettledEntry, IsChangeOf}, Notes.{Notes, pending_row, pending, entries}, Yards.{IsInside, pin_in}}
use Rattle.lz_machine.specs.{LedgerSound.{LedgerSound, may_have_tail, HasTail}, Sound.{IsAfter}}
use Rattle.lz_machine.proofs.Ledger.{Fit.{each_has, each_all, has_append, was_answered}, Order.{has_left, has_right, times_append}}
use Rattle.lz_machine.proofs.Ledger.{Change.{pending_open, no_entry}, Parts.{IsParted, change_append, ending, ends_now, gone, is_nil, last_new, length_app}}
use Rattle.lz_machine.proofs.Ledger.Parts.{new_rest, none_of, number_rest, old_rest, parted, rest_new, rest_old, short, stands_last, stands_new, stays_open}
use Rattle.lz_machine.proofs.Ledger.Parts.{times_new, times_old}

module _ (p r : Row) (same : p.command ≡ r.command) where
  first_same : {x z : Row} → x ∷ [] ≡ z ∷ [] → x ≡ z
  first_same e = cc

  none_here : {A : Type 0} → p ∷ [] ≡ [] → A
  none_here e = absurd cc

  swapped : (f : Publishing) → IsChangeOf f (p ∷ []) → IsChangeOf f (r ∷ [])
  swapped f h = grind (arith, nat_tests, first_same, none_here)

  -- a row that changes alone at its position is put elsewhere
  moved_change : (f : Publishing) (A C D : List Row) → IsChangeOf f (A ++ (C ++ (p ∷ D))) → IsChangeOf f ((A ++ r ∷ []) ++ (C ++ D))
  moved_change f A C D h = grind (arith, short, length_app, is_nil, swapped)

-- what a mark that ends a call says: it is no call, and an answer or a refusal is of this one
pub record EndsCall (m : HistoryEvent) (i : ℕ) (leaves_tail : Bool) : Type 0 where
  pub no_call : (j b : ℕ) (d : Command) → m ≡ Call j b d → ⊥
  pub answers : (j : ℕ) (b : Bool) → m ≡ Answer j b → (j ≡ i) × (leaves_tail ≡ false)
  pub refuses : (j : ℕ) (why : Refusal) → m ≡ Refused j why → (j ≡ i) × (leaves_tail ≡ false)

-- what is asked of the last row of a call that ends
pub record IsLast (n : ℕ) (P : Trace) (M : History) (pin begun : ℕ) (i : ℕ) (m : HistoryEvent) (pend last : List Row) : Type 0 where
  pub all : Each (λ r. r.number ≡ i) last
  pub once : times i last ≤ 1
  pub row : Each (IsRowOf n P) last
  pub within : Each (IsRowIn (m ∷ M)) last
  pub settled : Each (IsSettledEntry P) last
  -- an answered call has one
  pub answered : (b : Bool) → m ≡ Answer i b → (r : Row) × HasRow r last
  -- it stands at the call's pin or later, or where its pending row stood
  pub place : (q : Row) → HasRow q last → (IsInside pin × (begun ≤ q.position)) ⊎ ((p : Row) × HasRow p pend × (p.position ≡ q.position))

module _ (n calls passes : ℕ) (callers : List (Option Caller)) (P : Trace) (M : History) (notes : Notes) (a : ℕ) (caller : Caller) (at : caller_at callers a ≡ Some caller) (le : a ≤ passes) (sound : LedgerSound n calls passes callers P M notes)
    (pins : List ℕ) (after : IsAfter pins callers (entries passes callers notes) M notes.begun)
    (m : HistoryEvent) (ends : EndsCall m caller.number (may_have_tail caller.progress)) (last : List Row) (is_last : IsLast n P M (pin_in pins a) (length (notes.begun a)) caller.number m (pending_row (Some caller) (notes.changed a)) last) where
  abbrev i : ℕ
  i = caller.number

  abbrev notes' : Notes
  notes' = ends_now notes a last

  abbrev pended : List Row
  pended = pending_row (Some caller) (notes.changed a)

  parts : IsParted pended (pending callers notes.changed passes) (pending (ending callers a) notes'.changed passes)
  parts = parted callers notes a last caller at passes le

  abbrev E : List Row
  E = notes.ended

  abbrev F : List Row
  F = parts.front

  abbrev B : List Row
  B = parts.back

  old_is : entries passes callers notes ≡ E ++ (F ++ (pended ++ B))
  old_is = ap (λ (l : List Row). notes.ended ++ l) parts.was

  new_is : entries passes (ending callers a) notes' ≡ (E ++ last) ++ (F ++ B)
  new_is = ap (λ (l : List Row). (notes.ended ++ last) ++ l) parts.is

  under_way : IsUnderWay M i caller.command
  under_way = sound.open_call a caller at

  all_pend : (changed : Option ℕ) → Each (λ r. r.number ≡ i) (pending_row (Some caller) changed)
  all_pend changed = grind (arith, nat_tests)

  abbrev rows : List Row
  rows = E ++ (F ++ B)

  -- no other row is of this call
  none_left : times i rows ≡ 0
  none_left = go (notes.changed a) refl
    where
      split : times i (entries passes callers notes) ≡ times i rows + times i pended
      split = ap (times i) old_is ∙ omega (arith, times_append i E (F ++ (pended ++ B)), times_append i F (pended ++ B), times_append i pended B, times_append i E (F ++ B), times_append i F B)

      own : (j : ℕ) → times i (pending_row (Some caller) (Some j)) ≡ 1
      own j = grind arith

      go : (changed : Option ℕ) → notes.changed a ≡ changed → times i rows ≡ 0
      go None is = omega (arith, split, no_entry n calls passes callers P M notes a caller at is sound)
      go (Some j) is = omega (arith, split, sound.ledger.once i, ap (λ (q : Option ℕ). times i (pending_row (Some caller) q)) is ∙ own j)

  is_rest : (x : Row) → HasRow x (entries passes callers notes) → HasRow x rows ⊎ (x.number ≡ i)
  is_rest x h = old_rest i E F B pended last (all_pend (notes.changed a)) is_last.all none_left x (subst (HasRow x) old_is h)

  was_row : (x : Row) → HasRow x rows → HasRow x (entries passes callers notes)
  was_row x h = subst (HasRow x) (sym old_is) (rest_old i E F B pended last (all_pend (notes.changed a)) is_last.all none_left x h)

  number_of_rest : (x : Row) → HasRow x rows → x.number ≢ i
  number_of_rest x h = number_rest i E F B pended last (all_pend (notes.changed a)) is_last.all none_left x h

  -- a row of a call that was answered has ended
  answered_ended : (x : Row) (b : Bool) → HasRow x rows → IsAnswered M x.number b → HasRow x E
  answered_ended x b h is = ⊎_elim
      (λ ended. ended)
      (λ there.
      let found = pending_open callers notes.changed passes x (subst (HasRow x) (sym parts.was) (⊎_elim (λ front. has_left x F _ front) (λ back. has_right x F _ (has_right x pended B back)) (has_append x F B there))) in
      absurd ((sound.open_call found.0 found.1 found.3).no_answer b (subst (λ (j : ℕ). IsAnswered M j b) (sym found.5) is)))
      (has_append x E (F ++ B) h)

  of_old : (A : Row → Type 0) → Each A (entries passes callers notes) → (x : Row) → HasRow x rows → A x
  of_old A each x h = each_has A x (entries passes callers notes) each (was_row x h)

  -- what holds of each old row and of the last one
  all_new : (A : Row → Type 0) → ((x : Row) → HasRow x rows → A x) → Each A last → Each A ((E ++ last) ++ (F ++ B))
  all_new A olds lasts = each_all A ((E ++ last) ++ (F ++ B)) (λ x h. ⊎_elim (λ there. olds x there) (λ here. each_has A x last lasts here) (new_rest i E F B pended last (all_pend (notes.changed a)) is_last.all none_left x h))

  in_history : (x : Row) → HasRow x rows → IsRowIn (m ∷ M) x
  in_history x h =
      let old = each_has (IsRowIn M) x (entries passes callers notes ++ []) sound.ledger.calls (has_left x _ [] (was_row x h)) in
      record {
        is_called = (old.is_called.0, inr old.is_called.1);
        answers = λ b is. ⊎_elim (λ now. absurd (number_of_rest x h (ends.answers x.number b now).0)) (λ before. old.answers b before) is;
        not_refused = λ is. ⊎_elim (λ now. absurd (number_of_rest x h (ends.refuses x.number is.0 now).0)) (λ before. absurd (old.not_refused (is.0, before))) is.1;
      }

  old_before : (x q : ℕ) → IsBefore (m ∷ M) x q → IsBefore M x q
  old_before x q (inl now) = absurd (ends.no_call q now.0 now.1 now.3)
  old_before x q (inr before) = before

  in_order : (x q : Row) → HasRow x ((E ++ last) ++ (F ++ B)) → HasRow q ((E ++ last) ++ (F ++ B)) → IsBefore (m ∷ M) x.number q.number
      → Stands x q ((E ++ last) ++ (F ++ B)) × (x.position ≤ q.position) × (x.position ≡ q.position → x.changes ≡ false)
  in_order x q at_x at_q now = ⊎_elim
      (λ rest_x. ⊎_elim
      (λ rest_q. both rest_x rest_q)
      (λ last_q. to_last rest_x last_q)
      (new_rest i E F B pended last (all_pend (notes.changed a)) is_last.all none_left q at_q))
      (λ last_x. let found = was_answered x.number q.number M before in absurd (under_way.no_answer found.0 (subst (λ (j : ℕ). IsAnswered M j found.0) (each_has (λ r. r.number ≡ i) x last is_last.all last_x) found.1)))
      (new_rest i E F B pended last (all_pend (notes.changed a)) is_last.all none_left x at_x)
    where
      before : IsBefore M x.number q.number
      before = old_before x.number q.number now

      both : HasRow x rows → HasRow q rows → Stands x q ((E ++ last) ++ (F ++ B)) × (x.position ≤ q.position) × (x.position ≡ q.position → x.changes ≡ false)
      both one two =
          let old = sound.ledger.order x q (was_row x one) (was_row q two) before in
          (stands_new i E F B pended last (all_pend (notes.changed a)) is_last.all none_left x q (number_of_rest x one) (number_of_rest q two) (subst (Stands x q) old_is old.0), old.1, old.2)

      to_last : HasRow x rows → HasRow q last → Stands x q ((E ++ last) ++ (F ++ B)) × (x.position ≤ q.position) × (x.position ≡ q.position → x.changes ≡ false)
      to_last one two =
          let found = was_answered x.number q.number M before in
          let number : q.number ≡ i = each_has (λ r. r.number ≡ i) q last is_last.all two in
          let mine : IsBefore M x.number i = subst (IsBefore M x.number) number before in
          let stands = stands_last i E F B pended last (all_pend (notes.changed a)) is_last.all none_left x q (answered_ended x found.0 one found.1) two in
          ⊎_elim
          (λ later_than. let rule = after.each a caller x at later_than.0 (was_row x one) mine in (stands, omega (arith, rule.0, later_than.1), λ same. rule.1 (omega (arith, rule.0, later_than.1, same))))
          (λ was.
          let in_old : HasRow was.0 (entries passes callers notes) = subst (HasRow was.0) (sym old_is) (has_right was.0 E _ (has_right was.0 F _ (has_left was.0 pended B was.1))) in
          let rule = sound.ledger.order x was.0 (was_row x one) in_old (subst (IsBefore M x.number) (sym (each_has (λ r. r.number ≡ i) was.0 pended (all_pend (notes.changed a)) was.1)) mine) in
          (stands, omega (arith, rule.1, was.2), λ same. rule.2 (same ∙ sym was.2)))
          (is_last.place q two)

  ledger_now : IsLedger n P ((E ++ last) ++ (F ++ B)) [] (m ∷ M)
  ledger_now = record {
    each = all_new (IsRowOf n P) (of_old (IsRowOf n P) sound.ledger.each) is_last.row;
    calls = subst (Each (IsRowIn (m ∷ M))) (sym (append-nil ((E ++ last) ++ (F ++ B)))) (all_new (IsRowIn (m ∷ M)) in_history is_last.within);
    tail_open = tt;
    once = λ j. once_now j;
    answered = λ j b is. ⊎_elim (λ now. new_answer j b now) (λ before. old_answer j b before) is;
    order = in_order;
  }
    where
      once_now : (j : ℕ) → times j ((E ++ last) ++ (F ++ B)) + 0 ≤ 1
      once_now j = elim (cases_eq j i) [
        | inl same ↦ omega (arith, times_new i E F B pended last (all_pend (notes.changed a)) is_last.all none_left j, ap (λ (q : ℕ). times q rows) same ∙ none_left, ap (λ (q : ℕ). times q last) same, is_last.once)
        | inr other ↦ omega (arith, times_new i E F B pended last (all_pend (notes.changed a)) is_last.all none_left j, none_of i j last is_last.all other, sound.ledger.once j, ap (times j) old_is, times_old i E F B pended last (all_pend (notes.changed a)) is_last.all none_left j)
      ]

      new_answer : (j : ℕ) (b : Bool) → m ≡ Answer j b → (r : Row) × HasRow r ((E ++ last) ++ (F ++ B)) × (r.number ≡ j)
      new_answer j b now = grind (arith, last_new, all_pend, none_left, each_has)

      old_answer : (j : ℕ) (b : Bool) → IsAnswered M j b → (r : Row) × HasRow r ((E ++ last) ++ (F ++ B)) × (r.number ≡ j)
      old_answer j b is =
          let found = sound.ledger.answered j b is in
          ⊎_elim
          (λ there. (found.0, rest_new i E F B pended last (all_pend (notes.changed a)) is_last.all none_left found.0 there, found.2))
          (λ mine. absurd (under_way.no_answer b (subst (λ (q : ℕ). IsAnswered M q b) (sym found.2 ∙ mine) is)))
          (is_rest found.0 found.1)

  other_call : (b : ℕ) (one : Caller) → b ≢ a → caller_at callers b ≡ Some one → one.number ≢ i
  other_call b one other is same = other (sound.apart b a one caller is at same)

  open_still : (j : ℕ) (c : Command) → (j ≡ i → may_have_tail caller.progress ≡ true) → IsUnderWay M j c → IsUnderWay (m ∷ M) j c
  open_still j c apart h = grind arith

  is_open : (b : ℕ) (one : Caller) → caller_at (ending callers a) b ≡ Some one → (b ≢ a) × (caller_at callers b ≡ Some one)
  is_open b one is = grind (arith, nat_tests, cases_eq, none-some, gone, ending, stays_open)

  old_called : (j : ℕ) (c : Command) → IsCalled (m ∷ M) j c → IsCalled M j c
  old_called j c (b, inl now) = absurd (ends.no_call j b c now)
  old_called j c (b, inr before) = (b, before)

  -- the ledger of the longer history
  pub ledger_ended : ((j : ℕ) → n ≤ j → j < length P → IsChangeOf (publishing j P) (change_at j (entries passes (ending callers a) notes'))) → LedgerSound n calls passes (ending callers a) P (m ∷ M) notes'
  ledger_ended changes = record {
    opened = sound.opened;
    ledger = subst (λ (l : List Row). IsLedger n P l [] (m ∷ M)) (sym new_is) ledger_now;
    settled = subst (Each (IsSettledEntry P)) (sym new_is) (all_new (IsSettledEntry P) (of_old (IsSettledEntry P) sound.settled) is_last.settled);
    changes = changes;
    numbered = λ j c is. sound.numbered j c (old_called j c is);
    refused = λ j is. ⊎_elim (λ now. omega (arith, (ends.refuses j is.0 now).0, sound.numbered i caller.command under_way.called)) (λ before. sound.refused j (is.0, before)) is.1;
    one_call = λ j c d one two. sound.one_call j c d (old_called j c one) (old_called j d two);
    open_call = λ b one is. let old = is_open b one is in open_still one.number one.command (λ same. absurd (other_call b one old.0 old.1 same)) (sound.open_call b one old.1);
    apart = λ b d one two is_b is_d number. sound.apart b d one two (is_open b one is_b).1 (is_open d two is_d).1 number;
    unlisted = λ b one is.
        let old = is_open b one is in
        omega (arith, times_append one.number notes.ended last, sound.unlisted b one old.1, none_of i one.number last is_last.all (other_call b one old.0 old.1));
  }

  -- where neither the pending row nor the last one changes anything at a position
  change_kept : (j : ℕ) → change_at j pended ≡ [] → change_at j last ≡ [] → change_at j (entries passes (ending callers a) notes') ≡ change_at j (entries passes callers notes)
  change_kept j no_pend no_last = grind (arith, new_is, change_append, append-nil, old_is)

  -- a call that has changed nothing, and whose last row changes nothing
  pub ledger_quiet : notes.changed a ≡ None → ((j : ℕ) → change_at j last ≡ []) → LedgerSound n calls passes (ending callers a) P (m ∷ M) notes'
  ledger_quiet none quiet = ledger_ended (λ j early late. subst (IsChangeOf (publishing j P)) (sym (change_kept j (ap (λ (q : Option ℕ). change_at j (pending_row (Some caller) q)) none) (quiet j))) (sound.changes j early late))

  -- a call whose pending row becomes its last one
  pub ledger_moved : (p r : Row) → pended ≡ p ∷ [] → last ≡ r ∷ [] → p.command ≡ r.command → p.position ≡ r.position → p.changes ≡ true → r.changes ≡ true → LedgerSound n calls passes (ending callers a) P (m ∷ M) notes'
  ledger_moved p r is_p is_r command position does also = grind (arith, nat_tests, ledger_ended, cases_eq, moved_change, change_kept, old_is, change_append, ending, new_is)

  -- what is said of pins of other calls
  pub after_ended : (pins' : List ℕ) → ((b : ℕ) → b ≢ a → pin_in pins' b ≡ pin_in pins b) → IsAfter pins' (ending callers a) (entries passes (ending callers a) notes') (m ∷ M) notes.begun
  after_ended pins' same = record {
    each = λ b one r is inside' has before.
        let old = is_open b one is in
        let was : IsBefore M r.number one.number = old_before r.number one.number before in
        ⊎_elim
        (λ there. after.each b one r old.1 (subst IsInside (same b old.0) inside') (was_row r there) was)
        (λ mine. let found = was_answered r.number one.number M was in absurd (under_way.no_answer found.0 (subst (λ (j : ℕ). IsAnswered M j found.0) (each_has (λ q. q.number ≡ i) r last is_last.all mine) found.1)))
        (new_rest i E F B pended last (all_pend (notes.changed a)) is_last.all none_left r (subst (HasRow r) new_is has));
  }

  -- the tails of other calls, and that of a call that was cut off
  pub tail_ended : (d : Command) → (may_have_tail caller.progress ≡ true → times i last ≡ times i pended) → HasTail d callers (entries passes callers notes) M → HasTail d (ending callers a) (entries passes (ending callers a) notes') (m ∷ M)
  tail_ended d same h = record {
    number = h.number;
    under_way = open_still h.number d (λ mine. h.stays a caller at (sym mine)) h.under_way;
    no_row = elim (cases_eq h.number i) [
      | inl mine ↦
          let count = same (h.stays a caller at (sym mine)) in
          omega (
            arith,
            ap (times h.number) new_is,
            times_new i E F B pended last (all_pend (notes.changed a)) is_last.all none_left h.number,
            ap
                (λ (q : ℕ). times q last) mine,
            ap (λ (q : ℕ). times q pended) mine,
            count,
            h.no_row,
            ap (times h.number) old_is,
            times_old i E F B pended last
                (all_pend (notes.changed a)) is_last.all none_left h.number,
          )
      | inr other ↦ omega (
        arith,
        ap (times h.number) new_is,
        times_new i E F B pended last
            (all_pend (notes.changed a)) is_last.all none_left h.number,
        none_of i h.number last is_last.all other,
        h.no_row,
        ap
            (times h.number) old_is,
        times_old i E F B pended last (all_pend (notes.changed a)) is_last.all none_left h.number,
      )
    ];
    stays = λ b one is number. let old = is_open b one is in h.stays b one old.1 number;
  }

-- the pending row of an open call is one of the rows
pub pend_listed : (passes : ℕ) (callers : List (Option Caller)) (notes : Notes) (a : ℕ) (caller : Caller) → caller_at callers a ≡ Some caller → a ≤ passes → (p : Row) → HasRow p (pending_row (Some caller) (notes.changed a)) → HasRow p (entries passes callers notes)
pend_listed passes callers notes a caller at le p h =
    let parts = parted callers notes a [] caller at passes le in
    has_right p notes.ended _ (subst (HasRow p) (sym parts.was) (has_right p parts.front _ (has_left p _ parts.back h)))
