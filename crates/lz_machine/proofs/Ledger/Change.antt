-- The ledger where a call changes something: its row, without an answer yet, is put among those of the open calls.
use Rattle.std.proofs.Common.{◌≡◌, ◌≢◌, ◌⊎◌, ⊎_elim, inl, inr, ℕ, zero, suc, ◌<◌, ◌≤◌, ◌+◌, ◌==◌, if◌then◌else◌, Bool, true, false, List, [], ◌∷◌, ◌++◌, length}
use Rattle.std.proofs.{Common.{Option, Some, None, refl, sym, ap, ◌∙◌, subst, arith, append_assoc}, lemmas.Bool.{cases_Bool, cases_eq, cases_lt}}
use Rattle.std.proofs.lemmas.{Bool.Decides.{nat_tests, eqb_tells}, List.{append-nil}, Option.{same_Some, none-some}}
use Rattle.lz_slot.specs.{declared.command.Command.{Command}, Sets.{key_of, reply}, Histories.{History, IsCalled, IsAnswered, IsBefore, IsUnderWay}}
use Rattle.lz_list.specs.{declared.publishing.Publishing.{Publishing}, Traces.{Trace, member}}
use Rattle.lz_machine.specs.{Runs.{Caller, caller_at}, Ledgers.{Row, HasRow, Stands, Each, change_at, times}, Kept.{publishing, upto, changes_key, IsRowOf}}
use Rattle.lz_machine.specs.{Entries.{IsRowIn, IsLedger, IsSettledEntry, IsChangeOf}, Notes.{Notes, pending_row, pending, entries}}
use Rattle.lz_machine.{specs.LedgerSound.{LedgerSound, may_have_tail, HasTail}, proofs.Ledger.Fit.{each_has, has_append, was_answered}}
use Rattle.lz_machine.proofs.Ledger.{Order.{has_left, stands_across, times_append}, Membership.{upto_all}, Growth.{upto_more, publishing_more}}
use Rattle.lz_machine.proofs.{Ledger.QuietPublishing.{none_late, last_publishing, ledger_grows, settled_grow}, Frames.OneActor.{caller_range}}

-- a row put into a list
module _ (r : Row) where
  each_insert : (A : Row → Type 0) (F B : List Row) → A r → Each A (F ++ B) → Each A (F ++ r ∷ B)
  each_insert A [] B mine h = (mine, h)
  each_insert A (q ∷ F) B mine h = (h.0, each_insert A F B mine h.1)

  has_insert : (x : Row) (F B : List Row) → HasRow x (F ++ B) → HasRow x (F ++ r ∷ B)
  has_insert x [] B h = inr h
  has_insert x (q ∷ F) B (inl here) = inl here
  has_insert x (q ∷ F) B (inr there) = inr (has_insert x F B there)

  has_inserted : (x : Row) (F B : List Row) → HasRow x (F ++ r ∷ B) → (r ≡ x) ⊎ HasRow x (F ++ B)
  has_inserted x [] B (inl here) = inl here
  has_inserted x [] B (inr there) = inr there
  has_inserted x (q ∷ F) B (inl here) = inr (inl here)
  has_inserted x (q ∷ F) B (inr there) = ⊎_elim (λ new. inl new) (λ old. inr (inr old)) (has_inserted x F B there)

  stands_insert : (x q : Row) (F B : List Row) → Stands x q (F ++ B) → Stands x q (F ++ r ∷ B)
  stands_insert x q [] B h = inr h
  stands_insert x q (l ∷ F) B (inl here) = inl (here.0, has_insert q F B here.1)
  stands_insert x q (l ∷ F) B (inr there) = inr (stands_insert x q F B there)

  times_insert : (j : ℕ) (F B : List Row) → times j (F ++ r ∷ B) ≡ (if r.number == j then suc (times j (F ++ B)) else times j (F ++ B))
  times_insert j [] B = refl
  times_insert j (q ∷ F) B = grind (arith, nat_tests, times_insert j F B)

  change_other : (j : ℕ) (F B : List Row) → r.position ≢ j → change_at j (F ++ r ∷ B) ≡ change_at j (F ++ B)
  change_other j [] B other = grind (arith, nat_tests, other)
  change_other j (q ∷ F) B other = grind (arith, nat_tests, change_other j F B other)

  change_here : (j : ℕ) (F B : List Row) → r.position ≡ j → r.changes ≡ true → change_at j (F ++ B) ≡ [] → change_at j (F ++ r ∷ B) ≡ r ∷ []
  change_here j [] B same does none = grind (arith, nat_tests, same, does, none)
  change_here j (q ∷ F) B same does none = grind (arith, nat_tests, cases_Bool, change_here j F B same does)

-- notes in which a call has changed something at this position
abbrev pub changes_at : Notes → ℕ → ℕ → Notes
changes_at notes a position = record { begun = notes.begun; changed = λ b. if b == a then Some position else notes.changed b; ended = notes.ended }

pub changed_same : (notes : Notes) (a position : ℕ) → (changes_at notes a position).changed a ≡ Some position
changed_same notes a position = grind arith

pub changed_other : (notes : Notes) (a position b : ℕ) → b ≢ a → (changes_at notes a position).changed b ≡ notes.changed b
changed_other notes a position b other = grind arith

-- the row of the change that ends a trace of this length
abbrev pub row_of : Caller → ℕ → Row
row_of caller position = record { number = caller.number; command = caller.command; answer = None; changes = true; position = position }

-- a row was put between two parts of a list
pub record IsInserted (r : Row) (old new : List Row) : Type 0 where
  pub front : List Row
  pub back : List Row
  pub was : old ≡ front ++ back
  pub is : new ≡ front ++ r ∷ back

module _ (callers : List (Option Caller)) (notes : Notes) (a position : ℕ) (caller : Caller) (at : caller_at callers a ≡ Some caller) (none : notes.changed a ≡ None) where
  abbrev later : ℕ → Option ℕ
  later = (changes_at notes a position).changed

  same_row : (b : ℕ) → b ≢ a → pending_row (caller_at callers b) (later b) ≡ pending_row (caller_at callers b) (notes.changed b)
  same_row b other = ap (pending_row (caller_at callers b)) (changed_other notes a position b other)

  same_below : (m : ℕ) → m < a → pending callers later m ≡ pending callers notes.changed m
  same_below zero lt = refl
  same_below (suc m) lt = cc (same_below m (omega (arith, lt)), same_row (suc m) (λ same. omega (arith, lt, same)))

  new_row : pending_row (caller_at callers a) (later a) ≡ row_of caller position ∷ []
  new_row = ap (λ (q : Option ℕ). pending_row (caller_at callers a) q) (changed_same notes a position) ∙ ap (λ (q : Option Caller). pending_row q (Some position)) at

  no_row : pending_row (caller_at callers a) (notes.changed a) ≡ []
  no_row = ap (λ (q : Option ℕ). pending_row (caller_at callers a) q) none ∙ ap (λ (q : Option Caller). pending_row q None) at

  inserted : (m : ℕ) → a ≤ m → IsInserted (row_of caller position) (pending callers notes.changed m) (pending callers later m)
  inserted zero le = absurd (omega (arith, le, (caller_range callers a caller at).0))
  inserted (suc m) le = grind (arith, nat_tests, cases_eq, same_below, no_row, new_row, inserted m, append_assoc, same_row)

  pub inserted_entry : (passes : ℕ) → a ≤ passes → IsInserted (row_of caller position) (entries passes callers notes) (entries passes callers (changes_at notes a position))
  inserted_entry passes le =
      let rest = inserted passes le in
      record {
        front = notes.ended ++ rest.front;
        back = rest.back;
        was = ap (λ (l : List Row). notes.ended ++ l) rest.was ∙ sym (append_assoc notes.ended rest.front rest.back);
        is = ap (λ (l : List Row). notes.ended ++ l) rest.is ∙ sym (append_assoc notes.ended rest.front (row_of caller position ∷ rest.back));
      }

  -- the rows that ended stand before it
  pub ended_front : (passes : ℕ) (le : a ≤ passes) (x : Row) → HasRow x notes.ended → HasRow x (inserted_entry passes le).front
  unfolding inserted_entry
  ended_front passes le x h = has_left x notes.ended (inserted passes le).front h

-- a pending row is that of an open call
pub pending_open : (callers : List (Option Caller)) (changed : ℕ → Option ℕ) (m : ℕ) (x : Row) → HasRow x (pending callers changed m) → (b : ℕ) × (caller : Caller) × (j : ℕ) × (caller_at callers b ≡ Some caller) × (changed b ≡ Some j) × (caller.number ≡ x.number)
pending_open callers changed zero x h = absurd h
pending_open callers changed (suc m) x h = ⊎_elim (λ before. pending_open callers changed m x before) (λ here. go (caller_at callers (suc m)) (changed (suc m)) refl refl here) (has_append x (pending callers changed m) (pending_row (caller_at callers (suc m)) (changed (suc m))) h)
  where
    go : (caller : Option Caller) (j : Option ℕ) → caller_at callers (suc m) ≡ caller → changed (suc m) ≡ j → HasRow x (pending_row caller j) → (b : ℕ) × (c : Caller) × (i : ℕ) × (caller_at callers b ≡ Some c) × (changed b ≡ Some i) × (c.number ≡ x.number)
    go caller j is was h = grind (arith, nat_tests)

no_times : (j : ℕ) (L : List Row) → ((x : Row) → HasRow x L → x.number ≢ j) → times j L ≡ 0
no_times j [] other = refl
no_times j (q ∷ L) other = let here = other q (inl refl) in grind (arith, nat_tests, here, no_times j L (λ x at. other x (inr at)))

-- an open call that has changed nothing has no row
pub no_entry : (n calls passes : ℕ) (callers : List (Option Caller)) (P : Trace) (M : History) (notes : Notes) (a : ℕ) (caller : Caller)
    → caller_at callers a ≡ Some caller → notes.changed a ≡ None → LedgerSound n calls passes callers P M notes → times caller.number (entries passes callers notes) ≡ 0
no_entry n calls passes callers P M notes a caller at none sound = grind (arith, nat_tests, times_append, no_times, pending_open, none-some)

-- the tail of an open call that writes a gate
pub own_tail : (n calls passes : ℕ) (callers : List (Option Caller)) (P : Trace) (M : History) (notes : Notes) (a : ℕ) (caller : Caller)
    → caller_at callers a ≡ Some caller → notes.changed a ≡ None → may_have_tail caller.progress ≡ true → LedgerSound n calls passes callers P M notes
    → HasTail caller.command callers (entries passes callers notes) M
own_tail n calls passes callers P M notes a caller at none may sound = record {
  number = caller.number;
  under_way = sound.open_call a caller at;
  no_row = no_entry n calls passes callers P M notes a caller at none sound;
  stays = λ b one is same. ap (λ (q : Caller). may_have_tail q.progress) (same_Some _ _ (sym is ∙ ap (caller_at callers) (sound.apart b a one caller is at same) ∙ at)) ∙ may;
}

-- A call changes something, which its publishing shows.
module _ (n calls passes : ℕ) (callers : List (Option Caller)) (e : Publishing) (P : Trace) (M : History) (notes : Notes) (a : ℕ) (caller : Caller) (at : caller_at callers a ≡ Some caller) (le : a ≤ passes) (none : notes.changed a ≡ None)
    (shows : changes_key (key_of caller.command) e ≡ true) (was : reply caller.command (member (key_of caller.command) P) ≡ true) (tells : IsChangeOf e (row_of caller (length P) ∷ [])) (sound : LedgerSound n calls passes callers P M notes) where
  abbrev r : Row
  r = row_of caller (length P)

  abbrev notes' : Notes
  notes' = changes_at notes a (length P)

  abbrev old : List Row
  old = entries passes callers notes

  parts : IsInserted r old (entries passes callers notes')
  parts = inserted_entry callers notes a (length P) caller at none passes le

  under_way : IsUnderWay M caller.number caller.command
  under_way = sound.open_call a caller at

  -- the call has no row yet
  not_listed : times caller.number old ≡ 0
  not_listed = grind (arith, nat_tests, times_append, no_times, pending_open, none-some)

  upto_now : upto (length P) (e ∷ P) ≡ P
  upto_now = upto_more (length P) e P (omega arith) ∙ upto_all (length P) P (omega arith)

  row_is : IsRowOf n (e ∷ P) r
  row_is = grind (arith, was, upto_now, last_publishing)

  row_in : IsRowIn M r
  row_in = grind arith

  -- a row whose call was answered has ended
  answered_front : (x : Row) (b : Bool) → HasRow x old → IsAnswered M x.number b → HasRow x parts.front
  unfolding parts inserted_entry
  answered_front x b h is = ⊎_elim
      (λ ended. ended_front callers notes a (length P) caller at none passes le x ended)
      (λ open_row.
      let found = pending_open callers notes.changed passes x open_row in
      absurd ((sound.open_call found.0 found.1 found.3).no_answer b (subst (λ (j : ℕ). IsAnswered M j b) (sym found.5) is)))
      (has_append x notes.ended (pending callers notes.changed passes) h)

  grown : IsLedger n (e ∷ P) (parts.front ++ parts.back) [] M
  grown = subst (λ (l : List Row). IsLedger n (e ∷ P) l [] M) parts.was (ledger_grows n e P old M sound.ledger)

  is_old : (x : Row) → HasRow x (parts.front ++ parts.back) → HasRow x old
  is_old x h = subst (HasRow x) (sym parts.was) h

  in_order : (x q : Row) → HasRow x (parts.front ++ r ∷ parts.back) → HasRow q (parts.front ++ r ∷ parts.back) → IsBefore M x.number q.number → Stands x q (parts.front ++ r ∷ parts.back) × (x.position ≤ q.position) × (x.position ≡ q.position → x.changes ≡ false)
  in_order x q at_x at_q before = ⊎_elim
      (λ new. let found = was_answered x.number q.number M before in absurd (under_way.no_answer found.0 (subst (λ (j : ℕ). IsAnswered M j found.0) (ap (λ (z : Row). z.number) (sym new)) found.1)))
      (λ old_x. ⊎_elim
      (λ new_q. let found = was_answered x.number q.number M before in last x q old_x new_q found.0 found.1)
      (λ old_q. let was_order = grown.order x q old_x old_q before in (stands_insert r x q parts.front parts.back was_order.0, was_order.1, was_order.2))
      (has_inserted r q parts.front parts.back at_q))
      (has_inserted r x parts.front parts.back at_x)
    where
      last : (x q : Row) → HasRow x (parts.front ++ parts.back) → r ≡ q → (b : Bool) → IsAnswered M x.number b → Stands x q (parts.front ++ r ∷ parts.back) × (x.position ≤ q.position) × (x.position ≡ q.position → x.changes ≡ false)
      last x q at_x new b is =
          let row = each_has (IsRowOf n P) x old sound.ledger.each (is_old x at_x) in
          let position : q.position ≡ length P = ap (λ (z : Row). z.position) (sym new) in (
            stands_across x q parts.front (r ∷ parts.back) (answered_front x b (is_old x at_x) is) (inl new),
            omega (arith, row.late, position),
            λ same. elim (cases_Bool x.changes) [
              | inl does ↦ absurd (omega (arith, (row.changing does).within, same, position))
              | inr quiet ↦ quiet
            ],
          )

  ledger_now : IsLedger n (e ∷ P) (parts.front ++ r ∷ parts.back) [] M
  ledger_now = record {
    each = each_insert r (IsRowOf n (e ∷ P)) parts.front parts.back row_is grown.each;
    calls = subst (Each (IsRowIn M)) (sym (append-nil (parts.front ++ r ∷ parts.back))) (each_insert r (IsRowIn M) parts.front parts.back row_in (subst (Each (IsRowIn M)) (append-nil (parts.front ++ parts.back)) grown.calls));
    tail_open = tt;
    once = λ j. once_now j;
    answered = λ j b is. let found = grown.answered j b is in (found.0, has_insert r found.0 parts.front parts.back found.1, found.2);
    order = in_order;
  }
    where
      once_now : (j : ℕ) → times j (parts.front ++ r ∷ parts.back) + 0 ≤ 1
      once_now j = grind (arith, nat_tests, eqb_tells, parts, not_listed, times_insert, grown)

  pub ledger_changed : LedgerSound n calls passes callers (e ∷ P) M notes'
  ledger_changed = record {
    opened = omega (arith, sound.opened);
    ledger = subst (λ (l : List Row). IsLedger n (e ∷ P) l [] M) (sym parts.is) ledger_now;
    settled = subst (Each (IsSettledEntry (e ∷ P))) (sym parts.is) (each_insert r (IsSettledEntry (e ∷ P)) parts.front parts.back
        (record { told = λ does answered. absurd (none-some _ answered) }) (subst (Each (IsSettledEntry (e ∷ P))) parts.was
        (settled_grow n e P old sound.ledger.each sound.settled)));
    changes = λ j early late. subst (λ (l : List Row). IsChangeOf (publishing j (e ∷ P)) (change_at j l)) (sym parts.is) (change_then j early late);
    numbered = sound.numbered;
    refused = sound.refused;
    one_call = sound.one_call;
    open_call = sound.open_call;
    apart = sound.apart;
    unlisted = sound.unlisted;
  }
    where
      change_then : (j : ℕ) → n ≤ j → j < length (e ∷ P) → IsChangeOf (publishing j (e ∷ P)) (change_at j (parts.front ++ r ∷ parts.back))
      change_then j early late = grind (arith, nat_tests, cases_lt, parts, publishing_more, change_other, last_publishing, change_here, none_late)

  -- the tails of other commands have no row still
  pub tail_changed : (d : Command) → (d ≡ caller.command → ⊥) → HasTail d callers old M → HasTail d callers (entries passes callers notes') M
  tail_changed d other h = record {
    number = h.number;
    under_way = h.under_way;
    stays = h.stays;
    no_row = elim (eqb_tells caller.number h.number) [
      | inl same ↦ absurd (other (sound.one_call h.number d caller.command h.under_way.called (subst (λ (j : ℕ). IsCalled M j caller.command) same.1 under_way.called)))
      | inr apart ↦
          let count : times h.number (parts.front ++ r ∷ parts.back) ≡ times h.number (parts.front ++ parts.back) = times_insert r h.number parts.front parts.back ∙ rw apart.0 refl in
          ap (times h.number) parts.is ∙ count ∙ ap (times h.number) (sym parts.was) ∙ h.no_row
    ];
  }
