-- The ledger stays when the trace grows by a publishing that changes no membership.
use Rattle.std.proofs.{Common.{◌≡◌, inl, inr, ℕ, ◌≤◌, List, [], ◌∷◌, length, refl, sym, subst, arith}, lemmas.Bool.{cases_Bool, cases_lt, Decides.{nat_tests}}}
use Rattle.std.specs.Prelude.{Option}
use Rattle.lz_slot.specs.Histories.{History}
use Rattle.lz_list.specs.{declared.publishing.Publishing.{Publishing, TheVariants.{Linked as linked, Marked as marked}}, Traces.{Trace}}
use Rattle.lz_machine.specs.{Runs.{Caller}, Ledgers.{Row, Each, change_at}, Kept.{publishing, IsRowOf}, Entries.{IsLedger, IsSettledEntry, IsChangeOf}}
use Rattle.lz_machine.{specs.{Notes.{Notes, entries}, LedgerSound.{LedgerSound}}, proofs.Ledger.{Fit.{each_has, each_all}, Answers.{each_weaker}}}
use Rattle.lz_machine.proofs.Ledger.Growth.{row_stays, upto_more, publishing_more, yes_stays, no_stays}

-- no row changes anything past the end of the trace
pub none_late : (n j : ℕ) (P : Trace) (rows : List Row) → length P ≤ j → Each (IsRowOf n P) rows → change_at j rows ≡ []
none_late n j P [] late h = refl
none_late n j P (r ∷ rows) late h = grind (arith, nat_tests, cases_Bool, none_late n j P rows late h.1)

pub last_publishing : (e : Publishing) (P : Trace) → publishing (length P) (e ∷ P) ≡ e
last_publishing e P = grind arith

-- it is no linking and no marking
abbrev pub IsNoChange : Publishing → Type 0
IsNoChange (linked k s p) = ⊥
IsNoChange (marked k s p) = ⊥
IsNoChange _ = Unit {0}

pub no_change : (e : Publishing) (L : List Row) → IsNoChange e → L ≡ [] → IsChangeOf e L
no_change e L none is = grind (arith, nat_tests)

-- what is said of settled rows
pub entry_stays : (n : ℕ) (e : Publishing) (P : Trace) (r : Row) → IsRowOf n P r → IsSettledEntry P r → IsSettledEntry (e ∷ P) r
entry_stays n e P r row h = grind (arith, upto_more, yes_stays, no_stays)

pub ledger_grows : (n : ℕ) (e : Publishing) (P : Trace) (rows : List Row) (M : History) → IsLedger n P rows [] M → IsLedger n (e ∷ P) rows [] M
ledger_grows n e P rows M h = record {
  each = each_weaker (IsRowOf n P) (IsRowOf n (e ∷ P)) (row_stays e P n) rows h.each;
  calls = h.calls;
  tail_open = h.tail_open;
  once = h.once;
  answered = h.answered;
  order = h.order;
}

pub settled_grow : (n : ℕ) (e : Publishing) (P : Trace) (rows : List Row) → Each (IsRowOf n P) rows → Each (IsSettledEntry P) rows → Each (IsSettledEntry (e ∷ P)) rows
settled_grow n e P rows each h = each_all (IsSettledEntry (e ∷ P)) rows (λ r at. entry_stays n e P r (each_has (IsRowOf n P) r rows each at) (each_has (IsSettledEntry P) r rows h at))

pub ledger_published : (n calls passes : ℕ) (callers : List (Option Caller)) (e : Publishing) (P : Trace) (M : History) (notes : Notes) → IsNoChange e → LedgerSound n calls passes callers P M notes → LedgerSound n calls passes callers (e ∷ P) M notes
ledger_published n calls passes callers e P M notes none h = record {
  opened = omega (arith, h.opened);
  ledger = ledger_grows n e P (entries passes callers notes) M h.ledger;
  settled = settled_grow n e P (entries passes callers notes) h.ledger.each h.settled;
  changes = λ j early late. elim (cases_lt j (length P)) [
    | inl within ↦ subst (λ (f : Publishing). IsChangeOf f (change_at j (entries passes callers notes))) (sym (publishing_more j e P within)) (h.changes j early within)
    | inr past ↦
        let last : length P ≡ j = omega (arith, past, late) in
        subst (λ (q : ℕ). IsChangeOf (publishing q (e ∷ P)) (change_at q (entries passes callers notes))) last
        (subst (λ (f : Publishing). IsChangeOf f (change_at (length P) (entries passes callers notes))) (sym (last_publishing e P)) (no_change e (change_at (length P) (entries passes callers notes)) none (none_late n (length P) P (entries passes callers notes) (omega arith) h.ledger.each)))
  ];
  numbered = h.numbered;
  refused = h.refused;
  one_call = h.one_call;
  open_call = h.open_call;
  apart = h.apart;
  unlisted = h.unlisted;
}
