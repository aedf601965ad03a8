-- A call that was made after another one's answer has pinned after it, after each turn, look and pin too. And the life began as before.
use Rattle.std.proofs.Common.{◌≡◌, ◌≢◌, ◌⊎◌, ⊎_elim, inl, inr, ℕ, ◌≤◌, Bool, false, List, [], ◌∷◌, ◌++◌, length, Option, Some, None, refl, sym, ◌∙◌, subst}
use Rattle.std.proofs.{Common.{arith}, lemmas.{Bool.{cases_Bool, cases_eq}, Option.{none-some}}}
use Rattle.lz_slot.{specs.{Sets.{Keys}, Counted.{set_of_pass}, Histories.{History, IsAnswered}}, proofs.Counted.{of_pass_same, of_pass_other}}
use Rattle.lz_list.specs.Traces.{Trace}
use Rattle.lz_machine.specs.{declared.caller.Progress.{Progress}, Runs.{Caller, caller_at}, Ledgers.{Row, HasRow}, Kept.{upto, IsRowOf}, Notes.{Notes, entries}}
use Rattle.lz_machine.{specs.{Yards.{pin_in, IsInside}, LedgerSound.{LedgerSound}, Sound.{HasBegun, IsAfter}}, proofs.Ledger.Fit.{each_has, was_answered}}
use Rattle.lz_machine.proofs.Ledger.{Growth.{upto_more}, Change.{IsInserted, changes_at, row_of, inserted_entry}}
use Rattle.lz_machine.proofs.{Frames.OneActor.{moving, number_still, same_entries}, Steps.Pin.{begins_now, begun_same, begun_other}}

-- a turn may add rows of calls that have no answer
abbrev pub AddsOpen : List Row → List Row → History → Type 0
AddsOpen rows rows' M = (r : Row) → HasRow r rows' → HasRow r rows ⊎ ((answer : Bool) → ¬ IsAnswered M r.number answer)

-- a turn that leaves pins and history
pub turn_after : (pins pins' : List ℕ) (callers : List (Option Caller)) (a : ℕ) (caller : Caller) (at : caller_at callers a ≡ Some caller) (next : Progress) (rows rows' : List Row) (M : History) (begun : ℕ → Trace)
    → pins' ≡ pins → AddsOpen rows rows' M → IsAfter pins callers rows M begun → IsAfter pins' (moving callers a caller next) rows' M begun
turn_after pins pins' callers a caller at next rows rows' M begun same adds h = grind (arith, number_still, was_answered)

-- the same rows add none
pub adds_none : (rows rows' : List Row) (M : History) → rows' ≡ rows → AddsOpen rows rows' M
adds_none rows rows' M same r has = inl (subst (HasRow r) same has)

has_part : (r new : Row) (front back : List Row) → HasRow r (front ++ new ∷ back) → HasRow r (front ++ back) ⊎ (new ≡ r)
has_part r new [] back (inl here) = inr here
has_part r new [] back (inr there) = inl there
has_part r new (l ∷ front) back (inl here) = inl (inl here)
has_part r new (l ∷ front) back (inr there) = ⊎_elim (λ old. inl (inr old)) (λ e. inr e) (has_part r new front back there)

-- a call that is under way gets its row
pub adds_row : (rows rows' : List Row) (M : History) (new : Row) → IsInserted new rows rows' → ((answer : Bool) → ¬ IsAnswered M new.number answer) → AddsOpen rows rows' M
adds_row rows rows' M new put none r has = ⊎_elim
    (λ old. inl (subst (HasRow r) (sym put.was) old))
    (λ e. inr (λ answer is. none answer (subst (λ (q : Row). IsAnswered M q.number answer) (sym e) is)))
    (has_part r new put.front put.back (subst (HasRow r) put.is has))

-- the caller that has changed something
pub adds_change : (n calls passes : ℕ) (callers : List (Option Caller)) (P : Trace) (M : History) (notes : Notes) (a position : ℕ) (caller : Caller) (at : caller_at callers a ≡ Some caller) (next : Progress) → notes.changed a ≡ None → a ≤ passes → LedgerSound n calls passes callers P M notes
    → AddsOpen (entries passes callers notes) (entries passes (moving callers a caller next) (changes_at notes a position)) M
adds_change n calls passes callers P M notes a position caller at next none le ledger =
    subst (λ (rows : List Row). AddsOpen (entries passes callers notes) rows M) (sym (same_entries callers a caller at next passes (changes_at notes a position)))
    (adds_row (entries passes callers notes) (entries passes callers (changes_at notes a position)) M (row_of caller position) (inserted_entry callers notes a position caller at none passes le) (ledger.open_call a caller at).no_answer)

-- a pin: each row stands at it at the latest, and each change before it
module _ (n calls passes : ℕ) (callers : List (Option Caller)) (P : Trace) (M : History) (notes : Notes) (ledger : LedgerSound n calls passes callers P M notes) where
  row_is : (r : Row) → HasRow r (entries passes callers notes) → IsRowOf n P r
  row_is r has = each_has (IsRowOf n P) r (entries passes callers notes) ledger.ledger.each has

  at_pin : (r : Row) → HasRow r (entries passes callers notes) → (r.position ≤ length P) × (r.position ≡ length P → r.changes ≡ false)
  at_pin r has = grind (arith, row_is, cases_Bool)

  -- the callers may be others, with the same numbers
  pub pin_after : (pins : List ℕ) (a v : ℕ) (callers' : List (Option Caller)) → ((b : ℕ) → b ≢ a → caller_at callers' b ≡ caller_at callers b) → (rows' : List Row) → rows' ≡ entries passes callers notes
      → IsAfter pins callers (entries passes callers notes) M notes.begun → IsAfter (set_of_pass pins a v) callers' rows' M (begins_now notes a P).begun
  pin_after pins a v callers' others rows' same h = grind (arith, cases_eq, begun_same, at_pin, begun_other, of_pass_other)

-- the pass that goes in does so in this life
pub since_pin : (n : ℕ) (pins : List ℕ) (P : Trace) (notes : Notes) (a v : ℕ) → n ≤ length P → ((b : ℕ) → IsInside (pin_in pins b) → n ≤ length (notes.begun b)) → (b : ℕ) → IsInside (pin_in (set_of_pass pins a v) b) → n ≤ length ((begins_now notes a P).begun b)
since_pin n pins P notes a v opened h b inside = grind (arith, cases_eq, begun_same, begun_other, of_pass_other)

-- a pass that goes out
pub since_out : (n : ℕ) (pins : List ℕ) (begun : ℕ → Trace) (a v : ℕ) → IsInside (pin_in pins a) ⊎ (IsInside v → ⊥) → 1 ≤ a → a ≤ length pins → ((b : ℕ) → IsInside (pin_in pins b) → n ≤ length (begun b)) → (b : ℕ) → IsInside (pin_in (set_of_pass pins a v) b) → n ≤ length (begun b)
since_out n pins begun a v outside low high h b inside = grind (arith, cases_eq, of_pass_same, of_pass_other)

-- a pass without a call that goes out
pub out_after : (pins : List ℕ) (a v : ℕ) (callers : List (Option Caller)) (rows : List Row) (M : History) (begun : ℕ → Trace) → caller_at callers a ≡ None
    → IsAfter pins callers rows M begun → IsAfter (set_of_pass pins a v) callers rows M begun
out_after pins a v callers rows M begun none h = grind (arith, cases_eq, none-some, of_pass_other)

longer : (Q P : Trace) → length P ≤ length (Q ++ P)
longer [] P = omega arith
longer (e ∷ Q) P = omega (arith, longer Q P)

-- the first publishings stay
pub upto_grown : (n : ℕ) (Q P : Trace) → n ≤ length P → upto n (Q ++ P) ≡ upto n P
upto_grown n [] P le = refl
upto_grown n (e ∷ Q) P le = upto_more n e (Q ++ P) (omega (arith, le, longer Q P)) ∙ upto_grown n Q P le

-- so the life began as it did
pub begun_grown : (n : ℕ) (found : Keys) (Q P : Trace) → n ≤ length P → HasBegun n found P → HasBegun n found (Q ++ P)
begun_grown n found Q P le h = grind (arith, upto_grown)
