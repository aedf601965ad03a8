-- A new call keeps the invariant.
use Rattle.std.proofs.Common.{◌≡◌, ◌≢◌, ⊎_elim, inl, inr, ℕ, zero, suc, ◌≤◌, ◌%◌, Bool, false, List, [], ◌∷◌, ◌++◌, length, Option, Some, None, refl, sym, ap}
use Rattle.std.proofs.{Common.{◌∙◌, subst, arith}, lemmas.{Bool.{cases_eq, Decides.{nat_tests}}, Option.{same_Some}}}
use mathlib.Core.Bool.{false≢true}
use Rattle.lz_slot.specs.{Sets.{Keys}, declared.{command.Command.{Command, TheVariants.{Add, Remove}}, history.HistoryEvent.{HistoryEvent}}}
use Rattle.lz_slot.specs.{declared.history.HistoryEvent.TheVariants.{Call, Answer, Refused}, Counted.{set_of_pass}}
use Rattle.lz_slot.{specs.Histories.{History, IsCalled, IsAnswered, IsUnderWay, Life}, proofs.Counted.{of_pass_same, of_pass_other, length-set_of_pass}}
use Rattle.lz_disk.specs.Images.{Medium}
use Rattle.lz_list.specs.Traces.{Trace}
use Rattle.lz_machine.specs.{declared.caller.Progress.{Progress}, Calls.{begun}, Kept.{publishing}, Ledgers.{Row, HasRow, Each, change_at, times}}
use Rattle.lz_machine.specs.{Entries.{IsRowIn, IsLedger, IsSettledEntry, IsChangeOf}, Runs.{Service, Caller, Up, Calls, MayStep, invoked, caller_at}}
use Rattle.lz_machine.specs.{Yards.{Yard, pin_in, actor_in, cell_in, IsInside}, Table.{pin_of, is_old as is_old_file}}
use Rattle.lz_machine.specs.{Notes.{Notes, pending_row, pending, entries}, CallersSound.{IsSide, IsEmptyHanded, Relies, view_of, CallerSound, CallersSound}}
use Rattle.lz_machine.{specs.{LedgerSound.{LedgerSound, HasTail, TailsSound}, Sound.{Sound, IsAfter, UpSound}}, proofs.Frames.ActorTable.{by_actor}}
use Rattle.lz_machine.proofs.{Frames.{Outside.{even_of}, Refusal.{begun_side, begun_relies, noted_refusal, invoked_up}}, Ledger.Fit.{each_has}}
use Rattle.lz_machine.proofs.{Ledger.{Answers.{each_weaker}, Order.{has_left}, CallMark.{number_of, is_call}}, Runs.CallerTable.{none_of}}

-- the mark of a call is no other mark
clash : {i a : ℕ} {c : Command} (m : HistoryEvent) → is_call m ≡ false → Call i a c ≡ m → ⊥
clash m other e = false≢true (sym other ∙ sym (ap is_call e))

called_same : {i j a b : ℕ} {c d : Command} → Call i a c ≡ Call j b d → c ≡ d
called_same e = cc

abbrev started : ℕ → Command → Progress → Caller
started i c first = record { number = i; command = c; progress = first }

-- the callers where actor a has begun call i
abbrev pub calling : List (Option Caller) → ℕ → ℕ → Command → Progress → List (Option Caller)
calling callers a i c first = set_of_pass callers a (Some (started i c first))

-- a caller that has changed nothing has no pending row
pub pending_none : (caller : Option Caller) → pending_row caller None ≡ []
pending_none caller = grind (arith, nat_tests)

-- no row of the list has this number
none_above : (i calls : ℕ) (L : List Row) → ((r : Row) → HasRow r L → r.number ≤ calls) → i ≡ suc calls → times i L ≡ 0
none_above i calls [] below is = refl
none_above i calls (r ∷ L) below is =
    let le : r.number ≤ calls = below r (inl refl) in
    grind (arith, nat_tests, none_above i calls L (λ q at. below q (inr at)) is)

module _ (callers : List (Option Caller)) (a i : ℕ) (c : Command) (first : Progress) where
  pub is_old : (b : ℕ) → b ≢ a → caller_at (calling callers a i c first) b ≡ caller_at callers b
  is_old b other = of_pass_other callers a b (Some (started i c first)) None other

  is_new : (b : ℕ) → b ≡ a → 1 ≤ a → a ≤ length callers → caller_at (calling callers a i c first) b ≡ Some (started i c first)
  is_new b same low high = subst (λ (q : ℕ). caller_at (calling callers a i c first) q ≡ Some (started i c first)) (sym same) (of_pass_same callers a (Some (started i c first)) None low high)

  -- the callers are those of before, and the new one
  is_begun : (b : ℕ) (caller : Caller) → b ≡ a → 1 ≤ a → a ≤ length callers → caller_at (calling callers a i c first) b ≡ Some caller → started i c first ≡ caller
  is_begun b caller same low high at = same_Some _ _ (sym (is_new b same low high) ∙ at)

  module _ (changed : ℕ → Option ℕ) (free : changed a ≡ None) where
    same_row : (b : ℕ) → pending_row (caller_at (calling callers a i c first) b) (changed b) ≡ pending_row (caller_at callers b) (changed b)
    same_row b = grind (arith, nat_tests, cases_eq, free, pending_none, is_old)

    pub same_pending : (m : ℕ) → pending (calling callers a i c first) changed m ≡ pending callers changed m
    same_pending zero = refl
    same_pending (suc m) = cc (same_pending m, same_row (suc m))

under_way_still : (M : History) (number a : ℕ) (c : Command) (i : ℕ) (d : Command) → IsUnderWay M i d → IsUnderWay (Call number a c ∷ M) i d
under_way_still M number a c i d h = grind arith

module _ (n calls passes a : ℕ) (c : Command) (first : Progress) (callers : List (Option Caller)) (P : Trace) (M : History) (notes : Notes) (free : notes.changed a ≡ None) (sound : LedgerSound n calls passes callers P M notes) where
  pub same_entries : entries passes (calling callers a (suc calls) c first) notes ≡ entries passes callers notes
  same_entries = ap (λ (rows : List Row). notes.ended ++ rows) (same_pending callers a (suc calls) c first notes.changed free passes)

  row_still : (r : Row) → IsRowIn M r → IsRowIn (Call (suc calls) a c ∷ M) r
  row_still r h = grind arith

  below : (r : Row) → IsRowIn M r → r.number ≤ calls
  below r h = sound.numbered r.number r.command h.is_called

  row_below : (r : Row) → HasRow r (entries passes callers notes) → r.number ≤ calls
  row_below r at = below r (each_has (IsRowIn M) r (entries passes callers notes ++ []) sound.ledger.calls (has_left r (entries passes callers notes) [] at))

  -- the rows are a ledger of the longer history too
  ledger_still : IsLedger n P (entries passes callers notes) [] (Call (suc calls) a c ∷ M)
  ledger_still = grind (arith, each_weaker, row_still, clash, row_below)

  answered_below : (i : ℕ) (answer : Bool) → IsAnswered M i answer → i ≤ calls
  answered_below i answer is = grind (arith, row_below)

  new_under_way : IsUnderWay (Call (suc calls) a c ∷ M) (suc calls) c
  new_under_way = record {
    called = (a, inl refl);
    no_answer = λ answer is. ⊎_elim (λ e. clash (Answer (suc calls) answer) refl e) (λ there. omega (arith, answered_below (suc calls) answer there)) is;
    no_refusal = λ is. ⊎_elim (λ e. clash (Refused (suc calls) is.0) refl e) (λ there. omega (arith, sound.refused (suc calls) (is.0, there))) is.1;
  }

  open_below : (b : ℕ) (caller : Caller) → caller_at callers b ≡ Some caller → caller.number ≤ calls
  open_below b caller at = sound.numbered caller.number caller.command (sound.open_call b caller at).called

  one_call : (i : ℕ) (d e : Command) → IsCalled (Call (suc calls) a c ∷ M) i d → IsCalled (Call (suc calls) a c ∷ M) i e → d ≡ e
  one_call i d e (b, inl new) (b', inl other) = sym (called_same new) ∙ called_same other
  one_call i d e (b, inl new) (b', inr there) = absurd (omega (arith, ap number_of new, sound.numbered i e (b', there)))
  one_call i d e (b, inr there) (b', inl new) = absurd (omega (arith, ap number_of new, sound.numbered i d (b, there)))
  one_call i d e (b, inr there) (b', inr other) = sound.one_call i d e (b, there) (b', other)

  pub calling_ledger : 1 ≤ a → a ≤ length callers → LedgerSound n (suc calls) passes (calling callers a (suc calls) c first) P (Call (suc calls) a c ∷ M) notes
  calling_ledger low high = record {
    opened = sound.opened;
    ledger = subst (λ (rows : List Row). IsLedger n P rows [] (Call (suc calls) a c ∷ M)) (sym same_entries) ledger_still;
    settled = subst (Each (IsSettledEntry P)) (sym same_entries) sound.settled;
    changes = λ j early late. subst (λ (rows : List Row). IsChangeOf (publishing j P) (change_at j rows)) (sym same_entries) (sound.changes j early late);
    numbered = λ i d is. ⊎_elim (λ e. omega (arith, ap number_of e)) (λ there. omega (arith, sound.numbered i d (is.0, there))) is.1;
    refused = λ i is. ⊎_elim (λ e. absurd (clash (Refused i is.0) refl e)) (λ there. omega (arith, sound.refused i (is.0, there))) is.1;
    one_call = one_call;
    open_call = λ b caller at. elim (cases_eq b a) [
      | inl same ↦ subst (λ (q : Caller). IsUnderWay (Call (suc calls) a c ∷ M) q.number q.command) (new b caller same at) new_under_way
      | inr other ↦ under_way_still M (suc calls) a c caller.number caller.command (sound.open_call b caller (old b caller other at))
    ];
    apart = λ b d one two at_b at_d is. elim (cases_eq b a) [
      | inl same ↦ elim (cases_eq d a) [
        | inl also ↦ same ∙ sym also
        | inr other ↦ absurd (omega (arith, ap (λ (q : Caller). q.number) (new b one same at_b), is, open_below d two (old d two other at_d)))
      ]
      | inr other ↦ elim (cases_eq d a) [
        | inl also ↦ absurd (omega (arith, ap (λ (q : Caller). q.number) (new d two also at_d), is, open_below b one (old b one other at_b)))
        | inr too ↦ sound.apart b d one two (old b one other at_b) (old d two too at_d) is
      ]
    ];
    unlisted = λ b caller at. elim (cases_eq b a) [
      | inl same ↦ none_above caller.number calls notes.ended (λ r there. row_below r (has_left r notes.ended _ there)) (sym (ap (λ (q : Caller). q.number) (new b caller same at)))
      | inr other ↦ sound.unlisted b caller (old b caller other at)
    ];
  }
    where
      new : (b : ℕ) (caller : Caller) → b ≡ a → caller_at (calling callers a (suc calls) c first) b ≡ Some caller → started (suc calls) c first ≡ caller
      new b caller same at = is_begun callers a (suc calls) c first b caller same low high at

      old : (b : ℕ) (caller : Caller) → b ≢ a → caller_at (calling callers a (suc calls) c first) b ≡ Some caller → caller_at callers b ≡ Some caller
      old b caller other at = sym (is_old callers a (suc calls) c first b other) ∙ at

-- a tail's call was made before
tail_still : (M : History) (calls a : ℕ) (c d : Command) (first : Progress) (callers : List (Option Caller)) (rows rows' : List Row) → rows' ≡ rows → (low : 1 ≤ a) (high : a ≤ length callers)
    → ((i : ℕ) (e : Command) → IsCalled M i e → i ≤ calls) → HasTail d callers rows M → HasTail d (calling callers a (suc calls) c first) rows' (Call (suc calls) a c ∷ M)
tail_still M calls a c d first callers rows rows' same low high below h = record {
  number = h.number;
  under_way = under_way_still M (suc calls) a c h.number d h.under_way;
  no_row = ap (times h.number) same ∙ h.no_row;
  stays = λ b one at number. elim (cases_eq b a) [
    | inl it ↦ absurd (omega (arith, below h.number d h.under_way.called, number, ap (λ (q : Caller). q.number) (is_begun callers a (suc calls) c first b one it low high at)))
    | inr other ↦ h.stays b one (sym (is_old callers a (suc calls) c first b other) ∙ at) number
  ];
}

module _ (n calls a : ℕ) (c : Command) (y : Yard) (callers : List (Option Caller)) (disk : Medium) (P : Trace) (M : History) (notes : Notes) (low : 1 ≤ a)
    (high : a ≤ length callers) (none : caller_at callers a ≡ None) (even : pin_in y.words.pins a % 2 ≡ 0) (first : Progress)
    (side : IsSide (pin_in y.words.pins a) first)
    (relies : IsEmptyHanded (actor_in y.actors a) P → notes.changed a ≡ None → Relies (view_of y.shape y.vault y.actors a) c first (notes.begun a) P (notes.changed a)) where
  new_caller : CallersSound y.shape y.vault y.words.pins y.actors callers P notes → CallerSound (view_of y.shape y.vault y.actors a) (pin_in y.words.pins a) (Some (started (suc calls) c first)) (notes.begun a) P (notes.changed a)
  new_caller h = grind (arith, none)

  calling_callers : CallersSound y.shape y.vault y.words.pins y.actors callers P notes → CallersSound y.shape y.vault y.words.pins y.actors (calling callers a (suc calls) c first) P notes
  calling_callers h = record {
    count = length-set_of_pass callers a (Some (started (suc calls) c first)) ∙ h.count;
    hands = h.hands;
    each = by_actor (λ b. CallerSound (view_of y.shape y.vault y.actors b) (pin_in y.words.pins b) (caller_at (calling callers a (suc calls) c first) b) (notes.begun b) P (notes.changed b)) a
        (subst (λ (q : Option Caller). CallerSound (view_of y.shape y.vault y.actors a) (pin_in y.words.pins a) q (notes.begun a) P (notes.changed a)) (sym (of_pass_same callers a (Some (started (suc calls) c first)) None low high)) (new_caller h))
        (λ b other. subst (λ (q : Option Caller). CallerSound (view_of y.shape y.vault y.actors b) (pin_in y.words.pins b) q (notes.begun b) P (notes.changed b)) (sym (is_old callers a (suc calls) c first b other)) (h.each b));
  }

  free : CallersSound y.shape y.vault y.words.pins y.actors callers P notes → notes.changed a ≡ None
  free h = (subst (λ (q : Option Caller). CallerSound (view_of y.shape y.vault y.actors a) (pin_in y.words.pins a) q (notes.begun a) P (notes.changed a)) none (h.each a)).stands.1

  calling_tails : CallersSound y.shape y.vault y.words.pins y.actors callers P notes → LedgerSound n calls y.shape.passes callers P M notes
      → TailsSound y.shape y.vault.cells y.actors P callers (entries y.shape.passes callers notes) M → TailsSound y.shape y.vault.cells y.actors P
      (calling callers a (suc calls) c first) (entries y.shape.passes (calling callers a (suc calls) c first) notes) (Call (suc calls) a c ∷ M)
  calling_tails old ledger h =
      let same = same_entries n calls y.shape.passes a c first callers P M notes (free old) ledger in
      record {
        adding = λ b s hand opened. tail_still M calls a c (Add (cell_in y.vault.cells s).key) first callers _ _ same low high ledger.numbered (h.adding b s hand opened);
        removing = λ s there unmarked written. tail_still M calls a c (Remove (cell_in y.vault.cells s).key) first callers _ _ same low high ledger.numbered (h.removing s there unmarked written);
      }

  pub calling_sound : Sound n calls y callers disk M P notes → Sound n (suc calls) y (calling callers a (suc calls) c first) disk (Call (suc calls) a c ∷ M) P notes
  calling_sound h = record {
    trace = h.trace;
    images = h.images;
    slots = h.slots;
    locks = h.locks;
    callers = calling_callers h.callers;
    reuse = h.reuse;
    ledger = calling_ledger n calls y.shape.passes a c first callers P M notes (free h.callers) h.ledger low high;
    tails = calling_tails h.callers h.ledger h.tails;
  }

  -- the new call is outside, and no row's call was answered before an older one by it
  calling_after : CallersSound y.shape y.vault y.words.pins y.actors callers P notes → LedgerSound n calls y.shape.passes callers P M notes
      → IsAfter y.words.pins callers (entries y.shape.passes callers notes) M notes.begun
      → IsAfter y.words.pins (calling callers a (suc calls) c first) (entries y.shape.passes (calling callers a (suc calls) c first) notes) (Call (suc calls) a c ∷ M) notes.begun
  calling_after old ledger h =
      let same = same_entries n calls y.shape.passes a c first callers P M notes (free old) ledger in
      record {
        each = λ b caller r at inside has before. elim (cases_eq b a) [
          | inl is ↦ absurd (omega (arith, even, subst (λ (q : ℕ). IsInside (pin_in y.words.pins q)) is inside))
          | inr other ↦
              let was : caller_at callers b ≡ Some caller = sym (is_old callers a (suc calls) c first b other) ∙ at in
              ⊎_elim (λ new. absurd (omega (arith, ap number_of new.3, ledger.numbered caller.number caller.command (ledger.open_call b caller was).called)))
              (λ there. h.each b caller r was inside (subst (HasRow r) same has) there)
              before
        ];
      }

  pub calling_up : (start : Keys) → UpSound n calls (record { yard = y; callers = callers }) disk (record { start = start; history = M }) P notes
      → UpSound n (suc calls) (record { yard = y; callers = calling callers a (suc calls) c first }) disk (record { start = start; history = Call (suc calls) a c ∷ M }) P notes
  calling_up start h = grind (arith, nat_tests, calling_sound, calling_after)

-- a call that may begin keeps the invariant of an open service
module _ (n calls : ℕ) (service : Service) (disk : Medium) (life : Life) (P : Trace) (notes : Notes) (a : ℕ) (c : Command) (may : MayStep (Up service disk) (Calls a c)) (up : UpSound n calls service disk life P notes) where
  none : caller_at service.callers a ≡ None
  none = none_of (caller_at service.callers a) may.1

  in_callers : a ≤ length service.callers
  in_callers = omega (arith, may.0.1, up.sound.callers.count)

  in_actors : a ≤ length service.yard.actors
  in_actors = omega (arith, may.0.1, up.sound.callers.hands)

  pub call_up : UpSound n (suc calls) (record { yard = invoked service.yard a c; callers = calling service.callers a (suc calls) c (begun service.yard.vault.format c) }) disk
      (record { start = life.start; history = Call (suc calls) a c ∷ life.history }) P notes
  call_up = calling_up n calls a c (invoked service.yard a c) service.callers disk P life.history notes may.0.0 in_callers none (even_of (pin_of service.yard a) may.2)
      (begun service.yard.vault.format c) (begun_side (pin_of service.yard a) (is_old_file service.yard.vault.format c) (even_of (pin_of service.yard a) may.2))
      (λ idle unchanged. begun_relies (view_of service.yard.shape service.yard.vault (invoked service.yard a c).actors a) c (notes.begun a) P (notes.changed a)
      (noted_refusal n calls service.yard service.callers disk life.history P notes a c may.0.0 in_actors none up.sound) idle unchanged)
      life.start (invoked_up n calls service.yard service.callers disk life P notes a c may.0.0 in_actors none up)
