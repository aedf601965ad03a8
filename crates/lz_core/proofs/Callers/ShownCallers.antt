-- The calls that a world shows of its actors.
use Rattle.std.proofs.Common.{◌≡◌, ◌≤◌, ◌-◌, arith, length, slice_get, unwrap_or, is_some, IsNone, ℕ, zero, suc, map, slice_index_or, slice_set, List, [], ◌∷◌}
use Rattle.std.proofs.{Common.{Option, Some, None, refl, sym, ap, subst}, lemmas.Bool.{false≢true}}
use Rattle.lz_slot.specs.{declared.command.Command.{Command}, Counted.{of_pass}}
use Rattle.lz_disk.specs.Records.{Past}
use Rattle.lz_core.specs.declared.{play.Step.TheVariants.{Call as CallOf}, open_calls.OpenCall.{OpenCall}}
use Rattle.lz_core.{specs.Worlds.{HasRun, IsCallOn, IsLawful, MayCall, call_shown, state_shown}, proofs.Runs.PlayedStep.{shape_is}}
use Rattle.lz_machine.specs.{declared.event.Outcome.{Outcome}, Yards.{Shape}, Calls.{event_at, progress_after}, Orders.{shape_with}, Runs.{Caller, caller_at}}
use Rattle.lz_machine.proofs.Runs.EventOrder.{same_event, same_follows}
use Rattle.lz_yard.specs.Parts.{YardOver}

-- the callers that a world shows
pub shown_at : (callers : List (Option OpenCall)) (i : ℕ) → slice_index_or (map call_shown callers) i None ≡ call_shown (slice_index_or callers i None)
shown_at [] i = refl
shown_at (call ∷ callers) zero = refl
shown_at (call ∷ callers) (suc i) = shown_at callers i

pub shown_caller : (callers : List (Option OpenCall)) (a : ℕ) → 1 ≤ a → caller_at (map call_shown callers) a ≡ call_shown (slice_index_or callers (a - 1) None)
shown_caller callers zero low = elim low [ ]
shown_caller callers (suc a) low = grind (arith, shown_at)

pub shown_set : (callers : List (Option OpenCall)) (i : ℕ) (call : Option OpenCall) → map call_shown (slice_set callers i call) ≡ slice_set (map call_shown callers) i (call_shown call)
shown_set [] i call = refl
shown_set (first ∷ callers) zero call = refl
shown_set (first ∷ callers) (suc i) call = ap (λ (cs : List (Option Caller)). call_shown first ∷ cs) (shown_set callers i call)

pub no_call : (call : Option OpenCall) → IsNone call → IsNone (call_shown call)
no_call None none = none
no_call (Some call) none = none

pub on_set : (shape : Shape) (callers : List (Option OpenCall)) (i : ℕ) (call : Option OpenCall) → IsCallOn shape call
    → ((j : ℕ) (other : Option OpenCall) → slice_get callers j ≡ Some other → IsCallOn shape other)
    → (j : ℕ) (other : Option OpenCall) → slice_get (slice_set callers i call) j ≡ Some other → IsCallOn shape other
on_set shape [] i call on each j other at = each j other at
on_set shape (first ∷ callers) zero call on each zero other at = subst (IsCallOn shape) (ap (λ (o : Option (Option OpenCall)). unwrap_or o None) at) on
on_set shape (first ∷ callers) zero call on each (suc j) other at = each (suc j) other at
on_set shape (first ∷ callers) (suc i) call on each zero other at = each zero other at
on_set shape (first ∷ callers) (suc i) call on each (suc j) other at = on_set shape callers i call on (λ k one at_k. each (suc k) one at_k) j other at

pub same_count : (callers : List (Option OpenCall)) (i : ℕ) (call : Option OpenCall) → length (slice_set callers i call) ≡ length callers
same_count [] i call = refl
same_count (first ∷ callers) zero call = refl
same_count (first ∷ callers) (suc i) call = ap suc (same_count callers i call)

-- a lawful call is one that an actor without a call makes
not_shown : (call : Option OpenCall) → IsNone (call_shown call) → IsNone call
not_shown None none = none
not_shown (Some call) none = none

pub lawful_call : (shape : Shape) (yard : Option (YardOver Past)) (disk : Option Past) (callers : List (Option OpenCall)) (calls a : ℕ) (c : Command) → shape.passes ≡ 64
    → HasRun shape (state_shown shape yard disk callers) calls
    → IsLawful (state_shown shape yard disk callers) (CallOf a c) → MayCall yard callers a
lawful_call shape (Some over) disk callers calls a c count ran ((low, high), none) = (
  refl,
  low,
  subst (λ (n : ℕ). a ≤ n) count (subst (λ (s : Shape). a ≤ s.passes) (shape_is shape _ calls ran) high),
  not_shown (slice_index_or callers (a - 1) None) (subst IsNone (shown_caller callers a low) none),
)
lawful_call shape None (Some left) callers calls a c count ran lawful = absurd lawful
lawful_call shape None None callers calls a c count ran lawful = absurd lawful

-- the call of an actor, as it is and as it is shown
pub asked_shown : (callers : List (Option OpenCall)) (a : ℕ) → caller_at (map call_shown callers) a ≡ call_shown (of_pass callers a None)
asked_shown callers zero = refl
asked_shown callers (suc i) = shown_at callers i

pub of_set : (call : Option OpenCall) (caller : Caller) → call_shown call ≡ Some caller → (own : OpenCall) × (call ≡ Some own) × (caller ≡ record { number = own.number; command = own.caller.command; progress = own.caller.progress })
of_set None caller same = absurd (false≢true (ap is_some same))
of_set (Some own) caller same = (own, refl, sym (ap (λ (o : Option Caller). unwrap_or o (record { number = own.number; command = own.caller.command; progress = own.caller.progress })) same))

pub to_event : (slots : ℕ) (shape : Shape) (own : OpenCall) → IsCallOn shape (Some own) → event_at (shape_with own.caller) own.caller.command own.caller.progress ≡ event_at shape own.caller.command own.caller.progress
to_event slots shape own on = grind (arith, same_event)

pub to_progress : (shape : Shape) (own : OpenCall) (o : Outcome) → IsCallOn shape (Some own) → progress_after (shape_with own.caller) own.caller.command own.caller.progress o ≡ progress_after shape own.caller.command own.caller.progress o
to_progress shape own o on = grind (arith, same_follows)

pub get_at : (callers : List (Option OpenCall)) (i : ℕ) (own : OpenCall) → slice_index_or callers i None ≡ Some own → slice_get callers i ≡ Some (Some own)
get_at [] i own at = absurd (false≢true (ap is_some at))
get_at (first ∷ callers) zero own at = ap (λ (o : Option OpenCall). Some o) at
get_at (first ∷ callers) (suc i) own at = get_at callers i own at

pub of_at : (callers : List (Option OpenCall)) (a : ℕ) → 1 ≤ a → of_pass callers a None ≡ slice_index_or callers (a - 1) None
of_at callers zero low = elim low [ ]
of_at callers (suc a) low = grind arith
