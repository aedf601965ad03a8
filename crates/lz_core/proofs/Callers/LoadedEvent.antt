-- The next event of a world's call is that of its run.
use Rattle.std.proofs.Common.{arith, ◌≡◌, slice_get, IfSome, ℕ, zero, suc, map, List, Option, Some, None, is_some, refl, sym, ◌∙◌, ap, subst}
use Rattle.std.proofs.lemmas.Bool.{false≢true, Decides.{nat_tests}}
use Rattle.lz_slot.specs.Counted.{of_pass}
use Rattle.lz_disk.specs.Records.{Past}
use Rattle.lz_machine.specs.{declared.event.Event.{Event}, Yards.{Shape}, Calls.{event_at, loaded}}
use Rattle.lz_core.specs.declared.open_calls.OpenCall.{OpenCall}
use Rattle.lz_core.specs.Worlds.{IsCallOn, IsWorld, call_shown, event_asked, event_loaded, next_of, next_of_caller, state_shown}
use Rattle.lz_core.proofs.{Runs.PlayedStep.{shape_is}, Callers.ShownCallers.{asked_shown, get_at, to_event}}
use Rattle.lz_yard.specs.Parts.{YardOver}

-- the calls of a world are calls on its yard
on_pass : (shape : Shape) (callers : List (Option OpenCall)) (a : ℕ) (own : OpenCall) → ((i : ℕ) (call : Option OpenCall) → slice_get callers i ≡ Some call → IsCallOn shape call) → of_pass callers a None ≡ Some own → IsCallOn shape (Some own)
on_pass shape callers zero own each at = absurd (false≢true (ap is_some at))
on_pass shape callers (suc i) own each at = each i (Some own) (get_at callers i own at)

module _ (shape : Shape) (disk : Option Past) (callers : List (Option OpenCall)) (calls a : ℕ) where
  shape_here : (over : YardOver Past) → IsWorld shape (Some over) disk callers calls → over.yard.shape ≡ shape
  shape_here over world = shape_is shape (state_shown shape (Some over) disk callers) calls world.ran

  passes_of : (over : YardOver Past) → IsWorld shape (Some over) disk callers calls → (o : Option OpenCall) → of_pass callers a None ≡ o → IfSome o (λ call. call.caller.passes ≡ over.yard.shape.passes)
  passes_of over world None at = tt
  passes_of over world (Some own) at = (on_pass shape callers a own world.on_it at).1 ∙ ap (λ (s : Shape). s.passes) (sym (shape_here over world))

  pub has_passes : (yard : Option (YardOver Past)) (over : YardOver Past) → IsWorld shape yard disk callers calls → yard ≡ Some over → IfSome (of_pass callers a None) (λ call. call.caller.passes ≡ over.yard.shape.passes)
  has_passes yard over world is = passes_of over (subst (λ (y : Option (YardOver Past)). IsWorld shape y disk callers calls) is world) (of_pass callers a None) refl

  load_one : (over : YardOver Past) → IsWorld shape (Some over) disk callers calls → (o : Option OpenCall) → of_pass callers a None ≡ o
      → event_loaded over.yard.words (event_asked o) ≡ next_of_caller (record { yard = over.yard; callers = map call_shown callers }) (call_shown o)
  load_one over world None at = refl
  load_one over world (Some own) at =
      ap (λ (ev : Event). Some (loaded over.yard.words ev)) (to_event 0 shape own (on_pass shape callers a own world.on_it at) ∙ ap (λ (s : Shape). event_at s own.caller.command own.caller.progress) (sym (shape_here over world)))

  loads : (over : YardOver Past) → IsWorld shape (Some over) disk callers calls → event_loaded over.yard.words (event_asked (of_pass callers a None)) ≡ next_of (state_shown shape (Some over) disk callers) a
  loads over world = load_one over world (of_pass callers a None) refl ∙ ap (next_of_caller (record { yard = over.yard; callers = map call_shown callers })) (sym (asked_shown callers a))

  pub next_loaded : (yard : Option (YardOver Past)) (over : YardOver Past) → IsWorld shape yard disk callers calls → yard ≡ Some over → event_loaded over.yard.words (event_asked (of_pass callers a None)) ≡ next_of (state_shown shape yard disk callers) a
  next_loaded yard over world is = grind (arith, nat_tests, loads)
