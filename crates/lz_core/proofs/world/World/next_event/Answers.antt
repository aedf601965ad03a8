use Rattle.lz_core.proofs.world.World.next_event.Goals as goal
use Rattle.std.proofs.Common.{◌≡◌, IfSome, List, Option, None, ap, ◌∙◌, sym, subst}
use Rattle.lz_slot.specs.Counted.{of_pass}
use Rattle.lz_core.specs.{declared.open_calls.OpenCall.{OpenCall}, Worlds.{WorldOver, event_asked, event_loaded, next_of}}
use Rattle.lz_core.proofs.Callers.LoadedEvent.{has_passes, next_loaded}

pub next_on-requires : goal.next_on-requires
next_on-requires c =
    subst (λ (q : List (Option OpenCall)). IfSome (of_pass q c.args.actor None) (λ call. call.caller.passes ≡ c.in-Some.yard.yard.shape.passes)) (sym c.deref.ensures.value)
    (has_passes (record { slots = c.self.inside.slots; buckets = c.self.inside.buckets; passes = 64 }) c.self.inside.disk c.self.inside.callers.items c.self.inside.calls c.args.actor c.self.inside.yard c.in-Some.yard c.self.invariant c.in-Some.is)

pub returns-in-Some : goal.returns-in-Some
returns-in-Some c =
    c.next_on.ensures
    ∙ ap (λ (q : List (Option OpenCall)). event_loaded c.in-Some.yard.yard.words (event_asked (of_pass q c.args.actor None))) c.deref.ensures.value
    ∙ next_loaded (record { slots = c.self.inside.slots; buckets = c.self.inside.buckets; passes = 64 }) c.self.inside.disk c.self.inside.callers.items c.self.inside.calls c.args.actor c.self.inside.yard c.in-Some.yard c.self.invariant c.in-Some.is
    ∙ ap (λ (w : WorldOver). next_of w.state c.args.actor) c.self.view_is
