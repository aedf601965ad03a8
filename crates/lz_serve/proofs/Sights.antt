-- What a pass has seen once it has looked for a key.
use Rattle.std.proofs.Common.{◌≡◌, ℕ, Option, Some, None, IfSome, Result, Ok, Err, [], sym, subst}
use Rattle.lz_list.{specs.Traces.{Begins, Trace}, proofs.Traces.Absence.{begins_itself}}
use Rattle.lz_board.specs.declared.answer.{Glance.{Glance, TheVariants.{Yes, No, Unsettled}}, GlanceFault.{GlanceFault, TheVariants.{Halted, Worn, BusyPass}}}
use Rattle.lz_board.specs.{declared.{pass.Pass.{Pass}, view.Part.{Part}}, Glances.{Glances}, Seats.{part}}
use Rattle.lz_refinement.proofs.Calls.PartAfter.{begins_changed}
use Rattle.lz_serve.specs.{Clients.{Asker, Askers, HaveSeenIn}, Sights.{Sighting}}

-- it has seen all that it had
pub glances_grow : (k : ℕ) (r : Result Glance GlanceFault) (before after : Part) → Glances k r before after → Begins before.known after.known
glances_grow k (Ok Yes) before after is = begins_changed before.number before.known after.known [] is.1
glances_grow k (Ok No) before after is = begins_changed before.number before.known after.known [] is.1
glances_grow k (Ok (Unsettled s)) before after is = begins_changed before.number before.known after.known [] is.1
glances_grow k (Err Halted) before after is = begins_changed before.number before.known after.known [] is.1
glances_grow k (Err Worn) before after is = begins_changed before.number before.known after.known [] is.1
glances_grow k (Err BusyPass) before after is = subst (λ (p : Part). Begins before.known p.known) (sym is.1) (begins_itself before.known)

-- a pass that had seen what any client has made the sight
pub looked_later : (sight : Option Sighting) (k : ℕ) (before after : Pass) (a : Askers) → IfSome sight (λ s. (s.key ≡ k) × (s.before ≡ before) × (s.after ≡ after)) → HaveSeenIn a (part before).known → IfSome sight (λ s. HaveSeenIn a (part s.before).known)
looked_later None k before after a is seen = tt
looked_later (Some s) k before after a is seen = subst (λ (p : Pass). HaveSeenIn a (part p).known) (sym is.1) seen

-- and so one that had seen what the client of a place has
pub sight_here : (client : Option Asker) (sight : Option Sighting) (a : Askers) → ((known : Trace) → HaveSeenIn a known → IfSome client (λ x. Begins x.seen known))
    → IfSome sight (λ s. HaveSeenIn a (part s.before).known) → IfSome client (λ x. IfSome sight (λ s. Begins x.seen (part s.before).known))
sight_here None sight a here seen = tt
sight_here (Some x) None a here seen = tt
sight_here (Some x) (Some s) a here seen = here (part s.before).known seen
