-- What a pass has seen once it has listed.
use Rattle.std.proofs.Common.{◌≡◌, ℕ, All, false, Result, Ok, Err, [], sym, subst}
use Rattle.lz_list.{specs.Traces.{Begins}, proofs.Traces.Absence.{begins_itself}}
use Rattle.lz_board.specs.declared.{answer.GlanceFault.TheVariants.{Halted, Worn, BusyPass}, page.{Page.{Page}, ListFault.{ListFault}}}
use Rattle.lz_board.specs.{declared.{page.ListFault.TheVariants.{Memory, Glance}, pass.Pass.{Pass}, view.Part.{Part}}, Listings.{Lists}, Notes.{shape_of_sizes}}
use Rattle.lz_board.{specs.{Seats.{part}, Walkers.{KeepsCall}}, proofs.{Upkeep.Growth.{extends_of}, Walk.GlanceAnswer.{halt_since}}}
use Rattle.lz_refinement.{proofs.Calls.PartAfter.{begins_changed}, specs.OwnCalls.{told}}
use Rattle.lz_serve.specs.Halts.{IsCalm, SawHalt, was_cut}

-- it has seen all that it had
pub lists_grow : (slots from most : ℕ) (r : Result Page ListFault) (before after : Part) → Lists slots from most r before after → Begins before.known after.known
lists_grow slots from most (Ok page) before after is = begins_changed before.number before.known after.known [] is.1.changes
lists_grow slots from most (Err Memory) before after is = subst (λ (p : Part). Begins before.known p.known) (sym is) (begins_itself before.known)
lists_grow slots from most (Err (Glance Halted)) before after is = begins_changed before.number before.known after.known [] is.1.changes
lists_grow slots from most (Err (Glance Worn)) before after is = subst (λ (p : Part). Begins before.known p.known) (sym is.1) (begins_itself before.known)
lists_grow slots from most (Err (Glance BusyPass)) before after is = subst (λ (p : Part). Begins before.known p.known) (sym is.1) (begins_itself before.known)

-- its calls were cut off or not as before
pub calm_kept : (old new : Pass) → KeepsCall (part old) (part new) → IsCalm (part old) → IsCalm (part new)
calm_kept old new keeps calm =
    subst (λ sizes. All (λ call. was_cut call.1 ≡ false) (told (shape_of_sizes sizes) (part new).steps)) (sym keeps.sizes)
    (subst (λ steps. All (λ call. was_cut call.1 ≡ false) (told (shape_of_sizes (part old).sizes) steps)) (sym keeps.steps) calm)

pub halt_kept : (old new : Pass) → Begins (part old).known (part new).known → SawHalt old → SawHalt new
halt_kept old new more seen = halt_since (part old).known (part new).known (extends_of (part old).known (part new).known more) seen
