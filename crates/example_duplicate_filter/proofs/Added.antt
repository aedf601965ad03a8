-- What the answer to an adding says of an event.
use Rattle.std.proofs.Common.{inr, ℕ, Bool, true, false, Result, Ok, Err}
use Rattle.lz_slot.specs.declared.{command.Command.TheVariants.{Add}, format.Format.{Format}}
use Rattle.lz_board.specs.{declared.{answer.{Glance.{Glance}, GlanceFault.{GlanceFault}}, view.Part.{Part}}, Glances.{Glances}, Walkers.{KeepsCall}}
use Rattle.lz_set.specs.{declared.fault.Fault.{Fault}, Answers.{reply_of}}
use Rattle.lz_refinement.specs.Answers.{Answers}
use Rattle.example_duplicate_filter.specs.Filters.{Filters, WasAdded}

pub added : (F : Format) (k : ℕ) (r : Result Bool Fault) (told : Result Glance GlanceFault) (before middle after : Part) → Glances k told before middle → KeepsCall before middle → Answers F (Add k) (reply_of r) middle after → Filters F k r before after
added F k r told before middle after glance no_call adding = go r was
  where
    was : WasAdded F k r before after
    was = record { middle = middle; told = told; glance = glance; no_call = no_call; adding = adding }

    go : (r : Result Bool Fault) → WasAdded F k r before after → Filters F k r before after
    go (Ok true) was = was
    go (Ok false) was = inr was
    go (Err fault) was = was
