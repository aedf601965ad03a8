-- What a duplicate filter says of an event.
use Rattle.lz_board.specs.declared.answer.Glance.TheVariants as glance
use Rattle.std.specs.Prelude.{◌⊎◌, ℕ, Bool, true, false, Result, Ok, Err}
use Rattle.lz_slot.specs.declared.{command.Command.TheVariants.{Add}, format.Format.{Format}}
use Rattle.lz_board.specs.{declared.{answer.{Glance.{Glance}, GlanceFault.{GlanceFault}}, view.Part.{Part}}, Glances.{Glances}, Walkers.{KeepsCall}}
use Rattle.lz_set.specs.{Answers.{reply_of}, declared.fault.Fault.{Fault}}
use Rattle.lz_refinement.specs.Answers.{Answers}

-- A glance at the event, whatever it told, was followed by an adding with this answer. No other call was made.
pub record WasAdded (F : Format) (k : ℕ) (answer : Result Bool Fault) (before after : Part) : Type 0 where
  pub middle : Part
  pub told : Result Glance GlanceFault
  pub glance : Glances k told before middle
  pub no_call : KeepsCall before middle
  pub adding : Answers F (Add k) (reply_of answer) middle after

-- The event is known where a glance showed it as a member, and no call was made. All else is what its adding answered.
abbrev pub Filters : Format → ℕ → Result Bool Fault → Part → Part → Type 0
Filters F k (Ok true) before after = WasAdded F k (Ok true) before after
Filters F k (Ok false) before after = (Glances k (Ok glance.Yes) before after × KeepsCall before after) ⊎ WasAdded F k (Ok false) before after
Filters F k (Err fault) before after = WasAdded F k (Err fault) before after
