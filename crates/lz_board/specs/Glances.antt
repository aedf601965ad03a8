-- What a glance promises: P is what the pass had seen before, Q what it has seen after. Traces stand newest first.
use Rattle.std.specs.Prelude.{◌≡◌, ℕ, suc, ◌<◌, Bool, true, false, [], ◌++◌, Result, Ok, Err}
use Rattle.lz_list.specs.Traces.{Trace, Begins, linking, linking_in, flags_after, halt_word, IsSettled}
use Rattle.lz_flush.specs.{declared.need.Need.TheVariants.{Sync as asks_sync}, Settling.{may_answer}}
use Rattle.lz_machine.specs.{Table.{last_pin}, Yards.{IsInside}}
use Rattle.lz_board.specs.declared.answer.{Glance.{Glance, TheVariants.{Yes, No, Unsettled}}, GlanceFault.{GlanceFault, TheVariants.{Halted, Worn, BusyPass}}}
use Rattle.lz_board.specs.{declared.view.Part.{Part}, Notes.{own}}

-- the number by which a program tells a fault
abbrev pub glance_fault_number : GlanceFault → ℕ
glance_fault_number Halted = 1
glance_fault_number Worn = 2
glance_fault_number BusyPass = 3

-- Q goes on from P, and this is all that was published for pass p since
pub record Changes (p : ℕ) (P Q changes : Trace) : Type 0 where
  pub since : Trace
  pub goes_on : Q ≡ since ++ P
  pub own : own p since ≡ changes

-- R is one of the traces from P to Q
pub record Between (P R Q : Trace) : Type 0 where
  pub from : Begins P R
  pub upto : Begins R Q

-- For a glance it was settled at R already.
pub record Glanced (k : ℕ) (P Q : Trace) (yes : Bool) : Type 0 where
  pub then : Trace
  pub between : Between P then Q
  pub settled : IsSettled then then k yes

-- At some R since P the last linking of k is in slot s, and the flag that its mark asks for isn't set.
pub record GlancedUnsettled (k s : ℕ) (P Q : Trace) : Type 0 where
  pub then : Trace
  pub between : Between P then Q
  pub some : 0 < linking k then
  pub in_slot : linking_in s then ≡ linking k then
  pub asks : may_answer (flags_after s then) ≡ asks_sync

-- no halt was published
abbrev pub IsUnhalted : Trace → Type 0
IsUnhalted P = halt_word P ≡ 0

-- The rows of a glance, by the pass's part before it and after it. One that begins after the pass has seen the halt answers Halted,
-- where the pass may go inside.
abbrev pub Glances : ℕ → Result Glance GlanceFault → Part → Part → Type 0
Glances k (Ok Yes) before after = Glanced k before.known after.known true × Changes before.number before.known after.known [] × IsUnhalted before.known
Glances k (Ok No) before after = Glanced k before.known after.known false × Changes before.number before.known after.known [] × IsUnhalted before.known
Glances k (Ok (Unsettled s)) before after = GlancedUnsettled k s before.known after.known × Changes before.number before.known after.known [] × IsUnhalted before.known
Glances k (Err Halted) before after = (halt_word after.known ≡ 1) × Changes before.number before.known after.known []
Glances k (Err Worn) before after = (before.pin ≡ last_pin) × Changes before.number before.known after.known []
Glances k (Err BusyPass) before after = IsInside before.pin × (after ≡ before)

-- The pass was inside meanwhile, so its pin word was counted up twice; where it couldn't go inside, nothing changed.
abbrev pub Turns : Result Glance GlanceFault → Part → Part → Type 0
Turns (Err Worn) before after = after ≡ before
Turns (Err BusyPass) before after = after ≡ before
Turns _ before after = after.pin ≡ suc (suc before.pin)
