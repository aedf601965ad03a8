-- What a list promises of slots: P is what the pass had seen before, Q what it has seen after.
use Rattle.std.specs.Prelude.{◌≡◌, ◌⊎◌, ℕ, suc, ◌+◌, ◌-◌, ◌<◌, ◌≤◌, true, Option, Some, None, IfSome, Result, Ok, Err, List, [], All, Contains, length}
use Rattle.lz_slot.specs.Limits.{largest_key}
use Rattle.lz_list.specs.Traces.{Trace, halt_word, linking, linking_in, SettledYes}
use Rattle.lz_machine.specs.{Table.{last_pin}, Yards.{IsInside}}
use Rattle.lz_board.specs.declared.{answer.GlanceFault.TheVariants.{Halted, Worn, BusyPass}, page.{Page.{Page}, ListFault.{ListFault}}}
use Rattle.lz_board.specs.{declared.{page.ListFault.TheVariants.{Memory, Glance}, view.Part.{Part}}, Glances.{Between, Changes, Glanced, IsUnhalted}}

-- k is settled as a member at R, by its node in slot s
pub record IsDurableIn (s k : ℕ) (R : Trace) : Type 0 where
  pub settled : SettledYes R R k
  pub here : linking_in s R ≡ linking k R

-- at some trace from P to Q it wasn't
pub record WasAway (s k : ℕ) (P Q : Trace) : Type 0 where
  pub then : Trace
  pub between : Between P then Q
  pub away : IsDurableIn s k then → ⊥

-- The keys that were told of the slots from `from` on below `upto`: each was settled as a member at some trace from P to Q. And of each
-- of these slots and each key: it was told, or at some such trace it wasn't settled as a member in that slot.
pub record Listed (from upto : ℕ) (told : List ℕ) (P Q : Trace) : Type 0 where
  pub were : All (λ k. Glanced k P Q true) told
  pub others : (s k : ℕ) → from ≤ s → s < upto → k ≤ largest_key → Contains told k ⊎ WasAway s k P Q

-- how many slots a page goes over, at most
abbrev pub page_slots : ℕ
page_slots = 4_096

-- the slot below which all were looked at, in a table of so many slots: the one to go on from, or the end
abbrev pub reached : ℕ → Option ℕ → ℕ
reached slots (Some next) = next
reached slots None = slots

-- It ends before a slot only where it has as many keys as were asked for, or has gone over as many slots as it may.
pub record StopsAt (slots from most : ℕ) (told : List ℕ) (next : ℕ) : Type 0 where
  pub further : from < next
  pub within : next < slots
  pub full : (length told ≡ most) ⊎ (next ≡ from + page_slots)

-- A page of the slots from `from` on: its keys, no more than slots, and the slot to go on from, or None at the end of the slots.
pub record IsPage (slots from most : ℕ) (told : List ℕ) (next : Option ℕ) (P Q : Trace) : Type 0 where
  pub listed : Listed from (reached slots next) told P Q
  pub few : length told ≤ most
  pub each : length told ≤ reached slots next - from
  pub near : reached slots next ≤ from + page_slots
  pub stops : IfSome next (StopsAt slots from most told)

-- The pass was inside meanwhile, and nothing was published for it.
pub record WentInside (before after : Part) : Type 0 where
  pub changes : Changes before.number before.known after.known []
  pub pin : after.pin ≡ suc (suc before.pin)

-- The rows of a list, by the pass's part before it and after it. Where it could not go inside nothing changed. One that begins after the
-- pass has seen the halt tells no page.
abbrev pub Lists : ℕ → ℕ → ℕ → Result Page ListFault → Part → Part → Type 0
Lists slots from most (Ok page) before after = IsPage slots from most page.keys.items page.next before.known after.known × WentInside before after × IsUnhalted before.known
Lists slots from most (Err Memory) before after = after ≡ before
Lists slots from most (Err (Glance Halted)) before after = (halt_word after.known ≡ 1) × WentInside before after
Lists slots from most (Err (Glance Worn)) before after = (before.pin ≡ last_pin) × (after ≡ before)
Lists slots from most (Err (Glance BusyPass)) before after = IsInside before.pin × (after ≡ before)
