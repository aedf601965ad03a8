-- What a caller keeps, and what it may take.
use Rattle.std.specs.Prelude.{ℕ, ◌<◌, ◌≤◌, length}
use Rattle.lz_slot.specs.{declared.command.Command.{Command}, Limits.{most_buckets, most_passes}}
use Rattle.lz_list.specs.Hops.{LeadsOn}
use Rattle.lz_machine.specs.declared.{caller.Progress.{Progress, TheVariants.{Playing, LoadsHalt, Walking, SeeingPins}}, event.Event.{Event}}
use Rattle.lz_machine.specs.{declared.event.{Event.TheVariants.{SeePin}, Outcome.{Outcome, TheVariants.{Value}}}, Yards.{Shape}, Calls.{events_of}}

-- A call's command, the buckets and passes of the yard on which it is played, and how far it has come.
pub record Calling : Type 0 where
  pub command : Command
  pub buckets : ℕ
  pub passes : ℕ
  pub progress : Progress

-- the shape of such a yard: how many slots it has plays no part in the order of events
abbrev pub shape_with : Calling → Shape
shape_with c = record { slots = 0; buckets = c.buckets; passes = c.passes }

-- a sequence's index is inside the sequence, and a pass that is looked at is one of so many
abbrev pub IsProgress : ℕ → Command → Progress → Type 0
IsProgress passes c (Playing sequence i) = i < length (events_of c sequence)
IsProgress passes c (SeeingPins p) = (1 ≤ p) × (p ≤ passes)
IsProgress passes c _ = Unit {0}

-- that, in each call
abbrev pub IsEverywhere : Progress → Type 0
IsEverywhere at = (passes : ℕ) (c : Command) → IsProgress passes c at

-- a call with its numbers in their ranges
pub record IsCalling (c : Calling) : Type 0 where
  pub buckets : (1 ≤ c.buckets) × (c.buckets ≤ most_buckets)
  pub passes : (1 ≤ c.passes) × (c.passes ≤ most_passes)
  pub progress : IsProgress c.passes c.command c.progress

-- a link by which the call's walk goes on leads to a slot, or to the end
abbrev pub MayTake : Progress → Outcome → Type 0
MayTake (Walking aim look) (Value value) = LeadsOn look value
MayTake _ _ = Unit {0}

-- how far calls have come whose next event is of one kind
abbrev pub IsPlaying : Progress → Type 0
IsPlaying (Playing sequence i) = Unit {0}
IsPlaying _ = ⊥

abbrev pub IsLoading : Progress → Type 0
IsLoading LoadsHalt = Unit {0}
IsLoading (Walking aim look) = Unit {0}
IsLoading _ = ⊥

-- a pass whose pin word an event looks at is one of so many
abbrev pub HasPass : ℕ → Event → Type 0
HasPass passes (SeePin p value) = (1 ≤ p) × (p ≤ passes)
HasPass passes _ = Unit {0}
