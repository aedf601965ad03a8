-- What a hop of a walk tells, and on which words it may be made.
use Rattle.std.specs.Prelude.{ℕ, ◌≤◌}
use Rattle.lz_slot.specs.Limits.{most_slots}
use Rattle.lz_list.specs.{declared.walk.{Look.{Look, TheVariants.{AtHead, AtBelow}}, Hop.{Hop, TheVariants.{More as GoesOn, End as Ends}}}, Words.{next_of}}
use Rattle.lz_list.specs.Walks.{Hopped, More, End}

-- the hop that a walk made which looks there afterwards
abbrev pub told : Look → Hop → Hopped
told look GoesOn = More look
told look (Ends pred curr met) = End pred curr met

-- a link by which the walk goes on leads to a slot, or to the end
abbrev pub LeadsOn : Look → ℕ → Type 0
LeadsOn AtHead word = next_of word ≤ most_slots
LeadsOn (AtBelow s) word = next_of word ≤ most_slots
LeadsOn _ word = Unit {0}
