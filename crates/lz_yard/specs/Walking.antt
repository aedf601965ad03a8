-- A call that walks, and how far its walk has come.
use Rattle.std.specs.Prelude.{Option, Some, None}
use Rattle.lz_slot.specs.Sets.{key_of}
use Rattle.lz_list.specs.declared.walk.{Look.{Look}, Walk.{Walk}}
use Rattle.lz_machine.specs.{declared.caller.Progress.{Progress, TheVariants.{Walking}}, Orders.{Calling}}

abbrev pub look_at : Progress → Option Look
look_at (Walking aim look) = Some look
look_at _ = None

-- the walk of a call, if it walks
abbrev pub walk_at : Calling → Option Look → Option Walk
walk_at k None = None
walk_at k (Some look) = Some (record { key = key_of k.command; buckets = k.buckets; look = look })

abbrev pub walk_of : Calling → Option Walk
walk_of k = walk_at k (look_at k.progress)

-- a call whose walk has come so far
abbrev pub looking : Progress → Look → Progress
looking (Walking aim look) there = Walking aim there
looking at there = at

abbrev pub with_look : Calling → Look → Calling
with_look k look = record { command = k.command; buckets = k.buckets; passes = k.passes; progress = looking k.progress look }
