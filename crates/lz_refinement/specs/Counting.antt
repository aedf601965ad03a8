-- A call under way with the caller that counts its events, and one hold of it.
use Rattle.std.specs.Prelude.{◌≡◌}
use Rattle.lz_slot.specs.{declared.{command.Command.{Command}, format.Format.{Format}}, Sets.{key_of}}
use Rattle.lz_list.specs.{Traces.{Trace}, declared.layout.Sizes.{Sizes}}
use Rattle.lz_machine.specs.{declared.caller.Progress.{Progress, TheVariants.{Walking}}, Orders.{Calling}}
use Rattle.lz_board.specs.{declared.view.Part.{Part}, Seats.{BoardId}, Walkers.{IsOnWalk}}
use Rattle.lz_refinement.specs.UnderWay.{UnderWay}

-- Where the call walks, the pass knows where its walk stands: P0 is the trace at its pin, Q what it has seen.
abbrev pub OnWalk : Sizes → Command → Progress → Trace → Trace → Type 0
OnWalk z c (Walking aim look) P0 Q = IsOnWalk z (key_of c) P0 Q look
OnWalk z c _ P0 Q = Unit {0}

-- The caller counts the call of command c that is under way for the pass with part h, which had part `before` when it was made.
pub record Counts (b : BoardId) (c : Command) (format : Format) (before : Part) (k : Calling) (h : Part) : Type 0 where
  pub command : k.command ≡ c
  pub buckets : k.buckets ≡ b.sizes.buckets
  pub passes : k.passes ≡ b.sizes.passes
  pub under : UnderWay b c format before k.progress h
  pub walk : OnWalk b.sizes k.command k.progress h.begun h.known

-- the call that was counted before is counted after, on the same file, since the same part
abbrev pub CountsOn : BoardId → Calling → Part → Calling → Part → Type 0
CountsOn b k h k' h' = (c : Command) (format : Format) (before : Part) → Counts b c format before k h → Counts b c format before k' h'

-- it counts some call of that pass
abbrev pub IsCounted : BoardId → Calling → Part → Type 0
IsCounted b k h = (c : Command) × (format : Format) × (before : Part) × Counts b c format before k h
