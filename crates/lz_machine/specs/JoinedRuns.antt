-- Runs may follow on one another: each begins with a text that the one before it may leave, with buckets and passes of its own.
use Rattle.std.specs.Prelude.{◌≤◌, ℕ, Bool, List, [], ◌∷◌, ◌++◌}
use Rattle.lz_slot.specs.{Limits.{most_buckets, most_passes}, Bytes.{Holds, format_of}, Histories.{History, Life, ChainTo, lives}, Sets.{Keys}}
use Rattle.lz_disk.specs.Images.{at_rest}
use Rattle.lz_vault.specs.Stages.{Suits}
use Rattle.lz_list.specs.Traces.{Trace}
use Rattle.lz_machine.specs.Runs.{Start, IsStart, State, Reached, MayLeave, start_keys}

-- Each text that a run may leave is one with which another run may begin, whatever its buckets and passes, on a disk that suits its format.
abbrev pub LeftIsStart : Type 0
LeftIsStart =
    (start : Start) (w : State) (M : History) (P : Trace) (t : List ℕ) (bytewise : Bool) (buckets passes : ℕ)
    → Reached start w M P → MayLeave w t → (1 ≤ buckets) × (buckets ≤ most_buckets) → (1 ≤ passes) × (passes ≤ most_passes) → Suits (format_of t) (at_rest bytewise t)
    → IsStart (record { bytewise = bytewise; shape = record { slots = start.shape.slots; buckets = buckets; passes = passes }; text = t })

-- One run, as far as it has come.
pub record Ran : Type 0 where
  pub start : Start
  pub state : State
  pub marks : History
  pub trace : Trace
  pub reached : Reached start state marks trace

-- Of these runs, the newest first, each but the oldest begins with a text that the one before it may leave.
abbrev pub Follow : List Ran → Type 0
Follow [] = Unit {0}
Follow (r ∷ []) = Unit {0}
Follow (r ∷ before ∷ earlier) = MayLeave before.state r.start.text × Follow (before ∷ earlier)

-- the lives of all of them, the newest first
abbrev pub all_lives : List Ran → List Life
all_lives [] = []
all_lives (r ∷ earlier) = lives (start_keys r.start) r.marks ++ all_lives earlier

-- the start of the oldest of them
abbrev pub first_start : Ran → List Ran → Start
first_start r [] = r.start
first_start r (before ∷ earlier) = first_start before earlier

-- The lives of any number of runs that follow on one another are a chain to the set of each text that the newest may leave,
-- which has the slots of the first start.
abbrev pub RunsJoin : Type 0
RunsJoin =
    (r : Ran) (earlier : List Ran) (t : List ℕ)
    → Follow (r ∷ earlier) → MayLeave r.state t
    → (S : Keys) × Holds t (first_start r earlier).shape.slots S × ChainTo (all_lives (r ∷ earlier)) S
