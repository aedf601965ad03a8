-- Reuse: which slots become free.
use Rattle.std.specs.Prelude.{◌≡◌, ℕ, List}
use Rattle.lz_disk.specs.Images.{Medium}
use Rattle.lz_allot.specs.{declared.sight.Sight.{Sight}, Uses.{Free, Limbo, use_of, collect, AllFree}}
use Rattle.lz_machine.specs.Runs.{Start, IsStart, Service, Up, Transition, IsRun, run, first_point, moments}

-- Where a slot in limbo becomes free, each pass was outside in some state since the slot was last unlinked.
abbrev pub FreedIsAllFree : Type 0
FreedIsAllFree =
    (start : Start) (steps : List Transition) (service : Service) (disk : Medium) (s : ℕ) (seen : List Sight)
    → IsStart start → IsRun (first_point start) steps → (run (first_point start) steps).state ≡ Up service disk
    → use_of service.yard.uses s ≡ Limbo seen → use_of (collect service.yard.uses) s ≡ Free
    → AllFree service.yard.shape.passes s (moments (first_point start) steps)
