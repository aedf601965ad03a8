-- A file keeps its format.
use Rattle.std.proofs.{Common.{arith, ◌≡◌, ℕ, List, [], ◌∷◌, sym, subst}, lemmas.Bool.Decides.{nat_tests}}
use Rattle.lz_slot.specs.{declared.format.Format.{Format}, Bytes.{format_of}, Histories.{History, Life, lives}}
use Rattle.lz_vault.specs.Stages.{Suits}
use Rattle.lz_list.specs.Traces.{Trace}
use Rattle.lz_machine.specs.{Runs.{Start, IsStart, State, Transition, MayLeave, Point, IsRun, disk_of, run, first_point, start_keys}, Sound.{PointSound}}
use Rattle.lz_machine.{specs.Formats.{HasFormat, FormatsStay}, proofs.{Runs.PointParts.{point}, Crash.Leftovers.{IsLeft, may_leave_has}}}
use Rattle.lz_machine.proofs.Theorem.Reached.{reached_sound}

point_format : (start : Start) (p : Point) (L : List Life) → PointSound start p L → HasFormat (format_of start.text) p.state
point_format start p L h = grind (arith, nat_tests)

-- the disk suits it
point_suits : (start : Start) (M : History) (P : Trace) (calls : ℕ) (w : State) (L : List Life) → PointSound start (point w M P calls) L → Suits (format_of start.text) (disk_of w)
point_suits start M P calls w L h = grind (arith, nat_tests)

-- a text that a crash leaves is of the state's format
left_format : (p : Point) (t : List ℕ) (F : Format) (L : List Life) → IsLeft p t L → HasFormat F p.state → format_of t ≡ F
left_format p t F [] left is = absurd left
left_format p t F (life ∷ earlier) left is = left.3 F is

pub run_format : (start : Start) (steps : List Transition) → IsStart start → IsRun (first_point start) steps → HasFormat (format_of start.text) (run (first_point start) steps).state
run_format start steps is runs = grind (arith, nat_tests, point_format, reached_sound)

pub formats_stay : FormatsStay
formats_stay start w M P reached =
    let p = run (first_point start) reached.steps in
    let L = lives (start_keys start) p.marks in
    let sound = reached_sound start reached.steps reached.starts reached.runs in
    let has = point_format start p L sound in (
      subst (HasFormat (format_of start.text)) reached.state has,
      subst (λ (v : State). Suits (format_of start.text) (disk_of v)) reached.state (point_suits start p.marks p.trace p.calls p.state L sound),
      λ t leaves. left_format p t (format_of start.text) L (may_leave_has start p.state p.marks p.trace p.calls t sound (subst (λ (v : State). MayLeave v t) (sym reached.state) leaves)) has,
    )
