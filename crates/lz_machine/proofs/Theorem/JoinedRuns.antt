-- Runs that follow on one another.
use Rattle.std.proofs.{lemmas.Bool.Decides.{nat_tests}, Common.{◌≡◌, ℕ, List, [], ◌∷◌, ◌++◌, refl, sym, subst, arith}}
use Rattle.lz_slot.specs.{declared.history.HistoryEvent.{HistoryEvent, TheVariants.{Stop, Crash, Opened, OpenFailed}}, Bytes.{Holds}}
use Rattle.lz_slot.specs.{Histories.{History, Life, ChainTo, lives, with_mark}, Sets.{Keys, Same, members}}
use Rattle.lz_disk.specs.Images.{AreBytes}
use Rattle.lz_machine.specs.{JoinedRuns.{LeftIsStart, RunsJoin, all_lives, first_start}, Runs.{State, MayLeave, start_keys}}
use Rattle.lz_machine.proofs.{Crash.Leftovers.{inside_bytes}, Open.{FirstPoint.{one_set, fits_same}, ListedKeys.{listed}}, Theorem.Reached.{every_history}}

-- what a crash may leave are bytes
left_bytes : (w : State) (t : List ℕ) → MayLeave w t → AreBytes t
left_bytes w t image = grind (arith, nat_tests, inside_bytes)

pub left_is_start : LeftIsStart
left_is_start start w M P t bytewise buckets passes reached leaves some few suits =
    let held = every_history start w M P t reached leaves in
    record {
      buckets = some;
      passes = few;
      bytes = left_bytes w t leaves;
      text = listed t start.shape.slots held.0 held.1;
      suits = suits;
    }

-- the first of these lives, which stands last, began with this set
abbrev Begins : List Life → Keys → Type 0
Begins [] A = ⊥
Begins (life ∷ []) A = life.start ≡ A
Begins (life ∷ next ∷ rest) A = Begins (next ∷ rest) A

newer : (life : Life) (L : List Life) (A : Keys) → Begins L A → Begins (life ∷ L) A
newer life L A h = grind (arith, nat_tests)

marked : (m : HistoryEvent) (L : List Life) (A : Keys) → Begins L A → Begins (with_mark m L) A
marked m L A h = grind (arith, nat_tests)

lives_begin : (A : Keys) (M : History) → Begins (lives A M) A
lives_begin A [] = refl
lives_begin A (Opened keys ∷ M) = newer (record { start = members keys; history = [] }) (lives A M) A (lives_begin A M)
lives_begin A (Stop ∷ M) = lives_begin A M
lives_begin A (Crash ∷ M) = lives_begin A M
lives_begin A (OpenFailed why ∷ M) = lives_begin A M
lives_begin A (m ∷ M) = marked m (lives A M) A (lives_begin A M)

-- a chain to a set is one to the same keys
chain_same : (L : List Life) (S T : Keys) → Same S T → ChainTo L S → ChainTo L T
chain_same L S T same h = grind (arith, nat_tests, fits_same)

join : (L earlier : List Life) (A S : Keys) → Begins L A → ChainTo L S → ChainTo earlier A → ChainTo (L ++ earlier) S
join [] earlier A S begins h old = absurd begins
join (life ∷ []) earlier A S begins h old = (h.0, h.1, subst (ChainTo earlier) (sym begins) old)
join (life ∷ next ∷ rest) earlier A S begins h old = (h.0, h.1, join (next ∷ rest) earlier A life.start begins h.2 old)

pub runs_join : RunsJoin
runs_join r [] t follow left =
    let after = every_history r.start r.state r.marks r.trace t r.reached left in (
      after.0,
      after.1,
      join (lives (start_keys r.start) r.marks) [] (start_keys r.start) after.0 (lives_begin (start_keys r.start) r.marks) after.2 tt,
    )
runs_join r (q ∷ earlier) t (leaves, follow) left =
    let before = runs_join q earlier r.start.text follow leaves in
    let after = every_history r.start r.state r.marks r.trace t r.reached left in
    let size = (first_start q earlier).shape.slots in
    let text = r.reached.starts.text in
    let slots : r.start.shape.slots ≡ size = omega (arith, text.size, before.1.size) in
    let same : Same before.0 (start_keys r.start) = one_set r.start.text size before.0 (start_keys r.start) before.1 (subst (λ (n : ℕ). Holds r.start.text n (start_keys r.start)) slots text) in (
      after.0,
      subst (λ (n : ℕ). Holds t n after.0) slots after.1,
      join (lives (start_keys r.start) r.marks) (all_lives (q ∷ earlier)) (start_keys r.start) after.0 (lives_begin (start_keys r.start) r.marks) after.2
          (chain_same (all_lives (q ∷ earlier)) before.0 (start_keys r.start) same before.2),
    )
