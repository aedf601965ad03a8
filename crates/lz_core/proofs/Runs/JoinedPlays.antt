-- A play goes on by another play.
use Rattle.std.proofs.lemmas.{Bool.Decides.{nat_tests}, List.{reverse-append, append-nil, append_assoc}, Option.{slice_get_within, get_or_from_slice_get}}
use Rattle.std.proofs.Common.{◌≡◌, ◌≢◌, ◌⊎◌, inl, inr, ⊎_elim, IsSomeAnd, Bool, Result, Ok, Err, IsErrOf, Option, None, ◌≤◌, ◌+◌, ◌-◌, arith, slice_get, ℕ}
use Rattle.std.proofs.{Common.{zero, suc, take, List, [], ◌∷◌, ◌++◌, Some, reverse, refl, sym, ◌∙◌, ap, subst}, Math.Seq.{take-suc}}
use Rattle.lz_slot.specs.declared.history.HistoryEvent.{HistoryEvent}
use Rattle.lz_core.specs.{declared.play.Step.{Step as PlayStep}, Plays.{IsPlayOf, ArePlaysOf}, Trips.{GoAsTripped, tripped_after, tripped_by}}
use Rattle.lz_core.specs.Worlds.{WorldOver, LacksMemory, LacksNext, StopsAt, StopsEarly, IsLawful, PlaysOn, IsChain, mark_list}
use Rattle.lz_core.proofs.Runs.PlayedStep.{stays}
use Rattle.lz_machine.{specs.{Runs.{Transition, MayStep, Point, run, IsRun}, Points.{IsReached}}, proofs.Theorem.Reached.{every_history}}
use Rattle.lz_machine.proofs.Runs.Composition.{run_append}
use Rattle.lz_judge.specs.MarkLines.{AreMarksOfRun}

may_on : (p : Point) (later before : List Transition) → IsRun p before → IsRun (run p before) later → IsRun p (later ++ before)
may_on p [] before first then_on = first
may_on p (step ∷ later) before first then_on = (subst (λ (q : Point). MayStep q.state step) (run_append p later before) then_on.0, may_on p later before first then_on.1)

plays_on : (p : Point) (ys xs : List PlayStep) (later before : List Transition) → ArePlaysOf p xs before → ArePlaysOf (run p before) ys later → ArePlaysOf p (ys ++ xs) (later ++ before)
plays_on p [] xs [] before first are = first
plays_on p [] xs (step ∷ later) before first are = absurd cc
plays_on p (y ∷ ys) xs [] before first are = absurd are
plays_on p (y ∷ ys) xs (step ∷ later) before first are = (subst (λ (q : Point). IsPlayOf q.state y step) (run_append p later before) are.0, plays_on p ys xs later before first are.1)

marks_join : (ms ns : List HistoryEvent) → AreMarksOfRun ms → AreMarksOfRun ns → AreMarksOfRun (ms ++ ns)
marks_join [] ns first then_ = then_
marks_join (m ∷ ms) ns first then_ = (first.0, marks_join ms ns first.1 then_)

trips_join : (tripped : Bool) (later before : List Transition) → tripped_by tripped (later ++ before) ≡ tripped_by (tripped_by tripped before) later
trips_join tripped [] before = refl
trips_join tripped (step ∷ later) before = ap (λ (t : Bool). tripped_after t step) (trips_join tripped later before)

go_on : (p : Point) (later before : List Transition) (tripped : Bool) → GoAsTripped p tripped before → GoAsTripped (run p before) (tripped_by tripped before) later → GoAsTripped p tripped (later ++ before)
go_on p [] before tripped first then_on = first
go_on p (step ∷ later) before tripped first then_on = grind (arith, nat_tests, run_append, trips_join, go_on p later before tripped first then_on.1)

-- two plays, one after the other, are one
pub joins : (a b c : WorldOver) (xs ys : List PlayStep) (ms ns : List HistoryEvent) → PlaysOn a xs ms b → PlaysOn b ys ns c → PlaysOn a (xs ++ ys) (ms ++ ns) c
joins a b c xs ys ms ns one other p at =
    let first = one p at in
    let q = run p first.played.steps in
    let second = other q (record { state = first.played.state; calls = first.calls }) in
    let steps = second.played.steps ++ first.played.steps in
    let there : run q second.played.steps ≡ run p steps = run_append p second.played.steps first.played.steps in
    record {
      played = record {
        steps = steps;
        one_for_one = subst (λ (zs : List PlayStep). ArePlaysOf p zs steps) (sym (reverse-append xs ys)) (plays_on p (reverse ys) (reverse xs) second.played.steps first.played.steps first.played.one_for_one second.played.one_for_one);
        runs = may_on p second.played.steps first.played.steps first.played.runs second.played.runs;
        state = subst (λ (r : Point). r.state ≡ c.state) there second.played.state;
        all_marks =
            subst (λ (r : Point). r.marks ≡ reverse (ms ++ ns) ++ p.marks) there
            (second.played.all_marks
            ∙ ap (λ (us : List HistoryEvent). reverse ns ++ us) first.played.all_marks
            ∙ sym (append_assoc (reverse ns) (reverse ms) p.marks)
            ∙ ap (λ (us : List HistoryEvent). us ++ p.marks) (sym (reverse-append ms ns)));
      };
      calls = subst (λ (r : Point). r.calls ≡ c.calls) there second.calls;
      reached = λ start h. subst (λ (r : Point). IsReached start r) there (second.reached start (first.reached start h));
      of_run = marks_join ms ns first.of_run second.of_run;
      as_tripped = go_on p second.played.steps first.played.steps a.tripped first.as_tripped (subst (λ (t : Bool). GoAsTripped q t second.played.steps) (sym first.tripped) second.as_tripped);
      tripped = trips_join a.tripped second.played.steps first.played.steps ∙ ap (λ (t : Bool). tripped_by t second.played.steps) first.tripped ∙ second.tripped;
    }

-- what was seen by a play is a chain of lives
pub chains : (old new : WorldOver) (plays : List PlayStep) (marks : List HistoryEvent) → PlaysOn old plays marks new → IsChain old marks new
chains old new plays marks h = λ start p t reached at leaves.
    let leads = h p at in
    let there = leads.reached start reached in
    every_history start new.state (reverse marks ++ p.marks) (run p leads.played.steps).trace t
    (record {
      steps = there.steps;
      starts = there.starts;
      runs = there.runs;
      state = ap (λ (q : Point). q.state) there.point ∙ leads.played.state;
      marks = ap (λ (q : Point). q.marks) there.point ∙ leads.played.all_marks;
      trace = ap (λ (q : Point). q.trace) there.point;
    })
    leaves

-- one step more
pub take_one : (plays : List PlayStep) (i : ℕ) (step : PlayStep) → slice_get plays i ≡ Some step → take (i + 1) plays ≡ take i plays ++ (step ∷ [])
take_one plays i step at =
    let next : i + 1 ≡ suc i = omega arith in
    ap (λ (n : ℕ). take n plays) next
    ∙ take-suc plays i step (slice_get_within plays i step at)
    ∙ ap (λ (s : PlayStep). take i plays ++ (s ∷ [])) (get_or_from_slice_get plays i step step at)

pub goes_on : (a b c : WorldOver) (plays : List PlayStep) (i : ℕ) (step : PlayStep) (ms ns : List HistoryEvent) → slice_get plays i ≡ Some step
    → PlaysOn a (take i plays) ms b → PlaysOn b (step ∷ []) ns c → PlaysOn a (take (i + 1) plays) (ms ++ ns) c
goes_on a b c plays i step ms ns at before now =
    subst (λ (zs : List PlayStep). PlaysOn a zs (ms ++ ns) c) (sym (take_one plays i step at)) (joins a b c (take i plays) (step ∷ []) ms ns before now)

-- a play that stops early in its next step
last_of : (plays : List PlayStep) (i : ℕ) (step : PlayStep) (mid new : WorldOver) → slice_get plays i ≡ Some step → (new ≡ mid) ⊎ LacksNext mid (step ∷ []) 0 new → (new ≡ mid) ⊎ LacksNext mid plays i new
last_of plays i _ mid new at (inl same) = inl same
last_of plays i _ mid new at (inr lacks) = inr (subst (λ (o : Option PlayStep). IsSomeAnd o (λ play. LacksMemory mid play new)) (sym at) lacks)

by_count : (a b c mid : WorldOver) (plays : List PlayStep) (i : ℕ) (step : PlayStep) (ms ns : List HistoryEvent) (count : ℕ) → slice_get plays i ≡ Some step
    → PlaysOn a (take i plays) ms b → count ≤ 1 → PlaysOn b (take count (step ∷ [])) ns mid → (c ≡ mid) ⊎ LacksNext mid (step ∷ []) count c → StopsEarly a plays c
by_count a b c mid plays i step ms ns zero at before few now last =
    let within = slice_get_within plays i step at in
    record {
      count = i;
      few = omega (arith, within);
      marks = ms ++ ns;
      mid = mid;
      before = subst (λ (zs : List PlayStep). PlaysOn a zs (ms ++ ns) mid) (append-nil (take i plays)) (joins a b mid (take i plays) [] ms ns before now);
      last = last_of plays i step mid c at last;
    }
by_count a b c mid plays i step ms ns (suc zero) at before few now last =
    let within = slice_get_within plays i step at in
    record { count = i + 1; few = omega (arith, within); marks = ms ++ ns; mid = mid; before = goes_on a b mid plays i step ms ns at before now; last = ⊎_elim inl (λ lacks. absurd lacks) last }
by_count a b c mid plays i _ ms ns (suc (suc count)) at before few now last = grind arith

pub early_on : (a b c : WorldOver) (plays : List PlayStep) (i : ℕ) (step : PlayStep) (ms : List HistoryEvent) → slice_get plays i ≡ Some step
    → PlaysOn a (take i plays) ms b → StopsEarly b (step ∷ []) c → StopsEarly a plays c
early_on a b c plays i step ms at before h = by_count a b c h.mid plays i step ms h.marks h.count at before h.few h.before h.last

-- a step that lacked memory is a play that stops early
pub early_lack : (old new : WorldOver) (play : PlayStep) → LacksMemory old play new → StopsEarly old (play ∷ []) new
early_lack old new play lacks = record { count = 0; few = omega arith; marks = []; mid = old; before = stays old; last = inr lacks }

-- a play that comes to a step that isn't lawful
pub stops_at : (a b c : WorldOver) (plays : List PlayStep) (i n : ℕ) (step : PlayStep) (ms : List HistoryEvent) → slice_get plays i ≡ Some step
    → PlaysOn a (take i plays) ms b → n ≡ i + 1 → c ≡ b → ¬ IsLawful b.state step → StopsAt a plays n c
stops_at a b c plays i n step ms at before is same unlawful =
    let back : n - 1 ≡ i = omega (arith, is) in
    record {
      marks = ms;
      before = rw (back, same) before;
      step = step;
      there = (omega (arith, is), rw back at);
      unlawful = rw same unlawful;
    }

-- A fault that is passed on is the one that came.
abbrev refused : {T U E : Type 0} → E → Result T E → Result U E
refused d (Ok x) = Err d
refused d (Err e) = Err e

abbrev refusal : {U E : Type 0} → E → Result U E
refusal e = Err e

pub same_fault : {T U E : Type 0} (r : Result T E) (x y e : E) → r ≡ Err x → x ≡ y → IsErrOf r e → IsErrOf {T = U} (Err y) e
same_fault {T} {U} {E} r x y e is same told = ap (refusal {U = U}) (sym same) ∙ ap (λ (s : Result T E). refused {U = U} x s) (sym is ∙ told)

-- a step without a mark
pub no_mark : (mark : Option HistoryEvent) → ((m : HistoryEvent) → mark ≢ Some m) → mark_list mark ≡ []
no_mark None never = refl
no_mark (Some m) never = absurd (never m refl)
