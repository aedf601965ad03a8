-- What the marks of a run tell: each call has a number of its own, an actor has one call open at most, and a call ends once.
use Rattle.std.specs.Prelude.{◌≡◌, ◌≢◌, ◌⊎◌, ℕ, [], ◌∷◌}
use Rattle.lz_slot.specs.{declared.{command.Command.{Command}, history.HistoryEvent.{HistoryEvent, TheVariants.{Call, Answer, Refused, Cut}}}, Histories.{History, IsCalled}}
use Rattle.lz_list.specs.Traces.{Trace}
use Rattle.lz_machine.specs.Runs.{Start, State, Reached}

-- the actor's call i is open: it was made in the life that goes on, and hasn't ended
abbrev pub IsOpenCall : History → ℕ → ℕ → Type 0
IsOpenCall [] i actor = ⊥
IsOpenCall (Call j b c ∷ M) i actor = ((j ≡ i) × (b ≡ actor)) ⊎ IsOpenCall M i actor
IsOpenCall (Answer j answer ∷ M) i actor = (j ≢ i) × IsOpenCall M i actor
IsOpenCall (Refused j why ∷ M) i actor = (j ≢ i) × IsOpenCall M i actor
IsOpenCall (Cut j why ∷ M) i actor = (j ≢ i) × IsOpenCall M i actor
IsOpenCall (_ ∷ M) i actor = ⊥

-- the mark may follow: a call has a new number, and its actor none that is open; what ends a call ends one that is open
abbrev pub MayFollow : HistoryEvent → History → Type 0
MayFollow (Call i actor c) M = ((d : Command) → ¬ IsCalled M i d) × ((j : ℕ) → ¬ IsOpenCall M j actor)
MayFollow (Answer i answer) M = (actor : ℕ) × IsOpenCall M i actor
MayFollow (Refused i why) M = (actor : ℕ) × IsOpenCall M i actor
MayFollow (Cut i why) M = (actor : ℕ) × IsOpenCall M i actor
MayFollow _ M = Unit {0}

-- each mark could follow those before it
abbrev pub IsTold : History → Type 0
IsTold [] = Unit {0}
IsTold (m ∷ M) = MayFollow m M × IsTold M

-- so it is of the marks of every run
abbrev pub MarksTell : Type 0
MarksTell = (start : Start) (w : State) (M : History) (P : Trace) → Reached start w M P → IsTold M
