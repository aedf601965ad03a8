-- The list of calls that a trace and a ledger give. Rows and lists of calls stand oldest first.
use Rattle.std.specs.Prelude.{◌≡◌, ◌⊎◌, ℕ, zero, suc, Bool, false, not, ◌==◌, ◌&&◌, List, [], ◌∷◌, ◌++◌, Option, MatchOption, filter, if◌then◌else◌, nat_lt}
use Rattle.std.specs.Prelude.{nat_le}
use Rattle.lz_slot.specs.{declared.command.Command.{Command}, Sets.{key_of, Keys, Same, after, reply, moved}}

-- A call that is listed: its number, its command, its answer if it has one, whether it changes the set, and its position, a
-- number of publishings.
pub record Row : Type 0 where
  pub number : ℕ
  pub command : Command
  pub answer : Option Bool
  pub changes : Bool
  pub position : ℕ

abbrev pub quiet_at : ℕ → List Row → List Row
quiet_at j rows = filter (λ r. not r.changes && (r.position == j)) rows

abbrev pub change_at : ℕ → List Row → List Row
change_at j rows = filter (λ r. r.changes && (r.position == j)) rows

-- up to position n: at each position the calls without change, then the change
abbrev pub listed : List Row → ℕ → List Row
listed rows zero = quiet_at 0 rows
listed rows (suc n) = listed rows n ++ (change_at n rows ++ quiet_at (suc n) rows)

-- running the rows from S gives each its answer
abbrev pub Gives : Keys → List Row → Type 0
Gives S [] = Unit {0}
Gives S (r ∷ L) = MatchOption r.answer (Unit {0}) (λ a. reply r.command (S (key_of r.command)) ≡ a) × Gives (after r.command S) L

-- the set after the rows
abbrev pub ends : Keys → List Row → Keys
ends S [] = S
ends S (r ∷ L) = ends (after r.command S) L

abbrev pub Each : (Row → Type 0) → List Row → Type 0
Each P [] = Unit {0}
Each P (r ∷ L) = P r × Each P L

-- the row's answer is that of the membership at its position, and only a row that changes moves it
pub record IsRight (members : ℕ → Keys) (r : Row) : Type 0 where
  pub answer : MatchOption r.answer (Unit {0}) (λ a. reply r.command (members r.position (key_of r.command)) ≡ a)
  pub quiet : r.changes ≡ false → moved (key_of r.command) r.command (members r.position (key_of r.command)) ≡ members r.position (key_of r.command)

-- the membership moves from a position to the next by the one row that changes there, if any
abbrev pub Moves : Keys → Keys → List Row → Type 0
Moves S T [] = (k : ℕ) → T k ≡ S k
Moves S T (r ∷ []) = (k : ℕ) → T k ≡ after r.command S k
Moves S T (r ∷ q ∷ L) = ⊥

abbrev pub HasRow : Row → List Row → Type 0
HasRow r [] = ⊥
HasRow r (q ∷ L) = (q ≡ r) ⊎ HasRow r L

-- r stands before q
abbrev pub Stands : Row → Row → List Row → Type 0
Stands r q [] = ⊥
Stands r q (l ∷ L) = ((l ≡ r) × HasRow q L) ⊎ Stands r q L

-- how often a call number is listed
abbrev pub times : ℕ → List Row → ℕ
times i [] = 0
times i (r ∷ L) = if r.number == i then suc (times i L) else times i L

-- whether the list up to position n has a row
abbrev pub is_within : ℕ → Row → Bool
is_within n r = if r.changes then nat_lt r.position n else nat_le r.position n

-- what a list of rows leads to, from S
pub record Leads (S : Keys) (L : List Row) (T : Keys) : Type 0 where
  pub gives : Gives S L
  pub ends_in : Same (ends S L) T
