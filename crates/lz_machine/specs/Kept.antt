-- The membership at each position of a trace, where the last change of some keys is dropped.
use Rattle.std.specs.Prelude.{◌≡◌, ◌⊎◌, ℕ, suc, ◌<◌, ◌≤◌, Bool, true, false, not, ◌==◌, ◌&&◌, max, nat_lt, nat_le, if◌then◌else◌, List, [], ◌∷◌, length, Some}
use Rattle.std.specs.Prelude.{None}
use Rattle.lz_slot.specs.{declared.command.Command.{Command, TheVariants.{Add, Remove}}, Sets.{key_of, Keys, reply, moved}}
use Rattle.lz_list.specs.declared.publishing.Publishing.{Publishing, TheVariants.{Linked as linked, Marked as marked, Halted as halted}}
use Rattle.lz_list.specs.Traces.{Trace, member, linking, is_settled, is_removed, SettledYes, SettledNo}
use Rattle.lz_machine.specs.Ledgers.{Row}

-- the first n publishings
abbrev pub upto : ℕ → Trace → Trace
upto n [] = []
upto n (e ∷ P) = if nat_lt (length P) n then e ∷ P else upto n P

abbrev pub changes_key : ℕ → Publishing → Bool
changes_key k (linked j s p) = j == k
changes_key k (marked j s p) = j == k
changes_key k _ = false

-- the length of the trace that the last change of k ends; 0 for none
abbrev pub last_change : ℕ → Trace → ℕ
last_change k [] = 0
last_change k (e ∷ P) = if changes_key k e then suc (length P) else last_change k P

-- k's last change isn't settled
abbrev pub IsOpen : ℕ → Trace → Type 0
IsOpen k P = (0 < linking k P) × ((member k P ≡ true → is_settled (linking k P) P ≡ false) × (member k P ≡ false → is_removed (linking k P) P ≡ false))

-- which keys' last changes are dropped, in a life that began with the first n publishings
pub record MayDrop (n : ℕ) (P : Trace) (drop : Keys) : Type 0 where
  pub open_change : (k : ℕ) → drop k ≡ true → IsOpen k P
  pub later : (k : ℕ) → drop k ≡ true → n < last_change k P

abbrev pub kept_keys : ℕ → Trace → Keys → ℕ → Keys
kept_keys n P drop j k = if drop k && nat_le (last_change k P) (max n j) then not (member k (upto (max n j) P)) else member k (upto (max n j) P)

-- the publishing at an index, or `halted` past the end
abbrev pub publishing : ℕ → Trace → Publishing
publishing j [] = halted
publishing j (e ∷ P) = if length P == j then e else publishing j P

-- the rows that change something at index j are that of its publishing, unless it is dropped
abbrev pub IsChange : Bool → Command → List Row → Type 0
IsChange true c L = L ≡ []
IsChange false c L = (r : Row) × (L ≡ r ∷ []) × (r.command ≡ c)

abbrev pub RowsFit : Trace → Keys → ℕ → Publishing → List Row → Type 0
RowsFit P drop j (linked k s p) L = IsChange (drop k && (last_change k P == suc j)) (Add k) L
RowsFit P drop j (marked k s p) L = IsChange (drop k && (last_change k P == suc j)) (Remove k) L
RowsFit P drop j _ L = L ≡ []

-- what a row without change rests on
pub record RestsOnYes (P : Trace) (r : Row) : Type 0 where
  pub answer : r.answer ≡ Some (reply r.command true)
  pub leaves : moved (key_of r.command) r.command true ≡ true
  pub settled_yes : SettledYes (upto r.position P) P (key_of r.command)

pub record RestsOnNo (P : Trace) (r : Row) : Type 0 where
  pub answer : r.answer ≡ Some (reply r.command false)
  pub leaves : moved (key_of r.command) r.command false ≡ false
  pub settled_no : SettledNo (upto r.position P) P (key_of r.command)

pub record IsChanging (P : Trace) (r : Row) : Type 0 where
  pub within : r.position < length P
  pub answer : (r.answer ≡ None) ⊎ (r.answer ≡ Some true)
  pub was : reply r.command (member (key_of r.command) (upto r.position P)) ≡ true
  pub changed : changes_key (key_of r.command) (publishing r.position P) ≡ true

pub record IsRowOf (n : ℕ) (P : Trace) (r : Row) : Type 0 where
  pub early : n ≤ r.position
  pub late : r.position ≤ length P
  pub quiet : r.changes ≡ false → RestsOnYes P r ⊎ RestsOnNo P r
  pub changing : r.changes ≡ true → IsChanging P r
