-- The members that slots hold, by key.
use Rattle.std.specs.Prelude.{◌≡◌, ◌≢◌, ℕ, ◌+◌, ◌<◌, ◌≤◌, true, nat_lt, ◌&&◌, ◌==◌, if◌then◌else◌, List, [], ◌∷◌, length, filter_map, slice_index_or, Option}
use Rattle.std.specs.Prelude.{Some, None}
use Rattle.lz_slot.specs.Nodes.{Nodes, has_node}
use Rattle.lz_vault.specs.{declared.{opening.OpenFault.{OpenFault, TheVariants.{Twice, Memory}}, vault.Stage.TheVariants.{Closed, Open}}, Stages.{Cell}}

-- the cell of a slot that no vault has
abbrev pub no_cell : Cell
no_cell = record { stage = Closed; key = 0 }

-- the key that a slot holds, where its gate is open
abbrev pub member_in : Cell → Option ℕ
member_in cell = elim cell.stage [ Open ↦ Some cell.key | _ ↦ None ]

abbrev pub member_at : List Cell → ℕ → Option ℕ
member_at cells s = member_in (slice_index_or cells s no_cell)

-- the keys that slots hold, in the order of the slots
abbrev pub keys_in : List Cell → List ℕ
keys_in cells = filter_map member_in cells

-- the keys ascend
abbrev pub Ascends : Nodes → Type 0
Ascends [] = Unit {0}
Ascends (f ∷ found) = ((k s : ℕ) → has_node k s found ≡ true → f.0 < k) × Ascends found

-- no two of the first n slots hold one key
abbrev pub AreApart : List Cell → ℕ → Type 0
AreApart cells n = (i j k : ℕ) → i < n → j < n → member_at cells i ≡ Some k → member_at cells j ≡ Some k → i ≡ j

-- no two slots hold one key
abbrev pub AreDistinct : List Cell → Type 0
AreDistinct cells = AreApart cells (length cells)

-- These are the members that the first n slots hold, by key.
pub record AreMembers (cells : List Cell) (n : ℕ) (members : Nodes) : Type 0 where
  pub ascend : Ascends members
  pub each : (k s : ℕ) → has_node k s members ≡ true → (s < n) × (member_at cells s ≡ Some k)
  pub all : (k s : ℕ) → s < n → member_at cells s ≡ Some k → has_node k s members ≡ true

-- the node at a place
abbrev pub node_at : Nodes → ℕ → ℕ × ℕ
node_at members i = slice_index_or members i (0, 0)

-- the nodes are in order: neighbours don't descend by key, nor those of one key by slot
abbrev pub AreInOrder : Nodes → Type 0
AreInOrder ms = (i : ℕ) → i + 1 < length ms → ((node_at ms i).0 ≤ (node_at ms (i + 1)).0) × ((node_at ms i).0 ≡ (node_at ms (i + 1)).0 → (node_at ms i).1 ≤ (node_at ms (i + 1)).1)

-- These are the members that the first n slots hold, in any order, each once.
pub record AreListed (cells : List Cell) (n : ℕ) (members : Nodes) : Type 0 where
  pub each : (i : ℕ) → i < length members → ((node_at members i).1 < n) × (member_at cells (node_at members i).1 ≡ Some (node_at members i).0)
  pub all : (k s : ℕ) → s < n → member_at cells s ≡ Some k → (i : ℕ) × (i < length members) × (node_at members i ≡ (k, s))
  pub apart : (i j : ℕ) → i < length members → j < length members → (node_at members i).1 ≡ (node_at members j).1 → i ≡ j

-- Slot `second` is the lowest that holds a key which an earlier one, `first`, holds.
pub record AreTwins (cells : List Cell) (first second : ℕ) : Type 0 where
  pub order : first < second
  pub range : second < length cells
  pub key : ℕ
  pub one : member_at cells first ≡ Some key
  pub other : member_at cells second ≡ Some key
  pub lowest : AreApart cells second

-- why cells have no members by key: two of them hold one key, or memory is out
abbrev pub TellsTwins : List Cell → OpenFault → Type 0
TellsTwins cells (Twice first second) = AreTwins cells first second
TellsTwins cells Memory = Unit {0}
TellsTwins cells fault = ⊥

-- two neighbours of one key, in these slots
abbrev pub AreNeighbours : Nodes → ℕ → ℕ → ℕ → Type 0
AreNeighbours members i first second = ((node_at members i).0 ≡ (node_at members (i + 1)).0) × ((node_at members i).1 ≡ first) × ((node_at members (i + 1)).1 ≡ second)

-- of the first n nodes no two neighbours have one key, or these two are such, and of all such those with the lowest second slot
abbrev pub IsLowest : Nodes → ℕ → Option (ℕ × ℕ) → Type 0
IsLowest members n None = (i : ℕ) → i + 1 < n → (node_at members i).0 ≢ (node_at members (i + 1)).0
IsLowest members n (Some twins) =
    ((i : ℕ) × (i + 1 < n) × AreNeighbours members i twins.0 twins.1)
    × ((i : ℕ) → i + 1 < n → (node_at members i).0 ≡ (node_at members (i + 1)).0 → twins.1 ≤ (node_at members (i + 1)).1)

-- these twins, or those of two neighbours, if they have one key and their second slot is lower
abbrev pub lower_twins : Option (ℕ × ℕ) → ℕ × ℕ → ℕ × ℕ → Option (ℕ × ℕ)
lower_twins None f g = if f.0 == g.0 then Some (f.1, g.1) else None
lower_twins (Some twins) f g = if (f.0 == g.0) && nat_lt g.1 twins.1 then Some (f.1, g.1) else Some twins
