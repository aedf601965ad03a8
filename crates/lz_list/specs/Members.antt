-- What traces make of the members, as contracts cite it.
use Rattle.std.specs.Prelude.{◌≡◌, ℕ, ◌<◌, ◌≤◌, ◌↔◌, Bool, true, false, List, [], ◌∷◌, length}
use Rattle.lz_slot.specs.Limits.{most_slots}
use Rattle.lz_list.specs.{declared.publishing.Publishing.TheVariants.{Linked as linked, Marked as marked}, Words.{Words}}
use Rattle.lz_list.specs.{Traces.{Trace, Lawful, member, words_of_trace}, Lists.{IsTable, IsSorted, IsMember, IsMemberIn}}

-- after a lawful trace the buckets are sorted
abbrev pub WordsAreSorted : Type 0
WordsAreSorted =
    (slots buckets passes : ℕ) (P : Trace)
    → slots ≤ most_slots → Lawful buckets slots P
    → IsSorted (words_of_trace slots buckets passes P)

-- the members by the words are those of the trace, whatever the number of buckets
abbrev pub MembersAreThose : Type 0
MembersAreThose =
    (slots buckets passes : ℕ) (P : Trace)
    → slots ≤ most_slots → 0 < buckets → Lawful buckets slots P
    → (k : ℕ) → IsMember (words_of_trace slots buckets passes P) k ↔ (member k P ≡ true)

-- the keys linked, with true, and marked, with false, in a trace
abbrev pub key_changes : Trace → List (ℕ × Bool)
key_changes [] = []
key_changes (linked k s p ∷ P) = (k, true) ∷ key_changes P
key_changes (marked k s p ∷ P) = (k, false) ∷ key_changes P
key_changes (_ ∷ P) = key_changes P

-- buckets in which the same keys were linked and marked as in one list have its members
abbrev pub BucketsAreOneList : Type 0
BucketsAreOneList =
    (slots buckets passes : ℕ) (P Q : Trace)
    → slots ≤ most_slots → 0 < buckets → Lawful buckets slots P → Lawful 1 slots Q → key_changes P ≡ key_changes Q
    → (k : ℕ) → IsMember (words_of_trace slots buckets passes P) k ↔ IsMember (words_of_trace slots 1 passes Q) k

-- the members are the union of the buckets' members
abbrev pub MembersAreTheUnion : Type 0
MembersAreTheUnion = (w : Words) → IsTable w → (k : ℕ) → IsMember w k ↔ (b : ℕ) × (b < length w.heads) × IsMemberIn w b k
