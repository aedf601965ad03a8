-- What the run of the calls has come to at the marks M. The answers are those of a map, and so are the places.
use Rattle.std.specs.BTreeMap as tree
use Rattle.std.specs.BTreeSet as set
use Rattle.std.specs.{Prelude.{◌≡◌, ◌≢◌, ◌⊎◌, ℕ, ◌<◌, Bool, List, [], ◌∷◌, Option, None, Some}, BTreeMap.{BTreeMap}, BTreeSet.{BTreeSet}, Ordering.{nat_cmp}}
use Rattle.lz_slot.specs.{Sets.{Keys, Same, after, key_of, members, reply}, declared.{command.Command.{Command}, history.HistoryEvent.{HistoryEvent}}}
use Rattle.lz_slot.specs.declared.history.HistoryEvent.TheVariants.{Stop, Crash, Opened, OpenFailed}
use Rattle.lz_slot.specs.Histories.{IsAnswered, IsBefore, IsCalled, IsRefused, Life, lives}
use Rattle.lz_judge.specs.{Records.{IsLawful, IsMade}, Flaws.{IsInOrder, IsLifeBefore, IsMadeBefore, IsReached, IsWrongSet, Leads, OrderedChain, opens}}
use Rattle.lz_judge.specs.{Readings.{IsAt}, declared.playing.Listed.{Listed}}

-- the set has the keys of S
abbrev pub IsSet : BTreeSet ℕ → Keys → Type 0
IsSet keys S = (k : ℕ) → set.contains nat_cmp keys k ≡ S k

-- the calls lead from the set S to the set T, and each that has an answer gets it
abbrev pub Plays : BTreeMap ℕ Bool → List Listed → Keys → Keys → Type 0
Plays answers [] S T = Same S T
Plays answers (l ∷ calls) S T =
    ((answer : Bool) → tree.get nat_cmp answers l.call ≡ Some answer → reply l.command (S (key_of l.command)) ≡ answer) × Plays answers calls (after l.command S) T

-- the marks of the life that goes on, or that ended last
abbrev pub this_life : List HistoryEvent → List HistoryEvent
this_life [] = []
this_life (Opened keys ∷ M) = []
this_life (Stop ∷ M) = this_life M
this_life (Crash ∷ M) = this_life M
this_life (OpenFailed why ∷ M) = this_life M
this_life (m ∷ M) = m ∷ this_life M

-- the set with which it began
abbrev pub this_start : List HistoryEvent → Keys
this_start [] = members []
this_start (Opened keys ∷ M) = members keys
this_start (m ∷ M) = this_start M

-- the lives before it
abbrev pub lives_before : List HistoryEvent → List Life
lives_before [] = []
lives_before (Opened keys ∷ M) = lives (members []) M
lives_before (m ∷ M) = lives_before M

-- the marks before it
abbrev pub past_of : List HistoryEvent → List HistoryEvent
past_of [] = []
past_of (Opened keys ∷ M) = M
past_of (m ∷ M) = past_of M

-- the calls lead from the set S to the set T, whatever they were answered
abbrev pub Follows : List Listed → Keys → Keys → Type 0
Follows [] S T = Same S T
Follows (l ∷ calls) S T = Follows calls (after l.command S) T

-- call i has an answer, and where the calls are run from the set S, it gets another one
abbrev pub WrongAt : BTreeMap ℕ Bool → List Listed → Keys → ℕ → Type 0
WrongAt answers [] S i = ⊥
WrongAt answers (l ∷ calls) S i =
    ((l.call ≡ i) × ((answer : Bool) × (tree.get nat_cmp answers l.call ≡ Some answer) × (reply l.command (S (key_of l.command)) ≢ answer)))
    ⊎ WrongAt answers calls (after l.command S) i

-- the map has the calls of a life that have a place, by their places
pub record IsLife (places : BTreeMap ℕ ℕ) (H : List HistoryEvent) (life : BTreeMap ℕ Listed) : Type 0 where
  pub listed : (p : ℕ) (l : Listed) → tree.get nat_cmp life p ≡ Some l → IsCalled H l.call l.command × IsAt places l.call p
  pub all : (i p : ℕ) → IsMade H i → IsAt places i p → (l : Listed) × (tree.get nat_cmp life p ≡ Some l) × (l.call ≡ i)

-- what the readings before have found of the calls of M
pub record IsKnown (places : BTreeMap ℕ ℕ) (answers : BTreeMap ℕ Bool) (M : List HistoryEvent) : Type 0 where
  pub lawful : IsLawful M
  pub refused : (i : ℕ) → IsRefused M i → tree.get nat_cmp places i ≡ None
  pub answered : (i : ℕ) (answer : Bool) → IsAnswered M i answer → (p : ℕ) × IsAt places i p
  pub told : (i : ℕ) (answer : Bool) → IsAnswered M i answer → tree.get nat_cmp answers i ≡ Some answer
  pub apart : (i j p q : ℕ) → IsAt places i p → IsAt places j q → IsMadeBefore M i j → p ≢ q
  pub order : (i j p q : ℕ) → IsAt places i p → IsAt places j q → IsBefore M i j → p < q
  pub lives : (i j p q : ℕ) → IsAt places i p → IsAt places j q → IsLifeBefore M i j → p < q

-- The run has come as far as M: the set is that after the lives that have ended, and, if nothing was wrong, these are a chain
-- that leads to the set with which the life that goes on began.
pub record Played (places : BTreeMap ℕ ℕ) (M : List HistoryEvent) (keys : BTreeSet ℕ) (life : BTreeMap ℕ Listed) (wrong_reply wrong_set : Option ℕ) : Type 0 where
  pub now : Keys
  pub is_set : IsSet keys now
  pub is_life : IsLife places (this_life M) life
  pub chain : wrong_reply ≡ None → wrong_set ≡ None → Same now (this_start M) × OrderedChain (IsAt places) (lives_before M) (this_start M)

-- The life was run from the set that stood: the set is that after it, and each call that has an answer got it, if nothing was
-- wrong before and nothing is now.
pub record Finishes (answers : BTreeMap ℕ Bool) (calls : List Listed) (S : Keys) (keys : BTreeSet ℕ) (was wrong : Option ℕ) : Type 0 where
  pub now : Keys
  pub is_set : IsSet keys now
  pub fine : wrong ≡ None → (was ≡ None) × Plays answers calls S now

-- the life was run from the set that stood: the set is that after it, and a call that was found wrong is one
pub record Finds (answers : BTreeMap ℕ Bool) (calls : List Listed) (S : Keys) (keys : BTreeSet ℕ) (was wrong : Option ℕ) : Type 0 where
  pub now : Keys
  pub is_set : IsSet keys now
  pub leads : Follows calls S now
  pub wrong_is : (i : ℕ) → wrong ≡ Some i → (was ≡ Some i) ⊎ WrongAt answers calls S i

-- call i was answered otherwise than the calls of M below it in place say
pub record IsWrong (places : BTreeMap ℕ ℕ) (answers : BTreeMap ℕ Bool) (M : List HistoryEvent) (i : ℕ) : Type 0 where
  pub set_before : Keys
  pub reached : IsReached (IsAt places) M i set_before
  pub command : Command
  pub called : IsCalled M i command
  pub answer : Bool
  pub told : tree.get nat_cmp answers i ≡ Some answer
  pub other : reply command (set_before (key_of command)) ≢ answer

-- The run has come as far as M: the lives that have ended have a list in order that leads to the set, and a call of theirs that
-- was found wrong is one.
pub record Ran (places : BTreeMap ℕ ℕ) (answers : BTreeMap ℕ Bool) (M : List HistoryEvent) (keys : BTreeSet ℕ) (wrong_reply : Option ℕ) : Type 0 where
  pub now : Keys
  pub is_set : IsSet keys now
  pub list : List ℕ
  pub in_order : IsInOrder (IsAt places) (past_of M) list
  pub leads : Leads (past_of M) (members []) list now
  pub wrong_is : (i : ℕ) → wrong_reply ≡ Some i → IsWrong places answers (past_of M) i

-- The opens were counted, and one that was found wrong is one.
pub record Compared (places : BTreeMap ℕ ℕ) (M : List HistoryEvent) (count : ℕ) (wrong_set : Option ℕ) : Type 0 where
  pub counts : count ≡ opens M
  pub set_is : (n : ℕ) → wrong_set ≡ Some n → IsWrongSet (IsAt places) M n
