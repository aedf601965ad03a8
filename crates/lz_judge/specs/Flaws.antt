-- What is wrong with a history, and what its judge's yes means. Marks and points stand newest first, the calls of a list oldest first.
use Rattle.std.specs.Prelude.{◌≡◌, ◌≢◌, ◌⊎◌, ◌↔◌, ℕ, suc, ◌<◌, ◌≤◌, Bool, List, [], ◌∷◌, map}
use Rattle.lz_slot.specs.{declared.{command.Command.{Command}, history.HistoryEvent.TheVariants.{Call, Opened}}, Sets.{Keys, Same, members, key_of, after, reply}}
use Rattle.lz_slot.specs.Histories.{History, Fits, IsAnswered, IsBefore, IsCalled, IsEarlier, IsListed, IsRefused, Life, count_of}
use Rattle.lz_judge.specs.{Records.{IsMade, IsPoint, Record}, declared.flaw.Flaw.{Flaw}}
use Rattle.lz_judge.specs.declared.flaw.Flaw.TheVariants.{Unlisted, NeverCalled, Misordered, WrongReply, WrongSet, ListedTwice, RefusedListed}

-- L is the list of the calls of M that have a place, in the order of their places: call i is at place p where `at i p`
pub record IsInOrder (at : ℕ → ℕ → Type 0) (M : History) (L : List ℕ) : Type 0 where
  pub each : (i : ℕ) → IsListed i L ↔ (IsMade M i × ((p : ℕ) × at i p))
  pub ascending : (i j p q : ℕ) → IsEarlier i j L → at i p → at j q → p < q

-- Each life's calls that have a place, in the order of their places, fit it: the newest life's lead to the set T, and each
-- earlier life's to the set with which the next began.
abbrev pub OrderedChain : (ℕ → ℕ → Type 0) → List Life → Keys → Type 0
OrderedChain at [] T = Unit {0}
OrderedChain at (life ∷ earlier) T =
    (L : List ℕ) × IsInOrder at life.history L × Fits life.start life.history L T × OrderedChain at earlier life.start

-- call i was made before call j
abbrev pub IsMadeBefore : History → ℕ → ℕ → Type 0
IsMadeBefore [] i j = ⊥
IsMadeBefore (m ∷ M) i j = ((actor : ℕ) × (c : Command) × (m ≡ Call j actor c) × IsMade M i) ⊎ IsMadeBefore M i j

-- call i was made in a life that has ended, and a later life has begun
abbrev pub IsPast : History → ℕ → Type 0
IsPast [] i = ⊥
IsPast (Opened keys ∷ M) i = IsMade M i
IsPast (m ∷ M) i = IsPast M i

-- call i was made in a life before that of call j
abbrev pub IsLifeBefore : History → ℕ → ℕ → Type 0
IsLifeBefore [] i j = ⊥
IsLifeBefore (m ∷ M) i j = ((actor : ℕ) × (c : Command) × (m ≡ Call j actor c) × IsPast M i) ⊎ IsLifeBefore M i j

-- the earlier call i forbids that j has its point: both have one, or i has to lie below j and doesn't
abbrev pub IsMisplaced : History → ℕ → ℕ → ℕ → ℕ → Type 0
IsMisplaced M i j p q = IsMadeBefore M i j × ((p ≡ q) ⊎ ((IsBefore M i j ⊎ IsLifeBefore M i j) × (q ≤ p)))

-- the calls of a list lead from the set S to the set T, whatever they were answered
abbrev pub Leads : History → Keys → List ℕ → Keys → Type 0
Leads M S [] T = Same S T
Leads M S (i ∷ L) T = (c : Command) × IsCalled M i c × Leads M (after c S) L T

-- Call i has a place, and the calls of M at the places below it, in the order of their places, lead from the empty set to S.
pub record IsReached (at : ℕ → ℕ → Type 0) (M : History) (i : ℕ) (S : Keys) : Type 0 where
  pub place : ℕ
  pub here : at i place
  pub list : List ℕ
  pub each : (j : ℕ) → IsListed j list ↔ (IsMade M j × ((p : ℕ) × at j p × (p < place)))
  pub ascending : (j k p q : ℕ) → IsEarlier j k list → at j p → at k q → p < q
  pub leads : Leads M (members []) list S

-- how many opens there were
abbrev pub opens : History → ℕ
opens [] = 0
opens (Opened keys ∷ M) = suc (opens M)
opens (m ∷ M) = opens M

-- open n found other keys than those that the calls before it leave
abbrev pub IsWrongSet : (ℕ → ℕ → Type 0) → History → ℕ → Type 0
IsWrongSet at [] n = ⊥
IsWrongSet at (Opened keys ∷ M) n =
    ((suc (opens M) ≡ n) × ((L : List ℕ) × (T : Keys) × IsInOrder at M L × Leads M (members []) L T × (¬ Same T (members keys)))) ⊎ IsWrongSet at M n
IsWrongSet at (m ∷ M) n = IsWrongSet at M n

-- the flaw is true of the history
abbrev pub IsFlaw : Record → Flaw → Type 0
IsFlaw h (NeverCalled i) = ((p : ℕ) × IsPoint h.points i p) × (¬ IsMade h.marks i)
IsFlaw h (ListedTwice i) = 2 ≤ count_of i (map (λ point. point.call) h.points)
IsFlaw h (RefusedListed i) = IsRefused h.marks i × ((p : ℕ) × IsPoint h.points i p)
IsFlaw h (Unlisted i) = ((answer : Bool) × IsAnswered h.marks i answer) × ((p : ℕ) → ¬ IsPoint h.points i p)
IsFlaw h (Misordered j) = (i : ℕ) × (p : ℕ) × (q : ℕ) × IsPoint h.points i p × IsPoint h.points j q × IsMisplaced h.marks i j p q
IsFlaw h (WrongReply i) =
    (S : Keys) × (c : Command) × (answer : Bool) × IsReached (IsPoint h.points) h.marks i S × IsCalled h.marks i c × IsAnswered h.marks i answer × (reply c (S (key_of c)) ≢ answer)
IsFlaw h (WrongSet n) = IsWrongSet (IsPoint h.points) h.marks n

-- the turn at which the judge looks for a flaw; one reading looks at replies and at sets
abbrev pub flaw_turn : Flaw → ℕ
flaw_turn (NeverCalled i) = 1
flaw_turn (ListedTwice i) = 2
flaw_turn (RefusedListed i) = 3
flaw_turn (Unlisted i) = 4
flaw_turn (Misordered j) = 5
flaw_turn (WrongReply i) = 6
flaw_turn (WrongSet n) = 6

-- no flaw of an earlier turn is true of the history
abbrev pub IsFirstKind : Record → Flaw → Type 0
IsFirstKind h flaw = (other : Flaw) → IsFlaw h other → flaw_turn flaw ≤ flaw_turn other

-- the number by which a program tells a flaw
abbrev pub flaw_number : Flaw → ℕ
flaw_number (Unlisted i) = 1
flaw_number (NeverCalled i) = 2
flaw_number (Misordered i) = 3
flaw_number (WrongReply i) = 4
flaw_number (WrongSet n) = 5
flaw_number (ListedTwice i) = 6
flaw_number (RefusedListed i) = 7

-- the number of the call, or of the open
abbrev pub flaw_subject : Flaw → ℕ
flaw_subject (Unlisted i) = i
flaw_subject (NeverCalled i) = i
flaw_subject (Misordered i) = i
flaw_subject (WrongReply i) = i
flaw_subject (WrongSet n) = n
flaw_subject (ListedTwice i) = i
flaw_subject (RefusedListed i) = i
