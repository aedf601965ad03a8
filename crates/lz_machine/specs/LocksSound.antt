-- What an actor may rely on in a sound state because of its locks, which it has of what it claimed from Claim to Release.
use Rattle.std.specs.Prelude.{◌≡◌, ◌⊎◌, ℕ, Bool, true, false, List, [], ◌∷◌, length, Option, Some}
use Rattle.lz_list.specs.{declared.place.Place.{Place}, Words.{place_number, link_to}, Traces.{Trace, key_word, is_marked}}
use Rattle.lz_list.specs.Locks.{NodeLocks, claimed_places, owner}
use Rattle.lz_machine.specs.declared.actor.{Actor.{Actor}, LockPhase.{LockPhase, TheVariants.{Nothing, Checked, GateOpened, GateClosed, Marked, Released}}}
use Rattle.lz_machine.specs.{Yards.{Shape, actor_in}, Stands.{IsLinkable, IsRound, InBucket, FacesNode}}

-- An actor has the locks of what it claimed from Claim to Release.
abbrev pub has_locks : LockPhase → Bool
has_locks Nothing = false
has_locks Released = false
has_locks _ = true

abbrev pub HasPlace : Place → List Place → Type 0
HasPlace place [] = ⊥
HasPlace place (x ∷ places) = (x ≡ place) ⊎ HasPlace place places

-- the place is one of those that the actor has locked
pub record HasLock (actor : Actor) (place : Place) : Type 0 where
  pub locks : has_locks actor.hold ≡ true
  pub among : HasPlace place (claimed_places actor.pred actor.curr)

-- What an actor may rely on because of its locks, whatever has become of its call: its key is that of its slot, or of the
-- node that it claimed.
pub record IsBeside (buckets k : ℕ) (pred : Place) (curr : Option ℕ) (P : Trace) : Type 0 where
  pub bucket : InBucket buckets k pred
  pub round : IsRound buckets k (place_number pred) (link_to curr) P

pub record IsRightBefore (buckets : ℕ) (pred : Place) (t : ℕ) (P : Trace) : Type 0 where
  pub bucket : InBucket buckets (key_word t P) pred
  pub faces : FacesNode buckets (key_word t P) (place_number pred) t P

pub record IsChecked (buckets : ℕ) (actor : Actor) (P : Trace) : Type 0 where
  pub beside : (s : ℕ) → actor.slot ≡ Some s → IsBeside buckets (key_word s P) actor.pred actor.curr P
  pub before : (t : ℕ) → actor.curr ≡ Some t → IsRightBefore buckets actor.pred t P × (is_marked t P ≡ false)

pub record HasOpened (buckets : ℕ) (actor : Actor) (P : Trace) : Type 0 where
  pub own : ℕ
  pub slot : actor.slot ≡ Some own
  pub beside : IsBeside buckets (key_word own P) actor.pred actor.curr P
  pub ready : IsLinkable buckets (key_word own P) (link_to actor.curr) own P

pub record HasClosed (buckets : ℕ) (mark : Bool) (actor : Actor) (P : Trace) : Type 0 where
  pub node : ℕ
  pub curr : actor.curr ≡ Some node
  pub before : IsRightBefore buckets actor.pred node P
  pub marked : is_marked node P ≡ mark

abbrev pub RestsOn : ℕ → LockPhase → Actor → Trace → Type 0
RestsOn buckets Checked actor P = IsChecked buckets actor P
RestsOn buckets GateOpened actor P = HasOpened buckets actor P
RestsOn buckets GateClosed actor P = HasClosed buckets false actor P
RestsOn buckets Marked actor P = HasClosed buckets true actor P
RestsOn buckets _ actor P = Unit {0}

pub record LocksSound (shape : Shape) (locks : NodeLocks) (actors : List Actor) (P : Trace) : Type 0 where
  pub heads : length locks.heads ≡ shape.buckets
  pub nodes : length locks.nodes ≡ shape.slots
  pub has : (a : ℕ) (place : Place) → HasLock (actor_in actors a) place → owner locks place ≡ a
  pub rests : (a : ℕ) → RestsOn shape.buckets (actor_in actors a).hold (actor_in actors a) P
