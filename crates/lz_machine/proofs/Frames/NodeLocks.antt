-- Node locks: what a claim and a release make of them.
use Rattle.std.proofs.{lemmas.Bool.Decides.{nat_tests}, Common.{◌≡◌, ◌≢◌, ◌⊎◌, inl, inr, ℕ, ◌<◌, ◌≤◌, true, false, List, length, Option, Some, None, refl, sym}}
use Rattle.std.proofs.Common.{◌∙◌, subst, arith, get_or-set_other, get_or-set_same, length-set}
use mathlib.Core.Bool.{false≢true}
use Rattle.lz_list.specs.{declared.place.Place.{Place, TheVariants.{Bucket, Node}}, Traces.{Trace}}
use Rattle.lz_list.specs.Locks.{NodeLocks, owner, with_owner, is_pair_free, pair_owned, claimed_places}
use Rattle.lz_machine.specs.{declared.actor.Actor.{Actor}, Yards.{Shape, actor_in}, LocksSound.{has_locks, HasPlace, HasLock, RestsOn, LocksSound}}
use Rattle.lz_machine.proofs.Frames.ActorTable.{by_actor}

pub place_cases : (p q : Place) → (p ≡ q) ⊎ (p ≢ q)
place_cases p q = grind arith

-- the place is one of the table's
abbrev pub IsPlaceIn : NodeLocks → Place → Type 0
IsPlaceIn locks (Bucket b) = b < length locks.heads
IsPlaceIn locks (Node s) = s < length locks.nodes

module _ (a : ℕ) where
  owner_same : (locks : NodeLocks) (place : Place) → IsPlaceIn locks place → owner (with_owner locks place a) place ≡ a
  owner_same locks place lt = grind (arith, nat_tests, get_or-set_same)

  owner_other : (locks : NodeLocks) (place other : Place) → other ≢ place → owner (with_owner locks place a) other ≡ owner locks other
  owner_other locks place other apart = grind (arith, nat_tests, get_or-set_other)

  in_still : (locks : NodeLocks) (place other : Place) → IsPlaceIn locks other → IsPlaceIn (with_owner locks place a) other
  in_still locks place other lt = grind (arith, nat_tests, length-set)

  with_lengths : (locks : NodeLocks) (place : Place) → (length (with_owner locks place a).heads ≡ length locks.heads) × (length (with_owner locks place a).nodes ≡ length locks.nodes)
  with_lengths locks place = grind (arith, nat_tests, length-set)

  pub pair_lengths : (locks : NodeLocks) (pred : Place) (curr : Option ℕ) → (length (pair_owned locks pred curr a).heads ≡ length locks.heads) × (length (pair_owned locks pred curr a).nodes ≡ length locks.nodes)
  pair_lengths locks pred None = with_lengths locks pred
  pair_lengths locks pred (Some s) =
      let one = with_lengths locks pred in
      let two = with_lengths (with_owner locks pred a) (Node s) in
      (two.0 ∙ one.0, two.1 ∙ one.1)

  -- each place of the pair has this owner then
  pub pair_same : (locks : NodeLocks) (pred : Place) (curr : Option ℕ) (place : Place) → IsPlaceIn locks pred → ((s : ℕ) → curr ≡ Some s → s < length locks.nodes) → HasPlace place (claimed_places pred curr) → owner (pair_owned locks pred curr a) place ≡ a
  pair_same locks pred None place at node (inl same) = subst (λ (q : Place). owner (with_owner locks pred a) q ≡ a) same (owner_same locks pred at)
  pair_same locks pred None place at node (inr none) = absurd none
  pair_same locks pred (Some s) place at node (inl same) = elim (place_cases pred (Node s)) [
    | inl too ↦ subst (λ (q : Place). owner (with_owner (with_owner locks pred a) (Node s) a) q ≡ a) (sym too ∙ same) (owner_same (with_owner locks pred a) (Node s) (in_still locks pred (Node s) (node s refl)))
    | inr apart ↦ subst (λ (q : Place). owner (with_owner (with_owner locks pred a) (Node s) a) q ≡ a) same (owner_other (with_owner locks pred a) (Node s) pred apart ∙ owner_same locks pred at)
  ]
  pair_same locks pred (Some s) place at node (inr (inl same)) = subst (λ (q : Place). owner (with_owner (with_owner locks pred a) (Node s) a) q ≡ a) same (owner_same (with_owner locks pred a) (Node s) (in_still locks pred (Node s) (node s refl)))
  pair_same locks pred (Some s) place at node (inr (inr none)) = absurd none

  -- and each other place the one that it had
  pub pair_other : (locks : NodeLocks) (pred : Place) (curr : Option ℕ) (place : Place) → (HasPlace place (claimed_places pred curr) → ⊥) → owner (pair_owned locks pred curr a) place ≡ owner locks place
  pair_other locks pred None place apart = owner_other locks pred place (λ same. apart (inl (sym same)))
  pair_other locks pred (Some s) place apart = owner_other (with_owner locks pred a) (Node s) place (λ same. apart (inr (inl (sym same)))) ∙ owner_other locks pred place (λ same. apart (inl (sym same)))

-- a pair that is free has no owner
pub pair_free : (locks : NodeLocks) (pred : Place) (curr : Option ℕ) (place : Place) → is_pair_free locks pred curr ≡ true → HasPlace place (claimed_places pred curr) → owner locks place ≡ 0
pair_free locks pred curr place free h5 = grind arith

-- no actor is 0
pub no_lock : (actors : List Actor) (b : ℕ) (place : Place) → HasLock (actor_in actors b) place → 1 ≤ b
no_lock actors b place h = grind (arith, nat_tests, false≢true)

module _ (shape : Shape) (locks : NodeLocks) (actors actors' : List Actor) (P : Trace) (a : ℕ) (others : (b : ℕ) → b ≢ a → actor_in actors' b ≡ actor_in actors b) (sound : LocksSound shape locks actors P) where
  others_lock : (b : ℕ) → b ≢ a → (place : Place) → HasLock (actor_in actors' b) place → HasLock (actor_in actors b) place
  others_lock b other place h = subst (λ (q : Actor). HasLock q place) (others b other) h

  others_rest : (b : ℕ) → b ≢ a → RestsOn shape.buckets (actor_in actors' b).hold (actor_in actors' b) P
  others_rest b other = subst (λ (q : Actor). RestsOn shape.buckets q.hold q P) (sym (others b other)) (sound.rests b)

  -- an actor's claim of a pair that is free
  pub claimed_locks : (pred : Place) (curr : Option ℕ) → is_pair_free locks pred curr ≡ true → IsPlaceIn locks pred → ((s : ℕ) → curr ≡ Some s → s < length locks.nodes)
      → ((place : Place) → HasLock (actor_in actors' a) place → HasPlace place (claimed_places pred curr)) → RestsOn shape.buckets (actor_in actors' a).hold (actor_in actors' a) P
      → LocksSound shape (pair_owned locks pred curr a) actors' P
  claimed_locks pred curr free at node within rests = record {
    heads = (pair_lengths a locks pred curr).0 ∙ sound.heads;
    nodes = (pair_lengths a locks pred curr).1 ∙ sound.nodes;
    has = by_actor (λ b. (place : Place) → HasLock (actor_in actors' b) place → owner (pair_owned locks pred curr a) place ≡ b) a
        (λ place h. pair_same a locks pred curr place at node (within place h))
        (λ b other place h. let was = others_lock b other place h in pair_other a locks pred curr place (λ there. absurd (omega (arith, pair_free locks pred curr place free there, sound.has b place was, no_lock actors b place was))) ∙ sound.has b place was);
    rests = by_actor (λ b. RestsOn shape.buckets (actor_in actors' b).hold (actor_in actors' b) P) a rests others_rest;
  }

  -- its release of its own pair
  pub released_locks : (pred : Place) (curr : Option ℕ) → ((place : Place) → HasPlace place (claimed_places pred curr) → HasLock (actor_in actors a) place) → has_locks (actor_in actors' a).hold ≡ false
      → RestsOn shape.buckets (actor_in actors' a).hold (actor_in actors' a) P
      → LocksSound shape (pair_owned locks pred curr 0) actors' P
  released_locks pred curr mine none rests = record {
    heads = (pair_lengths 0 locks pred curr).0 ∙ sound.heads;
    nodes = (pair_lengths 0 locks pred curr).1 ∙ sound.nodes;
    has = by_actor (λ b. (place : Place) → HasLock (actor_in actors' b) place → owner (pair_owned locks pred curr 0) place ≡ b) a
        (λ place h. absurd (false≢true (sym none ∙ h.locks)))
        (λ b other place h. let was = others_lock b other place h in pair_other 0 locks pred curr place (λ there. other (sym (sound.has b place was) ∙ sound.has a place (mine place there))) ∙ sound.has b place was);
    rests = by_actor (λ b. RestsOn shape.buckets (actor_in actors' b).hold (actor_in actors' b) P) a rests others_rest;
  }

  -- another hold over the same pair, where the others rest on theirs still
  pub turned_locks : (P' : Trace) → ((place : Place) → HasLock (actor_in actors' a) place → HasLock (actor_in actors a) place) → RestsOn shape.buckets (actor_in actors' a).hold (actor_in actors' a) P'
      → ((b : ℕ) → b ≢ a → RestsOn shape.buckets (actor_in actors b).hold (actor_in actors b) P') → LocksSound shape locks actors' P'
  turned_locks P' same rests others_rests = record {
    heads = sound.heads;
    nodes = sound.nodes;
    has = by_actor (λ b. (place : Place) → HasLock (actor_in actors' b) place → owner locks place ≡ b) a
        (λ place h. sound.has a place (same place h))
        (λ b other place h. sound.has b place (others_lock b other place h));
    rests = by_actor (λ b. RestsOn shape.buckets (actor_in actors' b).hold (actor_in actors' b) P') a rests
        (λ b other. subst (λ (q : Actor). RestsOn shape.buckets q.hold q P') (sym (others b other)) (others_rests b other));
  }

  pub held_locks : ((place : Place) → HasLock (actor_in actors' a) place → HasLock (actor_in actors a) place) → RestsOn shape.buckets (actor_in actors' a).hold (actor_in actors' a) P
      → LocksSound shape locks actors' P
  held_locks same rests = turned_locks P same rests (λ b other. sound.rests b)
