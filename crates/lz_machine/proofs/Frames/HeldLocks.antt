-- What an actor relies on because of its locks stays when another publishes.
use Rattle.lz_machine.proofs.Frames.OtherLink as links
use Rattle.lz_machine.proofs.Frames.OtherUnlink as unlinks
use Rattle.std.proofs.{Common.{◌≡◌, ◌≢◌, ℕ, suc, Bool, true, false, List, ◌∷◌, Some, refl, sym, ◌∙◌, subst, arith}, lemmas.Bool.Decides.{nat_tests}}
use Rattle.lz_list.specs.declared.{place.Place.{Place}, publishing.{Change.{Change}, Publishing.{Publishing, TheVariants.{Linked as linked, Marked as marked}}}}
use Rattle.lz_list.specs.declared.publishing.Publishing.TheVariants.{Unlinked as unlinked, KeyPrepared as key_prepared, LinkPrepared as link_prepared}
use Rattle.lz_list.specs.{declared.publishing.Publishing.TheVariants.{Settled as settled, Halted as halted}, Words.{place_number, link_to}}
use Rattle.lz_list.specs.{Traces.{Trace, Lawful, place_of, bucket_of, key_word, is_marked, rank_at}, Laws.{IsLow, IsHigh}, Locks.{NodeLocks}}
use Rattle.lz_machine.specs.{declared.actor.{Actor.{Actor}, LockPhase.{LockPhase, TheVariants.{Checked, GateOpened, GateClosed, Marked}}}, Yards.{Shape, actor_in}}
use Rattle.lz_machine.specs.{Stands.{IsLinkable, Faces, InBucket, IsLeaving}, LocksSound.{IsBeside, IsRightBefore, HasClosed, RestsOn, LocksSound}}

-- What a publishing leaves of an actor's pair and slot.
pub record LeavesPair (buckets : ℕ) (e : Publishing) (actor : Actor) (P : Trace) : Type 0 where
  pub own_word : (s : ℕ) → actor.slot ≡ Some s → key_word s (e ∷ P) ≡ key_word s P
  pub node_word : (t : ℕ) → actor.curr ≡ Some t → key_word t (e ∷ P) ≡ key_word t P
  pub place_rank : rank_at (λ t. key_word t (e ∷ P)) (place_number actor.pred) ≡ rank_at (λ t. key_word t P) (place_number actor.pred)
  pub mark : (t : ℕ) → actor.curr ≡ Some t → is_marked t (e ∷ P) ≡ is_marked t P
  pub faces : (j n : ℕ) → InBucket buckets j actor.pred → Faces buckets j (place_number actor.pred) n P → Faces buckets j (place_number actor.pred) n (e ∷ P)
  pub ready : (j n s : ℕ) → actor.slot ≡ Some s → IsLinkable buckets j n s P → IsLinkable buckets j n s (e ∷ P)

-- the actor rests on its pair
abbrev pub rests_on_pair : LockPhase → Bool
rests_on_pair Checked = true
rests_on_pair GateOpened = true
rests_on_pair GateClosed = true
rests_on_pair Marked = true
rests_on_pair _ = false

module _ (buckets : ℕ) (e : Publishing) (actor : Actor) (P : Trace) (leaves : LeavesPair buckets e actor P) where
  low_stays : (k : ℕ) → IsLow k (place_number actor.pred) P → IsLow k (place_number actor.pred) (e ∷ P)
  low_stays k low = omega (arith, low, leaves.place_rank)

  high_stays : (k : ℕ) → IsHigh k (link_to actor.curr) P → IsHigh k (link_to actor.curr) (e ∷ P)
  high_stays k high = grind arith

  -- the pair stands round a key still
  pub beside_stays : (k : ℕ) → IsBeside buckets k actor.pred actor.curr P → IsBeside buckets k actor.pred actor.curr (e ∷ P)
  beside_stays k h = record { bucket = h.bucket; round = record { faces = leaves.faces k (link_to actor.curr) h.bucket h.round.faces; low = low_stays k h.round.low; high = high_stays k h.round.high } }

  -- and right before its node
  pub before_stays : (t : ℕ) → actor.curr ≡ Some t → IsRightBefore buckets actor.pred t P → IsRightBefore buckets actor.pred t (e ∷ P)
  before_stays t is h =
      let same = sym (leaves.node_word t is) in
      record {
        bucket = subst (λ (k : ℕ). InBucket buckets k actor.pred) same h.bucket;
        faces = record {
          faces = subst (λ (k : ℕ). Faces buckets k (place_number actor.pred) (suc t) (e ∷ P)) same (leaves.faces (key_word t P) (suc t) h.bucket h.faces.faces);
          low = subst (λ (k : ℕ). IsLow k (place_number actor.pred) (e ∷ P)) same (low_stays (key_word t P) h.faces.low);
          key = refl;
        };
      }

  closed_stays : (mark : Bool) → HasClosed buckets mark actor P → HasClosed buckets mark actor (e ∷ P)
  closed_stays mark h = record { node = h.node; curr = h.curr; before = before_stays h.node h.curr h.before; marked = leaves.mark h.node h.curr ∙ h.marked }

  pub pair_stays : (hold : LockPhase) → RestsOn buckets hold actor P → RestsOn buckets hold actor (e ∷ P)
  pair_stays Checked h = record {
    beside = λ s slot. subst (λ (k : ℕ). IsBeside buckets k actor.pred actor.curr (e ∷ P)) (sym (leaves.own_word s slot)) (beside_stays (key_word s P) (h.beside s slot));
    before = λ t node. (before_stays t node (h.before t node).0, leaves.mark t node ∙ (h.before t node).1);
  }
  pair_stays GateOpened h = record {
    own = h.own;
    slot = h.slot;
    beside = subst (λ (k : ℕ). IsBeside buckets k actor.pred actor.curr (e ∷ P)) (sym (leaves.own_word h.own h.slot)) (beside_stays (key_word h.own P) h.beside);
    ready = subst (λ (k : ℕ). IsLinkable buckets k (link_to actor.curr) h.own (e ∷ P)) (sym (leaves.own_word h.own h.slot)) (leaves.ready (key_word h.own P) (link_to actor.curr) h.own h.slot h.ready);
  }
  pair_stays GateClosed h = closed_stays false h
  pair_stays Marked h = closed_stays true h
  pair_stays _ h = tt

pub pair_published : (buckets : ℕ) (e : Publishing) (actor : Actor) (P : Trace) → (rests_on_pair actor.hold ≡ true → LeavesPair buckets e actor P) → RestsOn buckets actor.hold actor P → RestsOn buckets actor.hold actor (e ∷ P)
pair_published buckets e actor P leaves h = grind (arith, nat_tests, pair_stays)

-- what a publishing leaves of ranks and links, where it leaves the key words, and where it leaves each link
rank_same : (e : Publishing) (P : Trace) → ((t : ℕ) → key_word t (e ∷ P) ≡ key_word t P) → (x : ℕ) → rank_at (λ t. key_word t (e ∷ P)) x ≡ rank_at (λ t. key_word t P) x
rank_same e P word x = grind (arith, nat_tests)

-- A linking at another place, of another slot.
pub linked_leaves : (buckets slots k s p : ℕ) (actor : Actor) (P : Trace) → Lawful buckets slots P
    → ((j : ℕ) → InBucket buckets j actor.pred → bucket_of buckets j ≡ bucket_of buckets k → place_number actor.pred ≢ place_of buckets k P) → ((t : ℕ) → actor.slot ≡ Some t → t ≢ s)
    → LeavesPair buckets (linked k s p) actor P
linked_leaves buckets slots k s p actor P law apart other = record {
  own_word = λ t slot. refl;
  node_word = λ t node. refl;
  place_rank = rank_same (linked k s p) P (λ t. refl) (place_number actor.pred);
  mark = λ t node. refl;
  faces = λ j n at h. links.faces_stays buckets slots P law k s p j (place_number actor.pred) n (apart j at) h;
  ready = λ j n t slot h. links.ready_stays buckets slots P law k s p j n t (other t slot) h;
}

-- An unlinking of another node, after another place.
pub unlinked_leaves : (buckets slots k x s p : ℕ) (actor : Actor) (P : Trace) → Lawful buckets slots P → IsLeaving buckets k x s P
    → ((j : ℕ) → InBucket buckets j actor.pred → bucket_of buckets j ≡ bucket_of buckets k → (place_number actor.pred ≢ x) × (place_number actor.pred ≢ suc s))
    → LeavesPair buckets (unlinked k s p) actor P
unlinked_leaves buckets slots k x s p actor P law leaving apart = record {
  own_word = λ t slot. refl;
  node_word = λ t node. refl;
  place_rank = rank_same (unlinked k s p) P (λ t. refl) (place_number actor.pred);
  mark = λ t node. refl;
  faces = λ j n at h. unlinks.faces_stays buckets slots k x s p P law leaving j (place_number actor.pred) n (apart j at) h;
  ready = λ j n t slot h. record {
    loose = unlinks.loose_stays buckets slots k x s p P law leaving t h.loose;
    key = h.key;
    link = grind (arith, nat_tests, h.link, unlinks.loose_place buckets slots k x s p P law leaving t h.loose);
    no_mark = h.no_mark;
    not_added = h.not_added;
    not_removed = h.not_removed;
  };
}

-- A marking of another node.
pub marked_leaves : (buckets k s p : ℕ) (actor : Actor) (P : Trace) → ((t : ℕ) → actor.curr ≡ Some t → t ≢ s) → ((t : ℕ) → actor.slot ≡ Some t → t ≢ s) → LeavesPair buckets (marked k s p) actor P
marked_leaves buckets k s p actor P other apart = grind arith

-- A preparing of a slot that is neither the actor's, nor its node, nor its place.
pub key_leaves : (buckets s v : ℕ) (actor : Actor) (P : Trace) → ((t : ℕ) → actor.slot ≡ Some t → t ≢ s) → ((t : ℕ) → actor.curr ≡ Some t → t ≢ s) → ((t : ℕ) → place_number actor.pred ≡ suc t → t ≢ s) → LeavesPair buckets (key_prepared s v) actor P
key_leaves buckets s v actor P own node place = grind arith

pub link_leaves : (buckets s v : ℕ) (actor : Actor) (P : Trace) → ((t : ℕ) → actor.slot ≡ Some t → t ≢ s) → ((t : ℕ) → actor.curr ≡ Some t → t ≢ s) → ((t : ℕ) → place_number actor.pred ≡ suc t → t ≢ s) → LeavesPair buckets (link_prepared s v) actor P
link_leaves buckets s v actor P own node place = grind arith

-- A flag on another slot, and a halt.
pub settled_leaves : (buckets s : ℕ) (c : Change) (actor : Actor) (P : Trace) → ((t : ℕ) → actor.slot ≡ Some t → t ≢ s) → LeavesPair buckets (settled s c) actor P
settled_leaves buckets s c actor P own = grind arith

pub halted_leaves : (buckets : ℕ) (actor : Actor) (P : Trace) → LeavesPair buckets halted actor P
halted_leaves buckets actor P = grind arith

-- so what is said of locks stays, where it leaves each actor's pair
pub locks_published : (shape : Shape) (locks : NodeLocks) (actors : List Actor) (e : Publishing) (P : Trace) → ((a : ℕ) → LeavesPair shape.buckets e (actor_in actors a) P) → LocksSound shape locks actors P → LocksSound shape locks actors (e ∷ P)
locks_published shape locks actors e P leaves h = record { heads = h.heads; nodes = h.nodes; has = h.has; rests = λ a. pair_published shape.buckets e (actor_in actors a) P (λ rest. leaves a) (h.rests a) }

-- two places of one bucket with one number are one place
pub one_place : (buckets j k : ℕ) (p q : Place) → InBucket buckets j p → InBucket buckets k q → bucket_of buckets j ≡ bucket_of buckets k → place_number p ≡ place_number q → p ≡ q
one_place buckets j k p q = grind (arith, nat_tests)
