-- What is said of the callers stays when another actor publishes: their locks keep their nodes on their chains.
use Rattle.std.proofs.{lemmas.{Bool.Decides.{nat_tests}, Option.{same_Some}}, Common.{◌≡◌, ℕ, suc, true, List, ◌∷◌, Option, Some, subst, arith}}
use mathlib.Core.Bool.{false≢true}
use Rattle.lz_vault.specs.Vaults.{Vaulted}
use Rattle.lz_list.specs.{declared.publishing.Publishing.{Publishing}, Locks.{NodeLocks}, Pinned.{IsKept}}
use Rattle.lz_list.{specs.Traces.{Trace, Lawful, Adjacent, on, chain_of, bucket_of, key_word}, proofs.Chains.PlaceRank.{adjacent_next}}
use Rattle.lz_list.proofs.Traces.Hindsight.{stands}
use Rattle.lz_machine.specs.{declared.actor.{Actor.{Actor}, LockPhase.{LockPhase}}, Yards.{Shape, IsInside, actor_in, pin_in}, Runs.{Caller, caller_at}}
use Rattle.lz_machine.specs.{Stands.{FacesNode}, Notes.{Notes}, CallersSound.{view_of, CallerSound, CallersSound}, LocksSound.{RestsOn, LocksSound}}
use Rattle.lz_machine.proofs.Frames.Publishing.{relies_on_node, caller_published}

-- a node to which a place of its chain leads is on the chain
pub faces_on : (buckets slots k x t : ℕ) (P : Trace) → Lawful buckets slots P → FacesNode buckets k x t P → on 0 (chain_of buckets k P) (suc t) ≡ true
faces_on buckets slots k x t P law h =
    let adj = subst (Adjacent 0 (chain_of buckets k P) x) h.faces.next (stands buckets slots P (bucket_of buckets k) x P law h.faces.there) in
    adjacent_next 0 (chain_of buckets k P) x (suc t) adj (λ none. grind arith)

-- so the node on which an actor relies is on its chain
pub held_node : (shape : Shape) (P : Trace) (hold : LockPhase) (actor : Actor) → Lawful shape.buckets shape.slots P → RestsOn shape.buckets hold actor P → (t : ℕ) → actor.curr ≡ Some t → relies_on_node hold ≡ true → on 0 (chain_of shape.buckets (key_word t P) P) (suc t) ≡ true
held_node shape P hold actor law h t is relies = grind (arith, nat_tests, faces_on, same_Some, false≢true)

module _ (shape : Shape) (vault : Vaulted) (pins : List ℕ) (locks : NodeLocks) (actors : List Actor) (callers : List (Option Caller)) (e : Publishing) (P : Trace) (law : Lawful shape.buckets shape.slots (e ∷ P)) (notes : Notes)
    (held : LocksSound shape locks actors P) (h : CallersSound shape vault pins actors callers P notes) where
  -- where its pass hasn't stood on what is prepared, and its own slot keeps its key word
  pub caller_stays : (b : ℕ) → (IsInside (pin_in pins b) → IsKept shape.buckets (notes.begun b) e P) → ((s : ℕ) → (actor_in actors b).slot ≡ Some s → key_word s (e ∷ P) ≡ key_word s P)
      → CallerSound (view_of shape vault actors b) (pin_in pins b) (caller_at callers b) (notes.begun b) (e ∷ P) (notes.changed b)
  caller_stays b kept word =
      caller_published shape.buckets shape.slots e P law shape.passes vault.format vault.cells vault.dead (actor_in actors b) (pin_in pins b) (notes.begun b) (notes.changed b)
      (record { kept = kept; word = word; node = held_node shape P (actor_in actors b).hold (actor_in actors b) law.1 (held.rests b) }) (caller_at callers b) (h.each b)

  pub callers_stay : ((b : ℕ) → IsInside (pin_in pins b) → IsKept shape.buckets (notes.begun b) e P) → ((b s : ℕ) → (actor_in actors b).slot ≡ Some s → key_word s (e ∷ P) ≡ key_word s P)
      → CallersSound shape vault pins actors callers (e ∷ P) notes
  callers_stay kept word = record { count = h.count; hands = h.hands; each = λ b. caller_stays b (kept b) (word b) }
