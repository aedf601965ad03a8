-- What a preparing of a slot leaves of other actors.
use Rattle.std.proofs.{Common.{◌≡◌, ◌≢◌, ℕ, suc, true, ◌∷◌, Option, Some, None, refl, sym, ap, ◌∙◌, subst, arith}, lemmas.Option.{none-some}}
use mathlib.Core.Bool.{false≢true}
use Rattle.lz_list.specs.{declared.publishing.Publishing.{Publishing}, Words.{place_number, link_to}}
use Rattle.lz_list.{specs.Traces.{Trace, Lawful, Adjacent, IsLoose, on, chain, chain_of, bucket_of, key_word}, proofs.Chains.PlaceRank.{adjacent_next}}
use Rattle.lz_list.proofs.Traces.Hindsight.{stands}
use Rattle.lz_machine.specs.{declared.actor.{Actor.{Actor}, LockPhase.{LockPhase, TheVariants.{Checked, GateOpened, GateClosed, Marked}}}, Stands.{Faces}}
use Rattle.lz_machine.{specs.LocksSound.{IsRightBefore, RestsOn}, proofs.Frames.HeldLocks.{LeavesPair, pair_stays}}

-- What a preparing of a loose slot leaves of an actor that doesn't have it.
module _ (buckets slots s : ℕ) (e : Publishing) (actor : Actor) (P : Trace) (law : Lawful buckets slots P) (loose : IsLoose buckets s P)
    (leaves : ((t : ℕ) → actor.curr ≡ Some t → t ≢ s) → ((t : ℕ) → place_number actor.pred ≡ suc t → t ≢ s) → LeavesPair buckets e actor P) where
  -- a slot on a chain is another one
  on_apart : (b t : ℕ) → on 0 (chain buckets b P) (suc t) ≡ true → t ≢ s
  on_apart b t there it = false≢true (sym (loose b) ∙ subst (λ (q : ℕ). on 0 (chain buckets b P) (suc q) ≡ true) it there)

  -- its place and its node stand on a chain, and the slot doesn't
  faces_leave : (j : ℕ) → Faces buckets j (place_number actor.pred) (link_to actor.curr) P → LeavesPair buckets e actor P
  faces_leave j h = leaves (λ t is. on_apart (bucket_of buckets j) t (node_on t is)) (λ t at. on_apart (bucket_of buckets j) t (subst (λ (q : ℕ). on 0 (chain_of buckets j P) q ≡ true) at h.there))
    where
      node_on : (t : ℕ) → actor.curr ≡ Some t → on 0 (chain_of buckets j P) (suc t) ≡ true
      node_on t is =
          let adj = subst (Adjacent 0 (chain_of buckets j P) (place_number actor.pred)) (h.next ∙ ap link_to is) (stands buckets slots P (bucket_of buckets j) (place_number actor.pred) P law h.there) in
          adjacent_next 0 (chain_of buckets j P) (place_number actor.pred) (suc t) adj (λ none. grind arith)

  before_leave : (t : ℕ) → actor.curr ≡ Some t → IsRightBefore buckets actor.pred t P → LeavesPair buckets e actor P
  before_leave t is h = faces_leave (key_word t P) (subst (λ (q : ℕ). Faces buckets (key_word t P) (place_number actor.pred) q P) (sym (ap link_to is)) h.faces.faces)

  -- a pair that was checked without a slot and without a node says nothing of its place, which may be loose by now
  checked_prepared : (slot curr : Option ℕ) → actor.slot ≡ slot → actor.curr ≡ curr → RestsOn buckets Checked actor P → RestsOn buckets Checked actor (e ∷ P)
  checked_prepared (Some t) curr is at h = pair_stays buckets e actor P (faces_leave (key_word t P) (h.beside t is).round.faces) Checked h
  checked_prepared None (Some t) is at h = pair_stays buckets e actor P (before_leave t at (h.before t at).0) Checked h
  checked_prepared None None is at h = record { beside = λ t slot. absurd (none-some _ (sym is ∙ slot)); before = λ t node. absurd (none-some _ (sym at ∙ node)) }

  -- what the actor relies on because of its locks stays
  pub rests_prepared : (hold : LockPhase) → RestsOn buckets hold actor P → RestsOn buckets hold actor (e ∷ P)
  rests_prepared Checked h = checked_prepared actor.slot actor.curr refl refl h
  rests_prepared GateOpened h = pair_stays buckets e actor P (faces_leave (key_word h.own P) h.beside.round.faces) GateOpened h
  rests_prepared GateClosed h = pair_stays buckets e actor P (before_leave h.node h.curr h.before) GateClosed h
  rests_prepared Marked h = pair_stays buckets e actor P (before_leave h.node h.curr h.before) Marked h
  rests_prepared _ h = tt
