-- The next event of a caller is an event of its yard: its slots, words and passes are the yard's.
use Rattle.std.proofs.{lemmas.Bool.Decides.{nat_tests}, Common.{◌≡◌, ℕ, zero, suc, ◌<◌, Bool, false, List, length, Option, Some, None, refl, sym, subst, arith}}
use Rattle.lz_slot.specs.{declared.command.Command.{Command, TheVariants.{Add, Remove, Has}}, Sets.{key_of}, Histories.{History}}
use Rattle.lz_disk.specs.Images.{Medium}
use Rattle.lz_list.specs.declared.{place.Place.{Place, TheVariants.{Bucket, Node}}, walk.Look.{Look, TheVariants.{AtHead, AtKey, AtMet, AtBelow}}}
use Rattle.lz_list.specs.{Words.{Words, place_number, link_to}, Walks.{wants}, Lists.{IsWord, IsPlace}, Traces.{Trace, bucket_of}, Pinned.{Stood}}
use Rattle.lz_list.proofs.Traces.Hindsight.{lawful_begins}
use Rattle.lz_machine.specs.declared.{actor.LockPhase.TheVariants.{Marked}, event.{Event.{Event, TheVariants.{Invoke}}, Reply.{Reply}}, caller.Sequence.{Sequence}}
use Rattle.lz_machine.specs.declared.caller.{Sequence.TheVariants.{Pinning, Resting, Writing, Adding, Removing, Releasing, Halting}, Progress.{Progress}}
use Rattle.lz_machine.specs.{declared.caller.Progress.TheVariants.{Playing, Claiming}, Yards.{Yard, actor_in}, Calls.{event_at, loaded}}
use Rattle.lz_machine.specs.{Runs.{Caller, with_words, next_event, MayPlay}, Stands.{InBucket, WasBetween}, Notes.{Notes}}
use Rattle.lz_machine.specs.{CallersSound.{View, view_of, HasMet, MayRest, IsLooking, Relies}, Sound.{Sound}, Ready.{IsEventOf}}
use Rattle.lz_machine.proofs.Frames.{OneActor.{mine}, Ranges.{on_range, stood_range, few_slots}, OtherCallers.{held_node}, LoadedWord.{bucket_range}}
use Rattle.lz_machine.proofs.{Steps.Claim.{ended_between, pred_was, node_was}, Theorem.ShownChains.{heads_are, links_are, keys_are, is_curr}}
use Rattle.lz_machine.proofs.Theorem.Readiness.{is_invoke, last, next_of, same_yard, sound_there}

module _ (n calls : ℕ) (y : Yard) (callers : List (Option Caller)) (disk : Medium) (M : History) (P : Trace) (notes : Notes) (sound : Sound n calls y callers disk M P notes)
    (w : Words) (heads : w.heads ≡ y.words.heads) (links : w.links ≡ y.words.links) (keys : w.keys ≡ y.words.keys) (a : ℕ) (c : Command) where
  abbrev z : Yard
  z = with_words y w

  abbrev v : View
  v = view_of y.shape y.vault y.actors a

  abbrev P0 : Trace
  P0 = notes.begun a

  abbrev Asks : Progress → Type 0
  Asks at = IsEventOf z (loaded y.words (event_at y.shape c at))

  -- what stood on a chain since the pin is a slot
  stood_lt : (k s : ℕ) → Stood y.shape.buckets (bucket_of y.shape.buckets k) P0 P (suc s) → s < y.shape.slots
  stood_lt k s stood = stood_range y.shape.buckets y.shape.slots P0 P (bucket_of y.shape.buckets k) s sound.trace.lawful stood

  head_word : IsWord w (wants y.shape.buckets (key_of c) AtHead)
  head_word = omega (arith, bucket_range y.shape y.words P sound.trace (few_slots sound.images) (key_of c), heads_are y.shape y.words P sound.trace (few_slots sound.images) w heads links keys)

  link_lt : (s : ℕ) → s < y.shape.slots → s < length w.links
  link_lt s lt = omega (arith, lt, links_are y.shape y.words P sound.trace (few_slots sound.images) w heads links keys)

  key_lt : (s : ℕ) → s < y.shape.slots → s < length w.keys
  key_lt s lt = omega (arith, lt, keys_are y.shape y.words P sound.trace (few_slots sound.images) w heads links keys)

  -- a walk's words
  looks : (look : Look) → IsLooking y.shape.buckets (key_of c) P0 P look → IsWord w (wants y.shape.buckets (key_of c) look)
  looks AtHead h = head_word
  looks (AtKey pred s) h = key_lt s (stood_lt (key_of c) s (node_was y.shape.buckets y.shape.slots (key_of c) P0 P pred (Some s) s refl h))
  looks (AtMet pred s) h = link_lt s (stood_lt (key_of c) s (node_was y.shape.buckets y.shape.slots (key_of c) P0 P pred (Some s) s refl h.0))
  looks (AtBelow s) h = link_lt s (stood_lt (key_of c) s h.stood)

  -- the pair at which it ended
  claims : (pred : Place) (curr : Option ℕ) → WasBetween y.shape.buckets (key_of c) pred (link_to curr) P0 P → IsEventOf z (event_at y.shape c (Claiming None pred curr))
  claims pred curr h = (
    place pred h.bucket (pred_was y.shape.buckets (key_of c) P0 P pred (link_to curr) h),
    is_curr y.shape y.words P sound.trace (few_slots sound.images) w heads links keys curr (λ s is. link_lt s (stood_lt (key_of c) s (node_was y.shape.buckets y.shape.slots (key_of c) P0 P pred curr s is h))),
  )
    where
      place : (q : Place) → InBucket y.shape.buckets (key_of c) q → Stood y.shape.buckets (bucket_of y.shape.buckets (key_of c)) P0 P (place_number q) → IsPlace w q
      place (Bucket b) bucket stood = subst (λ (q : ℕ). q < length w.heads) (sym bucket) head_word
      place (Node s) bucket stood = link_lt s (stood_lt (key_of c) s stood)

  -- the node on which a call rests
  rests : (d : Command) (reply : Reply) (s : ℕ) → MayRest y.shape.buckets d reply s P0 P → s < y.shape.slots
  rests d reply s h = go d reply h
    where
      met : (k : ℕ) (mark : Bool) → HasMet y.shape.buckets k s mark P0 P → s < y.shape.slots
      met k mark g = stood_range y.shape.buckets y.shape.slots P0 g.then (bucket_of y.shape.buckets k) s (lawful_begins y.shape.buckets y.shape.slots g.then P g.since.upto sound.trace.lawful) g.stood

      go : (d : Command) (reply : Reply) → MayRest y.shape.buckets d reply s P0 P → s < y.shape.slots
      go d reply g = grind (arith, nat_tests, met)

  -- the node that a removing has marked
  marked_lt : (s : ℕ) → (actor_in y.actors a).curr ≡ Some s → (actor_in y.actors a).hold ≡ Marked → s < y.shape.slots
  marked_lt s curr hold = grind (arith, held_node, on_range)

  abbrev AsksIn : Command → Sequence → ℕ → Type 0
  AsksIn d sequence i = Relies v d (Playing sequence i) P0 P (notes.changed a) → IsEventOf z (loaded y.words (event_at y.shape d (Playing sequence i)))

  adds : (d : Command) (s i : ℕ) → AsksIn d (Adding s) i
  adds d s i h = grind (arith, nat_tests, stood_lt)

  removes : (d : Command) (s i : ℕ) → AsksIn d (Removing s) i
  removes (Remove k) s (suc (suc zero)) h = marked_lt s h.0 h.2.0
  removes (Remove k) s (suc (suc (suc zero))) h = marked_lt s h.0 h.2.0
  removes (Remove k) s (suc (suc (suc (suc (suc (suc (suc i))))))) h = absurd h.2
  removes (Add k) s i h = absurd h
  removes (Has k) s i h = absurd h
  removes _ s _ h = tt

  asks_in : (sequence : Sequence) (i : ℕ) → AsksIn c sequence i
  asks_in Pinning zero h = tt
  asks_in (Resting s reply) zero h = rests c reply s h.1
  asks_in (Resting s reply) (suc zero) h = rests c reply s h.1
  asks_in (Writing s) zero h = tt
  asks_in (Writing s) (suc zero) h = (sound.slots.hand a s h.1).in_range
  asks_in (Adding s) i h = adds c s i h
  asks_in (Removing s) i h = removes c s i h
  asks_in (Releasing aim) zero h = tt
  asks_in (Halting reply) zero h = tt
  asks_in _ _ h = absurd h

  -- by how far the call has come
  pub asks : (at : Progress) → Relies v c at P0 P (notes.changed a) → Asks at
  asks at h = grind (arith, nat_tests, asks_in, looks, claims, ended_between)

module _ (y : Yard) (honest : Bool) (disk : Medium) (a : ℕ) (e : Event) (may : MayPlay y honest disk a e) (other : is_invoke e ≡ false) where
  next_asks : IsEventOf y e
  next_asks =
      let there = sound_there y honest disk a e may in
      let P = (last y honest disk a e may).trace in
      let caller = next_of may.service a e other may.next in
      let own = mine may.service.yard.shape may.service.yard.vault may.service.yard.words.pins may.service.yard.actors may.service.callers P there.notes a caller.0 caller.1 there.up.sound.callers in
      let of_caller : IsEventOf (with_words may.service.yard y.words) (next_event may.service.yard caller.0) =
      asks there.n (last y honest disk a e may).calls may.service.yard may.service.callers may.medium there.life.history P there.notes there.up.sound y.words may.yard.heads may.yard.links may.yard.keys a caller.0.command caller.0.progress own.stands.2 in
      subst (λ (q : Yard). IsEventOf q e) (sym (same_yard y honest disk a e may)) (subst (λ (q : Event). IsEventOf (with_words may.service.yard y.words) q) caller.2 of_caller)

-- what may be played in a reached state is an event of its yard
pub is_event : (y : Yard) (honest : Bool) (disk : Medium) (a : ℕ) (e : Event) → MayPlay y honest disk a e → IsEventOf y e
is_event y honest disk a (Invoke c) may = tt
is_event y honest disk a e may = next_asks y honest disk a e may refl
