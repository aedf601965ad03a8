-- Unlink keeps the invariant: the node that its remover has marked and settled is taken out.
use Rattle.lz_machine.proofs.Frames.OtherUnlink as unlinks
use Rattle.std.proofs.{Common.{◌≡◌, ◌≢◌, inr, ℕ, suc, ◌<◌, not, true, List, ◌∷◌, ◌++◌, Option, Some, refl, sym, ap, ◌∙◌, subst, arith}, lemmas.Bool.{cases_eq}}
use Rattle.std.{proofs.lemmas.{Bool.Decides.{nat_tests}, Option.{same_Some}}, specs.Prelude.{unwrap_or}}
use mathlib.Core.Bool.{false≢true}
use Rattle.lz_slot.{specs.{declared.command.Command.TheVariants.{Add, Remove}, Counted.{set_of_pass}, Histories.{History}}, proofs.Counted.{length-set_of_pass}}
use Rattle.lz_disk.specs.Images.{Medium}
use Rattle.lz_list.specs.declared.{place.Place.{Place, TheVariants.{Node}}, publishing.Publishing.TheVariants.{Unlinked as unlinked}}
use Rattle.lz_list.specs.{declared.word.Word.TheVariants.{Key as key_at}, Words.{Words, get, redirect, next_at, place_number}}
use Rattle.lz_list.specs.{Traces.{Trace, Lawful, IsLoose, on, chain_of, bucket_of, key_word, is_marked, node_next}, Locks.{claimed_places}}
use Rattle.lz_list.proofs.{Chains.TraceChain.{words_show_chain}, Traces.{NodeBits.{node, one_node, on_without}, WalkEnd.{on_without_other}}}
use Rattle.lz_machine.specs.declared.{event.Event.TheVariants.{Unlink}, actor.{Actor.{Actor}, LockPhase.{LockPhase, TheVariants.{Marked, Unlinked}}}}
use Rattle.lz_machine.specs.declared.caller.{Sequence.TheVariants.{Removing}, Progress.{Progress, TheVariants.{Playing}}}
use Rattle.lz_machine.specs.{Yards.{Yard, actor_at, actor_in, cell_in}, Table.{with_hold, node_of, yard_done, publishes}, Runs.{Caller, caller_at}}
use Rattle.lz_machine.specs.{Stands.{FacesNode, IsLeaving, InBucket}, Notes.{Notes}, SlotsSound.{opens, IsOut, is_out, IsGone, SlotsSound}}
use Rattle.lz_machine.specs.LocksSound.{has_locks, HasPlace, HasLock, IsRightBefore, HasClosed, RestsOn, LocksSound}
use Rattle.lz_machine.{specs.{CallersSound.{Relies, view_of, CallersSound}, Sound.{ReuseSound, Sound}}, proofs.Frames.ActorTable.{field_stays}}
use Rattle.lz_machine.proofs.Frames.{OneActor.{moving, callers_moved, ledger_turn}, ChainSlots.{chain_stands, reuse_published}, NodeLocks.{turned_locks}}
use Rattle.lz_machine.proofs.Frames.{OneSlot.{node_grips, slot_turn}, Publishing.{change_stays}, Ranges.{on_range, few_slots}, LoadedWord.{link_next, key_load}}
use Rattle.lz_machine.proofs.Frames.{OtherCallers.{held_node, caller_stays}, Hand.{same_hand, other_hand}}
use Rattle.lz_machine.proofs.Frames.{HeldLocks.{rests_on_pair, pair_published, unlinked_leaves, one_place}, Store.{trace_unlinked}}
use Rattle.lz_machine.proofs.{Frames.SameYard.{in_passes, tail_turn}, Ledger.QuietPublishing.{ledger_published}, Steps.Hop.{call_at, own}}

-- an actor that rests on its pair has its locks
pub resting_locks : (hold : LockPhase) → rests_on_pair hold ≡ true → has_locks hold ≡ true
resting_locks hold is = grind (arith, nat_tests, false≢true)

pub first_place : (pred : Place) (curr : Option ℕ) → HasPlace pred (claimed_places pred curr)
first_place pred curr = grind (arith, nat_tests)

pub node_place : (pred : Place) (curr : Option ℕ) (s : ℕ) → curr ≡ Some s → HasPlace (Node s) (claimed_places pred curr)
node_place pred curr s is = grind (arith, nat_tests, same_Some)

-- a redirection leaves the pins
pub redirect_pins : (words : Words) (pred : Place) (next : ℕ) → (redirect words pred next).pins ≡ words.pins
redirect_pins words pred next = grind (arith, nat_tests)

module _ (n calls : ℕ) (y : Yard) (callers : List (Option Caller)) (disk : Medium) (M : History) (P : Trace) (notes : Notes) (sound : Sound n calls y callers disk M P notes) (a i k s : ℕ) (is : caller_at callers a ≡ Some (call_at i (Remove k) (Playing (Removing s) 4))) where
  abbrev at : Progress
  at = Playing (Removing s) 4

  h : Relies (view_of y.shape y.vault y.actors a) (Remove k) at (notes.begun a) P (notes.changed a)
  h = (own n calls y callers disk M P notes a i (Remove k) at is sound).stands.2

  abbrev x : Actor
  x = with_hold (actor_at y a) Unlinked

  abbrev actors' : List Actor
  actors' = set_of_pass y.actors a x

  abbrev P' : Trace
  P' = unlinked k s a ∷ P

  hand_a : actor_in actors' a ≡ x
  hand_a = same_hand n calls y callers disk M P notes a (call_at i (Remove k) at) is sound x

  hand_b : (b : ℕ) → b ≢ a → actor_in actors' b ≡ actor_in y.actors b
  hand_b b other = other_hand n calls y callers disk M P notes a (call_at i (Remove k) at) is sound x b other

  rests : HasClosed y.shape.buckets true (actor_in y.actors a) P
  rests = subst (λ (q : LockPhase). RestsOn y.shape.buckets q (actor_in y.actors a) P) h.2.0 (sound.locks.rests a)

  own_node : rests.node ≡ s
  own_node = same_Some _ _ (sym rests.curr ∙ h.0)

  before : IsRightBefore y.shape.buckets (actor_at y a).pred s P
  before = subst (λ (q : ℕ). IsRightBefore y.shape.buckets (actor_at y a).pred q P) own_node rests.before

  marked_s : is_marked s P ≡ true
  marked_s = ap (λ (q : ℕ). is_marked q P) (sym own_node) ∙ rests.marked

  abbrev spot : ℕ
  spot = place_number (actor_at y a).pred

  faces : FacesNode y.shape.buckets k spot s P
  faces = subst (λ (q : ℕ). FacesNode y.shape.buckets q spot s P) h.2.1 before.faces

  there : on 0 (chain_of y.shape.buckets k P) (suc s) ≡ true
  there = subst (λ (q : ℕ). on 0 (chain_of y.shape.buckets q P) (suc s) ≡ true) h.2.1 (held_node y.shape P Marked (actor_in y.actors a) sound.trace.lawful rests s h.0 refl)

  leaving : IsLeaving y.shape.buckets k spot s P
  leaving = record {
    before = faces;
    no_member = (node y.shape.buckets y.shape.slots k s P sound.trace.lawful there h.2.1).is_member ∙ ap not marked_s;
    removed = h.2.2;
  }

  law : Lawful y.shape.buckets y.shape.slots P'
  law = (unlinks.may_unlink y.shape.buckets y.shape.slots k spot s a P sound.trace.lawful leaving, sound.trace.lawful)

  off : IsLoose y.shape.buckets s P → ⊥
  off loose = false≢true (sym (loose (bucket_of y.shape.buckets k)) ∙ there)

  loose_then : (t : ℕ) → IsLoose y.shape.buckets t P → IsLoose y.shape.buckets t P'
  loose_then t loose = unlinks.loose_stays y.shape.buckets y.shape.slots k spot s a P sound.trace.lawful leaving t loose

  -- another node stays on its chain
  chain_then : (t : ℕ) → t ≢ s → on 0 (chain_of y.shape.buckets (key_word t P) P) (suc t) ≡ true → on 0 (chain_of y.shape.buckets (key_word t P) P') (suc t) ≡ true
  chain_then t apart on_it = grind (arith, nat_tests, cases_eq, words_show_chain, there, on_without_other, one_node, h)

  chain_before : (j t : ℕ) → on 0 (chain_of y.shape.buckets j P') (suc t) ≡ true → on 0 (chain_of y.shape.buckets j P) (suc t) ≡ true
  chain_before j t on_it = grind (arith, nat_tests, on_it, on_without k 0 (suc t) (chain_of y.shape.buckets j P))

  slot_still : (b : ℕ) → (actor_in actors' b).slot ≡ (actor_in y.actors b).slot
  slot_still = field_stays (Option ℕ) (λ q. q.slot) y.actors actors' a x hand_a hand_b refl

  out_s : IsOut (actor_in actors' a) s
  out_s = subst (λ (q : Actor). IsOut q s) (sym hand_a) (record { node = h.0; removed = refl })

  in_range : s < y.shape.slots
  in_range = on_range y.shape.buckets y.shape.slots P (bucket_of y.shape.buckets k) s sound.trace.lawful there

  gone_s : IsGone y.shape y.vault.cells y.uses P' s
  gone_s = record {
    in_range = in_range;
    loose = unlinks.now_loose y.shape.buckets y.shape.slots k spot s a P sound.trace.lawful leaving;
    taken = (chain_stands y.shape y.vault.cells y.vault.dead y.uses y.actors P s sound.slots k in_range there).0.taken;
    stage = sound.slots.removed k s h.2.1 there h.2.2;
  }

  unlinked_slots : SlotsSound y.shape y.vault.cells y.vault.dead y.uses actors' P'
  unlinked_slots =
      slot_turn y.shape y.vault.cells y.vault.cells y.vault.dead y.vault.dead y.uses y.uses y.actors actors' P P' a s x hand_a hand_b (λ e. e)
      (node_grips y.vault.dead y.vault.dead s (actor_in y.actors a) x h.0 h.0 refl (ap (opens y.vault.dead) h.2.0) refl) (λ t apart. refl) (λ t apart. refl)
      (record { loose = λ t apart loose. loose_then t loose; word = λ t apart. refl; mark = λ t apart. refl; chain = chain_then; halt = refl })
      (record {
        stands = is_out a out_s;
        hand = λ slot. absurd (off (sound.slots.hand a s slot).loose);
        out = λ out. gone_s;
        hand_out = λ slot out. off (sound.slots.hand a s slot).loose;
        opened = λ slot e. absurd (false≢true e);
        closed = λ curr e. absurd (false≢true e);
        no_other_hand = λ b other slot. off (sound.slots.hand b s slot).loose;
        no_other_out = λ b other out. off (sound.slots.out b s out).loose;
        others_closed = λ b other curr e. sound.slots.closed b s curr e;
      })
      refl sound.slots (λ j t key on_it flag. sound.slots.added j t key (chain_before j t on_it) flag) (λ j t key on_it flag. sound.slots.removed j t key (chain_before j t on_it) flag)

  -- the actor's own locks
  my_lock : (place : Place) → HasPlace place (claimed_places (actor_at y a).pred (actor_at y a).curr) → HasLock (actor_in y.actors a) place
  my_lock place among = record { locks = ap has_locks h.2.0; among = among }

  -- another actor's place is neither the one that changes nor the node
  places_apart : (b : ℕ) → b ≢ a → rests_on_pair (actor_in y.actors b).hold ≡ true → (j : ℕ) → InBucket y.shape.buckets j (actor_in y.actors b).pred → bucket_of y.shape.buckets j ≡ bucket_of y.shape.buckets k
      → (place_number (actor_in y.actors b).pred ≢ spot) × (place_number (actor_in y.actors b).pred ≢ suc s)
  places_apart b other rest j bucket same =
      let theirs : HasLock (actor_in y.actors b) (actor_in y.actors b).pred = record { locks = resting_locks (actor_in y.actors b).hold rest; among = first_place (actor_in y.actors b).pred (actor_in y.actors b).curr } in
      let apart : (q : Place) → HasLock (actor_in y.actors a) q → (actor_in y.actors b).pred ≡ q → ⊥ = λ q lock e. other (sym (sound.locks.has b q (subst (HasLock (actor_in y.actors b)) e theirs)) ∙ sound.locks.has a q lock) in (
        (λ number. apart (actor_at y a).pred (my_lock (actor_at y a).pred (first_place (actor_at y a).pred (actor_at y a).curr))
            (one_place y.shape.buckets j k (actor_in y.actors b).pred (actor_at y a).pred bucket
            (subst (λ (q : ℕ). InBucket y.shape.buckets q (actor_at y a).pred) h.2.1 before.bucket) same number)),
        (λ number. apart (Node s) (my_lock (Node s) (node_place (actor_at y a).pred (actor_at y a).curr s h.0)) (one_place y.shape.buckets j k (actor_in y.actors b).pred (Node s) bucket tt same number)),
      )

  unlinked_locks : LocksSound y.shape y.locks actors' P'
  unlinked_locks = turned_locks y.shape y.locks y.actors actors' P a hand_b sound.locks P'
      (λ place lock. my_lock place (subst (λ (q : Actor). HasLock q place) hand_a lock).among)
      (subst (λ (q : Actor). RestsOn y.shape.buckets q.hold q P') (sym hand_a) tt)
      (λ b other. pair_published y.shape.buckets (unlinked k s a) (actor_in y.actors b) P (λ rest. unlinked_leaves y.shape.buckets y.shape.slots k spot s a (actor_in y.actors b) P sound.trace.lawful leaving (places_apart b other rest)) (sound.locks.rests b))

  unlinked_reuse : ReuseSound y.shape y.words.pins y.uses actors' P' notes.begun
  unlinked_reuse = reuse_published y.shape y.vault.cells y.vault.dead y.uses y.actors actors' (unlinked k s a) P y.words.pins notes.begun unlinked_slots (λ b t slot. sym (slot_still b) ∙ slot) sound.reuse

  abbrev callers' : List (Option Caller)
  callers' = moving callers a (call_at i (Remove k) at) (Playing (Removing s) 5)

  unlinked_callers : CallersSound y.shape y.vault y.words.pins actors' callers' P' notes
  unlinked_callers =
      let me = own n calls y callers disk M P notes a i (Remove k) at is sound in
      callers_moved callers a (call_at i (Remove k) at) is (Playing (Removing s) 5) y.shape y.vault y.vault y.words.pins y.actors actors' P P' notes notes x (notes.changed a)
      (length-set_of_pass y.actors a x) hand_a hand_b (λ b. refl) refl (λ b other. refl)
      (record {
        quiet = λ inside. (tt, me.quiet inside);
        begins = λ inside. inr (me.begins inside);
        stands = (me.stands.0, me.stands.1, (h.0, h.1, (refl, change_stays y.shape.buckets y.shape.slots (unlinked k s a) P law k (notes.changed a) h.2.3)));
      })
      (λ b other. caller_stays y.shape y.vault y.words.pins y.locks y.actors callers (unlinked k s a) P law notes sound.locks sound.callers b (λ inside. tt) (λ t slot. refl))
      sound.callers

  node_range : (t : ℕ) → (actor_at y a).pred ≡ Node t → t < y.shape.slots
  node_range t e = on_range y.shape.buckets y.shape.slots P (bucket_of y.shape.buckets k) t sound.trace.lawful (subst (λ (q : Place). on 0 (chain_of y.shape.buckets k P) (place_number q) ≡ true) e faces.faces.there)

  abbrev words' : ℕ → Words
  words' next = redirect y.words (actor_at y a).pred next

  pins_same : (next : ℕ) → (words' next).pins ≡ y.words.pins
  pins_same next = redirect_pins y.words (actor_at y a).pred next

  abbrev yard' : ℕ → Yard
  yard' next = record { shape = y.shape; words = words' next; locks = y.locks; vault = y.vault; uses = y.uses; actors = actors' }

  unlinked_sound : Sound n calls (yard' (node_next y.shape.buckets s P)) callers' disk M P' notes
  unlinked_sound =
      let next = node_next y.shape.buckets s P in
      let same = sym (pins_same (node_next y.shape.buckets s P)) in
      record {
        trace = trace_unlinked y.shape y.words P sound.trace (few_slots sound.images) k s a (actor_at y a).pred law.0
            (subst (λ (q : ℕ). InBucket y.shape.buckets q (actor_at y a).pred) h.2.1 before.bucket) node_range
            (unlinks.place_at y.shape.buckets y.shape.slots k spot s a P sound.trace.lawful leaving);
        images = sound.images;
        slots = unlinked_slots;
        locks = unlinked_locks;
        callers = subst (λ (q : List ℕ). CallersSound y.shape y.vault q actors' callers' P' notes) same unlinked_callers;
        reuse = subst (λ (q : List ℕ). ReuseSound y.shape q y.uses actors' P' notes.begun) same unlinked_reuse;
        ledger = ledger_published n calls y.shape.passes callers' (unlinked k s a) P M notes tt (ledger_turn callers a (call_at i (Remove k) at) is (Playing (Removing s) 5) n calls y.shape.passes P M notes sound.ledger);
        tails = record {
          adding = λ b t slot opened. tail_turn callers a (call_at i (Remove k) at) is (Playing (Removing s) 5) y.shape.passes notes
              (in_passes n calls y callers disk M P notes a (call_at i (Remove k) at) is sound) (λ none is. refl) (Add (cell_in y.vault.cells t).key) M
              (sound.tails.adding b t (sym (slot_still b) ∙ slot) opened);
          removing = λ t on_it clear written. tail_turn callers a (call_at i (Remove k) at) is (Playing (Removing s) 5) y.shape.passes notes
              (in_passes n calls y callers disk M P notes a (call_at i (Remove k) at) is sound) (λ none is. refl) (Remove (cell_in y.vault.cells t).key) M
              (sound.tails.removing t (chain_before (key_word t P) t on_it) clear written);
        };
      }

  pub unlink_keeps : Sound n calls (yard_done y (actor_at y a) a Unlink) callers' disk M (publishes y (actor_at y a) a Unlink ++ P) notes
  unlink_keeps =
      let few = few_slots sound.images in
      let claimed : s ≡ node_of (actor_at y a) = sym (ap (λ (q : Option ℕ). unwrap_or q 0) h.0) in
      let next : node_next y.shape.buckets s P ≡ next_at y.words (Node s) = sym (link_next y.shape y.words P sound.trace few s in_range) in
      let key : k ≡ get y.words (key_at s) = sym (key_load y.shape y.words P sound.trace few s in_range ∙ h.2.1) in
      subst (λ (q : ℕ). Sound n calls (yard' (next_at y.words (Node q))) callers' disk M (unlinked (get y.words (key_at q)) q a ∷ P) notes) claimed
      (subst (λ (q : ℕ). Sound n calls (yard' (next_at y.words (Node s))) callers' disk M (unlinked q s a ∷ P) notes) key
      (subst (λ (q : ℕ). Sound n calls (yard' q) callers' disk M P' notes) next unlinked_sound))
