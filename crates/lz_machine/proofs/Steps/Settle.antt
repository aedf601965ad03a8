-- Settle keeps the invariant: of an adder, of a remover, and of a call that rests on a node; also where it comes early.
use Rattle.std.proofs.lemmas.{Bool.{cases_Bool, Decides.{nat_tests}}, Option.{same_Some, none-some}}
use Rattle.std.proofs.Common.{◌≡◌, ◌≢◌, ◌⊎◌, inl, inr, ℕ, suc, ◌<◌, Bool, true, false, List, [], ◌∷◌, ◌++◌, Option, Some, refl, sym, ap, ◌∙◌, subst, arith}
use mathlib.Core.Bool.{false≢true}
use Rattle.lz_slot.specs.{declared.command.Command.{Command, TheVariants.{Add, Remove, Has}}, Histories.{History}}
use Rattle.lz_disk.specs.Images.{Medium}
use Rattle.lz_vault.specs.{declared.vault.Stage.{Stage, TheVariants.{Closed, Open}}, Stages.{is_covered}}
use Rattle.lz_list.specs.declared.publishing.{Change.{Change, TheVariants.{Added, Removed}}, Publishing.TheVariants.{Settled as settled}}
use Rattle.lz_list.specs.Traces.{Trace, Begins, IsLoose, on, chain_of, bucket_of, key_word, linking, linking_in, is_settled, is_removed, is_marked, SettledNo}
use Rattle.lz_list.{specs.Pinned.{Stood, IsQuiet}, proofs.Traces.{NodeBits.{node}, Hindsight.{lawful_begins, quiet_begins}}}
use Rattle.lz_list.proofs.Traces.WalkEnd.{linking_since, marked_rests, unmarked_rests, mark_stays, begins_before}
use Rattle.lz_machine.specs.declared.event.{Event.TheVariants.{Settle}, Outcome.{Outcome, TheVariants.{Done, Early}}, Reply.{Reply, TheVariants.{Yes, No}}}
use Rattle.lz_machine.specs.declared.{actor.LockPhase.{LockPhase, TheVariants.{Marked}}, caller.{Sequence.TheVariants.{Adding, Removing, Resting}, Progress.{Progress}}}
use Rattle.lz_machine.specs.{declared.caller.Progress.TheVariants.{Playing, Answering}, Yards.{Yard, actor_at, IsInside, actor_in, pin_in, stage_in}}
use Rattle.lz_machine.specs.{Table.{is_sure, yard_done, outcome_of, publishes}, Calls.{progress_after}, Runs.{Caller, caller_at, with_words}, Notes.{Notes}}
use Rattle.lz_machine.specs.CallersSound.{view_of, Relies, HasAdded, HasMarked, HasMet, MayRest, IsSettledChange, RestsYes, RestsNo, HasLetGo, is_before_pin}
use Rattle.lz_machine.specs.{SlotsSound.{IsNodeStage, IsOnChain, IsGateOpened, IsGateWritten}, LocksSound.{HasClosed, RestsOn}, Sound.{Sound}}
use Rattle.lz_machine.proofs.Frames.{ChainSlots.{chain_stands}, OneActor.{moving}, Ranges.{on_range, stood_range, few_slots}, OtherCallers.{held_node}}
use Rattle.lz_machine.proofs.{Frames.{OtherSettling.{Allows, stored, settled_keeps, stood_stands}, SameYard.{KeepsTail}}, Ledger.Membership.{upto_begins}}
use Rattle.lz_machine.proofs.{Ledger.Growth.{upto_more}, Steps.{Walk.{GoesOn, once_some}, Hop.{call_at, own, own_inside, goes_on_keeps}}}

-- the change that a durable stage of a node settles
opened_sure : (stage : Stage) → IsGateOpened stage → is_covered stage ≡ true → stage ≡ Open
opened_sure stage h sure = grind (arith, nat_tests, false≢true)

written_sure : (stage : Stage) → IsGateWritten stage → is_covered stage ≡ true → stage ≡ Closed
written_sure stage h sure = grind (arith, nat_tests, false≢true)

-- the new flag tells of the slot's last linking
flag_settled : (s n : ℕ) (c : Change) (P : Trace) → linking_in s P ≡ n → is_settled n (settled s c ∷ P) ≡ true
flag_settled s n c P is = grind arith

flag_removed : (s n : ℕ) (P : Trace) → linking_in s P ≡ n → is_removed n (settled s Removed ∷ P) ≡ true
flag_removed s n P is = grind arith

-- a mark stays while a slot may be stood on
mark_since : (buckets : ℕ) (slots : ℕ) (P0 : Trace) (b s : ℕ) (R P : Trace) → IsQuiet buckets P0 P → Begins R P → Stood buckets b P0 R (suc s) → is_marked s R ≡ true → (is_marked s P ≡ true) × Stood buckets b P0 P (suc s)
mark_since buckets slots P0 b s R [] quiet to stood mark = (ap (is_marked s) (sym to) ∙ mark, subst (λ (Q : Trace). Stood buckets b P0 Q (suc s)) to stood)
mark_since buckets slots P0 b s R (e ∷ P) quiet (inl here) stood mark = (ap (is_marked s) (sym here) ∙ mark, subst (λ (Q : Trace). Stood buckets b P0 Q (suc s)) here stood)
mark_since buckets slots P0 b s R (e ∷ P) quiet (inr to) stood mark = grind (arith, mark_stays, mark_since buckets slots P0 b s R P quiet.1 to stood mark)

module _ (n calls : ℕ) (y : Yard) (callers : List (Option Caller)) (disk : Medium) (M : History) (P : Trace) (notes : Notes) (sound : Sound n calls y callers disk M P notes) (a s : ℕ) where
  -- the event, where the slot's last write is durable, and where it isn't
  done_form : (c : Change) → Allows c (stage_in y.vault.cells s) → (lt : s < y.shape.slots) → (callers' : List (Option Caller))
      → Sound n calls (with_words y (stored y.shape y.words P sound.trace (few_slots sound.images) s lt c)) callers' disk M (settled s c ∷ P) notes
      → Sound n calls (yard_done y (actor_at y a) a (Settle s)) callers' disk M (publishes y (actor_at y a) a (Settle s) ++ P) notes
  done_form Added allows lt callers' h = rw allows h
  done_form Removed allows lt callers' h = rw allows h

  -- it comes early: nothing changes
  early_form : is_sure y s ≡ false → (callers' : List (Option Caller)) → Sound n calls y callers' disk M P notes → Sound n calls (yard_done y (actor_at y a) a (Settle s)) callers' disk M (publishes y (actor_at y a) a (Settle s) ++ P) notes
  early_form loose callers' h = grind (arith, nat_tests, false≢true)

  -- which change it settles, for a slot on which the pass may stand
  change_of : is_sure y s ≡ true → (IsOnChain y.shape y.vault.cells y.uses P s × IsNodeStage y.vault.cells y.vault.dead y.actors P s) ⊎ (stage_in y.vault.cells s ≡ Closed) → (c : Change) × Allows c (stage_in y.vault.cells s)
  change_of sure h = grind (arith, nat_tests, opened_sure, written_sure)

  -- a marked one is settled as removed
  marked_change : is_sure y s ≡ true → is_marked s P ≡ true → (IsOnChain y.shape y.vault.cells y.uses P s × IsNodeStage y.vault.cells y.vault.dead y.actors P s) ⊎ (stage_in y.vault.cells s ≡ Closed) → stage_in y.vault.cells s ≡ Closed
  marked_change sure mark h = grind (arith, nat_tests, false≢true, written_sure)

  -- a turn that settles this change
  settles : (i : ℕ) (c : Command) (at next : Progress) → caller_at callers a ≡ Some (call_at i c at) → is_before_pin at ≡ false → KeepsTail (notes.changed a) at next
      → (lt : s < y.shape.slots) → ((b t : ℕ) → (actor_in y.actors b).slot ≡ Some t → t ≢ s) → (change : Change) → Allows change (stage_in y.vault.cells s)
      → GoesOn (view_of y.shape y.vault y.actors a) c next (notes.begun a) (settled s change ∷ P) (notes.changed a)
      → Sound n calls (yard_done y (actor_at y a) a (Settle s)) (moving callers a (call_at i c at) next) disk M (publishes y (actor_at y a) a (Settle s) ++ P) notes
  settles i c at next is inside keeps lt apart change allows goes =
      done_form change allows lt (moving callers a (call_at i c at) next)
      (goes_on_keeps n calls (with_words y (stored y.shape y.words P sound.trace (few_slots sound.images) s lt change)) callers disk M (settled s change ∷ P) notes a i c at is (settled_keeps n calls y callers disk M P notes sound s change lt allows apart) next inside keeps goes)

  -- no slot in hand is one on which a pass that is inside may stand
  hands_apart : IsInside (pin_in y.words.pins a) → (b : ℕ) → Stood y.shape.buckets b (notes.begun a) P (suc s) → (d t : ℕ) → (actor_in y.actors d).slot ≡ Some t → t ≢ s
  hands_apart inside b stood d t slot same = sound.reuse.reserved a d t slot inside b (subst (λ (q : ℕ). Stood y.shape.buckets b (notes.begun a) P (suc q)) (sym same) stood)

  outcome_sure : is_sure y s ≡ true → outcome_of y (actor_at y a) (Settle s) ≡ Done
  outcome_sure sure = rw sure refl

  outcome_early : is_sure y s ≡ false → outcome_of y (actor_at y a) (Settle s) ≡ Early
  outcome_early loose = rw loose refl

  abbrev pub then : ℕ → Command → Progress → Outcome → Type 0
  then i c at o = Sound n calls (yard_done y (actor_at y a) a (Settle s)) (moving callers a (call_at i c at) (progress_after y.shape c at o)) disk M (publishes y (actor_at y a) a (Settle s) ++ P) notes

  -- an adder's own node
  pub settle_added_keeps : (i k : ℕ) → caller_at callers a ≡ Some (call_at i (Add k) (Playing (Adding s) 4))
      → Sound n calls (yard_done y (actor_at y a) a (Settle s)) (moving callers a (call_at i (Add k) (Playing (Adding s) 4)) (progress_after y.shape (Add k) (Playing (Adding s) 4) (outcome_of y (actor_at y a) (Settle s)))) disk M (publishes y (actor_at y a) a (Settle s) ++ P) notes
  settle_added_keeps i k is = elim (cases_Bool (is_sure y s)) [
    | inl sure ↦
        let inside = own_inside n calls y callers disk M P notes a i (Add k) (Playing (Adding s) 4) is sound refl in
        let h = (own n calls y callers disk M P notes a i (Add k) (Playing (Adding s) 4) is sound).stands.2 in
        let lt = stood_range y.shape.buckets y.shape.slots (notes.begun a) P (bucket_of y.shape.buckets k) s sound.trace.lawful h.1.stood in
        let change = change_of sure (stood_stands n calls y callers disk M P notes sound a s (bucket_of y.shape.buckets k) inside h.1.stood lt) in
        subst (then i (Add k) (Playing (Adding s) 4)) (sym (outcome_sure sure)) (settles i (Add k) (Playing (Adding s) 4) (Answering Yes) is refl (λ none may. absurd (none-some _ (sym (sym h.1.is ∙ none)))) lt (hands_apart inside (bucket_of y.shape.buckets k) h.1.stood) change.0 change.1
        (record { relies = (added_settled k change.0 h.1, inl h.0); inside = refl }))
    | inr loose ↦
        let h = (own n calls y callers disk M P notes a i (Add k) (Playing (Adding s) 4) is sound).stands.2 in
        subst (then i (Add k) (Playing (Adding s) 4)) (sym (outcome_early loose)) (early_form loose
        (moving callers a (call_at i (Add k) (Playing (Adding s) 4)) (Playing (Adding s) 3))
        (goes_on_keeps n calls y callers disk M P notes a i (Add k) (Playing (Adding s) 4) is sound (Playing (Adding s) 3) refl (λ none is. refl)
        (record { relies = h; inside = refl })))
  ]
    where
      added_settled : (j : ℕ) (c : Change) → HasAdded y.shape.buckets j s (notes.begun a) P (notes.changed a) → IsSettledChange j (settled s c ∷ P) (notes.changed a)
      added_settled j c h = grind (arith, nat_tests, upto_more, upto_begins, flag_settled)

  -- a remover's node: it is marked, and its locks keep it on the chain
  pub settle_marked_keeps : (i k : ℕ) → caller_at callers a ≡ Some (call_at i (Remove k) (Playing (Removing s) 3)) → then i (Remove k) (Playing (Removing s) 3) (outcome_of y (actor_at y a) (Settle s))
  settle_marked_keeps i k is = elim (cases_Bool (is_sure y s)) [
    | inl sure ↦
        let change = marked_change sure mark (inl (chain_stands y.shape y.vault.cells y.vault.dead y.uses y.actors P s sound.slots (key_word s P) lt there)) in
        subst (then i (Remove k) (Playing (Removing s) 3)) (sym (outcome_sure sure)) (settles i (Remove k) (Playing (Removing s) 3) (Playing (Removing s) 4) is refl (λ none is. refl) lt apart Removed change
        (record { relies = (h.0, h.1, (h.2.0, h.2.1.key, removed_now, marked_settled h.2.1)); inside = refl }))
    | inr loose ↦
        subst (then i (Remove k) (Playing (Removing s) 3)) (sym (outcome_early loose))
        (early_form loose (moving callers a (call_at i (Remove k) (Playing (Removing s) 3)) (Playing (Removing s) 2))
        (goes_on_keeps n calls y callers disk M P notes a i (Remove k) (Playing (Removing s) 3) is sound (Playing (Removing s) 2) refl (λ none is. refl)
        (record { relies = h; inside = refl })))
  ]
    where
      h : Relies (view_of y.shape y.vault y.actors a) (Remove k) (Playing (Removing s) 3) (notes.begun a) P (notes.changed a)
      h = (own n calls y callers disk M P notes a i (Remove k) (Playing (Removing s) 3) is sound).stands.2

      rests : HasClosed y.shape.buckets true (actor_in y.actors a) P
      rests = subst (λ (q : LockPhase). RestsOn y.shape.buckets q (actor_in y.actors a) P) h.2.0 (sound.locks.rests a)

      mark : is_marked s P ≡ true
      mark = ap (λ (q : ℕ). is_marked q P) (same_Some _ _ (sym h.0 ∙ rests.curr)) ∙ rests.marked

      there : on 0 (chain_of y.shape.buckets (key_word s P) P) (suc s) ≡ true
      there = held_node y.shape P Marked (actor_in y.actors a) sound.trace.lawful rests s h.0 refl

      lt : s < y.shape.slots
      lt = on_range y.shape.buckets y.shape.slots P (bucket_of y.shape.buckets (key_word s P)) s sound.trace.lawful there

      off : IsLoose y.shape.buckets s P → ⊥
      off loose = false≢true (sym (loose (bucket_of y.shape.buckets (key_word s P))) ∙ there)

      apart : (d t : ℕ) → (actor_in y.actors d).slot ≡ Some t → t ≢ s
      apart d t slot same = off (subst (λ (q : ℕ). IsLoose y.shape.buckets q P) same (sound.slots.hand d t slot).loose)

      removed_now : is_removed (linking k (settled s Removed ∷ P)) (settled s Removed ∷ P) ≡ true
      removed_now =
          let facts = node y.shape.buckets y.shape.slots k s P sound.trace.lawful (subst (λ (q : ℕ). on 0 (chain_of y.shape.buckets q P) (suc s) ≡ true) h.2.1.key there) h.2.1.key in
          flag_removed s (linking k P) P facts.same

      marked_settled : HasMarked k s P (notes.changed a) → IsSettledChange k (settled s Removed ∷ P) (notes.changed a)
      marked_settled m = grind (arith, upto_more, upto_begins, flag_removed)

  -- a node on which a call rests
  met_settled_yes : (k : ℕ) (c : Change) → IsInside (pin_in y.words.pins a) → HasMet y.shape.buckets k s false (notes.begun a) P → RestsYes k (notes.begun a) (settled s c ∷ P)
  met_settled_yes k c inside m =
      let quiet = (sound.callers.each a).quiet inside in
      let link = linking_since y.shape.buckets y.shape.slots (notes.begun a) (bucket_of y.shape.buckets k) s m.then P sound.trace.lawful quiet m.since.upto m.stood in
      record {
        then = m.then;
        since = record { from = m.since.from; upto = inr m.since.upto };
        settled = unmarked_rests y.shape.buckets y.shape.slots (notes.begun a) k s m.then (settled s c ∷ P)
            (lawful_begins y.shape.buckets y.shape.slots m.then P m.since.upto sound.trace.lawful)
            (quiet_begins y.shape.buckets (notes.begun a) m.then P m.since.upto quiet) m.stood m.key (inr m.since.upto) m.met
            (flag_settled s (linking_in s m.then) c P link.0);
      }

  met_settled_no : (k : ℕ) → IsInside (pin_in y.words.pins a) → HasMet y.shape.buckets k s true (notes.begun a) P → RestsNo k (notes.begun a) (settled s Removed ∷ P)
  met_settled_no k inside m =
      let quiet = (sound.callers.each a).quiet inside in
      let link = linking_since y.shape.buckets y.shape.slots (notes.begun a) (bucket_of y.shape.buckets k) s m.then P sound.trace.lawful quiet m.since.upto m.stood in
      let once = marked_rests y.shape.buckets y.shape.slots (notes.begun a) k s m.then (settled s Removed ∷ P)
      (lawful_begins y.shape.buckets y.shape.slots m.then P m.since.upto sound.trace.lawful)
      (quiet_begins y.shape.buckets (notes.begun a) m.then P m.since.upto quiet) m.stood m.key (inr m.since.upto) m.met
      (flag_removed s (linking_in s m.then) P link.0) in
      let r = once_some (notes.begun a) m.then (λ R. SettledNo R (settled s Removed ∷ P) k) once in
      record { then = r.0; since = record { from = r.1; upto = inr (begins_before r.0 m.then P r.2 m.since.upto) }; settled = r.3 }

  -- where a slot that was met stands now
  module _ (i k : ℕ) (c : Command) (reply : Reply) (is : caller_at callers a ≡ Some (call_at i c (Playing (Resting s reply) 1))) where
    in_it : IsInside (pin_in y.words.pins a)
    in_it = own_inside n calls y callers disk M P notes a i c (Playing (Resting s reply) 1) is sound refl

    rest_early : is_sure y s ≡ false → then i c (Playing (Resting s reply) 1) (outcome_of y (actor_at y a) (Settle s))
    rest_early loose =
        let h = (own n calls y callers disk M P notes a i c (Playing (Resting s reply) 1) is sound).stands.2 in
        subst (then i c (Playing (Resting s reply) 1)) (sym (outcome_early loose)) (early_form loose
        (moving callers a (call_at i c (Playing (Resting s reply) 1)) (Playing (Resting s reply) 0))
        (goes_on_keeps n calls y callers disk M P notes a i c (Playing (Resting s reply) 1) is sound (Playing (Resting s reply) 0) refl
        (λ none is. absurd (false≢true is)) (record { relies = h; inside = refl })))

    rest_now : (mark : Bool) → HasMet y.shape.buckets k s mark (notes.begun a) P → is_sure y s ≡ true
        → ((change : Change) → Allows change (stage_in y.vault.cells s) → (mark ≡ true → change ≡ Removed) → GoesOn (view_of y.shape y.vault y.actors a) c (Answering reply) (notes.begun a) (settled s change ∷ P) (notes.changed a))
        → then i c (Playing (Resting s reply) 1) (outcome_of y (actor_at y a) (Settle s))
    rest_now mark m sure goes =
        let quiet = (sound.callers.each a).quiet in_it in
        let link = linking_since y.shape.buckets y.shape.slots (notes.begun a) (bucket_of y.shape.buckets k) s m.then P sound.trace.lawful quiet m.since.upto m.stood in
        let lt = stood_range y.shape.buckets y.shape.slots (notes.begun a) P (bucket_of y.shape.buckets k) s sound.trace.lawful link.1 in
        let where_ = stood_stands n calls y callers disk M P notes sound a s (bucket_of y.shape.buckets k) in_it link.1 lt in
        let change = pick mark m.met lt where_ in
        subst (then i c (Playing (Resting s reply) 1)) (sym (outcome_sure sure)) (settles i c (Playing (Resting s reply) 1) (Answering reply) is refl (λ none is. absurd (false≢true is)) lt (hands_apart in_it (bucket_of y.shape.buckets k) link.1) change.0 change.1 (goes change.0 change.1 change.2))
      where
        pick : (b : Bool) → is_marked s m.then ≡ b → s < y.shape.slots → (IsOnChain y.shape y.vault.cells y.uses P s
            × IsNodeStage y.vault.cells y.vault.dead y.actors P s) ⊎ (stage_in y.vault.cells s ≡ Closed) → (change : Change) × Allows change (stage_in y.vault.cells s) ×
            (b ≡ true → change ≡ Removed)
        pick true met lt at = (Removed, marked_change sure (mark_since y.shape.buckets y.shape.slots (notes.begun a) (bucket_of y.shape.buckets k) s m.then P ((sound.callers.each a).quiet in_it) m.since.upto m.stood met).0 at, λ e. refl)
        pick false met lt at = let change = change_of sure at in (change.0, change.1, λ e. absurd (false≢true e))

  -- a call that rests on a node
  pub settle_rest_keeps : (i : ℕ) (c : Command) (reply : Reply) → caller_at callers a ≡ Some (call_at i c (Playing (Resting s reply) 1)) → then i c (Playing (Resting s reply) 1) (outcome_of y (actor_at y a) (Settle s))
  settle_rest_keeps i c reply is = elim (cases_Bool (is_sure y s)) [
    | inl sure ↦ let h = (own n calls y callers disk M P notes a i c (Playing (Resting s reply) 1) is sound).stands.2 in now c reply is sure h.0 h.1
    | inr loose ↦ rest_early i 0 c reply is loose
  ]
    where
      now : (d : Command) (told : Reply) → caller_at callers a ≡ Some (call_at i d (Playing (Resting s told) 1)) → is_sure y s ≡ true → HasLetGo (view_of y.shape y.vault y.actors a) (notes.changed a) → MayRest y.shape.buckets d told s (notes.begun a) P
          → then i d (Playing (Resting s told) 1) (outcome_of y (actor_at y a) (Settle s))
      now (Has k) Yes at sure fresh m = rest_now i k (Has k) Yes at false m sure (λ change allows only. record { relies = ((fresh.none, met_settled_yes k change (in_it i k (Has k) Yes at) m), inl fresh.hold); inside = refl })
      now (Has k) No at sure fresh m = rest_now i k (Has k) No at true m sure (λ change allows only. record {
        relies = (
          (
            fresh.none,
            subst (λ (q : Change). RestsNo k (notes.begun a) (settled s q ∷ P)) (sym (only refl))
                (met_settled_no k (in_it i k (Has k) No at) m),
          ),
          inl fresh.hold,
        );
        inside = refl;
      })
      now (Add k) No at sure fresh m = rest_now i k (Add k) No at false m sure (λ change allows only. record { relies = ((fresh.none, met_settled_yes k change (in_it i k (Add k) No at) m), inl fresh.hold); inside = refl })
      now (Remove k) No at sure fresh m = rest_now i k (Remove k) No at true m sure (λ change allows only. record {
        relies = (
          (
            fresh.none,
            subst (λ (q : Change). RestsNo k (notes.begun a) (settled s q ∷ P)) (sym (only refl))
                (met_settled_no k (in_it i k (Remove k) No at) m),
          ),
          inl fresh.hold,
        );
        inside = refl;
      })
      now _ _ at sure fresh m = absurd m
