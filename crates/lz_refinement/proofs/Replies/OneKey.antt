-- In a set of several passes each answer is that of a plain set of its key, where no other pass changed the key meanwhile.
use Rattle.std.proofs.Common.{arith, ◌≡◌, ◌⊎◌, inl, inr, ℕ, ◌==◌, not, if◌then◌else◌, Bool, true, false, List, [], ◌∷◌, ◌++◌, refl, sym, ap, ◌∙◌, subst}
use Rattle.std.proofs.{Common.{append_assoc, eq-eqb}, lemmas.{Bool.Decides.{nat_tests, eqb_tells}, List.{append_cancel_right, Elements.{filter-append}}}}
use Rattle.lz_refinement.proofs.Vocabulary.{Command, Format, key_of, moved, Publishing, Trace, Begins, Lawful, member, Reply, Shape, Note, own, is_for, shape_of_sizes}
use Rattle.lz_refinement.proofs.{Vocabulary.{Changes, Between, Rests}, Calls.OwnChanges.{own_linked, own_marked}, Replies.KeyChanges.{oldest_for}}
use Rattle.lz_refinement.{proofs.Replies.OldFiles.{old_is_told}, specs.Answers.{Added, Removed, WasCut, MayHaveChanged, Promises}}
use Rattle.lz_refinement.specs.KeyByKey.{AreFor, OnlyOwnOf, KeyRow, OneKeyIsPlain}
use Rattle.lz_slot.specs.declared.command.Command.TheVariants.{Add, Remove, Has}
use Rattle.lz_list.specs.declared.publishing.Publishing.TheVariants.{Linked as linked, Marked as marked, Unlinked as unlinked}
use Rattle.lz_list.proofs.Traces.Hindsight.{lawful_begins}
use Rattle.lz_machine.specs.declared.event.Reply.TheVariants.{Yes, No, Full, Worn, OldFile}
use Rattle.lz_board.proofs.Upkeep.Growth.{extends_of}

-- changes of other keys say nothing of k
other_linked : (k j s q : ℕ) (b : Bool) (l P : Trace) → (j == k) ≡ false → member k ((if b then linked j s q ∷ l else l) ++ P) ≡ member k (l ++ P)
other_linked k j s q true l P else_is = ap (λ (d : Bool). if d then true else member k (l ++ P)) else_is
other_linked k j s q false l P else_is = refl

other_marked : (k j s q : ℕ) (b : Bool) (l P : Trace) → (j == k) ≡ false → member k ((if b then marked j s q ∷ l else l) ++ P) ≡ member k (l ++ P)
other_marked k j s q true l P else_is = ap (λ (d : Bool). if d then false else member k (l ++ P)) else_is
other_marked k j s q false l P else_is = refl

any_unlinked : (k j s q : ℕ) (b : Bool) (l P : Trace) → member k ((if b then unlinked j s q ∷ l else l) ++ P) ≡ member k (l ++ P)
any_unlinked k j s q true l P = refl
any_unlinked k j s q false l P = refl

-- whether k is a member after it is what the pass's own changes make of it
member_own_of : (p k : ℕ) (since P : Trace) → AreFor (λ q. q ≡ p) k since → member k (since ++ P) ≡ member k (own p since ++ P)
member_own_of p k [] P are = refl
member_own_of p k (linked j s q ∷ since) P are = grind (arith, nat_tests, eqb_tells, member_own_of p k since P are.1, member, own, eq-eqb, other_linked)
member_own_of p k (marked j s q ∷ since) P are = grind (arith, nat_tests, eqb_tells, member_own_of p k since P are.1, member, own, eq-eqb, other_marked)
member_own_of p k (unlinked j s q ∷ since) P are = member_own_of p k since P are ∙ sym (any_unlinked k j s q (q == p) (own p since) P)
member_own_of p k (e ∷ since) P are = member_own_of p k since P are

pub changed_of : (p k : ℕ) (P Q changes : Trace) → OnlyOwnOf p k P Q → Changes p P Q changes → member k Q ≡ member k (changes ++ P)
changed_of p k P Q changes only made = grind (arith, nat_tests, append_cancel_right, member, member_own_of, own)

-- of few changes none comes before the first
none_before : (newer older : Trace) → newer ++ older ≡ [] → older ≡ []
none_before [] older is = is
none_before (x ∷ newer) older is = absurd cc

none_but_one : (newer older : Trace) (e f : Publishing) → (newer ++ e ∷ []) ++ older ≡ f ∷ [] → older ≡ []
none_but_one [] older e f is = cc
none_but_one (x ∷ []) older e f is = absurd cc
none_but_one (x ∷ y ∷ newer) older e f is = absurd cc

none_but_two : (newer older : Trace) (e f g : Publishing) → (e ≡ f → ⊥) → (newer ++ e ∷ []) ++ older ≡ f ∷ g ∷ [] → older ≡ []
none_but_two [] older e f g other is = absurd (other cc)
none_but_two (x ∷ []) older e f g other is = cc
none_but_two (x ∷ y ∷ []) older e f g other is = absurd cc
none_but_two (x ∷ y ∷ z ∷ newer) older e f g other is = absurd cc

added_already : (b was : Bool) → was ≡ true → was ≡ (if b then true else was)
added_already true was is = is
added_already false was is = refl

removed_already : (b was : Bool) → was ≡ false → was ≡ (if b then false else was)
removed_already true was is = is
removed_already false was is = refl

-- of a key k that the pass alone changed; the call may name another
module _ (p k : ℕ) (P Q : Trace) (only : OnlyOwnOf p k P Q) where
  -- k at a trace R meanwhile is what it was at P, where no change of the pass comes before R
  as_before : (R later changes : Trace) → Changes p P Q changes → Begins P R → Q ≡ later ++ R → ((older : Trace) → own p later ++ older ≡ changes → older ≡ []) → member k R ≡ member k P
  as_before R later changes made from upto none =
      let start = extends_of P R from in
      let since : Q ≡ (later ++ start.0) ++ P = upto ∙ ap (λ (l : Trace). later ++ l) start.1 ∙ sym (append_assoc later start.0 P) in
      let made_is : made.since ≡ later ++ start.0 = append_cancel_right made.since (later ++ start.0) P (sym made.goes_on ∙ since) in
      let only_is : only.since ≡ later ++ start.0 = append_cancel_right only.since (later ++ start.0) P (sym only.goes_on ∙ since) in
      let nothing = none (own p start.0) (sym (filter-append (is_for p) later start.0) ∙ ap (own p) (sym made_is) ∙ made.own) in
      let are = oldest_for (λ q. q ≡ p) k later start.0 (subst (AreFor (λ q. q ≡ p) k) only_is only.all) in
      changed_of p k P R [] (record { since = start.0; goes_on = start.1; all = are }) (record { since = start.0; goes_on = start.1; own = nothing })

  pub meanwhile : (R : Trace) → Between P R Q → Changes p P Q [] → member k R ≡ member k P
  meanwhile R between made =
      let end = extends_of R Q between.upto in
      as_before R end.0 [] made between.from end.1 (none_before (own p end.0))

  pub unchanged : Changes p P Q [] → member k Q ≡ member k P
  unchanged made = changed_of p k P Q [] only made

  pub rested_yes : Rests k true P Q → Changes p P Q [] → member k P ≡ true
  rested_yes h made = sym (meanwhile h.then h.between made) ∙ h.settled.member

  pub rested_no : Rests k false P Q → Changes p P Q [] → member k P ≡ false
  rested_no h made = sym (meanwhile h.then h.between made) ∙ h.settled.no_member

  pub before_linking : (j : ℕ) (h : Added p j P Q) → member k h.earlier ≡ member k P
  before_linking j h =
      let end = extends_of (linked j h.slot p ∷ h.earlier) Q h.upto in
      let later = end.0 ++ linked j h.slot p ∷ [] in
      let newer : own p later ≡ own p end.0 ++ linked j h.slot p ∷ [] = filter-append (is_for p) end.0 (linked j h.slot p ∷ []) ∙ ap (λ (l : Trace). own p end.0 ++ l) (own_linked p j h.slot) in
      as_before h.earlier later (linked j h.slot p ∷ []) h.changes h.from (end.1 ∙ sym (append_assoc end.0 (linked j h.slot p ∷ []) h.earlier))
      (λ older is. none_but_one (own p end.0) older (linked j h.slot p) (linked j h.slot p) (ap (λ (l : Trace). l ++ older) (sym newer) ∙ is))

  before_marking : (j : ℕ) (h : Removed p j P Q) → member k h.earlier ≡ member k P
  before_marking j h =
      let end = extends_of (marked j h.slot p ∷ h.earlier) Q h.upto in
      let later = end.0 ++ marked j h.slot p ∷ [] in
      let newer : own p later ≡ own p end.0 ++ marked j h.slot p ∷ [] = filter-append (is_for p) end.0 (marked j h.slot p ∷ []) ∙ ap (λ (l : Trace). own p end.0 ++ l) (own_marked p j h.slot) in
      as_before h.earlier later (unlinked j h.slot p ∷ marked j h.slot p ∷ []) h.changes h.from (end.1 ∙ sym (append_assoc end.0 (marked j h.slot p ∷ []) h.earlier))
      (λ older is. none_but_two (own p end.0) older (marked j h.slot p) (unlinked j h.slot p) (marked j h.slot p) (λ same. cc) (ap (λ (l : Trace). l ++ older) (sym newer) ∙ is))

  pub added_to : (buckets slots : ℕ) → Lawful buckets slots Q → Added p k P Q → member k P ≡ false
  added_to buckets slots law h =
      let before = lawful_begins buckets slots (linked k h.slot p ∷ h.earlier) Q h.upto law in
      sym (before_linking k h) ∙ before.0.no_member

  pub removed_from : (buckets slots : ℕ) → Lawful buckets slots Q → Removed p k P Q → member k P ≡ true
  removed_from buckets slots law h =
      let before = lawful_begins buckets slots (marked k h.slot p ∷ h.earlier) Q h.upto law in
      sym (before_marking k h) ∙ before.0.0

-- a call that was cut off
cut : (p : ℕ) (P Q : Trace) (c : Command) → OnlyOwnOf p (key_of c) P Q → WasCut p c P Q → (member (key_of c) Q ≡ member (key_of c) P) ⊎ (member (key_of c) Q ≡ moved (key_of c) c (member (key_of c) P))
cut p P Q c only h = go c only h.own h.changes h.may
  where
    go : (c : Command) → OnlyOwnOf p (key_of c) P Q → (changes : Trace) → Changes p P Q changes → MayHaveChanged p c changes
        → (member (key_of c) Q ≡ member (key_of c) P) ⊎ (member (key_of c) Q ≡ moved (key_of c) c (member (key_of c) P))
    go (Has k) only changes made none = inl (unchanged p k P Q only (subst (Changes p P Q) none made))
    go (Add k) only changes made (inl none) = inl (unchanged p k P Q only (subst (Changes p P Q) none made))
    go (Add k) only changes made (inr (s, is)) = inr (changed_of p k P Q (linked k s p ∷ []) only (subst (Changes p P Q) is made))
    go (Remove k) only changes made (inl none) = inl (unchanged p k P Q only (subst (Changes p P Q) none made))
    go (Remove k) only changes made (inr (s, inl is)) = inr (changed_of p k P Q (marked k s p ∷ []) only (subst (Changes p P Q) is made))
    go (Remove k) only changes made (inr (s, inr is)) = inr (changed_of p k P Q (unlinked k s p ∷ marked k s p ∷ []) only (subst (Changes p P Q) is made))

module _ (shape : Shape) (p : ℕ) (F : Format) (pin : ℕ) (new : List Note) (P Q : Trace) (law : Lawful shape.buckets shape.slots Q) where
  row : (c : Command) (told : Reply) → OnlyOwnOf p (key_of c) P Q → Promises shape p F c told pin new P Q → KeyRow c told (member (key_of c) P) (member (key_of c) Q)
  row (Has k) Yes only h = (rested_yes p k P Q only h.0 h.1, unchanged p k P Q only h.1)
  row (Has k) No only h = (rested_no p k P Q only h.0 h.1, unchanged p k P Q only h.1)
  row (Add k) Yes only h = (ap not (added_to p k P Q only shape.buckets shape.slots law h), changed_of p k P Q (linked k h.slot p ∷ []) only h.changes)
  row (Add k) No only h =
      let has = rested_yes p k P Q only h.0 h.1 in
      (ap not has, unchanged p k P Q only h.1 ∙ added_already (k == k) (member k P) has)
  row (Add k) (Full counts) only h = (sym (meanwhile p k P Q only h.then h.between h.changes) ∙ h.no_member, unchanged p k P Q only h.changes)
  row (Remove k) Yes only h = (removed_from p k P Q only shape.buckets shape.slots law h, changed_of p k P Q (unlinked k h.slot p ∷ marked k h.slot p ∷ []) only h.changes)
  row (Remove k) No only h =
      let lacks = rested_no p k P Q only h.0 h.1 in
      (lacks, unchanged p k P Q only h.1 ∙ removed_already (k == k) (member k P) lacks)
  row c Worn only h = unchanged p (key_of c) P Q only h.1
  row c OldFile only h = unchanged p (key_of c) P Q only h.1
  row _ (Full counts) only h = absurd h
  row c _ only h = cut p P Q c only h

pub one_key : OneKeyIsPlain
one_key F c told before after answers only = record {
  old = old_is_told F c told before after answers;
  row = row (shape_of_sizes before.sizes) before.number F after.pin answers.new before.known after.known answers.lawful c told only answers.promises;
}
