-- What was published for a pass since its call was made, by how far the call has come.
use Rattle.std.proofs.Common.{◌≡◌, inl, inr, ℕ, zero, suc, Bool, true, false, [], ◌∷◌, refl, eq-eqb}
use mathlib.Core.Bool.{false≢true}
use Rattle.lz_refinement.{proofs.Vocabulary.{Command, Counts, Trace, Reply, Progress, own}, specs.{Answers.{MayHaveChanged}, UnderWay.{OwnAt}}}
use Rattle.lz_slot.specs.declared.command.Command.TheVariants.{Add, Remove, Has}
use Rattle.lz_list.specs.declared.publishing.Publishing.TheVariants.{Linked as linked, Marked as marked, Unlinked as unlinked}
use Rattle.lz_machine.specs.declared.event.Reply.TheVariants.{Yes, Full, Worn, OldFile, Halted, Device}
use Rattle.lz_machine.specs.declared.caller.{Sequence.TheVariants.{Adding, Removing, Halting}, Progress.TheVariants.{Playing, Answering}}

-- places of a call that has changed nothing yet
abbrev pub is_calm : Progress → Bool
is_calm (Playing (Adding s) i) = false
is_calm (Playing (Removing s) i) = false
is_calm (Playing (Halting reply) i) = false
is_calm (Answering reply) = false
is_calm at = true

pub calm : (p : ℕ) (c : Command) (at : Progress) (P : Trace) → is_calm at ≡ true → P ≡ [] → OwnAt p c at P
calm p c (Playing (Adding s) i) P is h = absurd (false≢true is)
calm p c (Playing (Removing s) i) P is h = absurd (false≢true is)
calm p c (Playing (Halting reply) i) P is h = absurd (false≢true is)
calm p c (Answering reply) P is h = absurd (false≢true is)
calm p (Has k) at P is h = h
calm p _ at P is h = h

pub calm_none : (p : ℕ) (c : Command) (at : Progress) (P : Trace) → is_calm at ≡ true → OwnAt p c at P → P ≡ []
calm_none p c (Playing (Adding s) i) P is h = absurd (false≢true is)
calm_none p c (Playing (Removing s) i) P is h = absurd (false≢true is)
calm_none p c (Playing (Halting reply) i) P is h = absurd (false≢true is)
calm_none p c (Answering reply) P is h = absurd (false≢true is)
calm_none p (Has k) at P is h = h
calm_none p _ at P is h = h

-- a call that was cut off may have changed what it had
pub none_cut : (p : ℕ) (c : Command) (P : Trace) → P ≡ [] → MayHaveChanged p c P
none_cut p (Has k) P h = h
none_cut p _ P h = inl h

pub own_cut : (p : ℕ) (c : Command) (at : Progress) (P : Trace) → OwnAt p c at P → MayHaveChanged p c P
own_cut p (Add k) (Playing (Adding s) (suc (suc i))) P h = inr (s, h)
own_cut p (Add k) (Answering Yes) P h = inr h
own_cut p (Remove k) (Playing (Removing s) zero) P h = inl h
own_cut p (Remove k) (Playing (Removing s) (suc zero)) P h = inl h
own_cut p (Remove k) (Playing (Removing s) (suc (suc (suc (suc (suc i)))))) P h = inr (s, inr h)
own_cut p (Remove k) (Playing (Removing s) _) P h = inr (s, inl h)
own_cut p (Remove k) (Answering Yes) P h = inr (h.0, inr h.1)
own_cut p _ (Playing (Halting reply) i) P h = h
own_cut p _ (Answering Halted) P h = h
own_cut p _ (Answering Device) P h = h
own_cut p (Has k) _ P h = h
own_cut p _ _ P h = inl h

pub cut_halting : (p : ℕ) (c : Command) (reply : Reply) (i : ℕ) (P : Trace) → MayHaveChanged p c P → OwnAt p c (Playing (Halting reply) i) P
cut_halting p (Has k) reply i P h = h
cut_halting p _ reply i P h = h

pub cut_halted : (p : ℕ) (c : Command) (P : Trace) → MayHaveChanged p c P → OwnAt p c (Answering Halted) P
cut_halted p (Has k) P h = h
cut_halted p _ P h = h

pub cut_device : (p : ℕ) (c : Command) (P : Trace) → MayHaveChanged p c P → OwnAt p c (Answering Device) P
cut_device p (Has k) P h = h
cut_device p _ P h = h

pub worn_none : (p : ℕ) (c : Command) (P : Trace) → P ≡ [] → OwnAt p c (Answering Worn) P
worn_none p (Has k) P h = h
worn_none p _ P h = h

pub full_none : (p : ℕ) (c : Command) (counts : Counts) (P : Trace) → P ≡ [] → OwnAt p c (Answering (Full counts)) P
full_none p (Has k) counts P h = h
full_none p _ counts P h = h

pub old_none : (p : ℕ) (c : Command) (P : Trace) → P ≡ [] → OwnAt p c (Answering OldFile) P
old_none p (Has k) P h = h
old_none p _ P h = h

-- a linking, a marking and an unlinking are made for a pass
pub own_linked : (p k s : ℕ) → own p (linked k s p ∷ []) ≡ linked k s p ∷ []
own_linked p k s = rw (eq-eqb p p refl) refl

pub own_marked : (p k s : ℕ) → own p (marked k s p ∷ []) ≡ marked k s p ∷ []
own_marked p k s = rw (eq-eqb p p refl) refl

pub own_unlinked : (p k s : ℕ) → own p (unlinked k s p ∷ []) ≡ unlinked k s p ∷ []
own_unlinked p k s = rw (eq-eqb p p refl) refl
