-- Where a pass's own linking or marking stands in a trace.
use Rattle.std.proofs.Common.{◌≡◌, ◌⊎◌, inl, inr, ℕ, ◌≤◌, ◌==◌, ◌&&◌, nat_le, if◌then◌else◌, Bool, true, false, [], ◌∷◌, ◌++◌, length, refl, sym, ap, ◌∙◌}
use Rattle.std.proofs.{Common.{arith, append_assoc, Some}, lemmas.{Bool.Decides.{nat_tests}, List.{append_cancel_right, Elements.{filter-append}}}}
use Rattle.std.proofs.lemmas.Option.{none-some, same_Some}
use Rattle.lz_refinement.proofs.Vocabulary.{Publishing, Trace, Begins, own_change, own, is_for, Changes}
use Rattle.lz_list.specs.declared.publishing.Publishing.TheVariants.{Linked as linked, Marked as marked}
use Rattle.lz_board.proofs.Upkeep.Growth.{extends_trans, extends_both, begins_of, extends_of}

-- a linking or a marking for pass p
abbrev pub IsChangeOf : ℕ → Publishing → Type 0
IsChangeOf p (linked k s q) = q ≡ p
IsChangeOf p (marked k s q) = q ≡ p
IsChangeOf p _ = ⊥

-- one of pass p stands at this position, beyond the first n publishings
record ChangedAt (p n at : ℕ) (P : Trace) : Type 0 where
  change : Publishing
  earlier : Trace
  begins : Begins (change ∷ earlier) P
  long : length earlier ≡ at
  beyond : n ≤ length earlier
  kind : IsChangeOf p change

module _ (p n at : ℕ) where
  later : (e : Publishing) (P : Trace) → ChangedAt p n at P → ChangedAt p n at (e ∷ P)
  later e P h = record { change = h.change; earlier = h.earlier; begins = inr h.begins; long = h.long; beyond = h.beyond; kind = h.kind }

  here_or_later : (e : Publishing) (P : Trace) (test : Bool) → (test ≡ true → (n ≤ length P) × IsChangeOf p e) → (if test then Some (length P) else own_change p n P) ≡ Some at → (own_change p n P ≡ Some at → ChangedAt p n at P) → ChangedAt p n at (e ∷ P)
  here_or_later e P true here is before = record { change = e; earlier = P; begins = inl refl; long = same_Some (length P) at is; beyond = (here refl).0; kind = (here refl).1 }
  here_or_later e P false here is before = later e P (before is)

  changed_at : (P : Trace) → own_change p n P ≡ Some at → ChangedAt p n at P
  changed_at [] is = absurd (none-some at is)
  changed_at (linked k s q ∷ P) is = here_or_later (linked k s q) P (nat_le n (length P) && (q == p)) (λ test. (grind (arith, nat_tests, test), grind (arith, nat_tests, test))) is (changed_at P)
  changed_at (marked k s q ∷ P) is = here_or_later (marked k s q) P (nat_le n (length P) && (q == p)) (λ test. (grind (arith, nat_tests, test), grind (arith, nat_tests, test))) is (changed_at P)
  changed_at (e ∷ P) is = later e P (changed_at P is)

own_first : (p : ℕ) (e : Publishing) (P : Trace) → IsChangeOf p e → own p (e ∷ P) ≡ e ∷ own p P
own_first p (linked k s q) P is = let same : (q == p) ≡ true = grind (arith, nat_tests, is) in ap (λ b. if b then linked k s q ∷ own p P else own p P) same
own_first p (marked k s q) P is = let same : (q == p) ≡ true = grind (arith, nat_tests, is) in ap (λ b. if b then marked k s q ∷ own p P else own p P) same
own_first p _ P is = absurd is

-- The linking or marking for the pass at this position of Q: it is one of the changes that were made for it since P.
pub record OwnChange (p at : ℕ) (P Q changes : Trace) : Type 0 where
  pub change : Publishing
  pub earlier : Trace
  pub from : Begins P earlier
  pub upto : Begins (change ∷ earlier) Q
  pub long : length earlier ≡ at
  pub kind : IsChangeOf p change
  pub newer : Trace
  pub older : Trace
  pub has : changes ≡ newer ++ change ∷ older

pub own_stands : (p at : ℕ) (P P0 Q changes : Trace) → Changes p P Q changes → Begins P P0 → Begins P0 Q → own_change p (length P0) Q ≡ Some at → OwnChange p at P Q changes
own_stands p at P P0 Q changes made from to is =
    let h = changed_at p (length P0) at Q is in
    let whole = extends_of (h.change ∷ h.earlier) Q h.begins in
    let since = extends_both P0 h.earlier Q (extends_of P0 Q to) (extends_trans h.earlier (h.change ∷ h.earlier) Q (h.change ∷ [], refl) whole) h.beyond in
    let all = extends_trans P P0 h.earlier (extends_of P P0 from) since in
    let front = whole.0 in
    let middle = all.0 in
    let same : made.since ++ P ≡ (front ++ h.change ∷ middle) ++ P = sym made.goes_on ∙ whole.1 ∙ ap (λ l. front ++ h.change ∷ l) all.1 ∙ sym (append_assoc front (h.change ∷ middle) P) in
    record {
      change = h.change;
      earlier = h.earlier;
      from = begins_of P h.earlier all;
      upto = h.begins;
      long = h.long;
      kind = h.kind;
      newer = own p front;
      older = own p middle;
      has =
          sym made.own ∙ ap (own p) (append_cancel_right made.since (front ++ h.change ∷ middle) P same) ∙ filter-append (is_for p) front (h.change ∷ middle)
          ∙ ap (λ l. own p front ++ l) (own_first p h.change middle h.kind);
    }

-- which of few changes it is
pub one_is : (newer older : Trace) (e f : Publishing) → newer ++ e ∷ older ≡ f ∷ [] → e ≡ f
one_is [] older e f is = cc
one_is (x ∷ []) older e f is = absurd cc
one_is (x ∷ y ∷ newer) older e f is = absurd cc

pub two_are : (newer older : Trace) (e f g : Publishing) → newer ++ e ∷ older ≡ f ∷ g ∷ [] → (e ≡ f) ⊎ (e ≡ g)
two_are [] older e f g is = inl cc
two_are (x ∷ []) older e f g is = inr cc
two_are (x ∷ y ∷ []) older e f g is = absurd cc
two_are (x ∷ y ∷ z ∷ newer) older e f g is = absurd cc
