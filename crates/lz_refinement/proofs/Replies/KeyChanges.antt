-- The changes of a key in a trace: whose they are, and where they stand.
use Rattle.std.proofs.Common.{◌≡◌, ◌⊎◌, inl, inr, ℕ, suc, [], ◌∷◌, ◌++◌, length, refl, sym, subst, arith}
use Rattle.lz_refinement.{proofs.Vocabulary.{Publishing, Trace, Begins}, specs.{KeyByKey.{AreFor, ChangedFor}, LoneClient.{IsChange}}}
use Rattle.lz_list.specs.declared.publishing.Publishing.TheVariants.{Linked as linked, Marked as marked}
use Rattle.lz_board.proofs.Upkeep.Growth.{begins_extends, extends_of, extends_length}

module _ (Such : ℕ → Type 0) (k : ℕ) where
  newest_for : (e : Publishing) (P : Trace) (q : ℕ) → AreFor Such k (e ∷ P) → IsChange k q e → Such q
  newest_for (linked j s r) P q are is = subst Such is.1 (are.0 is.0)
  newest_for (marked j s r) P q are is = subst Such is.1 (are.0 is.0)
  newest_for e P q are is = absurd is

  older_for : (e : Publishing) (P : Trace) → AreFor Such k (e ∷ P) → AreFor Such k P
  older_for (linked j s r) P are = are.1
  older_for (marked j s r) P are = are.1
  older_for e P are = are

  one_more_for : (e : Publishing) (P : Trace) → ((q : ℕ) → IsChange k q e → Such q) → AreFor Such k P → AreFor Such k (e ∷ P)
  one_more_for (linked j s r) P such are = (λ same. such r (same, refl), are)
  one_more_for (marked j s r) P such are = (λ same. such r (same, refl), are)
  one_more_for e P such are = are

  pub oldest_for : (P Q : Trace) → AreFor Such k (P ++ Q) → AreFor Such k Q
  oldest_for [] Q are = are
  oldest_for (e ∷ P) Q are = oldest_for P Q (older_for e (P ++ Q) are)

-- what came after R doesn't begin R
pub no_sooner : (e : Publishing) (R P : Trace) → Begins (e ∷ R) P → Begins P R → ⊥
no_sooner e R P upto from =
    let long = extends_length (e ∷ R) P (extends_of (e ∷ R) P upto) in
    let short = extends_length P R (extends_of P R from) in
    let is : length (e ∷ R) ≡ suc (length R) = refl in
    absurd (omega (arith, long, short, is))

same_newest : (e x : Publishing) (R Q : Trace) → e ∷ R ≡ x ∷ Q → e ≡ x
same_newest e x R Q is = cc

same_older : (e x : Publishing) (R Q : Trace) → e ∷ R ≡ x ∷ Q → Q ≡ R
same_older e x R Q is = cc

-- a beginning of a trace has the step after R, or R goes on from it
pub sooner : (e : Publishing) (R P Q : Trace) → Begins (e ∷ R) Q → Begins P Q → Begins (e ∷ R) P ⊎ Begins P R
sooner e R P [] upto from = absurd cc
sooner e R P (x ∷ Q) upto (inl is) = inl (subst (Begins (e ∷ R)) (sym is) upto)
sooner e R P (x ∷ Q) (inl is) (inr from) = inr (subst (Begins P) (same_older e x R Q is) from)
sooner e R P (x ∷ Q) (inr upto) (inr from) = sooner e R P Q upto from

-- each change of k since P
abbrev pub EachSince : (ℕ → Type 0) → ℕ → Trace → Trace → Type 0
EachSince Such k P Q = (q : ℕ) (e : Publishing) (R : Trace) → IsChange k q e → Begins P R → Begins (e ∷ R) Q → Such q

each_of : (Such : ℕ → Type 0) (k : ℕ) (since P : Trace) → AreFor Such k since → EachSince Such k P (since ++ P)
each_of Such k [] P are q e R is from upto = absurd (no_sooner e R P upto from)
each_of Such k (x ∷ since) P are q e R is from (inl here) = newest_for Such k x since q are (subst (IsChange k q) (same_newest e x R (since ++ P) here) is)
each_of Such k (x ∷ since) P are q e R is from (inr upto) = each_of Such k since P (older_for Such k x since are) q e R is from upto

of_each : (Such : ℕ → Type 0) (k : ℕ) (since P : Trace) → EachSince Such k P (since ++ P) → AreFor Such k since
of_each Such k [] P each = tt
of_each Such k (x ∷ since) P each =
    one_more_for Such k x since
    (λ q is. each q x (since ++ P) is (begins_extends P since) (inl refl))
    (of_each Such k since P (λ q e R is from upto. each q e R is from (inr upto)))

pub each_since : (Such : ℕ → Type 0) (k : ℕ) (P Q : Trace) → ChangedFor Such k P Q → EachSince Such k P Q
each_since Such k P Q h = subst (EachSince Such k P) (sym h.goes_on) (each_of Such k h.since P h.all)

pub changed_for : (Such : ℕ → Type 0) (k : ℕ) (P Q : Trace) → Begins P Q → EachSince Such k P Q → ChangedFor Such k P Q
changed_for Such k P Q from each =
    let start = extends_of P Q from in
    record { since = start.0; goes_on = start.1; all = of_each Such k start.0 P (subst (EachSince Such k P) start.1 each) }
