-- What was published for one pass alone, and its parts.
use Rattle.std.proofs.{Common.{◌≡◌, ℕ, [], ◌∷◌, ◌++◌, sym, ap, ◌∙◌, subst, append_assoc}, lemmas.List.{append_cancel_right}}
use Rattle.lz_list.specs.declared.publishing.Publishing.TheVariants.{Linked as linked, Marked as marked, Unlinked as unlinked}
use Rattle.lz_refinement.{proofs.Vocabulary.{Trace, Extends}, specs.OnePass.{AreOwn, OnlyOwn}}

pub own_append : (p : ℕ) (P Q : Trace) → AreOwn p P → AreOwn p Q → AreOwn p (P ++ Q)
own_append p [] Q here there = there
own_append p (linked k s q ∷ P) Q here there = (here.0, own_append p P Q here.1 there)
own_append p (marked k s q ∷ P) Q here there = (here.0, own_append p P Q here.1 there)
own_append p (unlinked k s q ∷ P) Q here there = (here.0, own_append p P Q here.1 there)
own_append p (e ∷ P) Q here there = own_append p P Q here there

pub own_newer : (p : ℕ) (P Q : Trace) → AreOwn p (P ++ Q) → AreOwn p P
own_newer p [] Q are = tt
own_newer p (linked k s q ∷ P) Q are = (are.0, own_newer p P Q are.1)
own_newer p (marked k s q ∷ P) Q are = (are.0, own_newer p P Q are.1)
own_newer p (unlinked k s q ∷ P) Q are = (are.0, own_newer p P Q are.1)
own_newer p (e ∷ P) Q are = own_newer p P Q are

-- what is its own since an earlier trace is so since a later one
pub own_since : (p : ℕ) (R P Q : Trace) → OnlyOwn p R Q → Extends P R → Extends Q P → OnlyOwn p P Q
own_since p R P Q only (middle, from) (since, goes_on) =
    let all : only.since ++ R ≡ (since ++ middle) ++ R = sym only.goes_on ∙ goes_on ∙ ap (λ (l : Trace). since ++ l) from ∙ sym (append_assoc since middle R) in
    record {
      since = since;
      goes_on = goes_on;
      own = own_newer p since middle (subst (AreOwn p) (append_cancel_right only.since (since ++ middle) R all) only.own);
    }
