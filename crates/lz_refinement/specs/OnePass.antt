-- What a set of one pass is known by: all that changes its members was published for that pass. Traces stand newest first.
use Rattle.std.specs.Prelude.{◌≡◌, ℕ, [], ◌∷◌, ◌++◌}
use Rattle.lz_list.specs.{declared.publishing.Publishing.TheVariants.{Linked as linked, Marked as marked, Unlinked as unlinked}, Traces.{Trace}}

-- each linking, marking and unlinking of these was made for pass p
abbrev pub AreOwn : ℕ → Trace → Type 0
AreOwn p [] = Unit {0}
AreOwn p (linked k s q ∷ P) = (q ≡ p) × AreOwn p P
AreOwn p (marked k s q ∷ P) = (q ≡ p) × AreOwn p P
AreOwn p (unlinked k s q ∷ P) = (q ≡ p) × AreOwn p P
AreOwn p (_ ∷ P) = AreOwn p P

-- Q goes on from P, and each change since was made for pass p
pub record OnlyOwn (p : ℕ) (P Q : Trace) : Type 0 where
  pub since : Trace
  pub goes_on : Q ≡ since ++ P
  pub own : AreOwn p since
