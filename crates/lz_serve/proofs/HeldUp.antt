-- A conversation whose first request is held up stays so, whatever comes behind it.
use Rattle.lz_serve.specs.declared.turn.Turn.TheVariants as turn
use Rattle.std.proofs.Common.{◌≡◌, ◌≢◌, ◌+◌, ◌++◌, inl, inr, ℕ, Bool, true, false, List, [], ◌∷◌, drop, length, refl, sym, ap, ◌∙◌, subst}
use Rattle.lz_proto.specs.declared.{request.Request.{Request}, end.End.TheVariants.{Done}}
use Rattle.lz_serve.specs.{declared.{line.Line.{Line}, turn.Turn.{Turn}}, Conversations.{IsHeldUp, Paged, Rests, Talk, Told}, Grants.{key_asked}}
use Rattle.lz_serve.specs.{Lines.{IsFree}, Listings.{Listing}}

more_behind : (request : Request) (old more : List Request) → old ≡ request ∷ drop 1 old → old ++ more ≡ request ∷ drop 1 (old ++ more)
more_behind request [] more is = absurd (cc)
more_behind request (first ∷ old) more is = let same : first ≡ request = cc in ap (λ (r : Request). r ∷ (old ++ more)) same

some_behind : (old more : List Request) → old ≢ [] → old ++ more ≢ []
some_behind [] more some = absurd (some refl)
some_behind (request ∷ old) more some = λ none. absurd (cc)

held_behind : (old new : Talk) (more : List Request) → new.waiting ≡ old.waiting ++ more → new.told ≡ old.told → new.under ≡ old.under → new.ended ≡ old.ended → old.waiting ≢ [] → Rests old → Rests new
held_behind old new more waiting told under ended some (inl over) = inl (λ goes. over (sym ended ∙ goes))
held_behind old new more waiting told under ended some (inr (inl none)) = absurd (some none)
held_behind old new more waiting told under ended some (inr (inr (inl (request, held)))) =
    inr (inr (inl (
      request,
      (
        subst (λ (l : List Request). l ≡ request ∷ drop 1 l) (sym waiting) (more_behind request old.waiting more held.0),
        λ free. held.1 (subst (λ (l : List Line). IsFree l (key_asked request)) under free),
      ),
    )))
held_behind old new more waiting told under ended some (inr (inr (inr all))) = inr (inr (inr (ap (λ (n : ℕ). n + length new.under) told ∙ ap (λ (l : List Line). old.told + length l) under ∙ all)))

pub held_more : (old new : Talk) (more : List Request) → new.waiting ≡ old.waiting ++ more → new.told ≡ old.told → new.under ≡ old.under → new.ended ≡ old.ended → IsHeldUp old → IsHeldUp new
held_more old new more waiting told under ended held =
    (subst (λ (l : List Request). l ≢ []) (sym waiting) (some_behind old.waiting more held.0), held_behind old new more waiting told under ended held.0 held.1)

pub held_same : (old new : Talk) → new.waiting ≡ old.waiting → new.told ≡ old.told → new.under ≡ old.under → (new.ended ≡ Done → old.ended ≡ Done) → IsHeldUp old → IsHeldUp new
held_same old new waiting told under ended held = (subst (λ (l : List Request). l ≢ []) (sym waiting) held.0, of held.1)
  where
    of : Rests old → Rests new
    of (inl over) = inl (λ goes. over (ended goes))
    of (inr (inl none)) = inr (inl (waiting ∙ none))
    of (inr (inr (inl (request, is)))) =
        inr (inr (inl (request, (subst (λ (l : List Request). l ≡ request ∷ drop 1 l) (sym waiting) is.0, λ free. is.1 (subst (λ (l : List Line). IsFree l (key_asked request)) under free)))))
    of (inr (inr (inr all))) = inr (inr (inr (ap (λ (n : ℕ). n + length new.under) told ∙ ap (λ (l : List Line). old.told + length l) under ∙ all)))

-- where no exchange was told after the end, and else nothing has changed
pub told_ended : (told : Bool) (old new : Talk) → (told ≡ true → (turn : Turn) × (old.turns ≡ turn ∷ drop 1 old.turns) × (old.ended ≡ Done) × Told turn old new) → (told ≡ false → new ≡ old) → new.ended ≡ Done → old.ended ≡ Done
told_ended true old new some none goes = (some refl).2
told_ended false old new some none goes = sym (ap (λ (t : Talk). t.ended) (none refl)) ∙ goes

-- the same of a page
pub page_ended : (told : Bool) (l : Listing) (old new : Talk) → (told ≡ true → (old.turns ≡ turn.Lists l.scan ∷ drop 1 old.turns) × (old.ended ≡ Done) × Paged l old new) → (told ≡ false → new ≡ old) → new.ended ≡ Done → old.ended ≡ Done
page_ended true l old new some none goes = (some refl).1
page_ended false l old new some none goes = sym (ap (λ (t : Talk). t.ended) (none refl)) ∙ goes
