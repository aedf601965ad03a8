-- Grants in turn: what a loop and a thread's session promise, and worked rows of it.
use Rattle.std.proofs.{Common.{◌≡◌, List, [], ◌∷◌, ◌++◌, subst}, lemmas.List.Elements.{All-head, All-nil, All-push, All-tail}}
use Rattle.lz_slot.specs.declared.format.Format.{Format}
use Rattle.lz_list.specs.{Traces.{Begins, Trace}, declared.publishing.Publishing.{Publishing}}
use Rattle.lz_board.specs.Seats.{BoardId, part}
use Rattle.lz_serve.specs.{Grants.{AreGranted, AreInTurn, Grant, IsAfter, IsGrant, IsLater, Promises, key_asked}, Listings.{IsListing}}

-- grants in turn, and one that comes after them
pub in_turn_more : (grants : List Grant) (g : Grant) → AreInTurn grants → IsLater grants g → AreInTurn (grants ++ g ∷ [])
in_turn_more [] g turn later = (All-nil (λ (x : Grant). IsAfter g x), tt)
in_turn_more (e ∷ grants) g turn later =
    (All-push (λ (x : Grant). IsAfter e x) grants g turn.0 (All-head (λ (x : Grant). IsAfter x g) e grants later), in_turn_more grants g turn.1 (All-tail (λ (x : Grant). IsAfter x g) e grants later))

-- that a pass of this board gave each, those for one key in turn, may be promised
pub granted_promises : (b : BoardId) (F : Format) → Promises b F (AreGranted b F) (IsListing b)
granted_promises b F = ((All-nil (IsGrant b F), tt), λ grants g are granted later. (All-push (IsGrant b F) grants g are.0 granted, in_turn_more grants g are.1 later), λ l is. is)

-- What must not hold.

nothing_begun : (e : Publishing) → Begins (e ∷ []) [] → ⊥
nothing_begun e begins = absurd (cc)

-- two for one key are in turn, of which the second was put to a pass that had seen nothing
unseen_in_turn : (e g : Grant) (change : Publishing) → key_asked e.question.request ≡ key_asked g.question.request → (part e.after).known ≡ change ∷ [] → (part g.question.before).known ≡ [] → AreInTurn (e ∷ g ∷ []) → ⊥
unseen_in_turn e g change same had none turn =
    nothing_begun change (subst (λ (t : Trace). Begins t []) had (subst (Begins (part e.after).known) none (All-head (λ (x : Grant). IsAfter e x) g [] turn.0 same)))
