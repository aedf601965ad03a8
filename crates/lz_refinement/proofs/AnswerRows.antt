-- Worked rows: the definitions computed on small cases.
use Rattle.std.proofs.Common.{◌≡◌, ◌==◌, ◌&&◌, ◌||◌, Bool, true, false, inl, inr, List, [], ◌∷◌, ⊎_elim, Some, None, refl, ap, arith}
use mathlib.Core.Bool.{false≢true}
use Rattle.lz_slot.specs.declared.{command.Command.TheVariants.{Add, Has}, format.Format.TheVariants.{Two}}
use Rattle.lz_list.specs.declared.{word.Word.TheVariants.{Head, Link, Key, Halt}, publishing.Change.TheVariants.{Added as as_added, Removed as as_removed}}
use Rattle.lz_list.specs.declared.publishing.Publishing.TheVariants.{Linked as linked, Marked as marked, Unlinked as unlinked, Settled as settled}
use Rattle.lz_list.specs.declared.publishing.Publishing.TheVariants.{KeyPrepared as key_prepared, LinkPrepared as link_prepared}
use Rattle.lz_refinement.proofs.Vocabulary.{Trace, Begins, linking_in, opening, Shape, IsLateReply, Note, Load, Part, Sizes, note_by, load_note, splice, pin_after}
use Rattle.lz_refinement.proofs.Vocabulary.{index, word_at, Glanced, GlancedUnsettled, fresh, knowing}
use Rattle.lz_refinement.specs.Answers.{Added, AreWithin, IsOneCall, Met, Promises, Removed, WasFull}
use Rattle.lz_machine.specs.declared.event.{Event.TheVariants.{Pin, Reserve, Answer}, Outcome.TheVariants.{Done}, Reply.TheVariants.{Yes, Worn, Device}}
use Rattle.lz_board.specs.declared.view.What.TheVariants.{Called, Played, Found}

-- key 9 was found in slot 0
abbrev P0 : Trace
P0 = opening 1 ((9, 0) ∷ [])

-- pass 1 has linked 12 in slot 1, without a flag; then with it
abbrev P1 : Trace
P1 = linked 12 1 1 ∷ link_prepared 1 0 ∷ key_prepared 1 12 ∷ P0

abbrev P2 : Trace
P2 = settled 1 as_added ∷ P1

yes_of_found : Glanced 9 P0 P0 true
yes_of_found = record { then = P0; between = record { from = inl refl; upto = inl refl }; settled = record { begins = inl refl; member = refl; settled = refl } }

no_of_others : Glanced 8 P0 P0 false
no_of_others = record { then = P0; between = record { from = inl refl; upto = inl refl }; settled = record { begins = inl refl; no_member = refl; settled = inl refl } }

unsettled : GlancedUnsettled 12 1 P0 P1
unsettled = record { then = P1; between = record { from = inr (inr (inr (inl refl))); upto = inl refl }; some = omega arith; in_slot = refl; asks = refl }

yes_once_settled : Glanced 12 P0 P2 true
yes_once_settled = record { then = P2; between = record { from = inr (inr (inr (inr (inl refl)))); upto = inl refl }; settled = record { begins = inl refl; member = refl; settled = refl } }

-- the pass's own adding
added : Added 1 12 P0 P2
added = record { slot = 1; changes = record { since = settled 1 as_added ∷ linked 12 1 1 ∷ link_prepared 1 0 ∷ key_prepared 1 12 ∷ []; goes_on = refl; own = refl }; earlier = link_prepared 1 0 ∷ key_prepared 1 12 ∷ P0; from = inr (inr (inl refl)); upto = inr (inl refl); settled = refl }

-- and its removing
abbrev P3 : Trace
P3 = unlinked 12 1 1 ∷ settled 1 as_removed ∷ marked 12 1 1 ∷ P2

removed : Removed 1 12 P2 P3
removed = record { slot = 1; changes = record { since = unlinked 12 1 1 ∷ settled 1 as_removed ∷ marked 12 1 1 ∷ []; goes_on = refl; own = refl }; earlier = P2; from = inl refl; upto = inr (inr (inl refl)); settled = refl }

-- Neither is promised without what settles it. In a set that began empty pass 1 links 12; later, where that is settled, it marks
-- and unlinks it.
abbrev E1 : Trace
E1 = linked 12 1 1 ∷ link_prepared 1 0 ∷ key_prepared 1 12 ∷ []

not_added_yet : Added 1 12 [] E1 → ⊥
not_added_yet h = false≢true h.settled

abbrev E2 : Trace
E2 = settled 1 as_added ∷ E1

not_removed_yet : Removed 1 12 E2 (unlinked 12 1 1 ∷ marked 12 1 1 ∷ E2) → ⊥
not_removed_yet h = go (linking_in 1 E1 == linking_in h.slot h.earlier) h.settled
  where
    go : (same : Bool) → (same && false) || false ≡ true → ⊥
    go true is = false≢true is
    go false is = false≢true is

-- a `has` that answers yes: its steps are one call
abbrev shape : Shape
shape = record { slots = 2; buckets = 1; passes = 1 }

abbrev loads : List Load
loads =
    record { word = Link 0; value = 8589934592; at = 4 } ∷ record { word = Key 0; value = 9; at = 4 } ∷ record { word = Head 0; value = 1; at = 4 }
    ∷ record { word = Halt; value = 0; at = 4 } ∷ []

abbrev pinned : List Note
pinned = note_by 1 (Played Pin Done) None ∷ note_by 1 (Called (Has 9) Two) None ∷ note_by 0 (Found 1 2) None ∷ []

one_call : IsOneCall shape 1 Two (Has 9) Yes (note_by 1 (Played Answer Done) None ∷ load_note 1 (record { word = Link 0; value = 8589934592; at = 4 }) ∷ load_note 1
    (record { word = Key 0; value = 9; at = 4 }) ∷ load_note 1 (record { word = Head 0; value = 1; at = 4 }) ∷ load_note 1
    (record { word = Halt; value = 0; at = 4 }) ∷ note_by 1 (Played Pin Done) None ∷ note_by 1 (Called (Has 9) Two) None ∷ [])
one_call = record {
  moment = 0;
  within = load_note 1 (record { word = Link 0; value = 8589934592; at = 4 }) ∷ load_note 1 (record { word = Key 0; value = 9; at = 4 }) ∷ load_note 1 (record { word = Head 0; value = 1; at = 4 }) ∷ load_note 1 (record { word = Halt; value = 0; at = 4 }) ∷ note_by 1 (Played Pin Done) None ∷ [];
  steps = refl;
  only = (tt, (tt, (tt, (tt, (tt, tt)))));
  answers = refl;
}

-- a set of two slots isn't full of one, and a pass isn't worn by its first turn
not_full_of_one : (new : List Note) (P Q : Trace) → WasFull shape 1 12 (record { free = 0; taken = 1; limbo = 0 }) new P Q → ⊥
not_full_of_one new P Q h = let sum = h.sum in absurd (omega (arith, sum))

not_worn_yet : (new : List Note) (P Q : Trace) → Promises shape 1 Two (Add 12) Worn 3 new P Q → ⊥
not_worn_yet new P Q h = let last = h.0 in absurd (omega (arith, last))

-- the loads of that call go after its Pin, before what another pass has published since
abbrev later : List Note
later = note_by 2 (Played Reserve Done) (Some (key_prepared 1 12)) ∷ note_by 2 (Played Reserve Done) None ∷ pinned

spliced : splice P0 1 loads later ≡ (note_by 2 (Played Reserve Done) (Some (key_prepared 1 12)) ∷ load_note 1
    (record { word = Link 0; value = 8589934592; at = 4 }) ∷ load_note 1 (record { word = Key 0; value = 9; at = 4 }) ∷ load_note 1
    (record { word = Head 0; value = 1; at = 4 }) ∷ load_note 1 (record { word = Halt; value = 0; at = 4 }) ∷ note_by 2 (Played Reserve Done) None ∷ pinned)
spliced = refl

pin_counts : pin_after 1 later ≡ 3
pin_counts = refl

-- where the words of a board of 2 slots, 3 buckets and 2 passes lie
abbrev sizes : Sizes
sizes = record { slots = 2; buckets = 3; passes = 2 }

lies : word_at sizes (index sizes (Key 1)) ≡ Key 1
lies = refl

-- one call isn't answered twice
not_twice : AreWithin (note_by 1 (Played Answer Done) None ∷ []) → ⊥
not_twice h = h.0

-- after the halt a pass may still be told that it is worn, but not that it was answered, nor of a fault that its call met
late_worn : IsLateReply Worn
late_worn = tt

not_late_yes : IsLateReply Yes → ⊥
not_late_yes h = h

not_late_device : IsLateReply Device → ⊥
not_late_device h = h

-- two passes meet: one has seen the linking, and then both have
abbrev first : Part
first = fresh sizes [] 1

abbrev other : Part
other = fresh sizes [] 2

abbrev one_linked : Trace
one_linked = linked 12 1 1 ∷ []

abbrev other_linked : Trace
other_linked = linked 12 0 2 ∷ []

met : Met (knowing one_linked first) other (knowing one_linked first) (knowing one_linked other)
met = record { one_one = inl refl; one_other = inl refl; other_one = inr refl; other_other = inr refl; alike = inl (inl refl); one_kept = refl; other_kept = refl }

-- they don't part with what neither sees of the other
apart : Begins one_linked other_linked → ⊥
apart = ⊎_elim (λ (is : one_linked ≡ other_linked). absurd cc) (λ (is : one_linked ≡ []). absurd cc)

apart_too : Begins other_linked one_linked → ⊥
apart_too = ⊎_elim (λ (is : other_linked ≡ one_linked). absurd cc) (λ (is : other_linked ≡ []). absurd cc)

not_met : Met first other (knowing one_linked first) (knowing other_linked other) → ⊥
not_met h = ⊎_elim apart apart_too h.alike

-- and they don't change places
not_exchanged : Met first other other first → ⊥
not_exchanged h = let kept = h.one_kept in absurd cc

-- neither forgets what it has seen, each sees what the other had, and each stays the pass that it was
not_met_forgetting : Met (knowing one_linked first) other first (knowing one_linked other) → ⊥
not_met_forgetting h = let is = h.one_one in absurd cc

not_met_unseen : Met (knowing one_linked first) other (knowing one_linked first) other → ⊥
not_met_unseen h = let is = h.one_other in absurd cc

other_not_met_forgetting : Met first (knowing one_linked other) (knowing one_linked first) other → ⊥
other_not_met_forgetting h = let is = h.other_other in absurd cc

other_not_met_unseen : Met first (knowing one_linked other) first (knowing one_linked other) → ⊥
other_not_met_unseen h = let is = h.other_one in absurd cc

one_not_exchanged : Met first other other other → ⊥
one_not_exchanged h = let same = ap (λ (g : Part). g.number) h.one_kept in absurd (omega (arith, same))

other_not_exchanged : Met first other first first → ⊥
other_not_exchanged h = let same = ap (λ (g : Part). g.number) h.other_kept in absurd (omega (arith, same))
