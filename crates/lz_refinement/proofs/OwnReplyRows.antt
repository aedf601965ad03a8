-- Worked rows of a pass's own reply that stays: it is the pass's, its notes tell it as the pass got it, and no crash since loses it.
use Rattle.std.proofs.Common.{◌≡◌, ℕ, ◌==◌, true, false, List, [], ◌∷◌, ◌++◌, map, Some, None, sym, ap, ◌∙◌, subst, append_assoc, IsTrue}
use Rattle.std.{proofs.lemmas.List.Elements.{filter_passes, recursion_from_All}, specs.List.{All}}
use mathlib.Core.Bool.{false≢true}
use Rattle.lz_slot.specs.declared.{command.Command.TheVariants.{Add, Has}, history.HistoryEvent.TheVariants.{Call, Answer as answer}}
use Rattle.lz_refinement.proofs.Vocabulary.{Holds, History, Device, Note, note_by, shape_of_sizes}
use Rattle.lz_refinement.{proofs.{MomentRows.{sizes, board, settled_adding, later, answered, S0, stays}, HistoryRows.{last_ending}}, specs.Marks.{marks_in}}
use Rattle.lz_refinement.specs.{Moments.{ExplainsFrom, OwnStays}, OwnCalls.{AsAnswered, calls_of, unnumbered}}
use Rattle.lz_machine.{specs.declared.event.{Event.TheVariants.{Answer}, Outcome.TheVariants.{Done}}, proofs.Open.FirstPoint.{one_set}}
use Rattle.lz_board.specs.declared.view.What.TheVariants.{Played}

-- pass 1's adding of 12 was answered yes
abbrev reply : Note
reply = note_by 1 (Played Answer Done) None

-- another pass's reply isn't among its own
abbrev another : Note
another = note_by 2 (Played Answer Done) None

abbrev Own : Note → Type 0
Own n = (n.by == 1) ≡ true

not_of_another : (disk : Device) (ns older : List Note) → OwnStays board disk ns 1 another older → ⊥
not_of_another disk ns older h =
    let own = subst (All Own) h.steps (filter_passes (λ n. n.by == 1) (another ∷ h.before)) in false≢true (recursion_from_All Own (another ∷ older) own).0

-- the notes in which it stands don't show its call with another reply, nor with none
abbrev Tells : History → Type 0
Tells M = map unnumbered (calls_of 1 M) ≡ (Add 12, Some (AsAnswered true)) ∷ []

not_no : Tells (answer 1 false ∷ Call 1 1 (Add 12) ∷ []) → ⊥
not_no tells = let is : Some (AsAnswered false) ≡ Some (AsAnswered true) = ap last_ending tells in absurd cc

not_open : Tells (Call 1 1 (Add 12) ∷ []) → ⊥
not_open tells = let is : None ≡ Some (AsAnswered true) = ap last_ending tells in absurd cc

stays_with_no : (disk : Device) (ns : List Note) (h : OwnStays board disk ns 1 reply settled_adding)
    → marks_in (shape_of_sizes sizes) (reply ∷ h.before) ≡ answer 1 false ∷ Call 1 1 (Add 12) ∷ [] → ⊥
stays_with_no disk ns h is = not_no (subst Tells is h.calls)

stays_open : (disk : Device) (ns : List Note) (h : OwnStays board disk ns 1 reply settled_adding)
    → marks_in (shape_of_sizes sizes) (reply ∷ h.before) ≡ Call 1 1 (Add 12) ∷ [] → ⊥
stays_open disk ns h is = not_open (subst Tells is h.calls)

-- of the ends of what the notes show, only one tells the call so
only_answered : (z M : History) → z ++ M ≡ Call 2 1 (Has 12) ∷ answered → Tells M → M ≡ answered
only_answered [] M is tells = let two : Tells (Call 2 1 (Has 12) ∷ answered) = subst Tells is tells in absurd cc
only_answered (a ∷ []) M is tells = cc
only_answered (a ∷ b ∷ []) M is tells = let one : M ≡ Call 1 1 (Add 12) ∷ [] = cc in absurd (not_open (subst Tells one tells))
only_answered (a ∷ b ∷ d ∷ []) M is tells = let empty : M ≡ [] = cc in let none : Tells [] = subst Tells empty tells in absurd cc
only_answered (a ∷ b ∷ d ∷ e ∷ z) M is tells = absurd cc

-- no crash since leaves a text that lacks 12
own_reply_lost : (disk : Device) → IsTrue disk.honest → (t : List ℕ) → disk.left_since 0 t → Holds t 1 S0 → OwnStays board disk later 1 reply settled_adding → ⊥
own_reply_lost disk honest t left empty h = false≢true (one_set t 1 S0 e.explains.found empty e.explains.holds 12 ∙ stays (reply ∷ h.before) is t e)
  where
    e : ExplainsFrom board (reply ∷ h.before) later t
    e = (h.stays honest).1 t left

    marks : History
    marks = marks_in (shape_of_sizes sizes) (reply ∷ h.before)

    is : marks ≡ answered
    is = only_answered (e.upto.new ++ e.from.new) marks (append_assoc e.upto.new e.from.new marks ∙ sym (e.upto.shows ∙ ap (λ M. e.upto.new ++ M) e.from.shows)) h.calls
