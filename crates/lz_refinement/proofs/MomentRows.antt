-- Worked rows of what a late crash may leave: not a text that lacks what an answered call did.
use Rattle.std.proofs.Common.{◌≡◌, inl, inr, ⊎_elim, ℕ, false, drop, true, List, [], ◌∷◌, ◌++◌, Some, None, refl, sym, ap, ◌∙◌, subst, append_assoc, arith}
use Rattle.std.proofs.{Common.{IsTrue}, lemmas.List.{append_cancel_right}}
use mathlib.Core.Bool.{false≢true}
use Rattle.lz_slot.specs.declared.{command.Command.TheVariants.{Add, Remove, Has}, format.Format.TheVariants.{Two}}
use Rattle.lz_slot.specs.declared.history.HistoryEvent.TheVariants.{Call, Answer as answer}
use Rattle.lz_refinement.proofs.Vocabulary.{Holds, History, Fits, IsUnderWay, Keys, members, Device, Trace, opening, IsPlain, Note, Sizes, note_by, load_note}
use Rattle.lz_refinement.{proofs.Vocabulary.{shape_of_sizes, stamped, BoardId}, specs.{Holds.{no_board}, Marks.{marks_in}}}
use Rattle.lz_refinement.specs.{Moments.{GrowsTo, ExplainsFrom, RepliesStay}, RunningSets.{members_of, Explains}}
use Rattle.lz_list.specs.declared.publishing.{Change.TheVariants.{Added as as_added, Removed as as_removed}, Publishing.TheVariants.{Linked as linked}}
use Rattle.lz_list.specs.declared.publishing.Publishing.TheVariants.{Marked as marked, Settled as settled, KeyPrepared as key_prepared}
use Rattle.lz_list.specs.declared.{publishing.Publishing.TheVariants.{LinkPrepared as link_prepared}, word.Word.TheVariants.{Head, Halt}}
use Rattle.lz_list.specs.declared.place.Place.TheVariants.{Bucket}
use Rattle.lz_machine.specs.declared.event.Event.TheVariants.{Pin, Reserve, WriteKey, Sync, Claim, Check, WriteOpen, Link, Release, Settle, Mark, Answer}
use Rattle.lz_machine.{specs.declared.event.Outcome.TheVariants.{Done, Slot, Taken, True}, proofs.Alone.Service.{served, served_open}}
use Rattle.lz_machine.proofs.Open.FirstPoint.{one_set}
use Rattle.lz_board.specs.declared.view.What.TheVariants.{Called, Played}

abbrev pub sizes : Sizes
sizes = record { slots = 1; buckets = 1; passes = 1 }

-- the life began with no member
abbrev pub board : BoardId
board = record { table = no_board.table; sizes = sizes; opened = [] }

-- pass 1 has added 12, which is settled
abbrev pub settled_adding : List Note
settled_adding =
    note_by 1 (Played (Settle 0) Done) (Some (settled 0 as_added)) ∷ note_by 1 (Played (Sync 0) Done) None
    ∷ note_by 1 (Played Release Done) None ∷ note_by 1 (Played Link Done) (Some (linked 12 0 1))
    ∷ note_by 1 (Played WriteOpen Done) (Some (link_prepared 0 0)) ∷ note_by 1 (Played Check True) None
    ∷ note_by 1 (Played (Claim (Bucket 0) None) Taken) None ∷ load_note 1 (record { word = Head 0; value = 0; at = 1 })
    ∷ note_by 1 (Played (Sync 0) Done) None ∷ note_by 1 (Played (WriteKey 12) Done) (Some (key_prepared 0 12))
    ∷ note_by 1 (Played Reserve (Slot 0)) None ∷ load_note 1 (record { word = Head 0; value = 0; at = 0 })
    ∷ load_note 1 (record { word = Halt; value = 0; at = 0 }) ∷ note_by 1 (Played Pin Done) None
    ∷ note_by 1 (Called (Add 12) Two) None ∷ []

-- and was answered
abbrev pub added : List Note
added = note_by 1 (Played Answer Done) None ∷ settled_adding

-- and has made another call since
abbrev pub later : List Note
later = note_by 1 (Called (Has 12) Two) None ∷ added

abbrev pub answered : History
answered = answer 1 true ∷ Call 1 1 (Add 12) ∷ []

shown : marks_in (shape_of_sizes sizes) later ≡ Call 2 1 (Has 12) ∷ answered
shown = refl

-- earlier notes don't show what later ones do
pub not_back : GrowsTo board later added → ⊥
not_back h = go h.new (append_cancel_right (h.new ++ Call 2 1 (Has 12) ∷ []) [] answered (append_assoc h.new (Call 2 1 (Has 12) ∷ []) answered ∙ sym h.shows))
  where
    go : (new : History) → new ++ Call 2 1 (Has 12) ∷ [] ≡ [] → ⊥
    go [] is = absurd cc
    go (m ∷ new) is = absurd cc

-- nor do notes in which something isn't that was published
pub not_unlinked : GrowsTo board (note_by 1 (Played Link Done) (Some (linked 12 0 1)) ∷ []) [] → ⊥
not_unlinked h = go h.trace.0 h.trace.1
  where
    go : (more : Trace) → [] ≡ more ++ linked 12 0 1 ∷ [] → ⊥
    go [] is = absurd cc
    go (e ∷ more) is = absurd cc

abbrev pub S0 : Keys
S0 = members_of board.opened

-- a list of calls that fits the history has the answered one in it
pub has_answered : (L : List ℕ) (T : Keys) → Fits S0 answered L T → T 12 ≡ true
has_answered L T fits = plain (served 2 answered S0 L T (refl, omega arith, tt) refl fits)
  where
    plain : IsPlain S0 answered T → T 12 ≡ true
    plain h = sym (h.2.3 12)

-- so does one of the later history, in which another call is under way
pub has_still : (L : List ℕ) (T : Keys) → Fits S0 (Call 2 1 (Has 12) ∷ answered) L T → T 12 ≡ true
has_still L T fits = ⊎_elim (λ h. sym (h.2.3 12)) (λ h. sym (h.1.2 12) ∙ sym (h.1.1.2.3 12)) (served_open 2 1 (Has 12) answered S0 L T (refl, omega arith, tt) refl fits)

-- what a crash leaves once the call was answered has 12
pub stays : (was : List Note) → marks_in (shape_of_sizes sizes) was ≡ answered → (t : List ℕ) (e : ExplainsFrom board was later t) → e.explains.found 12 ≡ true
stays was done t e = go e.from.new e.upto.new first (append_cancel_right (e.upto.new ++ e.from.new) (Call 2 1 (Has 12) ∷ []) answered (append_assoc e.upto.new e.from.new answered ∙ sym (e.upto.shows ∙ ap (λ M. e.upto.new ++ M) first)))
  where
    marks : History
    marks = marks_in (shape_of_sizes sizes) e.then

    first : marks ≡ e.from.new ++ answered
    first = e.from.shows ∙ ap (λ M. e.from.new ++ M) done

    of : (M : History) → marks ≡ M → Fits S0 M e.explains.calls e.explains.found
    of M is = subst (λ M. Fits S0 M e.explains.calls e.explains.found) is e.explains.fits

    go : (x y : History) → marks ≡ x ++ answered → y ++ x ≡ Call 2 1 (Has 12) ∷ [] → e.explains.found 12 ≡ true
    go [] y is all = has_answered e.explains.calls e.explains.found (of answered is)
    go (m ∷ x) [] is all = has_still e.explains.calls e.explains.found (of (Call 2 1 (Has 12) ∷ answered) (is ∙ ap (λ M. M ++ answered) all))
    go (m ∷ x) (n ∷ y) is all = absurd (none y (tail all))
      where
        tail : n ∷ y ++ m ∷ x ≡ Call 2 1 (Has 12) ∷ [] → y ++ m ∷ x ≡ []
        tail same = cc

        none : (y : History) → y ++ m ∷ x ≡ [] → ⊥
        none [] same = absurd cc
        none (k ∷ y) same = absurd cc

-- a text that holds the empty set, which the life's beginning explains, is none that it explains from then on
not_lost : (t : List ℕ) → ExplainsFrom board added later t → Holds t 1 S0 → ⊥
not_lost t e empty = false≢true (one_set t 1 S0 e.explains.found empty e.explains.holds 12 ∙ stays added refl t e)

-- nor does it explain what was seen before the answer: what is settled lasts, and no removal is under way
pub not_left_out : (t : List ℕ) → Explains board settled_adding t → Holds t 1 S0 → ⊥
not_left_out t e empty = false≢true (one_set t 1 S0 e.found empty e.holds 12 ∙ e.lasts.has 12 (record { begins = inl refl; member = refl; settled = refl }) none)
  where
    none : (i : ℕ) → IsUnderWay (Call 1 1 (Add 12) ∷ []) i (Remove 12) → ⊥
    none i h = ⊎_elim (λ (is : Call 1 1 (Add 12) ≡ Call i h.called.0 (Remove 12)). absurd cc) (λ no. no) h.called.1

-- A reply that was noted isn't lost later: no crash since then leaves a text that lacks what its call did.
pub reply_lost : (disk : Device) → IsTrue disk.honest → (t : List ℕ) → disk.left_since 0 t → Holds t 1 S0 → RepliesStay board disk later later → ⊥
reply_lost disk honest t left empty stay = not_lost t ((stay.1.0 tt honest).1 t left) empty

-- and it isn't noted with a moment that is still to come
abbrev answered_at_5 : List Note
answered_at_5 = stamped 5 (note_by 1 (Played Answer Done) None) ∷ settled_adding

noted_too_late : (disk : Device) → IsTrue disk.honest → disk.moment ≡ 4 → RepliesStay board disk answered_at_5 answered_at_5 → ⊥
noted_too_late disk honest now stay = let come = (stay.0 tt honest).0 in absurd (omega (arith, come, now))

-- nor does a text explain what was seen by a moment, if it has what was only called for later
not_ahead : (t : List ℕ) → ExplainsFrom board [] [] t → Holds t 1 (members (12 ∷ [])) → ⊥
not_ahead t e has = false≢true (sym (go e.upto.new e.upto.shows) ∙ one_set t 1 e.explains.found (members (12 ∷ [])) e.explains.holds has 12)
  where
    none : (L : List ℕ) (T : Keys) → Fits S0 [] L T → T 12 ≡ false
    none [] T fits = sym (fits.runs 12)
    none (i ∷ L) T fits = absurd fits.runs.1.1

    go : (x : History) → [] ≡ x ++ marks_in (shape_of_sizes sizes) e.then → e.explains.found 12 ≡ false
    go [] is = none e.explains.calls e.explains.found (subst (λ M. Fits S0 M e.explains.calls e.explains.found) (sym is) e.explains.fits)
    go (m ∷ x) is = absurd cc

-- what explains notes is a text that holds a set: an empty file doesn't
not_empty_file : Explains board [] [] → ⊥
not_empty_file e = let size = e.holds.size in absurd (omega (arith, size))

-- the call that was answered counts, though nothing of it is settled
abbrev unsettled : List Note
unsettled = note_by 1 (Played Answer Done) None ∷ note_by 1 (Played (Settle 0) Done) None ∷ drop 1 settled_adding

not_unanswered : (t : List ℕ) → Explains board unsettled t → Holds t 1 S0 → ⊥
not_unanswered t e empty = false≢true (one_set t 1 S0 e.found empty e.holds 12 ∙ has_answered e.calls e.found e.fits)

-- and a removal that is settled lasts, though its call isn't answered
abbrev removing : List Note
removing =
    note_by 1 (Played (Settle 0) Done) (Some (settled 0 as_removed)) ∷ note_by 1 (Played Mark Done) (Some (marked 12 0 1))
    ∷ note_by 1 (Called (Remove 12) Two) None ∷ []

not_kept : (t : List ℕ) → Explains (record board { opened = opening 1 ((12, 0) ∷ []) }) removing t → Holds t 1 (members (12 ∷ [])) → ⊥
not_kept t e has = false≢true (sym (e.lasts.lacks 12 (record { begins = inl refl; no_member = refl; settled = inr refl }) none) ∙ one_set t 1 e.found (members (12 ∷ [])) e.holds has 12)
  where
    none : (i : ℕ) → IsUnderWay (Call 1 1 (Remove 12) ∷ []) i (Add 12) → ⊥
    none i h = ⊎_elim (λ (is : Call 1 1 (Remove 12) ≡ Call i h.called.0 (Add 12)). absurd cc) (λ no. no) h.called.1
