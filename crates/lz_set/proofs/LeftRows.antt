-- Worked rows: what no closed set has left, for each promise of it.
use Rattle.lz_machine.specs.declared.event.Event.TheVariants as event
use Rattle.lz_machine.specs.declared.event.Outcome.TheVariants as found
use Rattle.std.proofs.Common.{◌≡◌, inl, inr, ⊎_elim, ℕ, ◌<◌, true, false, List, [], ◌∷◌, ◌++◌, length, Option, None, Some, IsTrue, refl, sym, ap, ◌∙◌, subst}
use Rattle.std.proofs.Common.{append_assoc, lit≤, arith}
use mathlib.Core.Bool.{false≢true}
use Rattle.lz_slot.specs.declared.{command.Command.TheVariants.{Add, Has}, format.Format.TheVariants.{Two}}
use Rattle.lz_slot.specs.declared.history.{Cut.TheVariants.{Halted as cut_halted, Device as cut_device}, HistoryEvent.TheVariants.{Call, Answer, Refused, Cut}}
use Rattle.lz_slot.specs.{declared.history.Refusal.TheVariants.{Full as refused_full}, Bytes.{Holds}, Counted.{of_pass}, Histories.{Runs}, Sets.{Keys}}
use Rattle.lz_disk.specs.{Devices.{Device}, Images.{IsImage}}
use Rattle.lz_vault.specs.Vaults.{last_sync}
use Rattle.lz_allot.specs.{declared.counts.Counts.{Counts}, Uses.{Use, Free, use_of}}
use Rattle.lz_list.specs.declared.{word.Word.{Word, TheVariants.{Head, Link, Key, Halt}}, publishing.Publishing.{Publishing, TheVariants.{Linked as linked}}}
use Rattle.lz_list.{specs.{declared.layout.Sizes.{Sizes}, Pinned.{Stood}, Traces.{Trace, Begins, bucket_of, halt_word}}, proofs.Traces.Absence.{begins_itself}}
use Rattle.lz_machine.{specs.{Halts.{told_device}, Yards.{idle_actor}}, proofs.Open.FirstPoint.{one_set}}
use Rattle.lz_board.specs.{declared.view.{Note.{Note}, What.TheVariants.{Called, Played}}, Notes.{as_list, load_note, note_by, shape_of_sizes, trace_of}}
use Rattle.lz_board.specs.{Noting.{AllLeft, HasLeft}, Seats.{BoardId}}
use Rattle.lz_refinement.specs.{Marks.{marks_in}, Moments.{ExplainsBegun}, Reuse.{UseTold}, RunningSets.{Explains, members_of}}
use Rattle.lz_refinement.proofs.MomentRows.{S0, board, has_still, later, reply_lost}
use Rattle.lz_set.{specs.Left.{IsLeft}, proofs.TiedRows.{publishes_in_a_call, publishing_call, replies_unasked, unasked}}

-- Pass 1 has added 12, which was answered. A text that lacks it isn't left now, nor since the reply.
module _ (first disk : Device) (honest : IsTrue disk.honest) (t : List ℕ) (empty : Holds t 1 S0) where
  added_is_lost : IsImage disk.medium t → IsLeft board first later disk → ⊥
  added_is_lost image left =
      let e = left.now honest t image in
      false≢true (one_set t 1 S0 e.found empty e.holds 12 ∙ has_still e.calls e.found e.fits)

  reply_is_lost : disk.left_since 0 t → IsLeft board first later disk → ⊥
  reply_is_lost since left = reply_lost disk honest t since empty left.stays

-- no pass calls that the set hasn't, and none calls again before it was answered
abbrev add_by : ℕ → Note
add_by p = note_by p (Called (Add 12) Two) None

other_pass : (first disk : Device) → IsLeft board first (add_by 2 ∷ []) disk → ⊥
other_pass first disk left = let within = left.passes.1 in omega (arith, within)

calls_again : (first disk : Device) → IsLeft board first (add_by 1 ∷ add_by 1 ∷ []) disk → ⊥
calls_again first disk left = left.told.0.1 1 (inl (refl, refl))

module _ (b : BoardId) (first disk : Device) (ns : List Note) where
  -- not two calls are told that the device failed in them, nor one where it didn't fail
  two_failures : told_device (marks_in (shape_of_sizes b.sizes) ns) ≡ 2 → IsLeft b first ns disk → ⊥
  two_failures two left = omega (arith, two, left.device)

  no_failure : told_device (marks_in (shape_of_sizes b.sizes) ns) ≡ 1 → disk.faults ≡ first.faults → IsLeft b first ns disk → ⊥
  no_failure one same left = omega (arith, one, same, left.faults)

  -- nothing is halted before the last sync, where the device didn't fail
  halted_for_nothing : halt_word (trace_of b.opened ns) ≡ 1 → disk.faults ≡ first.faults → (left : IsLeft b first ns disk) → left.yard.vault.syncs < last_sync → ⊥
  halted_for_nothing halt same left early = ⊎_elim (λ late. omega (arith, late, early)) (λ failed. omega (arith, same, failed)) (left.over halt)

  -- no device becomes honest
  honest_at_last : first.honest ≡ false → disk.honest ≡ true → IsLeft b first ns disk → ⊥
  honest_at_last was is left = false≢true (sym was ∙ sym left.honest ∙ is)

-- A load of pass 1, and a call of it that was cut off, as it found the halt word set.
abbrev load : Word → ℕ → Note
load word value = load_note 1 (record { word = word; value = value; at = 0 })

abbrev cut_off : List Note
cut_off = note_by 1 (Played event.Answer found.Done) None ∷ load Halt 1 ∷ note_by 1 (Played event.Pin found.Done) None ∷ note_by 1 (Called (Has 9) Two) None ∷ []

-- no call that is made after it is answered
abbrev answered_late : List Note
answered_late =
    note_by 1 (Played event.Answer found.Done) None ∷ load (Head 0) 0 ∷ load Halt 0 ∷ note_by 1 (Played event.Pin found.Done) None
    ∷ note_by 1 (Called (Has 9) Two) None ∷ cut_off

shown_answered : marks_in (shape_of_sizes board.sizes) answered_late ≡ Answer 2 false ∷ Call 2 1 (Has 9) ∷ Cut 1 cut_halted ∷ Call 1 1 (Has 9) ∷ []
shown_answered = refl

answers_late : (first disk : Device) → IsLeft board first answered_late disk → ⊥
answers_late first disk left = left.halts.0 (inl (refl, refl))

-- nor was one before others were made
answered_before : (first disk : Device) → IsLeft board first (note_by 1 (Called (Has 9) Two) None ∷ answered_late) disk → ⊥
answered_before first disk left = left.halts.1.0 (inl (refl, refl))

-- nor is one told that the set is full
abbrev full_late : Counts → List Note
full_late counts =
    note_by 1 (Played event.Answer found.Done) None ∷ note_by 1 (Played event.Reserve (found.NoSlot counts)) None
    ∷ note_by 1 (Played (event.SeePin 1 1) found.Done) None ∷ note_by 1 (Played event.Reserve (found.NoSlot counts)) None ∷ load (Head 0) 0 ∷ load Halt 0
    ∷ note_by 1 (Played event.Pin found.Done) None ∷ note_by 1 (Called (Add 9) Two) None ∷ cut_off

shown_full : (counts : Counts) → marks_in (shape_of_sizes board.sizes) (full_late counts) ≡ Refused 2 refused_full ∷ Call 2 1 (Add 9) ∷ Cut 1 cut_halted ∷ Call 1 1 (Has 9) ∷ []
shown_full counts = refl

refuses_late : (counts : Counts) (first disk : Device) → IsLeft board first (full_late counts) disk → ⊥
refuses_late counts first disk left = left.halts.0 (inl (refl, refl))

-- nor that the device failed in it
abbrev failed_late : List Note
failed_late =
    note_by 1 (Played event.Answer found.Done) None ∷ note_by 1 (Played event.Halt found.Done) None ∷ note_by 1 (Played (event.Sync 0) found.Fault) None
    ∷ load (Link 0) 0 ∷ load (Key 0) 9 ∷ load (Head 0) 1 ∷ load Halt 0 ∷ note_by 1 (Played event.Pin found.Done) None ∷ note_by 1 (Called (Has 9) Two) None ∷ cut_off

shown_failed : marks_in (shape_of_sizes board.sizes) failed_late ≡ Cut 2 cut_device ∷ Call 2 1 (Has 9) ∷ Cut 1 cut_halted ∷ Call 1 1 (Has 9) ∷ []
shown_failed = refl

fails_late : (first disk : Device) → IsLeft board first failed_late disk → ⊥
fails_late first disk left = left.halts.0 (inl (refl, refl))

-- where nothing was called, no crash since has left a text that holds 12, unless it might have been there before
none_found : (L : List ℕ) (T : Keys) → Runs [] S0 L T → T 12 ≡ false
none_found [] T runs = sym (runs 12)
none_found (i ∷ L) T runs = absurd runs.1.1

abbrev twelve : Keys
twelve = members_of (linked 12 0 1 ∷ [])

none_explained : (t : List ℕ) → Holds t 1 twelve → ExplainsBegun board [] t → ⊥
none_explained t one e = go e.later e.before e.splits e.explains
  where
    go : (after before : List Note) → [] ≡ after ++ before → Explains board before t → ⊥
    go [] [] splits x = false≢true (sym (none_found x.calls x.found x.fits.runs) ∙ one_set t 1 x.found twelve x.holds one 12)
    go [] (n ∷ before) splits x = absurd cc
    go (n ∷ after) before splits x = absurd cc

added_by_nobody : (first disk : Device) → IsTrue disk.honest → (t : List ℕ) → disk.left_since first.moment t → ¬ IsImage first.medium t → Holds t 1 twelve → IsLeft board first [] disk → ⊥
added_by_nobody first disk honest t since never one left = ⊎_elim never (none_explained t one) ((left.ever honest).each t since)

-- the notes are a run: no pass gets a reply that has made no call, and no call publishes anything as it begins
replied_unasked : (first disk : Device) → IsLeft board first (unasked ∷ []) disk → ⊥
replied_unasked first disk left = replies_unasked board.opened left.yard disk.honest disk.medium left.locked.tied

published_early : (first disk : Device) (ns : List Note) → IsLeft board first (publishing_call ∷ ns) disk → ⊥
published_early first disk ns left = publishes_in_a_call board.opened ns left.yard disk.honest disk.medium left.locked.tied

-- the yard is of the board's size, and has a pin word for each pass
another_size : (first disk : Device) (ns : List Note) (left : IsLeft board first ns disk) → left.yard.shape.slots ≡ 2 → ⊥
another_size first disk ns left two = let one = ap (λ (z : Sizes). z.slots) left.locked.sizes in omega (arith, one, two)

pin_is_missing : (first disk : Device) (ns : List Note) (left : IsLeft board first ns disk) → length left.yard.words.pins ≡ 0 → ⊥
pin_is_missing first disk ns left none = let one = ap (λ (z : Sizes). z.passes) left.locked.sizes in let each = left.locked.pins in omega (arith, one, none, each)

-- The slot of 12, which stands in its list, is neither free for another key nor in its pass's hand.
begins_more : (n : Note) (P0 : Trace) (ns : List Note) → Begins P0 (trace_of [] ns) → Begins P0 (trace_of [] (n ∷ ns))
begins_more n P0 ns begins = go n.published
  where
    go : (published : Option Publishing) → Begins P0 (as_list published ++ trace_of [] ns)
    go None = begins
    go (Some p) = inr begins

begins_rest : (more rest : List Note) → Begins (trace_of [] rest) (trace_of [] (more ++ rest))
begins_rest [] rest = begins_itself (trace_of [] rest)
begins_rest (n ∷ more) rest = begins_more n (trace_of [] rest) (more ++ rest) (begins_rest more rest)

stands : (P0 : Trace) → Begins P0 (trace_of [] later) → Stood 1 0 P0 (trace_of [] later) 1
unfolding bucket_of
stands P0 begins = inl (begins, refl)

not_left : AllLeft board.sizes board.opened later 0 → ⊥
not_left all = ⊎_elim (λ away. away 0 (stands [] (inr (inr (inr (inr refl)))))) (λ each. go (each 1 (lit≤ tt) (lit≤ tt))) all
  where
    go : HasLeft board.sizes board.opened later 1 0 → ⊥
    go left =
        let n = left.sight.note in
        let rest = left.sight.rest in
        let before = begins_rest (left.sight.within.0 ++ n ∷ []) rest in
        let whole = append_assoc left.sight.within.0 (n ∷ []) rest ∙ sym left.sight.within.1 in
        left.away 0 (stands (trace_of [] rest) (subst (λ (ns : List Note). Begins (trace_of [] rest) (trace_of [] ns)) whole before))

free_too_early : (first disk : Device) (left : IsLeft board first later disk) → use_of left.yard.uses 0 ≡ Free → ⊥
free_too_early first disk left free = not_left (subst (λ (u : Use). UseTold board.sizes board.opened later 0 u) free (left.locked.reuse.each 0))

still_in_hand : (first disk : Device) (left : IsLeft board first later disk) → (of_pass left.yard.actors 1 idle_actor).slot ≡ Some 0 → ⊥
still_in_hand first disk left has = not_left (left.locked.reuse.hands 1 0 has)
