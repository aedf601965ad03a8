-- What a hold leaves of a pass's part, in the words of the part before its call.
use Rattle.std.proofs.Common.{arith, ◌≡◌, ℕ, ◌%◌, true, List, [], ◌∷◌, ◌++◌, map, sym, ap, ◌∙◌, subst, append_assoc, eq-eqb, ne_eqb, Option, None}
use Rattle.std.proofs.lemmas.{Bool.{cases_eq, Decides.{nat_tests}}, List.Elements.{filter-append}}
use Rattle.lz_refinement.proofs.Vocabulary.{Command, Format, Counts, Publishing, Trace, Begins, halt_word, Event, Outcome, Progress, event_at, progress_after}
use Rattle.lz_refinement.proofs.Vocabulary.{is_before_pin, side_of, HasPass, reply_at, is_old, IsInside, IsLate, Note, Load, Part, note_by, stamped, as_list, own}
use Rattle.lz_refinement.proofs.Vocabulary.{is_for, trace_of, load_note, place, placed, unless_replied, shape_of_sizes, Changes, BoardId}
use Rattle.lz_refinement.specs.{Answers.{IsWithin, AreWithin}, Holds.{HasCall, HoldNotes}, UnderWay.{OwnAt, FoundFull, UnderWay}}
use Rattle.lz_machine.specs.declared.{event.Reply.TheVariants.{Full, OldFile}, caller.Progress.TheVariants.{Answering}}
use Rattle.lz_board.{specs.declared.view.What.TheVariants.{Called, Played}, proofs.Upkeep.{Growth.{begins_of}, Splice.{trace_splice}}}

-- it has seen all that was published, and last what the hold published
pub known_after : (opened : Trace) (was is : List Note) (n : Note) (h h' : Part) → HoldNotes opened was is n h h' → h'.known ≡ as_list n.published ++ trace_of opened was
known_after opened was is n h h' H = H.known ∙ ap (trace_of opened) H.notes ∙ ap (λ (l : Trace). as_list n.published ++ l) (trace_splice opened h.number h.loads was)

-- a hold adds what it published to what was published for the pass
pub changes_after : (opened : Trace) (was is : List Note) (n : Note) (h h' : Part) (P changed : Trace) → HoldNotes opened was is n h h' → Changes h.number P h.known changed → Changes h.number P h'.known (own h.number (as_list n.published) ++ changed)
changes_after opened was is n h h' P changed H C =
    let new = as_list n.published in
    let more = H.since.0 in
    record {
      since = new ++ (more ++ C.since);
      goes_on =
          known_after opened was is n h h' H ∙ ap (λ (l : Trace). new ++ l) (H.since.1 ∙ ap (λ (l : Trace). more ++ l) C.goes_on ∙ sym (append_assoc more C.since P))
          ∙ sym (append_assoc new (more ++ C.since) P);
      own =
          filter-append (is_for h.number) new (more ++ C.since)
          ∙ ap (λ (l : Trace). own h.number new ++ l) (filter-append (is_for h.number) more C.since ∙ (λ i. H.since.2 i ++ C.own i));
    }

-- a pass that is inside went in since then
pub begins_after : (opened : Trace) (was is : List Note) (n : Note) (h h' : Part) (P : Trace) → HoldNotes opened was is n h h' → Begins P h'.known → (IsInside h.pin → Begins P h.begun) → IsInside h'.pin → Begins P h'.begun
begins_after opened was is n h h' P H now before inside = grind (arith, nat_tests, eq-eqb, ne_eqb, cases_eq)

pub begins_changed : (p : ℕ) (P Q changed : Trace) → Changes p P Q changed → Begins P Q
begins_changed p P Q changed C = begins_of P Q (C.since, C.goes_on)

-- loads neither begin a call nor end one
pub loads_within : (p : ℕ) (hs : List Load) (ns : List Note) → AreWithin ns → AreWithin (map (load_note p) hs ++ ns)
loads_within p [] ns are = are
loads_within p (g ∷ hs) ns are = (tt, loads_within p hs ns are)

module _ (b : BoardId) (c : Command) (format : Format) (before : Part) (at : Progress) (h : Part) (U : UnderWay b c format before at h) (opened : Trace) (was is : List Note) (e : Event) (o : Outcome) (x : Option Publishing) (h' : Part)
    (H : HoldNotes opened was is (note_by h.number (Played e o) x) h h') where
  abbrev next : Progress
  next = progress_after (shape_of_sizes h.sizes) c at o

  -- its noted steps since the call was made
  abbrev pub steps_since : List Note
  steps_since = stamped H.moment (note_by h.number (Played e o) x) ∷ (map (load_note h.number) h.loads ++ U.within)

  steps_are : h'.steps ≡ steps_since ++ (note_by h'.number (Called c format) None ∷ before.steps)
  steps_are = grind (arith, nat_tests, stamped, note_by, load_note, append_assoc)

  call_is : reply_at at ≡ None → HasPass h.sizes.passes (event_at (shape_of_sizes h.sizes) c next) → HasCall h' record { command = c; buckets = b.sizes.buckets; passes = b.sizes.passes; progress = next }
  call_is going pass = grind (arith, nat_tests, shape_of_sizes, place, load_note, placed, unless_replied, event_at)

  -- The call is under way where it has come to by its event.
  pub goes : reply_at at ≡ None → IsWithin (Played e o) → HasPass h.sizes.passes (event_at (shape_of_sizes h.sizes) c next) → h'.pin % 2 ≡ side_of (is_before_pin next) → OwnAt h.number c next (own h.number (as_list x) ++ U.own)
      → (halt_word before.known ≡ 1 → IsLate next) → (next ≡ Answering OldFile → is_old format c ≡ true) → ((counts : Counts) → next ≡ Answering (Full counts) → FoundFull b.sizes.slots b.sizes.passes counts steps_since h'.known)
      → UnderWay b c format before next h'
  goes going inside pass side is_own late old full =
      let C = changes_after opened was is (note_by h.number (Played e o) x) h h' before.known U.own H U.changes in
      record {
        sizes = H.sizes ∙ U.sizes;
        number = H.number ∙ U.number;
        within = steps_since;
        steps = steps_are;
        only = (inside, loads_within h.number h.loads U.within U.only);
        call = call_is going pass;
        side = side;
        own = own h.number (as_list x) ++ U.own;
        changes = subst (λ (p : ℕ). Changes p before.known h'.known (own h.number (as_list x) ++ U.own)) (sym H.number) C;
        is_own = subst (λ (p : ℕ). OwnAt p c next (own h.number (as_list x) ++ U.own)) (sym H.number) is_own;
        opened = U.opened;
        since = begins_after opened was is (note_by h.number (Played e o) x) h h' before.known H (begins_changed h.number before.known h'.known (own h.number (as_list x) ++ U.own) C) U.since;
        late = late;
        old = old;
        full = full;
      }
