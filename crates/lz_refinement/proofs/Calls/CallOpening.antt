-- A call that was just made is under way.
use Rattle.std.proofs.Common.{◌≡◌, ℕ, ◌%◌, Bool, true, false, List, [], ◌∷◌, ◌++◌, map, refl, sym, ap, ◌∙◌, subst, arith, if◌then◌else◌, None}
use mathlib.Core.Bool.{false≢true}
use Rattle.lz_refinement.proofs.Vocabulary.{Command, Format, Trace, Progress, Shape, begun, event_at, first_progress, is_before_pin, side_of, HasPass, is_old, IsLate}
use Rattle.lz_refinement.proofs.Vocabulary.{Note, Load, Part, Extends, note_by, load_note, place, shape_of_sizes, Changes, BoardId}
use Rattle.lz_refinement.proofs.Calls.{OwnChanges.{calm, old_none}, NextPlace.{is_full}, CallTurn.{says_old, not_full}, PartAfter.{changes_after}}
use Rattle.lz_refinement.specs.{Holds.{IsIdle, HoldNotes}, NotedRuns.{AreNext}, UnderWay.{OwnAt, UnderWay}}
use Rattle.lz_machine.specs.declared.{event.Reply.TheVariants.{OldFile}, caller.Progress.TheVariants.{Answering}}
use Rattle.lz_board.specs.declared.view.What.TheVariants.{Called}

-- where a call begins, by whether the file can't hold its key
record Opening (shape : Shape) (p : ℕ) (c : Command) (old : Bool) (at : Progress) : Type 0 where
  outside : is_before_pin at ≡ true
  pass : HasPass shape.passes (event_at shape c at)
  is_own : OwnAt p c at []
  says : at ≡ Answering OldFile → old ≡ true
  room : is_full at ≡ false
  late : IsLate at

opening : (shape : Shape) (p : ℕ) (c : Command) (old : Bool) → Opening shape p c old (if old then Answering OldFile else first_progress)
opening shape p c true = record { outside = refl; pass = tt; is_own = old_none p c [] refl; says = λ is. refl; room = refl; late = tt }
opening shape p c false = record { outside = refl; pass = tt; is_own = calm p c first_progress [] refl refl; says = λ is. absurd (false≢true (ap says_old is)); room = refl; late = tt }

pub called : (b : BoardId) (c : Command) (format : Format) (before : Part) (opened : Trace) (was is : List Note) (after : Part) → before.sizes ≡ b.sizes → IsIdle b.sizes before → Extends before.known b.opened
    → HoldNotes opened was is (note_by before.number (Called c format) None) before after → UnderWay b c format before (begun format c) after
called b c format before opened was is after sized idle from H =
    let n = note_by before.number (Called c format) None in
    let o = opening (shape_of_sizes after.sizes) after.number c (is_old format c) in
    let steps : after.steps ≡ n ∷ before.steps = H.steps ∙ ap (λ (l : List Load). n ∷ (map (load_note before.number) l ++ before.steps)) idle.no_loads in
    let pin : after.pin % 2 ≡ 0 = ap (λ (q : ℕ). q % 2) H.pin ∙ idle.outside in
    record {
      sizes = H.sizes ∙ sized;
      number = H.number;
      within = [];
      steps = steps ∙ ap (λ (p : ℕ). note_by p (Called c format) None ∷ before.steps) (sym H.number);
      only = tt;
      call = record {
        next = subst (λ (l : List Load). AreNext (shape_of_sizes after.sizes) after.number l after.steps) (sym H.no_loads) tt;
        at = ap (λ (q : List Load × List Note). place (shape_of_sizes after.sizes) (map (load_note after.number) q.0 ++ q.1)) (λ i. (H.no_loads i, steps i));
        pass = o.pass;
      };
      side = pin ∙ ap side_of (sym o.outside);
      own = [];
      changes = subst (λ (p : ℕ). Changes p before.known after.known []) (sym H.number) (changes_after opened was is n before after before.known [] H record { since = []; goes_on = refl; own = refl });
      is_own = o.is_own;
      opened = from;
      since = λ inside. absurd (omega (arith, pin, inside));
      late = λ halted. o.late;
      old = o.says;
      full = λ counts full. absurd (not_full (begun format c) counts o.room full);
    }
