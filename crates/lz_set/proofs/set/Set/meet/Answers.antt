use Rattle.lz_set.proofs.set.Set.meet.Goals as goal
use Rattle.std.proofs.Common.{◌≡◌, inl, sym, ap, ◌∙◌, subst}
use Rattle.lz_list.{specs.Traces.{Trace, Begins}, proofs.Traces.Absence.{begins_itself}}
use Rattle.lz_board.{specs.{declared.view.Part.{Part}, Plays.{knowing}, Seats.{part}}, proofs.Upkeep.Growth.{begins_of}}

pub returns-clause-met : goal.returns-clause-met
returns-clause-met g c =
    let seen = (part c.meet.new.one).known in
    let same : (part c.meet.new.other).known ≡ seen = ap (λ (h : Part). h.known) c.meet.ensures.part_other in
    let one = c.meet.ensures.shown_one.since in
    let other = c.meet.ensures.shown_other.since in
    let from_one = begins_of (part c.args.one.now).known seen (one.0, one.1) in
    let from_other = begins_of (part c.args.other.now).known seen (other.0, other.1) in
    record {
      one_one = from_one;
      one_other = subst (Begins (part c.args.one.now).known) (sym same) from_one;
      other_one = from_other;
      other_other = subst (Begins (part c.args.other.now).known) (sym same) from_other;
      alike = inl (subst (λ (P : Trace). Begins seen P) (sym same) (begins_itself seen));
      one_kept = c.meet.ensures.part_one;
      other_kept = c.meet.ensures.part_other ∙ ap (λ (P : Trace). knowing P (part c.args.other.now)) (sym same);
    }

pub returns-clause-alike : goal.returns-clause-alike
returns-clause-alike g c = sym (ap (λ (h : Part). h.known) c.meet.ensures.part_other)
