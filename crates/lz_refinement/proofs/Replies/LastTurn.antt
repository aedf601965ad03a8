-- The turn of an Answer: it is done, publishes nothing, and leaves the pass outside.
use Rattle.std.proofs.Common.{◌≡◌, ◌≢◌, ℕ, suc, ◌%◌, ◌==◌, if◌then◌else◌, List, [], length, refl, sym, ap, ◌∙◌, subst, arith, eq-eqb, Option, Some, None}
use Rattle.std.proofs.lemmas.Bool.Decides.{nat_tests}
use Rattle.lz_refinement.proofs.Vocabulary.{Command, NoCall, Publishing, Trace, Course, Outcome, Reply, Progress, Yard, actor_at, IsInside, course, line, call_on}
use Rattle.lz_refinement.proofs.Vocabulary.{published_on, last_pin, reply_at, HasTurn, Relies, View, view_of, own_change, Note, Part, trace_of, pin_after_what}
use Rattle.lz_refinement.{proofs.{Vocabulary.{pin_after_played}, Hold.NoteCondition.{listed_none}}, specs.Holds.{Turned}}
use Rattle.lz_machine.specs.declared.{course.Course.TheVariants.{Refused}, event.{Event.TheVariants.{Answer}, Outcome.TheVariants.{Done, NotNow, Fault}}}
use Rattle.lz_machine.{specs.declared.{event.Reply.TheVariants.{Worn}, caller.Progress.TheVariants.{Answering}}, proofs.Runs.Course.{answer_plays}}
use Rattle.lz_machine.proofs.{Alone.Halt.{refusals_are_right}, Theorem.Timeliness.{never_late}}
use Rattle.lz_board.specs.declared.view.What.TheVariants.{Played}

done_in_time : (y : Yard) (a : ℕ) → (line y a Answer).1 ≢ NotNow → (line y a Answer).1 ≡ Done
done_in_time y a now = grind (arith, answer_plays)

publishes_nothing : (y : Yard) (a : ℕ) (c : Course) → published_on c y (actor_at y a) a Answer ≡ []
publishes_nothing y a (Refused o) = refl
publishes_nothing y a _ = refl

makes_no_call : (y : Yard) (a : ℕ) (c : Course) → call_on c y (actor_at y a) Answer ≡ NoCall
makes_no_call y a (Refused o) = refl
makes_no_call y a _ = refl

-- the pin word after an Answer: it stays where the pass is outside, and is counted up where it is inside
pub answer_pin : (p pin : ℕ) → pin_after_what p p (Played Answer Done) pin ≡ (if pin % 2 == 0 then pin else suc pin)
answer_pin p pin = ap (λ b. if b then pin_after_played Answer Done pin else pin) (eq-eqb p p refl)

pub stays_outside : (pin : ℕ) → pin % 2 ≡ 0 → (if pin % 2 == 0 then pin else suc pin) ≡ pin
stays_outside pin even = ap (λ b. if b then pin else suc pin) (eq-eqb (pin % 2) 0 even)

pub goes_outside : (pin : ℕ) → (if pin % 2 == 0 then pin else suc pin) % 2 ≡ 0
goes_outside pin = grind (arith, nat_tests)

module _ (opened : Trace) (ns : List Note) (h : Part) (c : Command) (reply : Reply) (o : Outcome) (x : Option Publishing) (turned : Turned opened ns h c (Answering reply) Answer o x) where
  no_fault : o ≢ Fault
  no_fault is = (turned.failed is).1 (makes_no_call turned.service.yard h.number (course turned.service.yard h.number Answer))

  in_time : (line turned.service.yard h.number Answer).1 ≢ NotNow
  in_time = subst (λ e. (line turned.service.yard h.number e).1 ≢ NotNow) turned.next (never_late turned.start turned.service turned.medium turned.history (trace_of opened ns) h.number turned.caller turned.reached turned.call)

  pub answer_done : o ≡ Done
  answer_done = (turned.done no_fault).0 ∙ done_in_time turned.service.yard h.number in_time

  pub answer_silent : x ≡ None
  answer_silent = listed_none x ((turned.done no_fault).1 ∙ publishes_nothing turned.service.yard h.number (course turned.service.yard h.number Answer))

  -- a call is told that its pass is worn at the last pin
  pub worn_pin : reply ≡ Worn → h.pin ≡ last_pin
  worn_pin is =
      sym turned.pin
      ∙ (refusals_are_right turned.start turned.service turned.medium turned.history (trace_of opened ns) h.number turned.caller turned.reached turned.call
      (subst (HasTurn turned.service h.number) (sym turned.call) (never_late turned.start turned.service turned.medium turned.history (trace_of opened ns) h.number turned.caller turned.reached turned.call))).0
      (ap reply_at turned.progress ∙ ap Some is)

  abbrev pub their_view : View
  their_view = view_of turned.service.yard.shape turned.service.yard.vault turned.service.yard.actors h.number

  -- what a pass that is inside may rely on as it answers
  pub answer_relies : IsInside h.pin → Relies their_view c (Answering reply) h.begun (trace_of opened ns) (own_change h.number (length h.begun) (trace_of opened ns))
  answer_relies inside = subst (λ (q : Command × Progress). Relies their_view q.0 q.1 h.begun (trace_of opened ns) (own_change h.number (length h.begun) (trace_of opened ns))) (λ i. (turned.command i, turned.progress i)) (turned.stands inside).stands.2
