use Rattle.lazyset_set_commands.proofs.looking.has_mark.Goals as goal
use Rattle.std.proofs.Common.{ℕ, lit≤, subst, sym}
use mathlib.Core.Bool.{true≢false}
use Rattle.lz_board.specs.{Glances.{Glances}, Seats.{part}}

pub returns-in-Some-clause-looked : goal.returns-in-Some-clause-looked
returns-in-Some-clause-looked g c = record {
  answer = c.glance.result;
  says = c.is_yes.ensures;
  glances = subst (λ (k : ℕ). Glances k c.glance.result (part c.args.pass.now) (part c.glance.new.pass)) c.in-Some.ensures.rank c.glance.ensures.glances;
  keeps = c.glance.ensures.call;
}

pub returns-in-None-clause-looked : goal.returns-in-None-clause-looked
returns-in-None-clause-looked g c = absurd (true≢false (sym (c.in-None.ensures.range.1 (lit≤ tt))))
