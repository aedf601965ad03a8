use Rattle.lz_serve.proofs.refusing.keep_begun.Goals as goal
use Rattle.std.proofs.Common.{◌-◌, ℕ, List, sym, ap, ◌∙◌, arith}
use Rattle.lz_serve.{specs.{declared.turn.Turn.{Turn}, Refusals.{kept_waiting}}, proofs.Cuts.{waits_last, waits_none}}

pub returns-then-left-asked-clause-waiting : goal.returns-then-left-asked-clause-waiting
returns-then-left-asked-clause-waiting c =
    let left = c.turns.left in
    ap (λ (n : ℕ). n - left) c.asked_in-asked.ensures ∙ sym (waits_last c.in-Some.turn c.pop_front.new.self.items left (omega arith) (omega arith)) ∙ ap (λ (l : List Turn). kept_waiting left l) (sym c.in-Some.ensures.items) ∙ c.turns.invariant.waiting

pub returns-clause-waiting : goal.returns-clause-waiting
returns-clause-waiting c = sym (waits_none c.turns.turns.items c.turns.left (omega arith)) ∙ c.turns.invariant.waiting
