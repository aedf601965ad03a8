use Rattle.lz_judge.proofs.ordering.Floor.list.Goals as goal
use Rattle.std.proofs.{Common.{inl, inr, arith, sym, ◌∙◌}, lemmas.Bool.{not-false, not-true}}
use Rattle.lz_judge.proofs.Readings.CallFloor.{floored_fine, floored_bad}
use Rattle.lz_judge.proofs.ordering.Floor.list.Goals.{then-not-is_new-via-then-not-is_new, then-not-is_new-via-else-not-is_new+then-place-self}

pub returns-then-not-is_new : goal.returns-then-not-is_new
returns-then-not-is_new c = λ M places actor d at before.
    floored_bad M places _ _ _ _ before c.args.call actor d c.args.place c.max-self.result c.insert.new.self at c.max-self.ensures c.in_ok-is_new.ensures.updates c.lesser-self.result c.lesser-self.ensures.one
    (elim c.then-not-is_new.branch [
      | then-not-is_new-via-then-not-is_new w ↦ inl (not-false _ (sym c.in_ok-is_new.ensures.added ∙ w.if-not-is_new.true))
      | then-not-is_new-via-else-not-is_new+then-place-self w ↦ inr (omega arith)
    ])

pub returns-else-place-self : goal.returns-else-place-self
returns-else-place-self c = λ M places actor d at before.
    floored_fine M places _ _ _ _ before c.args.call actor d c.args.place c.max-self.result c.insert.new.self at c.max-self.ensures c.in_ok-is_new.ensures.updates (not-true _ (sym c.in_ok-is_new.ensures.added ∙ c.if-not-is_new.false)) (omega arith)
