use Rattle.lz_judge.proofs.once.ranks_of.Goals as goal
use Rattle.lz_judge.proofs.{once.ranks_of.Goals.{in-Some+in_ok-push, in_default}, SortedKeys.{with_key, without_key}}
use Rattle.std.proofs.Common.{ℕ, Vec, Global, ◌∙◌, sym, ap}

pub loop-item-preserved : goal.loop-item-preserved
loop-item-preserved g c =
    let key = g.T.Keyed.key in
    let items = c.args.items.now in
    let i = c.loop-item.item-index in
    let item = c.item-item.result in
    let before = c.loop-item.ranks.items in
    elim c.match-keyed.branch [
      | in-Some+in_ok-push w ↦ ap (λ (ranks : Vec ℕ Global). ranks.items) w.ranks-is ∙ w.in_ok-push.ensures.items
          ∙ with_key key items i item c.loop-item-test.true c.item-item.is before c.loop-item.invariant w.in-Some.rank (sym c.keyed.ensures ∙ w.in-Some.is)
      | in_default w ↦ ap (λ (ranks : Vec ℕ Global). ranks.items) w.ranks-is
          ∙ without_key key items i item c.loop-item-test.true c.item-item.is before c.loop-item.invariant (sym c.keyed.ensures ∙ w.in_default.is)
    ]
