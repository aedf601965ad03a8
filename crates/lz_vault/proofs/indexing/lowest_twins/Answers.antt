use Rattle.lz_vault.proofs.indexing.lowest_twins.Goals as goal
use Rattle.std.proofs.Common.{◌+◌, ◌-◌, ◌∙◌, arith, subst, sym}
use Rattle.lz_vault.{specs.Members.{IsLowest, lower_twins}, proofs.Members.{all_lowest, next_lowest, same_place}}

pub loop-index-preserved : goal.loop-index-preserved
loop-index-preserved c =
    let ms = c.args.members.now in
    let i = c.loop-index.index in
    let low = c.loop-index.auto.index in
    let before = same_place ms (i - 1) _ (omega (arith, c.loop-index-test.true, low)) c.index-members-index.is in
    let at = same_place ms i _ c.loop-index-test.true c.index-members-index-in-loop-index.is in
    record {
      range = omega (arith, c.loop-index-test.true);
      lowest = subst (IsLowest ms (i + 1)) (sym (c.lower_twins-lowest.ensures ∙ (λ j. lower_twins c.loop-index.lowest (before j) (at j)))) (next_lowest ms i low c.loop-index.lowest c.loop-index.invariant.lowest);
    }

pub returns : goal.returns
returns c = all_lowest c.args.members.now c.loop-index.index c.loop-index.lowest c.loop-index-test.false c.loop-index.invariant.range c.loop-index.invariant.lowest
