use Rattle.std.specs.BTreeSet as set
use Rattle.lz_judge.proofs.listing.with_stranger.Goals as goal
use Rattle.std.proofs.Common.{◌∙◌, sym, ap, ℕ, subst, nat_cmp}
use Rattle.lz_judge.proofs.Readings.NextMark.{strangers_called, strangers_uncalled, IsLesser}

pub returns-then-contains : goal.returns-then-contains
returns-then-contains c = λ points point is before.
    strangers_called points point c.args.calls.now c.args.least (ap (set.contains nat_cmp c.args.calls.now) is ∙ sym c.contains.ensures ∙ c.if-contains.true) before

pub returns-else-contains : goal.returns-else-contains
returns-else-contains c = λ points point is before.
    strangers_uncalled points point c.args.calls.now c.args.least c.lesser.result (ap (set.contains nat_cmp c.args.calls.now) is ∙ sym c.contains.ensures ∙ c.if-contains.false)
    (subst (λ (n : ℕ). IsLesser c.args.least n c.lesser.result) (sym is) c.lesser.ensures.one) before
