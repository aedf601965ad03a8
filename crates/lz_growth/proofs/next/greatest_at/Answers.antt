use Rattle.lz_growth.proofs.next.greatest_at.Goals as goal
use Rattle.std.proofs.Common.{arith}
use Rattle.lz_growth.proofs.NextCounts.{greatest_for, worth_some}

pub nonzero_div-left : goal.nonzero_div-left
nonzero_div-left c = omega (arith, c.worth_of-worth.ensures, worth_some c.args.byte)

pub nonzero_div-most : goal.nonzero_div-most
nonzero_div-most c = omega (arith, c.worth_of-worth.ensures, worth_some c.args.byte)

pub returns : goal.returns
returns c = greatest_for c.args.byte c.args.from c.args.most c.min.result c.worth_of-worth.result c.worth_of-worth.ensures c.requires.range c.min.ensures
