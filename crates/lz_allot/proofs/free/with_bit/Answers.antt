use Rattle.lz_allot.proofs.free.with_bit.Goals as goal
use Rattle.std.{proofs.{Common.{◌∙◌}, lemmas.Nat.Bits.{bit_at_set_same, bit_at_set_other, bit_at_clear_same, bit_at_clear_other}}, specs.Int.{w64}}

pub returns-then-is_set-clause-set : goal.returns-then-is_set-clause-set
returns-then-is_set-clause-set c = bit_at_set_same w64 c.args.word c.args.bit c.requires ∙ rw c.if-is_set.true

pub returns-then-is_set-clause-others : goal.returns-then-is_set-clause-others
returns-then-is_set-clause-others c = λ i low other. bit_at_set_other w64 c.args.word c.args.bit c.requires i other

pub returns-else-is_set-clause-set : goal.returns-else-is_set-clause-set
returns-else-is_set-clause-set c = bit_at_clear_same w64 c.args.word c.args.bit c.requires ∙ rw c.if-is_set.false

pub returns-else-is_set-clause-others : goal.returns-else-is_set-clause-others
returns-else-is_set-clause-others c = λ i low other. bit_at_clear_other w64 c.args.word c.args.bit c.requires i low other
