use Rattle.lz_growth.proofs.next.worth_of.Goals as goal
use Rattle.std.proofs.{Common.{◌*◌, ◌∙◌, sym, arith}, lemmas.Nat.{one_shl}}
use Rattle.lz_growth.proofs.CountBytes.{bits_of}

pub returns : goal.returns
returns c = one_shl (8 * c.args.byte) 64 (omega arith) ∙ sym (bits_of c.args.byte)
