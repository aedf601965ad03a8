use Rattle.lz_rehearsal.proofs.line.split_word.Goals as goal
use Rattle.std.proofs.Common.{rules}
use Rattle.lz_slot.proofs.Texts.Cuts.{lacks_all, parted_none}
use Rattle.lz_rehearsal.proofs.Cuts.{word_parted}

pub returns-in_err-end : goal.returns-in_err-end
returns-in_err-end c = rw (parted_none 32 c.args.text.now (lacks_all 32 c.args.text.now (search rules))) (search rules)

pub returns : goal.returns
returns c = word_parted c.args.text.now c.split_at.result.0.now c.split_at.result.1.now c.in_ok-end.end (search rules) c.split_at.ensures.front c.split_at.ensures.back
