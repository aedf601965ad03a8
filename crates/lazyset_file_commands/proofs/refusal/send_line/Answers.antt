use Rattle.lazyset_file_commands.proofs.refusal.send_line.Goals as goal
use Rattle.std.proofs.Common.{[], ◌∷◌, ◌++◌, decimal}
use Rattle.lazyset_file_commands.proofs.SentTexts.{sent_less, sent_more}

pub returns-in-Err : goal.returns-in-Err
returns-in-Err g c = sent_less _ _ (c.args.words.now ++ decimal c.args.number) (10 ∷ []) c.in-Err.fault c.in-Err.ensures

pub returns : goal.returns
returns g c = sent_more _ _ _ (c.args.words.now ++ decimal c.args.number) (10 ∷ []) c.send.result c.in_default.ensures c.send.ensures
