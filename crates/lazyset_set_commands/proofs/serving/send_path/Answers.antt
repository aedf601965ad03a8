use Rattle.lazyset_set_commands.proofs.serving.send_path.Goals as goal
use Rattle.std.proofs.Common.{[], ◌∷◌, ◌++◌, codes}
use Rattle.lazyset_file_commands.proofs.SentTexts.{sent_less, sent_more}

pub returns-in-Err : goal.returns-in-Err
returns-in-Err g c = sent_less _ _ (codes "listening ") (c.args.path.now ++ 10 ∷ []) c.in-Err.fault c.in-Err.ensures

pub returns : goal.returns
returns g c = sent_more _ _ _ (codes "listening ") (c.args.path.now ++ 10 ∷ []) c.send_ended.result c.in_default.ensures c.send_ended.ensures
