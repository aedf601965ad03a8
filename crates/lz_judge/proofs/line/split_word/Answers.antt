use Rattle.lz_judge.proofs.line.split_word.Goals as goal
use Rattle.lz_judge.proofs.Texts.LineWord.{word_and_rest, one_word}

pub returns-in-Some : goal.returns-in-Some
returns-in-Some c = word_and_rest c.args.text.now c.in-Some.end (c.in-Some.ensures)

pub returns-in-None : goal.returns-in-None
returns-in-None c = one_word c.args.text.now (c.in-None.ensures)
